use Rattle.std.proofs.Common.{rules, ◌≡◌, ◌∷◌, ◌∙◌, inl, inr, sym}
use Rattle.std.proofs.lemmas.Bool.{true≢false}
use Rattle.rpki_text.specs.CommandLines.Views.{word_octets}
use Rattle.rpki_requests.proofs.OneErrand.{first_is}
use Rattle.rpki_requests.proofs.words.is_request.Goals as goal

pub returns-then-is : goal.returns-then-is
returns-then-is c =
    let split : word_octets c.args.words.now ≡ c.as_slice-word.result.now ∷ word_octets c.in-Some._rest.now =
    search rules in (
      λ so. (c.as_slice-word.result.now, word_octets c.in-Some._rest.now, split, inl (c.is.ensures.0 so)),
      λ begins. c.if-is.true,
    )

pub returns-else-is : goal.returns-else-is
returns-else-is c =
    let split : word_octets c.args.words.now ≡ c.as_slice-word.result.now ∷ word_octets c.in-Some._rest.now =
    search rules in (
      λ so. (c.as_slice-word.result.now, word_octets c.in-Some._rest.now, split, inr (c.is-else-is.ensures.0 so)),
      λ begins. elim (first_is (word_octets c.args.words.now) c.as_slice-word.result.now
          (word_octets c.in-Some._rest.now) split begins) [
            | inl prepare ↦ absurd (true≢false (sym (c.is.ensures.1 prepare) ∙ c.if-is.false))
            | inr complete ↦ c.is-else-is.ensures.1 complete
          ],
    )
