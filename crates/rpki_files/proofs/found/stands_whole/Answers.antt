use Rattle.std.proofs.Common.{ℕ, List, refl, subst, sym}
use Rattle.std.proofs.lemmas.Bool.{false≢true}
use Rattle.rpki_der.specs.Encoding.{Begins, Means}
use Rattle.rpki_der.specs.Place.{Place, remaining}
use Rattle.rpki_der.specs.Values.{IsEnc}
use Rattle.rpki_files.proofs.FlawReads.{none_whole}
use Rattle.rpki_files.proofs.found.stands_whole.Goals as goal

pub returns-in-Ok : goal.returns-in-Ok
returns-in-Ok c =
    let content = remaining c.in-Ok.field-0 in (
      (λ is. (
        c.args.identifier,
        content,
        subst (λ (p : Place). Means (IsEnc c.args.identifier) content (remaining p))
            c.fork-ahead.ensures.same (remaining c.take_value.new.self, c.in-Ok.ensures.answers.encoded),
      )),
      (λ stands. refl),
    )

pub returns-in-Err : goal.returns-in-Err
returns-in-Err c =
    let none = λ (content rest : List ℕ) (b : Begins (IsEnc c.args.identifier) (remaining c.args.at.now) content rest).
    c.in-Err.ensures.answers.encoded.1 content rest
    (subst (λ (p : Place). Begins (IsEnc c.args.identifier) (remaining p) content rest)
    (sym c.fork-ahead.ensures.same) b) in (
      (λ is. absurd (false≢true is)),
      (λ stands. absurd
          (none_whole c.args.identifier (remaining c.args.at.now) c.requires none stands.0 stands.1 stands.2)),
    )
