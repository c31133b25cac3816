use Rattle.std.proofs.Common.{◌≡◌, ◌≢◌, List, ℕ, [], ◌∷◌, ◌++◌, inl, inr, refl, sym, MatchOption, Option, Some, None, unwrap_or, Bor}
use Rattle.std.proofs.lemmas.Slice.Eq.{strip_suffix_is}
use Rattle.std.proofs.lemmas.Bool.Decides.{Decides-eqb}
use Rattle.rpki_parts.specs.Uris.{slash}
use Rattle.rpki_parts.specs.Uris.Tests.{trimmed}
use Rattle.rpki_parts.proofs.Slashes.{trimmed_again}
use Rattle.rpki_parts.proofs.uri.trimmed.Goals as goal

stripped : (text : Bor (List ℕ)) (r : Option (Bor (List ℕ))) →
    MatchOption r ((front : List ℕ) → text.now ≢ front ++ slash ∷ []) (λ x. text.now ≡ x.now ++ slash ∷ []) →
    (unwrap_or r text).now ≡ trimmed text.now
stripped text None none = sym (trimmed_again text.now text.now (inr (refl, none)))
stripped text (Some x) e = sym (trimmed_again text.now x.now (inl e))

pub returns : goal.returns
returns c =
    let cut = strip_suffix_is Decides-eqb c.args.text.now (slash ∷ []) c.strip_suffix.result c.strip_suffix.ensures.cases in
    rw c.unwrap_or.ensures (stripped c.args.text c.strip_suffix.result cut)
