use Rattle.std.specs.Bool.{MatchBool}
use Rattle.std.specs.Prelude.{Bool, true, false, if◌then◌else◌, Option, None, reverse, slice_get, unwrap_or}
use Rattle.std.proofs.Common.{◌≡◌, ◌∙◌, ◌+◌, ℕ, List, [], ◌∷◌, refl, sym, ap, subst}
use Rattle.std.proofs.lemmas.List.{nil_from_length, reverse-append}
use Rattle.std.specs.Int.{from_bool}
use Rattle.rpki_files.specs.Files.{FileFields}
use Rattle.rpki_folder.specs.declared.firsts.Firsts.{Firsts}
use Rattle.rpki_verdicts.specs.ShownPaths.{NameIssuersAbove, NamesIssuerAt, is_issuer_file}
use Rattle.rpki_verdicts.proofs.NamedPlaces.{looked_up}
use Rattle.rpki_verdicts.proofs.named_paths.+count_named.Goals as goal

one_or_none : (t : Bool) → from_bool t ≡ if t then 1 else 0
one_or_none true = refl
one_or_none false = refl

other_named : (certs : List FileFields) (firsts : Firsts) (anchor place issuer : ℕ) (up : List ℕ) (named : Option ℕ) (n : ℕ) →
    NamesIssuerAt certs place named → is_issuer_file firsts named issuer ≡ false → n ≡ 0 →
    NameIssuersAbove certs firsts anchor place (issuer ∷ up) n
other_named certs firsts anchor place issuer up named n by other none = (
  named,
  by,
  subst (λ (b : Bool). MatchBool b ((m : ℕ) × NameIssuersAbove certs firsts anchor issuer up m × (n ≡ m + 1)) (n ≡ 0)) (sym other) none,
)

pub returns-in_default-clause-named : goal.returns-in_default-clause-named
returns-in_default-clause-named t c = λ certs names.
    let firsts = c.args.firsts.now in
    let place = c.args.place in
    let named = c.unwrap_or-named.result in
    let is : named ≡ unwrap_or (slice_get c.args.names.now place) None =
    c.unwrap_or-named.ensures ∙ ap (λ (o : Option (Option ℕ)). unwrap_or o None)
    (c.copied.ensures ∙ looked_up c.args.names.now place c.get.result c.get.ensures.lookup) in
    let by = subst (λ (o : Option ℕ). NamesIssuerAt certs place o) (sym is) (names place) in
    let empty = nil_from_length c.args.above.now c.in_default.ensures.cases in
    let count : c.from.result ≡ if is_issuer_file firsts named c.args.anchor then 1 else 0 =
    c.from.ensures ∙ one_or_none c.is_of.result
    ∙ ap (λ (t : Bool). if t then 1 else 0) c.is_of.ensures in
    subst (λ (up : List ℕ). NameIssuersAbove certs firsts c.args.anchor place (reverse up) c.from.result) (sym empty)
    (named, by, count)

pub returns-then-not-is_of-clause-named : goal.returns-then-not-is_of-clause-named
returns-then-not-is_of-clause-named t c = λ certs names.
    let firsts = c.args.firsts.now in
    let place = c.args.place in
    let named = c.unwrap_or-named.result in
    let issuer = c.in-Some.issuer.now in
    let rest = c.in-Some.above.now in
    let is : named ≡ unwrap_or (slice_get c.args.names.now place) None =
    c.unwrap_or-named.ensures ∙ ap (λ (o : Option (Option ℕ)). unwrap_or o None)
    (c.copied.ensures ∙ looked_up c.args.names.now place c.get.result c.get.ensures.lookup) in
    let by = subst (λ (o : Option ℕ). NamesIssuerAt certs place o) (sym is) (names place) in
    let up : reverse c.args.above.now ≡ issuer ∷ reverse rest =
    ap (λ (l : List ℕ). reverse l) c.in-Some.ensures.cases.0 ∙ reverse-append rest (issuer ∷ []) in
    let other : is_issuer_file firsts named issuer ≡ false = sym c.is_of-2.ensures ∙ c.if-not-is_of.true in
    subst (λ (l : List ℕ). NameIssuersAbove certs firsts c.args.anchor place l 0) (sym up)
    (other_named certs firsts c.args.anchor place issuer (reverse rest) named 0 by other refl)

pub returns-clause-named : goal.returns-clause-named
returns-clause-named t c = λ certs names.
    let firsts = c.args.firsts.now in
    let place = c.args.place in
    let named = c.unwrap_or-named.result in
    let issuer = c.in-Some.issuer.now in
    let rest = c.in-Some.above.now in
    let count = c.count_named.result in
    let is : named ≡ unwrap_or (slice_get c.args.names.now place) None =
    c.unwrap_or-named.ensures ∙ ap (λ (o : Option (Option ℕ)). unwrap_or o None)
    (c.copied.ensures ∙ looked_up c.args.names.now place c.get.result c.get.ensures.lookup) in
    let by = subst (λ (o : Option ℕ). NamesIssuerAt certs place o) (sym is) (names place) in
    let up : reverse c.args.above.now ≡ issuer ∷ reverse rest =
    ap (λ (l : List ℕ). reverse l) c.in-Some.ensures.cases.0 ∙ reverse-append rest (issuer ∷ []) in
    let its : is_issuer_file firsts named issuer ≡ true = sym c.is_of-2.ensures ∙ c.if-not-is_of.false in
    let more : MatchBool (is_issuer_file firsts named issuer)
    ((m : ℕ) × NameIssuersAbove certs firsts c.args.anchor issuer (reverse rest) m × (count + 1 ≡ m + 1)) (count + 1 ≡ 0) =
    subst (λ (b : Bool). MatchBool b
    ((m : ℕ) × NameIssuersAbove certs firsts c.args.anchor issuer (reverse rest) m × (count + 1 ≡ m + 1)) (count + 1 ≡ 0))
    (sym its) (count, c.count_named.ensures.named certs names, refl) in
    subst (λ (l : List ℕ). NameIssuersAbove certs firsts c.args.anchor place l (count + 1)) (sym up) (named, by, more)
