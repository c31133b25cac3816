-- What is read inside a value, from what the readers of its parts answered.
use Rattle.std.proofs.Common.{◌≡◌, ℕ, List, [], Option, Some, None, refl, subst}
use Rattle.rpki_der.specs.Place.{Place, remaining}
use Rattle.rpki_der.specs.Reading.{inside}
use Rattle.rpki_der.specs.Values.Reading.{value_at}

-- no value of the tag stands there
pub not_begun : {X : Type 0} {now ahead : Place} (t : ℕ) (f : List ℕ → Option (X × List ℕ)) → ahead ≡ now →
    value_at t (remaining ahead) ≡ None → inside t f (remaining now) ≡ None
not_begun {X} {now} {ahead} t f same e =
    let here : value_at t (remaining now) ≡ None = subst (λ (p : Place). value_at t (remaining p) ≡ None) same e in
    rw here refl

-- the content isn't read
pub not_read : {X : Type 0} {c rest : List ℕ} {now ahead : Place} (t : ℕ) (f : List ℕ → Option (X × List ℕ)) →
    ahead ≡ now → value_at t (remaining ahead) ≡ Some (c, rest) → f c ≡ None → inside t f (remaining now) ≡ None
not_read {X} {c} {rest} {now} {ahead} t f same v e =
    let here : value_at t (remaining now) ≡ Some (c, rest) = subst (λ (p : Place). value_at t (remaining p) ≡ Some (c, rest)) same v in
    rw (here, e) refl

-- the content is read to its end
pub used_up : {X : Type 0} {c rest more : List ℕ} {x : X} {now ahead : Place} (t : ℕ) (f : List ℕ → Option (X × List ℕ))
    → ahead ≡ now → value_at t (remaining ahead) ≡ Some (c, rest) → f c ≡ Some (x, more) → more ≡ [] →
    inside t f (remaining now) ≡ Some (x, rest)
used_up {X} {c} {rest} {more} {x} {now} {ahead} t f same v e nil =
    let here : value_at t (remaining now) ≡ Some (c, rest) = subst (λ (p : Place). value_at t (remaining p) ≡ Some (c, rest)) same v in
    rw (here, e, nil) refl
