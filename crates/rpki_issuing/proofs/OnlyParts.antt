-- Only one value, carried over to another relation; and the parts of a text are only one pair.
use Rattle.std.proofs.Common.{◌≡◌, ℕ, ◌+◌, List, take, drop, Option, Some, None, sym, ap, ◌∙◌}
use Rattle.rpki_issuing.specs.BlockTexts.{IsParted, LacksOctet}
use Rattle.rpki_issuing.specs.OnlyValues.{FindsOnly}

-- what is so of the same values finds the same one
pub carried : {V : Type 0} (P Q : V → Type 0) → ((v : V) → P v → Q v) → ((v : V) → Q v → P v) → (o : Option V) →
    FindsOnly P o → FindsOnly Q o
carried P Q to back None none = λ v q. none v (back v q)
carried P Q to back (Some v) only = (to v only.0, λ w q. only.1 w (back w q))

same_place : (m n : ℕ) (o : Option ℕ) → o ≡ Some m → o ≡ Some n → m ≡ n
same_place m n o e f = let g : Some m ≡ Some n = sym e ∙ f in cc

-- a text is parted in one way
pub one_parting : (octet : ℕ) (text a b x y : List ℕ) → IsParted octet text a b → IsParted octet text x y →
    (a ≡ x) × (b ≡ y)
one_parting octet text a b x y p q =
    let same = same_place p.place q.place _ p.place_is q.place_is in (
      p.before_is ∙ ap (λ (n : ℕ). take n text) same ∙ sym q.before_is,
      p.behind_is ∙ ap (λ (n : ℕ). drop (n + 1) text) same ∙ sym q.behind_is,
    )

-- a text that is parted doesn't lack the octet
pub parted_has : (octet : ℕ) (text a b : List ℕ) → IsParted octet text a b → LacksOctet octet text → ⊥
parted_has octet text a b p lacks = let e : Some p.place ≡ None = sym p.place_is ∙ lacks in cc
