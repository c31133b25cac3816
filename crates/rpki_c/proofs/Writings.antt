-- Items that are written one after the other, as many as there is room for.
use Rattle.std.proofs.Common.{◌≡◌, ◌∙◌, ℕ, zero, suc, ◌+◌, ◌<◌, List, [], ◌∷◌, ◌++◌, length, map, take, drop, set}
use Rattle.std.proofs.Common.{get_or, ap, add-one, arith, sym}
use Rattle.std.specs.Int.{w128, to_be_bytes}
use Rattle.std.proofs.lemmas.List.{take_more}
use Rattle.rpki_blocks.specs.Sets.{Block}
use Rattle.rpki_c.specs.Writing.{as_struct, ip_struct}
use Rattle.rpki_c.specs.declared.copying.RpkiAsRange.{RpkiAsRange}
use Rattle.rpki_c.specs.declared.copying.RpkiIpRange.{RpkiIpRange}
use Rattle.rpki_c.proofs.OneMore.{map_more}

next : {A B : Type 0} (f : A → B) (items : List A) (old : List B) (i : ℕ) (x : A) (y : B) → i < length items →
    i < length old → x ≡ get_or items i x → y ≡ f x →
    set (take i (map f items) ++ drop i old) i y ≡ take (suc i) (map f items) ++ drop (suc i) old
next f [] old i x y below room at is = absurd (omega arith)
next f (a ∷ items) [] i x y below room at is = absurd (omega arith)
next f (a ∷ items) (b ∷ old) zero x y below room at is = ap (λ v. v ∷ old) (is ∙ ap f at)
next f (a ∷ items) (b ∷ old) (suc i) x y below room at is =
    ap (λ rest. f a ∷ rest) (next f items old i x y (omega arith) (omega arith) at is)

-- the item at this place is written behind those before it
pub written_next : {A B : Type 0} (f : A → B) (items : List A) (old out : List B) (i : ℕ) (x : A) (y : B) →
    i < length items → i < length old → x ≡ get_or items i x → y ≡ f x →
    out ≡ take i (map f items) ++ drop i old → set out i y ≡ take (i + 1) (map f items) ++ drop (i + 1) old
written_next f items old out i x y below room at is before = ap (λ o. set o i y) before ∙
    rw add-one (next f items old i x y below room at is)

-- a range with these ends is that of the block
pub same_addresses : (r : RpkiIpRange) (b : Block) → r.min ≡ to_be_bytes w128 b.min → r.max ≡ to_be_bytes w128 b.max →
    r ≡ ip_struct b
same_addresses r b p q = λ i. record { min = p i; max = q i }

pub same_numbers : (r : RpkiAsRange) (b : Block) → r.min ≡ b.min → r.max ≡ b.max → r ≡ as_struct b
same_numbers r b p q = λ i. record { min = p i; max = q i }

-- the items at this place are the same, as those before it
pub same_next : {A B : Type 0} (f : A → B) (items : List A) (part : List B) (i : ℕ) (x : A) (y : B) →
    i < length items → i < length part → x ≡ get_or items i x → y ≡ get_or part i y → y ≡ f x →
    take i part ≡ map f (take i items) → take (i + 1) part ≡ map f (take (i + 1) items)
same_next f items part i x y below room at there is before =
    take_more part i y room ∙ ap (λ l. l ++ get_or part i y ∷ []) before
    ∙ ap (λ z. map f (take i items) ++ z ∷ []) (sym there ∙ is ∙ ap f at) ∙ sym (map_more f items i x below)
