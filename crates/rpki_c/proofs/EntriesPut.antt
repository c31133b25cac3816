-- Entries that are written one after the other, as many as there is room for.
use Rattle.std.proofs.Common.{◌≡◌, ◌≢◌, ◌∙◌, ℕ, zero, suc, ◌+◌, ◌-◌, ◌<◌, ◌≤◌, List, [], ◌∷◌, length, drop, set}
use Rattle.std.proofs.Common.{get_or, sym, ap, subst, below_more, add-one, arith}
use Rattle.std.proofs.lemmas.List.{get_or-set_other, get_or-set_same, drop-set-lt, drop-drop}
use Rattle.rpki_crl.specs.RevokedEntries.{Entry}
use Rattle.rpki_c.specs.Contents.{TellsEntry}
use Rattle.rpki_c.specs.declared.lists.RpkiEntry.{RpkiEntry}

-- what stands behind the first
behind : {A : Type 0} (xs : List A) (n : ℕ) (y : A) (ys : List A) → drop n xs ≡ y ∷ ys → drop (suc n) xs ≡ ys
behind [] zero y ys is = absurd (cc)
behind [] (suc n) y ys is = absurd (cc)
behind (x ∷ xs) zero y ys is = cc
behind (x ∷ xs) (suc n) y ys is = behind xs n y ys is

pub drop_next : {A : Type 0} (xs : List A) (n : ℕ) (y : A) (ys : List A) → drop n xs ≡ y ∷ ys → drop (n + 1) xs ≡ ys
drop_next xs n y ys is = rw add-one (behind xs n y ys is)

-- the first of them
pub first_of : {A : Type 0} (xs : List A) (n : ℕ) (y : A) (ys : List A) (d : A) → drop n xs ≡ y ∷ ys → get_or xs n d ≡ y
first_of [] zero y ys d is = absurd (cc)
first_of [] (suc n) y ys d is = absurd (cc)
first_of (x ∷ xs) zero y ys d is = cc
first_of (x ∷ xs) (suc n) y ys d is = first_of xs n y ys d is

-- what is alike from a place on is alike from a later one on
pub alike_later : {A : Type 0} (xs ys : List A) (n m : ℕ) → n ≤ m → drop n xs ≡ drop n ys → drop m xs ≡ drop m ys
alike_later xs ys n m le same =
    let sum : n + (m - n) ≡ m = omega arith in
    let moved : drop (n + (m - n)) xs ≡ drop (n + (m - n)) ys = sym (drop-drop (m - n) n xs) ∙
    ap (drop (m - n)) same ∙ drop-drop (m - n) n ys in
    subst (λ (k : ℕ). drop k xs ≡ drop k ys) sum moved

-- the entry at this place is told too
pub told_next : (entries : List Entry) (out : List RpkiEntry) (at : ℕ) (e : Entry) (rest : List Entry)
    (it : RpkiEntry) → drop at entries ≡ e ∷ rest → at < length out → TellsEntry e it →
    ((i : ℕ) (d : Entry) (x : RpkiEntry) → i < at → TellsEntry (get_or entries i d) (get_or out i x)) →
    (i : ℕ) (d : Entry) (x : RpkiEntry) → i < at + 1 →
    TellsEntry (get_or entries i d) (get_or (set out at it) i x)
told_next entries out at e rest it is below tells before i d x low =
    let here : TellsEntry (get_or entries at d) (get_or (set out at it) at x) =
    subst (λ (one : Entry). TellsEntry one (get_or (set out at it) at x)) (sym (first_of entries at e rest d is))
    (subst (λ (one : RpkiEntry). TellsEntry e one) (sym (get_or-set_same out at it x below)) tells) in
    let earlier : (k : ℕ) → k < at → TellsEntry (get_or entries k d) (get_or (set out at it) k x) = λ k less.
    let other : k ≢ at = omega arith in
    subst (λ (one : RpkiEntry). TellsEntry (get_or entries k d) one) (sym (get_or-set_other out at k it x other))
    (before k d x less) in
    below_more (λ (k : ℕ). TellsEntry (get_or entries k d) (get_or (set out at it) k x)) at earlier here i low

-- what stands behind it is what stood there
pub kept_next : (old out : List RpkiEntry) (at : ℕ) (it : RpkiEntry) → drop at out ≡ drop at old →
    drop (at + 1) (set out at it) ≡ drop (at + 1) old
kept_next old out at it same =
    let less : at < at + 1 = omega arith in
    let more : at ≤ at + 1 = omega arith in
    drop-set-lt (at + 1) out at it less ∙ alike_later out old at (at + 1) more same
