-- Extensions in another order, with more among them that are passed over, give the same fields.
use Rattle.std.specs.List.{AllByRecursion, AllZip}
use Rattle.std.proofs.Common.{◌≡◌, false, refl, ℕ, ◌≤◌, List, [], ◌∷◌, length, Option, arith, subst, sym}
use Rattle.std.proofs.lemmas.Bool.{or_parts, or_from}
use Rattle.rpki_der.specs.Extensions.{Extension, IsExtension, extension_format}
use Rattle.rpki_der.specs.Sequences.{IsAtMostOne}
use Rattle.rpki_der.proofs.ExtensionReads.{extension_reads}
use Rattle.rpki_ext.specs.CertificateExtensions.{ExtensionFields, GiveFields, values}
use Rattle.rpki_ext.specs.ExtensionKinds.{known, certificate_kinds}
use Rattle.rpki_ext.specs.Kinds.{is_of, only, identifiers, identifiers_by_mode, Tells, TellsUnder}
use Rattle.rpki_ext.specs.KindTables.{KindTable, no_kinds, kind, modes, Values, GiveEach, identifiers_of}
use Rattle.rpki_ext.proofs.OneMeaning.{unambiguous}
use Rattle.rpki_cert.specs.Rearranged.{IsPassedOver, IsSomeExtension}
use Rattle.rpki_cert.proofs.Reordering.{IsReordered, kept, short_same, length_moved, all_moved, all_moved_back, carry}

-- ---- the identifiers of a kind are known

abbrev IsPassed : Extension → Type 0
IsPassed x = (is_of known x ≡ false) × (x.critical ≡ false)

-- an extension of no known kind isn't under one of these
abbrev AreKnown : List (List ℕ) → Type 0
AreKnown ids = (x : Extension) → is_of known x ≡ false → is_of ids x ≡ false

-- ---- what a sequence gives

-- of each known kind of which there is at most one, the extensions are the same
abbrev SameKinds : List Extension → List Extension → Type 0
SameKinds xs ys = (ids : List (List ℕ)) → AreKnown ids → length (only ids xs) ≤ 1 → only ids xs ≡ only ids ys

one_short : {X V : Type 0} (P : X → V → Type 0) (xs : List X) (v : Option V) → IsAtMostOne P xs v → length xs ≤ 1
one_short P [] v h = omega arith
one_short P (x ∷ []) v h = omega arith
one_short P (x ∷ y ∷ more) v h = absurd h

module _ (xs ys : List Extension) (same : SameKinds xs ys) where
  one : {V : Type 0} (P : Extension → V → Type 0) (ids : List (List ℕ)) (v : Option V) → AreKnown ids →
      IsAtMostOne P (only ids xs) v → IsAtMostOne P (only ids ys) v
  one P ids v in_known h = subst (λ (s : List Extension). IsAtMostOne P s v) (same ids in_known (one_short P (only ids xs) v h)) h

  given : (t : KindTable) (v : Values t) → AreKnown (identifiers_of t) → GiveEach t xs v → GiveEach t ys v
  given no_kinds v in_known h = tt
  given (kind k t) v in_known h = (
    one (Tells k) (identifiers k) v.0 (λ x e. or_from _ _ (or_parts _ _ (in_known x e)).0 refl) h.0,
    given t v.1 (λ x e. (or_parts _ _ (in_known x e)).1) h.1,
  )
  given (modes ks t) v in_known h = (
    one (TellsUnder ks v.0.0) (identifiers_by_mode ks) v.0.1 (λ x e. let p = or_parts _ _ (in_known x e) in
        or_from _ _ p.0 (or_from _ _ (or_parts _ _ p.1).0 refl)) h.0,
    given t v.1 (λ x e. (or_parts _ _ (or_parts _ _ (in_known x e)).1).1) h.1,
  )

  same_fields : (f : ExtensionFields) → AllByRecursion (λ x. is_of known x ≡ false → x.critical ≡ false) ys →
      GiveFields xs f → GiveFields ys f
  same_fields f passed_over g = record {
    passed_over = passed_over;
    access = g.access;
    ip = g.ip;
    numbers = g.numbers;
    each_is = given certificate_kinds (values f g.access g.ip g.numbers) (λ x e. e) g.each_is;
    access_is = g.access_is;
    v4_is = g.v4_is;
    v6_is = g.v6_is;
    as_is = g.as_is;
    some_resources = g.some_resources;
  }

-- ---- in another order

same_kinds : (xs ys : List Extension) → IsReordered IsPassed xs ys → SameKinds xs ys
same_kinds xs ys r ids in_known short = short_same _ _ (kept IsPassed (is_of ids) (λ x h. in_known x h.0) xs ys r) short

same_kinds_back : (xs ys : List Extension) → IsReordered IsPassed xs ys → SameKinds ys xs
same_kinds_back xs ys r ids in_known short =
    let filtered = kept IsPassed (is_of ids) (λ x h. in_known x h.0) xs ys r in
    sym (short_same _ _ filtered (omega (arith, length_moved _ _ filtered, short)))

-- ---- pieces

-- what the extensions of one sequence of pieces give, those of the other give
abbrev pub GiveAlike : List (List ℕ) → List (List ℕ) → Type 0
GiveAlike old new = (xs : List Extension) (f : ExtensionFields) → AllZip IsExtension xs old → GiveFields xs f →
    (ys : List Extension) × AllZip IsExtension ys new × GiveFields ys f

passed_is : (piece : List ℕ) → IsPassedOver piece → (x : Extension) × IsExtension x piece × IsPassed x
passed_is piece h = (h.extension, h.piece_is, (h.unknown, h.not_critical))

-- what extensions give, they give after they were rearranged
pub new_give : (old new : List (List ℕ)) → IsReordered IsPassedOver old new → GiveAlike old new
new_give old new r xs f zipped g =
    let carried = carry IsExtension IsPassedOver IsPassed passed_is xs old new zipped r in
    let passed_over = all_moved IsPassed (λ x. is_of known x ≡ false → x.critical ≡ false) (λ x h _. h.1) xs carried.0
    carried.2 g.passed_over in
    (carried.0, carried.1, same_fields xs carried.0 (same_kinds xs carried.0 carried.2) f passed_over g)

some_sequence : (pieces : List (List ℕ)) → AllByRecursion IsSomeExtension pieces → (xs : List Extension) × AllZip IsExtension xs pieces
some_sequence [] h = ([], tt)
some_sequence (p ∷ ps) h = let r = some_sequence ps h.1 in (h.0.0 ∷ r.0, (h.0.1, r.1))

-- a piece is one extension
one_sequence_of : (xs ys : List Extension) (pieces : List (List ℕ)) → AllZip IsExtension xs pieces → AllZip IsExtension ys pieces → xs ≡ ys
one_sequence_of [] [] [] p q = refl
one_sequence_of [] (y ∷ ys) [] p q = elim q [ ]
one_sequence_of (x ∷ xs) ys [] p q = elim p [ ]
one_sequence_of [] ys (b ∷ bs) p q = elim p [ ]
one_sequence_of (x ∷ xs) [] (b ∷ bs) p q = elim q [ ]
one_sequence_of (x ∷ xs) (y ∷ ys) (b ∷ bs) p q =
    let first : x ≡ y = (unambiguous extension_format.read IsExtension extension_reads x y b b [] [] p.0 q.0 refl).0 in
    let rest = one_sequence_of xs ys bs p.1 q.1 in cc (first, rest)

-- what rearranged extensions give, they gave before
pub old_give : (old new : List (List ℕ)) → AllByRecursion IsSomeExtension old → IsReordered IsPassedOver old new → GiveAlike new old
old_give old new pieces_are r ys f zipped g =
    let xs = some_sequence old pieces_are in
    let carried = carry IsExtension IsPassedOver IsPassed passed_is xs.0 old new xs.1 r in
    let same : carried.0 ≡ ys = one_sequence_of carried.0 ys new carried.1 zipped in
    let moved : IsReordered IsPassed xs.0 ys = subst (λ (s : List Extension). IsReordered IsPassed xs.0 s) same carried.2 in
    let passed_over = all_moved_back IsPassed (λ x. is_of known x ≡ false → x.critical ≡ false) xs.0 ys moved g.passed_over in
    (xs.0, xs.1, same_fields ys xs.0 (same_kinds_back xs.0 ys moved) f passed_over g)
