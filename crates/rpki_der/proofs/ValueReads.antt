-- A value that is read is the value that was written, and what was written is read again.
use Rattle.std.proofs.Common.{◌≡◌, ◌≢◌, ℕ, ◌+◌, ◌*◌, ◌/◌, ◌%◌, ◌^◌, ◌<◌, ◌≤◌, Bool, true, false, cond, not, ◌&&◌, eqb}
use Rattle.std.proofs.Common.{ltb, List, [], ◌∷◌, ◌++◌, length, take, drop, Option, Some, None, refl, sym, ap, subst}
use Rattle.std.proofs.Common.{◌∙◌, append_assoc, arith, inl, inr, ◌⊎◌}
use Rattle.std.proofs.lemmas.Bool.{cases_lt, cases_Bool, not-true, ltb-true, ltb-false, lt-ltb, le-ltb, eqb-true}
use Rattle.std.proofs.lemmas.Bool.{eqb-false, eq-eqb, ne_eqb, and_parts}
use Rattle.std.proofs.lemmas.List.{length-append, length-take, take-append-drop, drop_at, take_at}
use Rattle.rpki_der.specs.Values.{length_octets, enc, IsEnc}
use Rattle.rpki_der.proofs.Lengths.{length_short, length_81, length_82, length_83, length_84}
use Rattle.rpki_der.specs.Reading.{Reads}
use Rattle.rpki_der.specs.Values.Reading.{at_least, long1, long2, long3, long4, length_at, content_at, value_at, ◌>>=◌}
use Rattle.rpki_der.specs.Encoding.{Begins}
use Rattle.rpki_der.specs.Values.{AreOctets}
use Rattle.rpki_der.proofs.Octets.{AreOctets-after, AreOctets-front, bind_some, chosen, unless_some, some, both_are, nothing}

-- a length and what follows it
abbrev IsLength : List ℕ → ℕ → List ℕ → Type 0
IsLength bytes n rest = (bytes ≡ length_octets n ++ rest) × (n < 2 ^ 32)

long1_takes : (bytes : List ℕ) (n : ℕ) (rest : List ℕ) → AreOctets bytes → long1 bytes ≡ Some (n, rest) → IsLength (0x81 ∷ bytes) n rest
long1_takes [] n rest fits e = absurd cc
long1_takes (a ∷ bytes) n rest fits e =
    let g = unless_some (ltb a 0x80) (a, bytes) (n, rest) e in
    let least : 0x80 ≤ a = ltb-false _ _ g.0 in
    let fa : a < 256 = fits.0 in
    subst (λ (p : ℕ × List ℕ). IsLength (0x81 ∷ a ∷ bytes) p.0 p.1) g.1 (rw (length_81 a least fa) refl, omega arith)

long2_takes : (bytes : List ℕ) (n : ℕ) (rest : List ℕ) → AreOctets bytes → long2 bytes ≡ Some (n, rest) → IsLength (0x82 ∷ bytes) n rest
long2_takes [] n rest fits e = absurd cc
long2_takes (a ∷ []) n rest fits e = absurd cc
long2_takes (a ∷ b ∷ bytes) n rest (fa, (fb, _)) e =
    let m = a * 0x100 + b in
    let g = unless_some (ltb (a * 0x100 + b) 0x100) (a * 0x100 + b, bytes) (n, rest) e in
    let least : 0x100 ≤ a * 0x100 + b = ltb-false _ _ g.0 in
    let ea : (a * 0x100 + b) / 0x100 ≡ a = omega arith in
    let eb : (a * 0x100 + b) % 0x100 ≡ b = omega arith in
    subst (λ (p : ℕ × List ℕ). IsLength (0x82 ∷ a ∷ b ∷ bytes) p.0 p.1) g.1
    (rw (length_82 (a * 0x100 + b) least (omega arith), ea, eb) refl, omega arith)

long3_takes : (bytes : List ℕ) (n : ℕ) (rest : List ℕ) → AreOctets bytes → long3 bytes ≡ Some (n, rest) → IsLength (0x83 ∷ bytes) n rest
long3_takes [] n rest fits e = absurd cc
long3_takes (a ∷ []) n rest fits e = absurd cc
long3_takes (a ∷ b ∷ []) n rest fits e = absurd cc
long3_takes (a ∷ b ∷ c ∷ bytes) n rest (fa, (fb, (fc, _))) e =
    let g = unless_some (ltb (a * 0x10000 + b * 0x100 + c) 0x10000) (a * 0x10000 + b * 0x100 + c, bytes) (n, rest) e in
    let least : 0x10000 ≤ a * 0x10000 + b * 0x100 + c = ltb-false _ _ g.0 in
    let ea : (a * 0x10000 + b * 0x100 + c) / 0x10000 ≡ a = omega arith in
    let eb : (a * 0x10000 + b * 0x100 + c) / 0x100 % 0x100 ≡ b = omega arith in
    let ec : (a * 0x10000 + b * 0x100 + c) % 0x100 ≡ c = omega arith in
    subst (λ (p : ℕ × List ℕ). IsLength (0x83 ∷ a ∷ b ∷ c ∷ bytes) p.0 p.1) g.1
    (rw (length_83 (a * 0x10000 + b * 0x100 + c) least (omega arith), ea, eb, ec) refl, omega arith)

long4_takes : (bytes : List ℕ) (n : ℕ) (rest : List ℕ) → AreOctets bytes → long4 bytes ≡ Some (n, rest) → IsLength (0x84 ∷ bytes) n rest
long4_takes [] n rest fits e = absurd cc
long4_takes (a ∷ []) n rest fits e = absurd cc
long4_takes (a ∷ b ∷ []) n rest fits e = absurd cc
long4_takes (a ∷ b ∷ c ∷ []) n rest fits e = absurd cc
long4_takes (a ∷ b ∷ c ∷ d ∷ bytes) n rest (fa, (fb, (fc, (fd, _)))) e =
    let g = unless_some (ltb (a * 0x1000000 + b * 0x10000 + c * 0x100 + d) 0x1000000)
    (a * 0x1000000 + b * 0x10000 + c * 0x100 + d, bytes) (n, rest) e in
    let least : 0x1000000 ≤ a * 0x1000000 + b * 0x10000 + c * 0x100 + d = ltb-false _ _ g.0 in
    let ea : (a * 0x1000000 + b * 0x10000 + c * 0x100 + d) / 0x1000000 ≡ a = omega arith in
    let eb : (a * 0x1000000 + b * 0x10000 + c * 0x100 + d) / 0x10000 % 0x100 ≡ b = omega arith in
    let ec : (a * 0x1000000 + b * 0x10000 + c * 0x100 + d) / 0x100 % 0x100 ≡ c = omega arith in
    let ed : (a * 0x1000000 + b * 0x10000 + c * 0x100 + d) % 0x100 ≡ d = omega arith in
    subst (λ (p : ℕ × List ℕ). IsLength (0x84 ∷ a ∷ b ∷ c ∷ d ∷ bytes) p.0 p.1) g.1 (
      rw (length_84 (a * 0x1000000 + b * 0x10000 + c * 0x100 + d) least (omega arith), ea, eb, ec, ed) refl,
      omega arith,
    )

long_takes : (k : ℕ) (bytes : List ℕ) (n : ℕ) (rest : List ℕ) → AreOctets bytes →
    cond (eqb k 0x81) (long1 bytes)
    (cond (eqb k 0x82) (long2 bytes) (cond (eqb k 0x83) (long3 bytes) (cond (eqb k 0x84) (long4 bytes) None))) ≡
    Some (n, rest) → IsLength (k ∷ bytes) n rest
long_takes k bytes n rest fits e =
    elim (cases_Bool (eqb k 0x81)) [
      | inl y1 ↦ rw (eqb-true k 0x81 y1) (long1_takes bytes n rest fits (rw y1 at e))
      | inr n1 ↦ elim (cases_Bool (eqb k 0x82)) [
        | inl y2 ↦ rw (eqb-true k 0x82 y2) (long2_takes bytes n rest fits (rw (n1, y2) at e))
        | inr n2 ↦ elim (cases_Bool (eqb k 0x83)) [
          | inl y3 ↦ rw (eqb-true k 0x83 y3) (long3_takes bytes n rest fits (rw (n1, n2, y3) at e))
          | inr n3 ↦ elim (cases_Bool (eqb k 0x84)) [
            | inl y4 ↦ rw (eqb-true k 0x84 y4) (long4_takes bytes n rest fits (rw (n1, n2, n3, y4) at e))
            | inr n4 ↦ let f = rw (n1, n2, n3, n4) at e in absurd cc
          ]
        ]
      ]
    ]

-- a length that is read is encoded so
pub length_takes : (bytes : List ℕ) (n : ℕ) (rest : List ℕ) → AreOctets bytes → length_at bytes ≡ Some (n, rest) → IsLength bytes n rest
length_takes [] n rest fits e = absurd cc
length_takes (k ∷ bytes) n rest fits e =
    elim (cases_Bool (ltb k 0x80)) [
      | inl y ↦
          let f : Some (k, bytes) ≡ Some (n, rest) = rw y at e in
          let g : (k, bytes) ≡ (n, rest) = cc in
          let lt : k < 0x80 = ltb-true k 0x80 y in
          subst (λ (p : ℕ × List ℕ). IsLength (k ∷ bytes) p.0 p.1) g (rw (length_short k lt) refl, omega arith)
      | inr long ↦ long_takes k bytes n rest fits.1 (rw long at e)
    ]

-- an encoded length is read
pub length_again : (n : ℕ) (rest : List ℕ) → n < 2 ^ 32 → length_at (length_octets n ++ rest) ≡ Some (n, rest)
length_again n rest lt =
    elim (cases_lt n 0x80) [
      | inl l0 ↦ rw (length_short n l0, lt-ltb n 0x80 l0) refl
      | inr g0 ↦ elim (cases_lt n 0x100) [
        | inl l1 ↦ rw (length_81 n g0 l1, le-ltb n 0x80 g0) refl
        | inr g1 ↦ elim (cases_lt n 0x10000) [
          | inl l2 ↦
              let e : n / 0x100 * 0x100 + n % 0x100 ≡ n = omega arith in
              rw (length_82 n g1 l2, e, le-ltb n 0x100 g1) refl
          | inr g2 ↦ elim (cases_lt n 0x1000000) [
            | inl l3 ↦
                let e : n / 0x10000 * 0x10000 + n / 0x100 % 0x100 * 0x100 + n % 0x100 ≡ n = omega arith in
                rw (length_83 n g2 l3, e, le-ltb n 0x10000 g2) refl
            | inr g3 ↦
                let e : n / 0x1000000 * 0x1000000 + n / 0x10000 % 0x100 * 0x10000 + n / 0x100 % 0x100 * 0x100 +
                n % 0x100 ≡ n = omega arith in
                rw (length_84 n g3 lt, e, le-ltb n 0x1000000 g3) refl
          ]
        ]
      ]
    ]

content_takes : (x : ℕ × List ℕ) (c rest : List ℕ) → content_at x ≡ Some (c, rest) → (x.0 ≡ length c) × (x.1 ≡ c ++ rest)
content_takes x c rest e =
    let g = unless_some (ltb (length x.1) x.0) (take x.0 x.1, drop x.0 x.1) (c, rest) e in
    let le : x.0 ≤ length x.1 = ltb-false _ _ g.0 in
    subst (λ (p : List ℕ × List ℕ). (x.0 ≡ length p.0) × (x.1 ≡ p.0 ++ p.1)) g.1
    (omega (arith, length-take x.0 x.1), sym (take-append-drop x.0 x.1))

content_again : (c rest : List ℕ) → content_at (length c, c ++ rest) ≡ Some (c, rest)
content_again c rest =
    let long : ltb (length (c ++ rest)) (length c) ≡ false = le-ltb _ _ (omega (arith, length-append c rest)) in
    rw (long, take_at c rest (length c) refl, drop_at c rest (length c) refl) refl

-- a value that is read is encoded so
pub value_takes : (t : ℕ) (bytes c rest : List ℕ) → AreOctets bytes → value_at t bytes ≡ Some (c, rest) → Begins (IsEnc t) bytes c rest
unfolding value_at enc
value_takes t [] c rest fits e = absurd cc
value_takes t (found ∷ bytes) c rest fits e =
    let g = chosen (eqb found t && not (eqb (t % 32) 31)) (length_at bytes >>= content_at) (c, rest) e in
    let b = and_parts _ _ g.0 in
    let l = bind_some (length_at bytes) content_at (c, rest) g.1 in
    let n = length_takes bytes l.0.0 l.0.1 fits.1 l.1 in
    let k = content_takes l.0 c rest l.2 in
    let same : found ≡ t = eqb-true _ _ b.0 in
    let other : t % 32 ≢ 31 = eqb-false _ _ (not-true _ b.1) in
    let low : t % 32 < 31 = omega arith in
    let whole : bytes ≡ (length_octets (length c) ++ c) ++ rest =
    n.0 ∙ rw (k.0, k.1) (sym (append_assoc (length_octets (length c)) c rest)) in
    let content_octets : AreOctets c = AreOctets-after (length_octets (length c) ++ c) (length_octets (length c)) c
    refl (AreOctets-front bytes (length_octets (length c) ++ c) rest whole fits.1) in
    record {
      text = enc t c;
      encoded = record {
        octet = omega (arith, fits.0);
        low_tag = low;
        octets = content_octets;
        short =
            omega (arith, k.0, n.1);
        is = refl;
      };
      parts = rw (same, whole) refl;
    }

-- an encoded value is read
pub value_again : (t : ℕ) (c text rest : List ℕ) → IsEnc t c text → value_at t (text ++ rest) ≡ Some (c, rest)
unfolding value_at enc
value_again t c text rest v =
    let same : eqb t t ≡ true = eq-eqb t t refl in
    let low : eqb (t % 32) 31 ≡ false = ne_eqb _ _ (λ e. omega (arith, v.low_tag, e)) in
    let regrouped : text ++ rest ≡ t ∷ (length_octets (length c) ++ (c ++ rest)) =
    rw v.is (ap (λ (x : List ℕ). t ∷ x) (append_assoc (length_octets (length c)) c rest)) in
    ap (value_at t) regrouped ∙ rw (same, low, length_again (length c) (c ++ rest) v.short, content_again c rest) refl

-- a value of a tag is read as it is encoded
pub value_reads : (t : ℕ) → Reads (value_at t) (IsEnc t)
value_reads t = record { takes = value_takes t; again = value_again t }

-- where a content stands, whatever the octets are
pub record Parts (bytes c rest : List ℕ) : Type 0 where
  pub head : List ℕ
  pub whole : bytes ≡ head ++ (c ++ rest)
  pub some : 0 < length head

abbrev HasFront : List ℕ → List ℕ → Type 0
HasFront bytes rest = (head : List ℕ) × (bytes ≡ head ++ rest)

least_parts : (least n : ℕ) (head bytes : List ℕ) (m : ℕ) (rest : List ℕ) → at_least least n bytes ≡ Some (m, rest) →
    HasFront (head ++ bytes) rest
least_parts least n head bytes m rest e =
    let g = unless_some (ltb n least) (n, bytes) (m, rest) e in
    subst (λ (p : ℕ × List ℕ). HasFront (head ++ bytes) p.1) g.1 (head, refl)

long1_parts : (k : ℕ) (bytes : List ℕ) (n : ℕ) (rest : List ℕ) → long1 bytes ≡ Some (n, rest) → HasFront (k ∷ bytes) rest
long1_parts k [] n rest e = absurd cc
long1_parts k (a ∷ bytes) n rest e = least_parts 0x80 a (k ∷ a ∷ []) bytes n rest e

long2_parts : (k : ℕ) (bytes : List ℕ) (n : ℕ) (rest : List ℕ) → long2 bytes ≡ Some (n, rest) → HasFront (k ∷ bytes) rest
long2_parts k [] n rest e = absurd cc
long2_parts k (a ∷ []) n rest e = absurd cc
long2_parts k (a ∷ b ∷ bytes) n rest e = least_parts 0x100 (a * 0x100 + b) (k ∷ a ∷ b ∷ []) bytes n rest e

long3_parts : (k : ℕ) (bytes : List ℕ) (n : ℕ) (rest : List ℕ) → long3 bytes ≡ Some (n, rest) → HasFront (k ∷ bytes) rest
long3_parts k [] n rest e = absurd cc
long3_parts k (a ∷ []) n rest e = absurd cc
long3_parts k (a ∷ b ∷ []) n rest e = absurd cc
long3_parts k (a ∷ b ∷ c ∷ bytes) n rest e = least_parts 0x10000 (a * 0x10000 + b * 0x100 + c) (k ∷ a ∷ b ∷ c ∷ []) bytes n rest e

long4_parts : (k : ℕ) (bytes : List ℕ) (n : ℕ) (rest : List ℕ) → long4 bytes ≡ Some (n, rest) → HasFront (k ∷ bytes) rest
long4_parts k [] n rest e = absurd cc
long4_parts k (a ∷ []) n rest e = absurd cc
long4_parts k (a ∷ b ∷ []) n rest e = absurd cc
long4_parts k (a ∷ b ∷ c ∷ []) n rest e = absurd cc
long4_parts k (a ∷ b ∷ c ∷ d ∷ bytes) n rest e = least_parts 0x1000000 (a * 0x1000000 + b * 0x10000 + c * 0x100 + d)
    (k ∷ a ∷ b ∷ c ∷ d ∷ []) bytes n rest e

-- an `else if` that gave a value
else_if : {A : Type 0} (b : Bool) (x y : Option A) (z : A) → cond b x y ≡ Some z → (x ≡ Some z) ⊎ (y ≡ Some z)
else_if true x y z e = inl e
else_if false x y z e = inr e

long0_parts : (k : ℕ) (bytes : List ℕ) (n : ℕ) (rest : List ℕ) →
    some {A = ℕ × List ℕ} (k, bytes) ≡ some {A = ℕ × List ℕ} (n, rest) → HasFront (k ∷ bytes) rest
long0_parts k bytes n rest e = (k ∷ [], ap (λ (x : List ℕ). k ∷ x) (both_are (k, bytes) (n, rest) e).1)

abbrev else4 : ℕ → List ℕ → Option (ℕ × List ℕ)
else4 k bytes = cond (eqb k 0x84) (long4 bytes) None

abbrev else3 : ℕ → List ℕ → Option (ℕ × List ℕ)
else3 k bytes = cond (eqb k 0x83) (long3 bytes) (else4 k bytes)

abbrev else2 : ℕ → List ℕ → Option (ℕ × List ℕ)
else2 k bytes = cond (eqb k 0x82) (long2 bytes) (else3 k bytes)

abbrev else1 : ℕ → List ℕ → Option (ℕ × List ℕ)
else1 k bytes = cond (eqb k 0x81) (long1 bytes) (else2 k bytes)

length_parts : (bytes : List ℕ) (n : ℕ) (rest : List ℕ) → length_at bytes ≡ Some (n, rest) → HasFront bytes rest
length_parts [] n rest e = absurd cc
length_parts (k ∷ bytes) n rest e =
    elim (else_if (ltb k 0x80) (Some (k, bytes)) (else1 k bytes) (n, rest) e) [
      | inl e0 ↦ long0_parts k bytes n rest e0
      | inr f0 ↦ elim (else_if (eqb k 0x81) (long1 bytes) (else2 k bytes) (n, rest) f0) [
        | inl e1 ↦ long1_parts k bytes n rest e1
        | inr f1 ↦ elim (else_if (eqb k 0x82) (long2 bytes) (else3 k bytes) (n, rest) f1) [
          | inl e2 ↦ long2_parts k bytes n rest e2
          | inr f2 ↦ elim (else_if (eqb k 0x83) (long3 bytes) (else4 k bytes) (n, rest) f2) [
            | inl e3 ↦ long3_parts k bytes n rest e3
            | inr f3 ↦ elim (else_if (eqb k 0x84) (long4 bytes) None (n, rest) f3) [
              | inl e4 ↦ long4_parts k bytes n rest e4
              | inr f4 ↦ nothing (n, rest) f4
            ]
          ]
        ]
      ]
    ]

-- the parts of octets that a value was read from
pub value_parts : (t : ℕ) (bytes c rest : List ℕ) → value_at t bytes ≡ Some (c, rest) → Parts bytes c rest
unfolding value_at
value_parts t [] c rest e = absurd cc
value_parts t (found ∷ bytes) c rest e =
    let g = chosen (eqb found t && not (eqb (t % 32) 31)) (length_at bytes >>= content_at) (c, rest) e in
    let l = bind_some (length_at bytes) content_at (c, rest) g.1 in
    let n = length_parts bytes l.0.0 l.0.1 l.1 in
    let k = content_takes l.0 c rest l.2 in
    record { head = found ∷ n.0; whole = ap (λ (x : List ℕ). found ∷ x) (n.1 ∙ ap (λ (x : List ℕ). n.0 ++ x) k.1); some = omega arith }

-- a value's content and what follows it are fewer than the octets
pub value_shorter : (t : ℕ) (bytes c rest : List ℕ) → value_at t bytes ≡ Some (c, rest) → length c + length rest < length bytes
value_shorter t bytes c rest e =
    let p = value_parts t bytes c rest e in
    omega (arith, p.some, ap length p.whole, length-append p.head (c ++ rest), length-append c rest)
