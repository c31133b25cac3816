use Rattle.std.proofs.Common.{List, ◌≡◌, ◌<◌, ◌≤◌, ◌/◌, ◌%◌, ◌^◌, ℕ, [], ◌∷◌, sym, ap, ◌∙◌, arith}
use Rattle.rpki_der.specs.Values.{length_octets}
use Rattle.rpki_der.proofs.Appending.{appends}
use Rattle.rpki_der.proofs.Lengths.{length_short, length_81, length_82, length_83, length_84}
use Rattle.rpki_der.proofs.put.put_head.Goals as goal

-- the octets that are written in each form
form0 : (t n : ℕ) → n < 128 → t ∷ (n % 256) ∷ [] ≡ t ∷ length_octets n
form0 t n h = let a : n % 256 ≡ n = omega arith in ap (λ (k : ℕ). t ∷ k ∷ []) a ∙ ap (λ (s : List ℕ). t ∷ s) (sym (length_short n h))

form1 : (t n : ℕ) → 128 ≤ n → n < 256 → t ∷ 0x81 ∷ (n % 256) ∷ [] ≡ t ∷ length_octets n
form1 t n g h = let a : n % 256 ≡ n = omega arith in
    ap (λ (k : ℕ). t ∷ 0x81 ∷ k ∷ []) a ∙ ap (λ (s : List ℕ). t ∷ s) (sym (length_81 n g h))

form2 : (t n : ℕ) → 256 ≤ n → n < 65536 → t ∷ 0x82 ∷ (n / 256 % 256) ∷ (n % 256) ∷ [] ≡ t ∷ length_octets n
form2 t n g h = let a : n / 256 % 256 ≡ n / 256 = omega arith in ap (λ (k : ℕ). t ∷ 0x82 ∷ k ∷ (n % 256) ∷ []) a ∙
    ap (λ (s : List ℕ). t ∷ s) (sym (length_82 n g h))

form3 : (t n : ℕ) → 65536 ≤ n → n < 16777216 → t ∷ 0x83 ∷ (n / 65536 % 256) ∷ (n / 256 % 256) ∷ (n % 256) ∷ [] ≡ t ∷ length_octets n
form3 t n g h = let a : n / 65536 % 256 ≡ n / 65536 = omega arith in
    ap (λ (k : ℕ). t ∷ 0x83 ∷ k ∷ (n / 256 % 256) ∷ (n % 256) ∷ []) a ∙
    ap (λ (s : List ℕ). t ∷ s) (sym (length_83 n g h))

form4 : (t n : ℕ) → 16777216 ≤ n → n < 2 ^ 32 → t ∷ 0x84 ∷ (n / 16777216 % 256) ∷ (n / 65536 % 256) ∷
    (n / 256 % 256) ∷ (n % 256) ∷ [] ≡ t ∷ length_octets n
form4 t n g h = let a : n / 16777216 % 256 ≡ n / 16777216 = omega arith in
    ap (λ (k : ℕ). t ∷ 0x84 ∷ k ∷ (n / 65536 % 256) ∷ (n / 256 % 256) ∷ (n % 256) ∷ []) a ∙
    ap (λ (s : List ℕ). t ∷ s) (sym (length_84 n g h))

pub returns-then-len-lt128-clause-ok : goal.returns-then-len-lt128-clause-ok
returns-then-len-lt128-clause-ok c = appends c.extend_from_slice.result c.args.out.now.items
    _ _ _ (form0 c.args.tag c.args.len (omega arith))
    (rw c.to_be_bytes.ensures at c.extend_from_slice.ensures.items)

pub returns-then-len-lt256-clause-ok : goal.returns-then-len-lt256-clause-ok
returns-then-len-lt256-clause-ok c = appends c.extend_from_slice-then-len-lt256.result c.args.out.now.items
    _ _ _ (form1 c.args.tag c.args.len (omega arith) (omega arith))
    (rw c.to_be_bytes.ensures at c.extend_from_slice-then-len-lt256.ensures.items)

pub returns-then-len-lt65536-clause-ok : goal.returns-then-len-lt65536-clause-ok
returns-then-len-lt65536-clause-ok c = appends c.extend_from_slice-then-len-lt65536.result c.args.out.now.items
    _ _ _ (form2 c.args.tag c.args.len (omega arith) (omega arith))
    (rw c.to_be_bytes.ensures at c.extend_from_slice-then-len-lt65536.ensures.items)

pub returns-then-len-lt16777216-clause-ok : goal.returns-then-len-lt16777216-clause-ok
returns-then-len-lt16777216-clause-ok c = appends c.extend_from_slice-then-len-lt16777216.result c.args.out.now.items
    _ _ _ (form3 c.args.tag c.args.len (omega arith) (omega arith))
    (rw c.to_be_bytes.ensures at c.extend_from_slice-then-len-lt16777216.ensures.items)

pub returns-else-len-lt16777216-clause-ok : goal.returns-else-len-lt16777216-clause-ok
returns-else-len-lt16777216-clause-ok c = appends c.extend_from_slice-else-len-lt16777216.result c.args.out.now.items
    _ _ _ (form4 c.args.tag c.args.len (omega arith) (omega arith))
    (rw c.to_be_bytes.ensures at c.extend_from_slice-else-len-lt16777216.ensures.items)
