-- Calls that verify one certificate answer alike, and give one result.
use Rattle.std.specs.Prelude.{Result, Ok, Err}
use Rattle.std.proofs.Common.{◌≡◌, ◌↔◌, ◌-◌, ◌^◌, ℕ, Bool, true, false, List, refl, sym, ap, ◌∙◌, inl, inr}
use Rattle.rpki_blocks.specs.IssuedSets.{IsListed, Gets}
use Rattle.rpki_blocks.specs.Sets.{Block, Has, IsSet, HaveSameNumbers, is_in}
use Rattle.rpki_blocks.proofs.Sets.{one_chain}
use Rattle.rpki_parts.specs.Conditions.{Tests}
use Rattle.rpki_cert.specs.Certificates.{CertFields}
use Rattle.rpki_cert.specs.Verification.{TestsOrMemory, AreAlike, IsAnswerOrMemory, ResourceFields, HasListed, HasIssued, HasSets}
use Rattle.rpki_cert.specs.declared.verification_error.VerificationError.{VerificationError}
use Rattle.rpki_cert.proofs.Checks.{first_not_all, one_first}

-- ---- verdicts

module _ {S T : Type 0} (check : VerificationError → Type 0) (checks : List VerificationError) where
  pub alike : (r : Result S VerificationError) (s : Result T VerificationError) → TestsOrMemory check checks r →
      TestsOrMemory check checks s → AreAlike r s
  alike (Ok v) (Ok w) t u = tt
  alike (Ok v) (Err e) t (inl same) = same
  alike (Ok v) (Err e) t (inr first) = absurd (first_not_all check checks e first t)
  alike (Err e) (Ok w) (inl same) u = same
  alike (Err e) (Ok w) (inr first) u = absurd (first_not_all check checks e first u)
  alike (Err e) (Err f) (inl same) u = inr (inl same)
  alike (Err e) (Err f) (inr first) (inl same) = inr (inr same)
  alike (Err e) (Err f) (inr first) (inr second) = inl (one_first check checks e f first second)

  pub answer_or_memory : (r : Result S VerificationError) (s : Result T VerificationError) → Tests check checks r →
      TestsOrMemory check checks s → IsAnswerOrMemory r s
  answer_or_memory (Ok v) (Ok w) t u = tt
  answer_or_memory (Ok v) (Err e) t (inl same) = same
  answer_or_memory (Ok v) (Err e) t (inr first) = absurd (first_not_all check checks e first t)
  answer_or_memory (Err e) (Ok w) t u = absurd (first_not_all check checks e t u)
  answer_or_memory (Err e) (Err f) t (inl same) = inr same
  answer_or_memory (Err e) (Err f) t (inr first) = inl (one_first check checks f e first t)

-- ---- results

same_truth : (a b : Bool) → (a ≡ true → b ≡ true) → (b ≡ true → a ≡ true) → a ≡ b
same_truth true b f g = sym (f refl)
same_truth false true f g = g refl
same_truth false false f g = refl

-- lists that have the numbers of one set have each number of the other
same_numbers : (P : ℕ → Type 0) (bs cs : List Block) → ((n : ℕ) → Has bs n ↔ P n) → ((n : ℕ) → Has cs n ↔ P n) → HaveSameNumbers bs cs
same_numbers P bs cs of other n = same_truth (is_in n bs) (is_in n cs) (λ h. (other n).1 ((of n).0 h)) (λ h. (of n).1 ((other n).0 h))

one_set : (greatest : ℕ) (P : ℕ → Type 0) (bs cs : List Block) → IsSet greatest bs → IsSet greatest cs →
    ((n : ℕ) → Has bs n ↔ P n) → ((n : ℕ) → Has cs n ↔ P n) → bs ≡ cs
one_set greatest P bs cs set also of other = one_chain bs cs set.chain also.chain (same_numbers P bs cs of other)

same_fields : (r s : ResourceFields) → r.cert ≡ s.cert → r.v4 ≡ s.v4 → r.v6 ≡ s.v6 → r.as_numbers ≡ s.as_numbers → r.tal ≡ s.tal → r ≡ s
same_fields r s cert v4 v6 as_numbers tal =
    ap (λ (y : CertFields). let x : ResourceFields =
    record { cert = y; v4 = r.v4; v6 = r.v6; as_numbers = r.as_numbers; tal = r.tal } in x) cert
    ∙ ap (λ (y : List Block). let x : ResourceFields =
    record { cert = s.cert; v4 = y; v6 = r.v6; as_numbers = r.as_numbers; tal = r.tal } in x) v4
    ∙ ap (λ (y : List Block). let x : ResourceFields =
    record { cert = s.cert; v4 = s.v4; v6 = y; as_numbers = r.as_numbers; tal = r.tal } in x) v6
    ∙ ap (λ (y : List Block). let x : ResourceFields =
    record { cert = s.cert; v4 = s.v4; v6 = s.v6; as_numbers = y; tal = r.tal } in x) as_numbers
    ∙ ap (λ (y : List ℕ). let x : ResourceFields =
    record { cert = s.cert; v4 = s.v4; v6 = s.v6; as_numbers = s.as_numbers; tal = y } in x) tal

pub one_issued : (c : CertFields) (issuer r s : ResourceFields) → HasIssued c issuer r → HasIssued c issuer s →
    HasSets r → HasSets s → r ≡ s
one_issued c issuer r s h k set also =
    let x = c.fields.extensions in
    same_fields r s (h.cert_is ∙ sym k.cert_is)
    (one_set (2 ^ 128 - 1) (Gets (Has issuer.v4) x.v4_resources) r.v4 s.v4 set.v4_is also.v4_is h.v4_is k.v4_is)
    (one_set (2 ^ 128 - 1) (Gets (Has issuer.v6) x.v6_resources) r.v6 s.v6 set.v6_is also.v6_is h.v6_is k.v6_is)
    (one_set (2 ^ 32 - 1) (Gets (Has issuer.as_numbers) x.as_resources) r.as_numbers s.as_numbers set.as_is also.as_is h.as_is k.as_is)
    (h.tal_is ∙ sym k.tal_is)

pub one_listed : (c : CertFields) (tal : List ℕ) (r s : ResourceFields) → HasListed c tal r → HasListed c tal s →
    HasSets r → HasSets s → r ≡ s
one_listed c tal r s h k set also =
    let x = c.fields.extensions in
    same_fields r s (h.cert_is ∙ sym k.cert_is)
    (one_set (2 ^ 128 - 1) (λ n. IsListed n x.v4_resources) r.v4 s.v4 set.v4_is also.v4_is h.v4_is k.v4_is)
    (one_set (2 ^ 128 - 1) (λ n. IsListed n x.v6_resources) r.v6 s.v6 set.v6_is also.v6_is h.v6_is k.v6_is)
    (one_set (2 ^ 32 - 1) (λ n. IsListed n x.as_resources) r.as_numbers s.as_numbers set.as_is also.as_is h.as_is k.as_is)
    (h.tal_is ∙ sym k.tal_is)
