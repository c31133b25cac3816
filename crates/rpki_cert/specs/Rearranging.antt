-- What is made of a certificate when its extensions are set in another order and others are added
-- (RFC 5280 4.1, 4.2; what may be asked for is own).
use Rattle.std.specs.Prelude.{ℕ, List, [], ◌∷◌, ◌++◌, ◌+◌, ◌^◌, ◌≡◌, ◌<◌, ◌≤◌, Bool, true, false, length, map, filter}
use Rattle.std.specs.Prelude.{get_or, nat_eq, bytes_eq}
use Rattle.std.specs.List.{AllByRecursion, IsDistinct, concat, list_any}
use Rattle.rpki_der.specs.Tags.{CONTEXT_CONSTRUCTED, SEQUENCE}
use Rattle.rpki_der.specs.Values.{enc, nested}
use Rattle.rpki_der.specs.Extensions.{extension}
use Rattle.rpki_der.specs.Encoding.{Means}
use Rattle.rpki_ext.specs.ExtensionKinds.{known}
use Rattle.rpki_cert.specs.Certificates.{CertFields, IsCertificate}
use Rattle.rpki_cert.specs.Rearranged.{IsBuiltOf, IsSomeExtension}
use Rattle.rpki_cert.specs.declared.extra.Extra.{Extra}
use Rattle.rpki_cert.specs.declared.rearrange_error.RearrangeError.{RearrangeError}
use Rattle.rpki_cert.specs.declared.rearrange_error.RearrangeError.TheVariants.{NoCertificate, NotAnOrder, KnownExtra, TooLong, Memory}
pub mod Reading
pub mod Steps

-- ---- what is asked for

-- each of the places below count once
pub record IsOrder (count : ℕ) (order : List ℕ) : Type 0 where
  pub as_many : length order ≡ count
  pub places : AllByRecursion (λ place. place < count) order
  pub distinct : IsDistinct nat_eq order

-- each stands before one of the places, or behind the last
abbrev pub ArePlaced : ℕ → List Extra → Type 0
ArePlaced count extras = AllByRecursion (λ x. x.at ≤ count) extras

-- an order of so many extensions, and places among them
pub record IsPlan (count : ℕ) (order : List ℕ) (extras : List Extra) : Type 0 where
  pub order_is : IsOrder count order
  pub extras_are : ArePlaced count extras

-- under the identifier of a kind that readers know
abbrev pub is_known : Extra → Bool
is_known x = list_any (bytes_eq x.oid) known

-- no extension added is of a known kind
abbrev pub AreUnknown : List Extra → Type 0
AreUnknown extras = AllByRecursion (λ x. is_known x ≡ false) extras

-- ---- the sequence of extensions that is made

-- as it is written: without a flag, since it isn't critical (X.690 11.5)
abbrev pub written : Extra → List ℕ
written x = extension x.oid false x.value

-- what is added just before this place, in the order in which it was given
abbrev pub added_at : ℕ → List Extra → List (List ℕ)
added_at place extras = map written (filter (λ x. nat_eq x.at place) extras)

-- The sequence from this place on: at each place the old extension that the order names, behind
-- what is added there. What is added at the place behind the last stands last.
abbrev pub sequence_from : ℕ → List ℕ → List Extra → List (List ℕ) → List (List ℕ)
sequence_from place [] extras old = added_at place extras
sequence_from place (named ∷ order) extras old = added_at place extras ++ (get_or old named [] ∷ sequence_from (place + 1) order extras old)

-- the extensions in their new order, with the added ones among them
abbrev pub new_extensions : List ℕ → List Extra → List (List ℕ) → List (List ℕ)
new_extensions order extras old = sequence_from 0 order extras old

-- ---- the certificate that is made

-- the values that stand before the extensions of a certificate, its extensions, and what stands
-- behind its TBSCertificate
pub record Parts : Type 0 where
  pub before : List (List ℕ)
  pub old : List (List ℕ)
  pub behind : List ℕ

-- the octets begin with a certificate of these parts
pub record BeginsWith (octets : List ℕ) (p : Parts) : Type 0 where
  pub certificate : CertFields
  pub front : List ℕ
  pub rest : List ℕ
  pub certificate_is : IsCertificate certificate front
  pub built : IsBuiltOf p.before p.old p.behind front
  pub extensions_are : AllByRecursion IsSomeExtension p.old
  pub octets_are : octets ≡ front ++ rest

-- what stands inside the SEQUENCE of the TBSCertificate with the octets of another sequence
abbrev pub tbs_content_with : List ℕ → Parts → List ℕ
tbs_content_with elements p = concat p.before ++ nested (CONTEXT_CONSTRUCTED 3 ∷ SEQUENCE ∷ []) elements

-- what stands inside the SEQUENCE of the certificate with that sequence
abbrev pub content_with : List ℕ → Parts → List ℕ
content_with elements p = enc SEQUENCE (tbs_content_with elements p) ++ p.behind

-- The answer is the certificate that the octets begin with, with the new sequence in place of its
-- extensions: what stood before and behind them is unchanged, also the signature's value. What
-- followed the certificate is dropped.
pub record IsRearranged (octets : List ℕ) (order : List ℕ) (extras : List Extra) (answer : List ℕ) : Type 0 where
  pub parts : Parts
  pub begins : BeginsWith octets parts
  pub plan : IsPlan (length parts.old) order extras
  pub unknown : AreUnknown extras
  pub built : IsBuiltOf parts.before (new_extensions order extras parts.old) parts.behind answer

-- Why there is none, each where no earlier one is: no certificate, no plan, an extra of a known
-- kind, 2^32 octets or more in its SEQUENCE (own).
abbrev pub IsRejected : List ℕ → List ℕ → List Extra → RearrangeError → Type 0
IsRejected octets order extras NoCertificate = (c : CertFields) → Means IsCertificate c octets → ⊥
IsRejected octets order extras NotAnOrder = (p : Parts) × BeginsWith octets p × (IsPlan (length p.old) order extras → ⊥)
IsRejected octets order extras KnownExtra =
    (p : Parts) × BeginsWith octets p × IsPlan (length p.old) order extras × (AreUnknown extras → ⊥)
IsRejected octets order extras TooLong =
    (p : Parts) × BeginsWith octets p × IsPlan (length p.old) order extras × AreUnknown extras
    × (2 ^ 32 ≤ length (content_with (concat (new_extensions order extras p.old)) p))
IsRejected octets order extras Memory = Unit {0}
