-- What a caller wants of a certificate, by octets, lengths and numbers (own).
use Rattle.std.specs.Int.{w128, from_be_bytes}
use Rattle.std.specs.List.{AllByRecursion}
use Rattle.std.specs.Prelude.{◌≡◌, ◌≢◌, ◌⊎◌, ◌≤◌, ◌+◌, ◌-◌, ◌*◌, ◌/◌, ◌^◌, ℕ, Bool, true, false, List, [], Option}
use Rattle.std.specs.Prelude.{Some, None, map}
use Rattle.rpki_blocks.specs.Resources.{Resources, missing, inherit}
use Rattle.rpki_blocks.specs.Sets.{Block, between}
use Rattle.rpki_blocks.specs.Unions.{IsUnion}
use Rattle.rpki_der.specs.Times.{IsMoment}
use Rattle.rpki_keys.specs.KeyForms.{IsUsableKey}
use Rattle.rpki_parts.specs.Keys.{KeyFields, IsPublicKey}
use Rattle.rpki_issuing.specs.ValueTexts.{IsAllowedSerial, IsHttpsText, IsRsyncText}
use Rattle.rpki_issuing.specs.declared.wanted.wanted.Numbers.{Numbers}
use Rattle.rpki_issuing.specs.declared.wanted.wanted.Places.{Places}
use Rattle.rpki_issuing.specs.declared.wanted.wanted.Wanted.{Wanted}
use Rattle.rpki_c.specs.Questions.{HasTerms, kind_number}
use Rattle.rpki_c.specs.TimeParts.{moment_of_parts}
use Rattle.rpki_c.specs.declared.completing.CompletionTerms.{CompletionTerms}
use Rattle.rpki_c.specs.declared.completing.RpkiCompletion.{RpkiCompletion}
use Rattle.rpki_c.specs.declared.copying.RpkiAsRange.{RpkiAsRange}
use Rattle.rpki_c.specs.declared.copying.RpkiIpRange.{RpkiIpRange}
use Rattle.rpki_c.specs.declared.wanted.RpkiUris.{RpkiUris}
use Rattle.rpki_c.specs.declared.wanted.RpkiWanted.{RpkiWanted}
use Rattle.rpki_c.specs.declared.wanted.WantedTerms.{WantedTerms}

-- how many octets a wanted certificate has in the caller's memory
abbrev pub wanted_size : ℕ
wanted_size = 360

-- the number of the policy: overclaimed resources are refused, or trimmed (RFC 8360)
abbrev pub trim_number : Bool → ℕ
trim_number false = 0
trim_number true = 1

-- the certificate is prepared so
pub record HasWantedTerms (w : RpkiWanted) (t : WantedTerms) : Type 0 where
  pub size_is : w.size ≡ wanted_size
  pub kind_is : w.kind ≡ kind_number t.kind
  pub policy_is : w.overclaim ≡ trim_number t.trims
  pub path_is : HasTerms w.issuer t.asked
  pub begin_is : t.not_before ≡ moment_of_parts w.not_before
  pub begin_exists : IsMoment t.not_before
  pub end_is : t.not_after ≡ moment_of_parts w.not_after
  pub end_exists : IsMoment t.not_after

-- no kind, policy, moment or path has its numbers, or it is a struct of another size
abbrev pub HasNoWantedTerms : RpkiWanted → Type 0
HasNoWantedTerms w = (t : WantedTerms) → HasWantedTerms w t → ⊥

-- ---- resources

-- the first address of 128 bits that begins with the first 32 bits of this one, and the last
abbrev pub first_v4 : ℕ → ℕ
first_v4 n = n / 2 ^ 96 * 2 ^ 96

abbrev pub last_v4 : ℕ → ℕ
last_v4 n = n / 2 ^ 96 * 2 ^ 96 + (2 ^ 96 - 1)

-- the addresses from the first to the last; of IPv4 the first four octets count
abbrev pub v4_span : RpkiIpRange → Block
v4_span it = between (first_v4 (from_be_bytes w128 it.min)) (last_v4 (from_be_bytes w128 it.max))

abbrev pub v6_span : RpkiIpRange → Block
v6_span it = between (from_be_bytes w128 it.min) (from_be_bytes w128 it.max)

abbrev pub as_span : RpkiAsRange → Block
as_span it = between it.min it.max

-- none ends before it begins
abbrev pub AreOrdered : List Block → Type 0
AreOrdered bs = AllByRecursion (λ b. b.min ≤ b.max) bs

abbrev pub AreBlocks : List Block → List Block → Type 0
AreBlocks spans bs = (bs ≡ spans) × AreOrdered bs

-- what is listed of a kind of numbers, by the number of a state: nothing; what the issuer has; or
-- the numbers of these blocks, in any order
abbrev pub AreResourcesGiven : ℕ → List Block → Resources → Type 0
AreResourcesGiven state bs r =
    ((state ≡ 0) × (bs ≡ []) × (r ≡ missing))
    ⊎ ((state ≡ 1) × (bs ≡ []) × (r ≡ inherit))
    ⊎ ((state ≡ 2) × (bs ≢ []) × AreOrdered bs × IsUnion bs r)

pub record GivesWantedNumbers (w : RpkiWanted) (numbers : Numbers) : Type 0 where
  pub v4_is : AreResourcesGiven w.v4.state (map v4_span w.v4.ranges.now) numbers.v4
  pub v6_is : AreResourcesGiven w.v6.state (map v6_span w.v6.ranges.now) numbers.v6
  pub systems_is : AreResourcesGiven w.asn.state (map as_span w.asn.ranges.now) numbers.systems

-- ---- URIs

-- where there are no octets, there is none
abbrev pub IsUriGiven : {V : Type 0} → (V → List ℕ → Type 0) → List ℕ → Option V → Type 0
IsUriGiven IsText octets None = octets ≡ []
IsUriGiven IsText octets (Some uri) = IsText uri octets

pub record GivesWantedUris (uris : RpkiUris) (places : Places) : Type 0 where
  pub repository_is : IsUriGiven IsRsyncText uris.repository.now places.repository
  pub manifest_is : IsUriGiven IsRsyncText uris.manifest.now places.manifest
  pub object_is : IsUriGiven IsRsyncText uris.signed_object.now places.object
  pub notify_is : IsUriGiven IsHttpsText uris.notify.now places.notify
  pub issuer_is : IsUriGiven IsRsyncText uris.ca_issuer.now places.issuer
  pub list_is : IsUriGiven IsRsyncText uris.crl.now places.list

-- ---- the whole

-- the values of the certificate that is wanted
pub record GivesWantedValues (w : RpkiWanted) (t : WantedTerms) (it : Wanted) : Type 0 where
  pub serial_is : IsAllowedSerial it.serial w.serial
  pub begin_is : it.not_before ≡ t.not_before
  pub end_is : it.not_after ≡ t.not_after
  pub numbers_are : GivesWantedNumbers w it.numbers
  pub places_are : GivesWantedUris w.uris it.places

-- the octets are the SubjectPublicKeyInfo of a key that the RPKI uses
pub record IsKeyGiven (octets : List ℕ) (key : KeyFields) : Type 0 where
  pub is_key : IsPublicKey key octets
  pub usable : IsUsableKey key

-- ---- completion

-- how many octets a completion has in the caller's memory
abbrev pub completion_size : ℕ
completion_size = 168

-- the certificate is completed so
pub record HasCompletionTerms (c : RpkiCompletion) (t : CompletionTerms) : Type 0 where
  pub size_is : c.size ≡ completion_size
  pub kind_is : c.kind ≡ kind_number t.kind
  pub path_is : HasTerms c.issuer t.asked

-- no kind or path has its numbers, or it is a struct of another size
abbrev pub HasNoCompletionTerms : RpkiCompletion → Type 0
HasNoCompletionTerms c = (t : CompletionTerms) → HasCompletionTerms c t → ⊥
