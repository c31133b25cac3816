-- What a caller is told of a certificate and of a revocation list (own).
use Rattle.std.specs.Prelude.{◌≡◌, ◌↔◌, ◌⊎◌, ◌+◌, ◌-◌, ◌*◌, ◌^◌, ◌<◌, ◌≤◌, ℕ, true, List, [], ◌∷◌, length, drop, get_or}
use Rattle.std.specs.Prelude.{slice_index_or, slice_range, min, Option, Some, None, replicate}
use Rattle.std.specs.Int.Digits.{number_from_digits}
use Rattle.rpki_der.specs.Encoding.{Begins}
use Rattle.rpki_der.specs.Times.{Moment}
use Rattle.rpki_der.specs.Values.{IsEnc}
use Rattle.rpki_blocks.specs.Resources.{Resources, missing, inherit, blocks}
use Rattle.rpki_blocks.specs.declared.overclaim.Overclaim.{Overclaim}
use Rattle.rpki_blocks.specs.declared.overclaim.Overclaim.TheVariants.{Refuse, Trim}
use Rattle.rpki_ext.specs.declared.key_usage.KeyUsage.{KeyUsage}
use Rattle.rpki_ext.specs.declared.key_usage.KeyUsage.TheVariants.{Ca, Ee}
use Rattle.rpki_ext.specs.Kinds.{Means}
use Rattle.rpki_cert.specs.Certificates.{CertFields, IsCertificate, TbsFields}
use Rattle.rpki_keys.specs.KeyForms.{IsUsableKey}
use Rattle.rpki_parts.specs.Keys.{IsPublicKey}
use Rattle.rpki_crl.specs.Lists.{ListFields}
use Rattle.rpki_crl.specs.RevokedEntries.{Entry, IsRevoked, Revoked}
use Rattle.rpki_c.specs.TimeParts.{moment_of_parts}
use Rattle.rpki_c.specs.Writing.{IsPartAt}
use Rattle.rpki_c.specs.declared.certificates.RpkiCertificate.{RpkiCertificate}
use Rattle.rpki_c.specs.declared.lists.RpkiEntry.{RpkiEntry}
use Rattle.rpki_c.specs.declared.lists.RpkiList.{RpkiList}
use Rattle.rpki_c.specs.declared.moments.RpkiTime.{RpkiTime}
use Rattle.rpki_c.specs.declared.places.RpkiPlaces.{RpkiPlaces}

-- 1 where it is so, and else 0
abbrev pub IsFlag : Type 0 → ℕ → Type 0
IsFlag P n = (P × (n ≡ 1)) ⊎ ((P → ⊥) × (n ≡ 0))

-- the moment of these parts, and no more
abbrev pub IsTimeOf : Moment → RpkiTime → Type 0
IsTimeOf m parts = (m ≡ moment_of_parts parts) × (parts.unused ≡ 0)

-- the number, in octets of which the first is the greatest
abbrev pub IsNumberOf : ℕ → List ℕ → Type 0
IsNumberOf n octets = number_from_digits 256 octets ≡ n

-- how resources of a kind are there
abbrev pub state_number : Resources → ℕ
state_number missing = 0
state_number inherit = 1
state_number (blocks bs) = 2

abbrev pub usage_number : KeyUsage → ℕ
usage_number Ca = 0
usage_number Ee = 1

abbrev pub overclaim_number : Overclaim → ℕ
overclaim_number Refuse = 0
overclaim_number Trim = 1

-- whether there is an identifier
abbrev pub presence_number : Option (List ℕ) → ℕ
presence_number None = 0
presence_number (Some identifier) = 1

-- the identifier, and zeros where there is none
abbrev pub identifier_octets : Option (List ℕ) → List ℕ
identifier_octets None = replicate 20 0
identifier_octets (Some identifier) = identifier

-- the octets begin with a certificate of the key with this SubjectPublicKeyInfo (RFC 5280 4.1.2.7), of
-- which this holds exactly where the RPKI uses it (RFC 7935 3, RFC 8608 3.1)
pub record TellsKey (octets info : List ℕ) (used : Type 0) : Type 0 where
  pub cert : CertFields
  pub begins : Means IsCertificate cert octets
  pub key_is : IsPublicKey cert.fields.key info
  pub used_is : used ↔ IsUsableKey cert.fields.key

-- at the places are the SubjectPublicKeyInfo of the certificate, its TBSCertificate, which is signed,
-- and its signature
pub record ArePlaces (c : CertFields) (octets : List ℕ) (it : RpkiPlaces) : Type 0 where
  pub info : List ℕ
  pub key_is : IsPublicKey c.fields.key info
  pub key : IsPartAt octets it.key_at it.key_length info
  pub message : IsPartAt octets it.message_at it.message_length c.signed_data.message
  pub signature : IsPartAt octets it.signature_at it.signature_length c.signed_data.signature.value

-- they are those of the certificate with which the octets begin
pub record TellsPlaces (octets : List ℕ) (it : RpkiPlaces) : Type 0 where
  pub cert : CertFields
  pub begins : Means IsCertificate cert octets
  pub places : ArePlaces cert octets it

-- the octets are values with these identifier octets, one after the other, and then these
abbrev pub StandInFront : List ℕ → List ℕ → List ℕ → Type 0
StandInFront [] rest octets = octets ≡ rest
StandInFront (tag ∷ tags) rest octets =
    (content : List ℕ) × (after : List ℕ) × Begins (IsEnc tag) octets content after × StandInFront tags rest after

-- the keys and the serial number are those of the fields
pub record TellsKeys (f : TbsFields) (it : RpkiCertificate) : Type 0 where
  pub serial : IsNumberOf f.serial it.serial
  pub subject_key : it.subject_key ≡ f.extensions.subject_key_identifier
  pub has_authority_key : it.has_authority_key ≡ presence_number f.extensions.authority_key_identifier
  pub authority_key : it.authority_key ≡ identifier_octets f.extensions.authority_key_identifier

-- each number is that of its field
pub record TellsCertificate (f : TbsFields) (it : RpkiCertificate) : Type 0 where
  pub keys : TellsKeys f it
  pub not_before : IsTimeOf f.validity.not_before it.not_before
  pub not_after : IsTimeOf f.validity.not_after it.not_after
  pub is_authority : IsFlag (f.extensions.basic_ca ≡ Some true) it.is_authority
  pub key_usage : it.key_usage ≡ usage_number f.extensions.key_usage
  pub overclaim : it.overclaim ≡ overclaim_number f.extensions.overclaim
  pub v4 : it.v4 ≡ state_number f.extensions.v4_resources
  pub v6 : it.v6 ≡ state_number f.extensions.v6_resources
  pub asn : it.asn ≡ state_number f.extensions.as_resources

-- a count, or the greatest number of 64 bits where it is greater
abbrev pub told_count : ℕ → ℕ
told_count count = min count (2 ^ 64 - 1)

-- each number is that of its field, and the entries are counted
pub record TellsList (f : ListFields Revoked) (it : RpkiList) : Type 0 where
  pub this_update : IsTimeOf f.this_update it.this_update
  pub next_update : IsTimeOf f.next_update it.next_update
  pub entries : it.entries ≡ told_count (length f.revoked.entries)
  pub number : IsNumberOf f.extensions.crl_number it.number
  pub authority_key : it.authority_key ≡ f.extensions.authority_key_identifier

-- each number is that of its field
pub record TellsEntry (e : Entry) (it : RpkiEntry) : Type 0 where
  pub serial : IsNumberOf e.serial it.serial
  pub date : IsTimeOf e.date it.date

-- each entry for which there is room is told at its place, and behind them stands what stood there
-- before
pub record AreEntriesPut (entries : List Entry) (old new : List RpkiEntry) : Type 0 where
  pub told : (i : ℕ) (e : Entry) (it : RpkiEntry) → i < length entries → i < length new
      → TellsEntry (slice_index_or entries i e) (slice_index_or new i it)
  pub kept : drop (length entries) new ≡ drop (length entries) old
  pub room : length new ≡ length old

-- the serial number at this place: 20 octets, of which the first is the greatest
abbrev pub serial_in : List ℕ → ℕ → ℕ
serial_in serials i = number_from_digits 256 (slice_range serials (20 * i) (20 * i + 20))

-- each answer is 1 where these entries have the serial number at its place, and else 0
abbrev pub AreTold : List Entry → List ℕ → List ℕ → Type 0
AreTold entries serials answers =
    (i : ℕ) → i < length answers → IsFlag (IsRevoked (serial_in serials i) entries) (get_or answers i 0)

-- each answer is 0 or 1
abbrev pub AreFlags : List ℕ → Type 0
AreFlags answers = (i : ℕ) → i < length answers → get_or answers i 0 ≤ 1
