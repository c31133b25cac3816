-- What refusals tell of options, of the key, of the list before, of what is revoked and of what is
-- completed, and that it is so (own).
use Rattle.std.specs.List.{AllZip}
use Rattle.std.specs.Prelude.{◌≡◌, ◌⊎◌, ◌<◌, ℕ, List, [], ◌∷◌, get_or, length, take, Option}
use Rattle.rpki_cert.specs.Certificates.{TbsFields, IsTbsCertificate}
use Rattle.rpki_keys.specs.KeyForms.{IsUsableKey}
use Rattle.rpki_parts.specs.Keys.{KeyFields, IsPublicKey}
use Rattle.rpki_crl.specs.Lists.{CrlFields}
use Rattle.rpki_blocks.specs.Resources.{Resources}
use Rattle.rpki_der.specs.Times.{Moment}
use Rattle.rpki_issuing.specs.BlockTexts.{AreListed, IsAddressesText, IsAsText}
use Rattle.rpki_issuing.specs.ValueTexts.{IsHttpsText, IsRsyncText, IsSerialText}
use Rattle.rpki_issuing.specs.declared.values.families.Family.TheVariants.{V4, V6}
use Rattle.rpki_issuing.specs.declared.wanted.preparing.WantedError.{WantedError}
use Rattle.rpki_requests.specs.OptionValues.{IsMomentSaid, SaysAtMostOnce, SaysOnce}
use Rattle.rpki_requests.specs.RequestFiles.{IsPreviousOf, IsRevokedFile}
use Rattle.rpki_requests.specs.RequestWords.{OptionFields, given_values}
use Rattle.rpki_requests.specs.declared.refusals.Refusal.{Refusal}
use Rattle.rpki_requests.specs.declared.refusals.Refusal.TheVariants.{Value, NoKey, UnusedKey, Rejected}
use Rattle.rpki_requests.specs.declared.refusals.Refusal.TheVariants.{NoAuthority, OtherCrl, OtherList}
use Rattle.rpki_requests.specs.declared.refusals.Refusal.TheVariants.{OtherCertificate, NotToSign, Unfit, Memory}
use Rattle.rpki_requests.specs.declared.words.Setting.{Setting}
use Rattle.rpki_requests.specs.declared.words.Setting.TheVariants.{Serial, From, Until, Ipv4, Ipv6, AsNumbers}
use Rattle.rpki_requests.specs.declared.words.Setting.TheVariants.{Repository, Manifest, Notify, Object, IssuerUri}
use Rattle.rpki_requests.specs.declared.words.Setting.TheVariants.{CrlUri, Number, NextUpdate}

-- ---- an option

-- it is said of this option that it has no value that it takes; or memory ran out
abbrev pub IsValueOf : Setting → Refusal → Type 0
IsValueOf setting (Value other) = other ≡ setting
IsValueOf setting Memory = Unit {0}
IsValueOf setting _ = ⊥

-- where a certificate is prepared, the option is given what it takes: one value, several or none
abbrev pub HasOptionValue : List OptionFields → Setting → Type 0
HasOptionValue given Serial = (n : ℕ) × SaysOnce IsSerialText (given_values Serial given) n
HasOptionValue given From = (m : Moment) × SaysOnce IsMomentSaid (given_values From given) m
HasOptionValue given Until = (m : Moment) × SaysOnce IsMomentSaid (given_values Until given) m
HasOptionValue given Ipv4 = (r : Resources) × AreListed (IsAddressesText V4) r (given_values Ipv4 given)
HasOptionValue given Ipv6 = (r : Resources) × AreListed (IsAddressesText V6) r (given_values Ipv6 given)
HasOptionValue given AsNumbers = (r : Resources) × AreListed IsAsText r (given_values AsNumbers given)
HasOptionValue given Repository =
    (uri : Option (List ℕ)) × SaysAtMostOnce IsRsyncText (given_values Repository given) uri
HasOptionValue given Manifest =
    (uri : Option (List ℕ)) × SaysAtMostOnce IsRsyncText (given_values Manifest given) uri
HasOptionValue given Object =
    (uri : Option (List ℕ)) × SaysAtMostOnce IsRsyncText (given_values Object given) uri
HasOptionValue given Notify =
    (uri : Option (List ℕ)) × SaysAtMostOnce IsHttpsText (given_values Notify given) uri
HasOptionValue given IssuerUri =
    (uri : Option (List ℕ)) × SaysAtMostOnce IsRsyncText (given_values IssuerUri given) uri
HasOptionValue given CrlUri =
    (uri : Option (List ℕ)) × SaysAtMostOnce IsRsyncText (given_values CrlUri given) uri
HasOptionValue given _ = Unit {0}

-- where a list is prepared, so it is of a list's options
abbrev pub HasListValue : List OptionFields → Setting → Type 0
HasListValue given Number =
    (n : Option ℕ) × SaysAtMostOnce IsSerialText (given_values Number given) n
HasListValue given NextUpdate = (m : Moment) × SaysOnce IsMomentSaid (given_values NextUpdate given) m
HasListValue given Serial = (ns : List ℕ) × AllZip IsSerialText ns (given_values Serial given)
HasListValue given _ = Unit {0}

-- the option of which it is said has none; or memory ran out
abbrev pub IsUnsaid : (Setting → Type 0) → Refusal → Type 0
IsUnsaid Has (Value setting) = Has setting → ⊥
IsUnsaid Has Memory = Unit {0}
IsUnsaid Has _ = ⊥

-- so it is where a certificate is prepared
abbrev pub IsOptionRefusal : List OptionFields → Refusal → Type 0
IsOptionRefusal given = IsUnsaid (HasOptionValue given)

-- ---- the key

-- it is said that octets are no key; or memory ran out
abbrev pub IsUnreadKey : Refusal → Type 0
IsUnreadKey NoKey = Unit {0}
IsUnreadKey Memory = Unit {0}
IsUnreadKey _ = ⊥

-- the files aren't one key; or they are this one, of this format, which the RPKI doesn't use; or
-- memory ran out
abbrev pub IsKeyFault : List (List ℕ) → Refusal → Type 0
IsKeyFault files NoKey =
    (octets : List ℕ) (key : KeyFields) → files ≡ octets ∷ [] → IsPublicKey key octets → ⊥
IsKeyFault files (UnusedKey format) =
    (octets : List ℕ) × (key : KeyFields) × (files ≡ octets ∷ []) × IsPublicKey key octets
    × (key.format ≡ format) × (IsUsableKey key → ⊥)
IsKeyFault files Memory = Unit {0}
IsKeyFault files _ = ⊥

-- ---- the issuer's path

-- it speaks of the issuer's path, or of the lists that this is judged with; or memory ran out
abbrev pub IsOfPath : Refusal → Type 0
IsOfPath (Rejected fault) = Unit {0}
IsOfPath NoAuthority = Unit {0}
IsOfPath (OtherCrl place) = Unit {0}
IsOfPath Memory = Unit {0}
IsOfPath _ = ⊥

-- ---- the list before, and what is revoked

-- there are files, but not one list that the issuer's key signed, and of that it speaks
abbrev pub IsOtherList : TbsFields → List (List ℕ) → Refusal → Type 0
IsOtherList issuer files why =
    (why ≡ OtherList) × ((list : Option CrlFields) → IsPreviousOf issuer files list → ⊥)

-- the file at this place isn't a certificate that names the issuer's key, and those before it are
pub record IsFirstOther (issuer : TbsFields) (files : List (List ℕ)) (place : ℕ) : Type 0 where
  pub low : place < length files
  pub before : List ℕ
  pub before_are : AllZip (IsRevokedFile issuer) before (take place files)
  pub other : (serial : ℕ) → IsRevokedFile issuer serial (get_or files place []) → ⊥

-- memory ran out; or it speaks of the first file that isn't such a certificate
abbrev pub IsOtherFile : TbsFields → List (List ℕ) → Refusal → Type 0
IsOtherFile issuer files why =
    (why ≡ Memory)
    ⊎ ((place : ℕ) × (why ≡ OtherCertificate place) × IsFirstOther issuer files place)

-- it speaks of an option of the list that is wanted, or of what is revoked
abbrev pub IsWantedFault : List OptionFields → List (List ℕ) → TbsFields → Refusal → Type 0
IsWantedFault given files issuer why =
    IsUnsaid (HasListValue given) why ⊎ IsOtherFile issuer files why

-- ---- what isn't ready, or isn't signed

-- memory ran out; or it says why nothing is prepared or completed, and that is so
abbrev pub IsUnfit : (WantedError → Type 0) → Refusal → Type 0
IsUnfit Is why = (why ≡ Memory) ⊎ ((e : WantedError) × (why ≡ Unfit e) × Is e)

-- ---- what is completed

-- the octets aren't a TBSCertificate; or they are one, of a key of this format, which the RPKI
-- doesn't use; or memory ran out
abbrev pub IsDataFault : List ℕ → Refusal → Type 0
IsDataFault octets NotToSign = (f : TbsFields) → IsTbsCertificate f octets → ⊥
IsDataFault octets (UnusedKey format) =
    (f : TbsFields) × IsTbsCertificate f octets × (f.key.format ≡ format)
    × (IsUsableKey f.key → ⊥)
IsDataFault octets Memory = Unit {0}
IsDataFault octets _ = ⊥
