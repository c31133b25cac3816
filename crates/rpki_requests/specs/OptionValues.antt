-- What the values of options say: those of the certificate or of the list that is wanted, and the
-- moment (own).
use Rattle.std.specs.List.{AllZip}
use Rattle.std.specs.Prelude.{◌≡◌, ℕ, List, [], ◌∷◌, ◌++◌, map, Option, Some, None}
use Rattle.rpki_cert.specs.Certificates.{TbsFields}
use Rattle.rpki_crl.specs.RevokedEntries.{Entry}
use Rattle.rpki_der.specs.Times.{Moment, IsMoment}
use Rattle.rpki_text.specs.MomentTexts.{IsMomentText}
use Rattle.rpki_issuing.specs.BlockTexts.{AreListed, IsAddressesText, IsAsText}
use Rattle.rpki_issuing.specs.ValueTexts.{IsSerialText, IsRsyncText, IsHttpsText}
use Rattle.rpki_issuing.specs.declared.values.families.Family.TheVariants.{V4, V6}
use Rattle.rpki_issuing.specs.declared.wanted.wanted.Numbers.{Numbers}
use Rattle.rpki_issuing.specs.declared.wanted.wanted.Places.{Places}
use Rattle.rpki_issuing.specs.declared.wanted.wanted.Wanted.{Wanted}
use Rattle.rpki_issuing.specs.WantedLists.{WantedListFields}
use Rattle.rpki_requests.specs.RequestFiles.{IsRevokedFile}
use Rattle.rpki_requests.specs.RequestWords.{OptionFields, given_values}
use Rattle.rpki_requests.specs.declared.words.Setting.TheVariants.{Serial, From, Until, Ipv4, Ipv6, AsNumbers}
use Rattle.rpki_requests.specs.declared.words.Setting.TheVariants.{Repository, Manifest, Notify, Object, IssuerUri}
use Rattle.rpki_requests.specs.declared.words.Setting.TheVariants.{CrlUri, Number, NextUpdate}

-- ---- one option

-- a day and a time of the calendar, in one of its forms
pub record IsMomentSaid (m : Moment) (text : List ℕ) : Type 0 where
  pub is_moment : IsMoment m
  pub text_is : IsMomentText m text

-- no value, or this one alone
abbrev pub given_alone : Option (List ℕ) → List (List ℕ)
given_alone None = []
given_alone (Some text) = text ∷ []

-- one value is given, and it says this
pub record SaysOnce {V : Type 0} (IsText : V → List ℕ → Type 0) (texts : List (List ℕ))
    (v : V) : Type 0 where
  pub text : List ℕ
  pub alone : texts ≡ text ∷ []
  pub says : IsText v text

-- none is given; or one, and it says this
abbrev pub SaysAtMostOnce : {V : Type 0} → (V → List ℕ → Type 0) → List (List ℕ) → Option V → Type 0
SaysAtMostOnce IsText texts None = texts ≡ []
SaysAtMostOnce IsText texts (Some v) = SaysOnce IsText texts v

-- ---- the certificate that is wanted

-- what is listed of each kind of numbers: nothing, blocks, or what the issuer has
pub record GivesNumbers (given : List OptionFields) (numbers : Numbers) : Type 0 where
  pub v4_is : AreListed (IsAddressesText V4) numbers.v4 (given_values Ipv4 given)
  pub v6_is : AreListed (IsAddressesText V6) numbers.v6 (given_values Ipv6 given)
  pub systems_is : AreListed IsAsText numbers.systems (given_values AsNumbers given)

-- the URIs, of which those that aren't given are left out
pub record GivesPlaces (given : List OptionFields) (places : Places) : Type 0 where
  pub repository_is : SaysAtMostOnce IsRsyncText (given_values Repository given) places.repository
  pub manifest_is : SaysAtMostOnce IsRsyncText (given_values Manifest given) places.manifest
  pub object_is : SaysAtMostOnce IsRsyncText (given_values Object given) places.object
  pub notify_is : SaysAtMostOnce IsHttpsText (given_values Notify given) places.notify
  pub issuer_is : SaysAtMostOnce IsRsyncText (given_values IssuerUri given) places.issuer
  pub list_is : SaysAtMostOnce IsRsyncText (given_values CrlUri given) places.list

-- the options say that this is wanted
pub record GivesWanted (given : List OptionFields) (wanted : Wanted) : Type 0 where
  pub serial_is : SaysOnce IsSerialText (given_values Serial given) wanted.serial
  pub from_is : SaysOnce IsMomentSaid (given_values From given) wanted.not_before
  pub until_is : SaysOnce IsMomentSaid (given_values Until given) wanted.not_after
  pub numbers_are : GivesNumbers given wanted.numbers
  pub places_are : GivesPlaces given wanted.places

-- ---- the list that is wanted

-- the serial numbers of what is revoked: of the certificates that the files are, and those that are
-- given as numbers
pub record GivesSerials (given : List OptionFields) (files : List (List ℕ)) (issuer : TbsFields)
    (serials : List ℕ) : Type 0 where
  pub by_files : List ℕ
  pub files_are : AllZip (IsRevokedFile issuer) by_files files
  pub by_numbers : List ℕ
  pub numbers_are : AllZip IsSerialText by_numbers (given_values Serial given)
  pub serials_are : serials ≡ by_files ++ by_numbers

-- an entry that revokes at the moment
abbrev pub revoked_at : Moment → ℕ → Entry
revoked_at at serial = record { serial = serial; date = at }

-- the entries that revoke what options and files name, at the moment
pub record GivesEntries (given : List OptionFields) (files : List (List ℕ)) (issuer : TbsFields)
    (at : Moment) (es : List Entry) : Type 0 where
  pub serials : List ℕ
  pub serials_are : GivesSerials given files issuer serials
  pub entries_are : es ≡ map (revoked_at at) serials

-- options and files say that this is wanted of the issuer's list, which is made and revokes at the
-- moment
pub record GivesList (given : List OptionFields) (files : List (List ℕ)) (issuer : TbsFields)
    (at : Moment) (wanted : WantedListFields) : Type 0 where
  pub number_is : SaysAtMostOnce IsSerialText (given_values Number given) wanted.number
  pub revoked_are : GivesEntries given files issuer at wanted.revoked
  pub this_update_is : wanted.this_update ≡ at
  pub next_update_is : SaysOnce IsMomentSaid (given_values NextUpdate given) wanted.next_update
