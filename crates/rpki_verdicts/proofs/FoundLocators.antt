-- The locator whose key a certificate has, and the files that are given as locators.
use Rattle.std.specs.Prelude.{All, IsOkAnd, Option, Some, None, is_none, Result, Ok, Err}
use Rattle.std.proofs.Common.{◌≡◌, ◌≢◌, ◌↔◌, ℕ, Bool, true, false, List, [], ◌∷◌, length, refl, sym, ap, ◌∙◌}
use Rattle.std.proofs.lemmas.Bool.{true≢false, false≢true}
use Rattle.rpki_cert.specs.Certificates.{CertFields, IsCertificate}
use Rattle.rpki_der.specs.Encoding.{Means}
use Rattle.rpki_path.specs.LocatedPaths.{BeginsWithNumbers, IsLocatorOf}
use Rattle.rpki_keys.specs.Locators.{IsLocator, NamedTal, TalFields}
use Rattle.rpki_keys.specs.declared.tal.tal_error.TalError.{TalError}
use Rattle.rpki_der.specs.Values.{IsUnambiguous}
use Rattle.rpki_files.specs.Contents.{BeginsWithCertificate}
use Rattle.rpki_files.specs.Files.{FileFields}
use Rattle.rpki_der.proofs.Formats.{one_meant}
use Rattle.rpki_files.specs.LocatorFiles.{IsReadAs}
use Rattle.rpki_verdicts.specs.GivenLocators.{LocatorFields, locator_files, locator_octets, IsRead, HasKeyRead}
use Rattle.rpki_verdicts.specs.GivenLocators.{HasNumbersIf, IsLocated, IsFirstThat}
use Rattle.rpki_verdicts.proofs.FirstItems.{any_there, first_image}
use Rattle.rpki_verdicts.proofs.ReadLocators.{read_at}

-- a file is at most one locator
abbrev pub IsOneLocator : Type 0
IsOneLocator = (strict other : Bool) (t u : TalFields) (file : List ℕ) → IsLocator strict t file → IsLocator other u file → t ≡ u

module _ (one_certificate : IsUnambiguous IsCertificate) (one_locator : IsOneLocator) (strict : Bool)
    (anchor : List ℕ) (cert : CertFields) (begins : Means IsCertificate cert anchor) where
  -- what was read of a file has the certificate's key exactly where the file is the locator of it
  read_key : (octets : List ℕ) (r : Result NamedTal TalError) → IsReadAs strict octets r →
      IsOkAnd r (λ t. cert.fields.key ≡ t.tal.key) ↔ IsLocatorOf strict anchor octets
  read_key octets (Ok t) is = (
    (λ key. record { locator = t.tal; locator_is = is; begins = record { cert = cert; begins = begins; key_is = key } }),
    (λ h.
        let b = h.begins in
        let certs : b.cert ≡ cert = one_meant IsCertificate one_certificate b.cert cert anchor b.begins begins in
        let tals : h.locator ≡ t.tal = one_locator strict strict h.locator t.tal octets h.locator_is is in
        sym (ap (λ (c : CertFields). c.fields.key) certs) ∙ b.key_is ∙ ap (λ (u : TalFields). u.key) tals),
  )
  read_key octets (Err e) is = ((λ key. absurd key), (λ h. absurd (is.2 (h.locator, h.locator_is))))

  module _ (locators : List LocatorFields) (read : All (IsRead strict) locators) where
    -- the first that was read with its key is the first that is the trust anchor's locator
    pub first_locator : (o : Option ℕ) → IsFirstThat (HasKeyRead cert.fields.key) locators o →
        IsFirstThat (IsLocatorOf strict anchor) (locator_octets locators) o
    first_locator o h =
        let by_file = λ (file : FileFields). IsLocatorOf strict anchor file.octets in
        first_image by_file (IsLocatorOf strict anchor) (λ (file : FileFields). file.octets) (locator_files locators)
        (λ k file is. ((λ h. h), (λ h. h))) o
        (first_image (HasKeyRead cert.fields.key) by_file (λ (l : LocatorFields). l.file) locators
        (λ k l is. read_key l.file.octets l.read (read_at strict locators read k l is)) o h)

-- of octets that begin with no certificate there is no locator
pub none_of_other : (strict : Bool) (anchor : List ℕ) (files : List (List ℕ)) → (BeginsWithCertificate anchor → ⊥) →
    IsFirstThat (IsLocatorOf strict anchor) files None
none_of_other strict anchor files none = λ any. let h = any.4 in none (h.begins.cert, h.begins.begins)

-- a locator that is found is one of the files
located : (strict : Bool) (anchor : List ℕ) (files : List (List ℕ)) (place : ℕ) →
    IsFirstThat (IsLocatorOf strict anchor) files (Some place) → IsLocated strict files anchor
located strict anchor [] place h = tt
located strict anchor (file ∷ files) place h = any_there (IsLocatorOf strict anchor) (file ∷ files) place h.0 h.1 h.2

-- where none is found and some are given, the trust anchor is of none
not_located : (strict : Bool) (anchor : List ℕ) (files : List (List ℕ)) → files ≢ [] →
    IsFirstThat (IsLocatorOf strict anchor) files None → IsLocated strict files anchor → ⊥
not_located strict anchor [] some none h = some refl
not_located strict anchor (file ∷ files) some none h = none h

-- by whether one is found
pub found_located : (strict : Bool) (anchor : List ℕ) (files : List (List ℕ)) (o : Option ℕ) →
    IsFirstThat (IsLocatorOf strict anchor) files o → is_none o ≡ false → IsLocated strict files anchor
found_located strict anchor files None h some = absurd (true≢false some)
found_located strict anchor files (Some place) h some = located strict anchor files place h

pub never_located : (strict : Bool) (anchor : List ℕ) (files : List (List ℕ)) (o : Option ℕ) → files ≢ [] →
    IsFirstThat (IsLocatorOf strict anchor) files o → is_none o ≡ true → IsLocated strict files anchor → ⊥
never_located strict anchor files None some h none = not_located strict anchor files some h
never_located strict anchor files (Some place) some h none = absurd (false≢true none)

-- files that are given have octets
pub some_octets : (locators : List LocatorFields) → (length locators ≡ 0 → ⊥) → locator_octets locators ≢ []
some_octets [] some = absurd (some refl)
some_octets (l ∷ ls) some = λ e. cc

-- a trust anchor that lists a number
pub numbers_if : (anchor : List ℕ) (files : List (List ℕ)) → BeginsWithNumbers anchor → HasNumbersIf files anchor
numbers_if anchor [] has = tt
numbers_if anchor (file ∷ files) has = has

-- where no locators are given, that isn't asked
pub unasked_numbers : (anchor : List ℕ) (files : List (List ℕ)) → files ≡ [] → HasNumbersIf files anchor
unasked_numbers anchor [] is = tt
unasked_numbers anchor (file ∷ files) is = absurd cc

-- where none are given, none is asked for
pub unasked : (strict : Bool) (anchor : List ℕ) (files : List (List ℕ)) → files ≡ [] → IsLocated strict files anchor
unasked strict anchor [] is = tt
unasked strict anchor (file ∷ files) is = absurd cc
