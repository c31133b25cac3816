-- Lists as a caller gives them: which of them is asked of a certificate below its issuer, and what
-- (RFC 6487 5, 7.2, RFC 5280 6.3.3). Their order says nothing. Whether the issuer's name of a list
-- is compared too is the caller's to say (own), as of the names of certificates (NameChains).
use Rattle.std.specs.Prelude.{◌≡◌, ◌⊎◌, ◌↔◌, ◌<◌, Bool, true, false, List, Any, Some, Result, Ok, Err, Contains, IsTrue}
use Rattle.rpki_der.specs.Times.{Moment, second_number}
use Rattle.rpki_parts.specs.Signatures.{Verifies}
use Rattle.rpki_parts.specs.ValidAt.{IsNotAfter}
use Rattle.rpki_cert.specs.Certificates.{TbsFields, CertFields}
use Rattle.rpki_cert.specs.Verification.{Context, IsSignedBy}
use Rattle.rpki_crl.specs.Lists.{CrlFields, CrlState}
use Rattle.rpki_crl.specs.RevokedEntries.{IsRevoked}
use Rattle.rpki_crl.specs.Revocation.{ListCheck, RevocationCheck}
use Rattle.rpki_crl.specs.declared.revocation_error.RevocationError.{RevocationError}
use Rattle.rpki_crl.specs.declared.revocation_error.RevocationError.TheVariants.{NoCrl, Stale, Revoked, WrongIssuer}
use Rattle.rpki_path.specs.Asking.{RevocationChecks}
pub mod Steps

-- what a contract sees of lists that are given, and whether names are asked
pub record GivenFields : Type 0 where
  pub lists : List CrlState
  pub names : Bool

-- ---- one list and one certificate

-- the certificate names the key that signs it, and the list names that key (RFC 5280 5.2.1)
abbrev pub IsFor : CertFields → CrlState → Type 0
IsFor c l =
    c.fields.extensions.authority_key_identifier
    ≡ Some l.list.fields.extensions.authority_key_identifier

-- the list's issuer is the subject of the certificate whose key has to have signed it (RFC 5280 6.3.3
-- (b) (1), 5.1.2.3); names are compared octet by octet, as by NameChains (own)
abbrev pub IsNamedBy : TbsFields → CrlFields → Type 0
IsNamedBy issuer list = list.fields.issuer ≡ issuer.subject

-- the list is for the certificate, and has the issuer's name, if names are asked
abbrev pub IsForBelow : Bool → TbsFields → CertFields → CrlState → Type 0
IsForBelow false issuer c l = IsFor c l
IsForBelow true issuer c l = IsFor c l × IsNamedBy issuer l.list

-- the time of the list has begun: its thisUpdate is neither after the moment nor after its own
-- nextUpdate (RFC 5280 5.1.2.4, 5.1.2.5, 6.3.3)
abbrev pub HasBegun : Moment → CrlFields → Type 0
HasBegun now list =
    IsNotAfter list.fields.this_update now
    × IsNotAfter list.fields.this_update list.fields.next_update

-- the list can be asked of the certificate below the issuer: it is for the certificate, with the
-- issuer's name if names are asked, the issuer's key signed it, and its time has begun
abbrev pub IsEligibleNamed : Bool → Verifies → Moment → TbsFields → CertFields → CrlState → Type 0
IsEligibleNamed names verifies now issuer c l =
    IsForBelow names issuer c l × IsSignedBy verifies issuer.key l.list.signed_data
    × HasBegun now l.list

-- the same, where no names are asked
abbrev pub IsEligible : Verifies → Moment → TbsFields → CertFields → CrlState → Type 0
IsEligible = IsEligibleNamed false

-- the issuer's key signed the list, which is for the certificate, but the list's issuer isn't the
-- issuer's subject, if names are asked (RFC 5280 6.3.3 (b) (1))
abbrev pub IsMisnamed : Bool → Verifies → TbsFields → CertFields → CrlState → Type 0
IsMisnamed names verifies issuer c l =
    IsTrue names × IsFor c l × IsSignedBy verifies issuer.key l.list.signed_data
    × (IsNamedBy issuer l.list → ⊥)

-- the list has the serial number of the certificate
abbrev pub Revokes : CertFields → CrlState → Type 0
Revokes c l = IsRevoked c.fields.serial l.list.fields.revoked.entries

-- ---- which list takes the place of which

-- its thisUpdate is later than the other's; or they are equal, and its nextUpdate is later
abbrev pub IsLater : CrlState → CrlState → Type 0
IsLater l other =
    (second_number other.list.fields.this_update < second_number l.list.fields.this_update)
    ⊎ ((second_number l.list.fields.this_update ≡ second_number other.list.fields.this_update)
    × (second_number other.list.fields.next_update < second_number l.list.fields.next_update))

-- of two lists of one number, which RFC 5280 5.2.3 forbids: it revokes the certificate and the
-- other doesn't; or both do or both don't, and it is later (own: a list that revokes the
-- certificate is never hidden)
abbrev pub SupersedesEqual : CertFields → CrlState → CrlState → Type 0
SupersedesEqual c l other =
    (Revokes c l × (Revokes c other → ⊥))
    ⊎ ((Revokes c l ↔ Revokes c other) × IsLater l other)

-- the list takes the place of the other: it has the greater number (RFC 6487 5), or as told of
-- equal numbers
abbrev pub Supersedes : CertFields → CrlState → CrlState → Type 0
Supersedes c l other =
    (other.list.fields.extensions.crl_number < l.list.fields.extensions.crl_number)
    ⊎ ((l.list.fields.extensions.crl_number ≡ other.list.fields.extensions.crl_number)
    × SupersedesEqual c l other)

-- no list has P
abbrev pub HaveNone : (CrlState → Type 0) → List CrlState → Type 0
HaveNone P lists = (l : CrlState) → Contains lists l → P l → ⊥

-- of the lists with P a latest one for the certificate: none of them takes its place. Where there
-- are several, they agree in all that is asked
pub record IsLatest (P : CrlState → Type 0) (c : CertFields) (lists : List CrlState)
    (l : CrlState) : Type 0 where
  pub inside : Contains lists l
  pub has : P l
  pub stays : (other : CrlState) → Contains lists other → P other → Supersedes c other l → ⊥

-- these are the same lists, in whatever order, and however often each is given
abbrev pub AreSameLists : List CrlState → List CrlState → Type 0
AreSameLists lists others = (l : CrlState) → Contains lists l ↔ Contains others l

-- ---- which list is asked, and what

-- The list is asked of the certificate below the issuer: of those that are eligible the latest;
-- where none is, each that is for the certificate, one of which then fails a check (own). A list of
-- another name is none, if names are asked.
abbrev pub IsAskedOf : Bool → Context → List CrlState → TbsFields → CertFields → CrlState → Type 0
IsAskedOf names x lists issuer c l =
    let P = IsEligibleNamed names x.verifies x.now issuer c in
    IsLatest P c lists l ⊎ (HaveNone P lists × Contains lists l × IsForBelow names issuer c l)

-- a list is asked of the certificate
abbrev pub IsOneAsked : Bool → Context → List CrlState → TbsFields → CertFields → Type 0
IsOneAsked names x lists issuer c = (l : CrlState) × IsAskedOf names x lists issuer c l

-- the checks of a certificate with the lists that were given: those of the lists that are asked of
-- it, whose time has also to have begun. Where none is asked, it is the last check that isn't true if
-- the issuer's key signed a list of another name, and else the first (own): so a list of another
-- name is told only where no other is asked
abbrev pub by_named_lists : Bool → Context → List CrlState → RevocationChecks
by_named_lists names x lists issuer c NoCrl =
    IsOneAsked names x lists issuer c
    ⊎ Any (IsMisnamed names x.verifies issuer c) lists
by_named_lists names x lists issuer c WrongIssuer = IsOneAsked names x lists issuer c
by_named_lists names x lists issuer c Stale =
    ((l : CrlState) → IsAskedOf names x lists issuer c l → HasBegun x.now l.list)
    × RevocationCheck x issuer c.fields.serial (IsAskedOf names x lists issuer c) Stale
by_named_lists names x lists issuer c e =
    RevocationCheck x issuer c.fields.serial (IsAskedOf names x lists issuer c) e

-- the same, where no names are asked
abbrev pub by_lists : Context → List CrlState → RevocationChecks
by_lists = by_named_lists false

-- a check that the certificate fails, as the latest list says
abbrev pub FailsBy : Moment → CertFields → CrlState → RevocationError → Type 0
FailsBy now c l Stale = IsNotAfter now l.list.fields.next_update → ⊥
FailsBy now c l Revoked = IsNotAfter now l.list.fields.next_update × Revokes c l
FailsBy now c l e = ⊥

-- what is answered of it as that list says
abbrev pub IsSaidBy : {T : Type 0} → Moment → CertFields → CrlState → Result T RevocationError
    → Type 0
IsSaidBy now c l (Ok v) = IsNotAfter now l.list.fields.next_update × (Revokes c l → ⊥)
IsSaidBy now c l (Err e) = FailsBy now c l e

-- the list leaves the certificate below the issuer unrevoked: it names the issuer's key, that key
-- signed it, it has the issuer's name if names are asked, its time has begun and its next update
-- isn't due, and it doesn't have the serial number
pub record LeavesUnrevoked (names : Bool) (x : Context) (issuer : TbsFields) (c : CertFields)
    (list : CrlFields) : Type 0 where
  pub named : IsTrue names → IsNamedBy issuer list
  pub begun : HasBegun x.now list
  pub checks : (e : RevocationError) → ListCheck x issuer c.fields.serial list e
