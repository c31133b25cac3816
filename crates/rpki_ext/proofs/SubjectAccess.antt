-- Subject Information Access is read as it is encoded, and what is written of it encodes it.
use Rattle.std.specs.Prelude.{bytes_eq, IfSome, ◌||◌, is_some, false}
use Rattle.std.specs.List.{flat_map, AllByRecursion}
use Rattle.std.proofs.Common.{ℕ, ◌<◌, ◌≤◌, List, Option, ◌≡◌, Some, refl, cond, ap, ◌∙◌, inl, inr, None, sym, arith}
use Rattle.std.proofs.Common.{◌≢◌, ◌++◌, subst, [], true, ◌∷◌, length}
use Rattle.std.proofs.lemmas.Bool.{cases_Bool}
use Rattle.std.proofs.lemmas.Slice.Eq.{bytes_eq-Decides}
use Rattle.std.proofs.lemmas.List.{append-nil}
use Rattle.std.proofs.lemmas.Option.{IfSome_then}
use Rattle.rpki_der.specs.BasicFormats.{object_identifier}
use Rattle.rpki_der.specs.Tags.{SEQUENCE}
use Rattle.rpki_der.specs.Sequences.{IsFirstOf}
use Rattle.rpki_der.specs.Sequences.Reading.{Shrinks}
use Rattle.rpki_der.specs.Values.{AreOctets}
use Rattle.rpki_der.specs.Skipping.{levels}
use Rattle.rpki_der.specs.Skipping.Reading.{skip_all_of}
use Rattle.rpki_der.specs.Reading.{at_end, ReadsWhole}
use Rattle.rpki_der.specs.Folding.{first_fold, IsLawful, over, IsFolded}
use Rattle.rpki_der.proofs.FormatAnswers.{IsAlone, alone_reads}
use Rattle.rpki_der.proofs.Octets.{some_is, nothing, bind_some, some, both_are}
use Rattle.rpki_der.proofs.Readings.{ended_some}
use Rattle.rpki_der.proofs.SkippingReads.{skip_all_reads}
use Rattle.rpki_der.proofs.Folding.{first_law, beside_law, over_reads}
use Rattle.rpki_der.proofs.ValueWritten.{Short}
use Rattle.rpki_der.proofs.WrittenOctets.{IfShort}
use Rattle.rpki_parts.specs.Uris.Tests.{is_rsync, is_https}
use Rattle.rpki_parts.specs.Uris.{IsRsync, IsHttps, ArePrintable}
use Rattle.rpki_parts.proofs.UriTests.{rsync_decides, https_decides}
use Rattle.rpki_ext.specs.declared.subject_access.AccessMethod.{AccessMethod}
use Rattle.rpki_ext.specs.CertificateExtensions.{no_access}
use Rattle.rpki_ext.specs.SubjectAccess.{Access, AreDescriptionsWithin, Description, GiveAccess, HasUri, HasUris}
use Rattle.rpki_ext.specs.SubjectAccess.{IsDescription, IsLocationWithin, access_fold, access_made, access_of}
use Rattle.rpki_ext.specs.SubjectAccess.{description_format, description_if, descriptions, has_uri, location_by}
use Rattle.rpki_ext.specs.SubjectAccess.{location_of, method_identifier, method_of, subject_information_access_format}
use Rattle.rpki_ext.specs.SubjectAccess.{uri_under, uris_of, written_all, written_method, written_uri}
use Rattle.rpki_ext.specs.declared.subject_access.AccessMethod.TheVariants.{CaRepository, RpkiManifest, SignedObject, RpkiNotify}
use Rattle.rpki_ext.specs.GeneralNames.{uri_format, rsync_of, https_of}
use Rattle.rpki_der.proofs.FormatLaws.{values_made, values_octets, some_octet, some_texts}
use Rattle.rpki_der.proofs.FormatChoices.{primitive_lawful}
use Rattle.rpki_ext.proofs.Contents.{constant_oid, sequence_by_lawful}
use Rattle.rpki_ext.proofs.GeneralNames.{text_is, text_was, uri_alone, uri_fits}

-- ---- methods

-- the identifier of a method names it
pub method_again : (m : AccessMethod) → method_of (method_identifier m) ≡ Some m
method_again CaRepository = refl
method_again RpkiManifest = refl
method_again SignedObject = refl
method_again RpkiNotify = refl

-- the first of four identifiers, or none
abbrev named : List ℕ → AccessMethod → Option AccessMethod → Option AccessMethod
named id m other = cond (bytes_eq id (method_identifier m)) (Some m) other

named_is : (id : List ℕ) (m : AccessMethod) (other : Option AccessMethod) (n : AccessMethod) →
    (other ≡ Some n → id ≡ method_identifier n) → named id m other ≡ Some n → id ≡ method_identifier n
named_is id m other n later e =
    elim (cases_Bool (bytes_eq id (method_identifier m))) [
      | inl y ↦ (bytes_eq-Decides id (method_identifier m)).0 y ∙ ap method_identifier (some_is m n (rw y at e))
      | inr k ↦ later (rw k at e)
    ]

-- a method that is named has this identifier
pub method_is : (id : List ℕ) (m : AccessMethod) → method_of id ≡ Some m → id ≡ method_identifier m
method_is id m e =
    named_is id CaRepository _ m
    (named_is id RpkiManifest _ m
    (named_is id SignedObject _ m (named_is id RpkiNotify None m (λ n. nothing m n)))) e

-- methods with one identifier are one
pub one_method : (m n : AccessMethod) → method_identifier m ≡ method_identifier n → m ≡ n
one_method m n e = some_is m n (sym (method_again m) ∙ ap method_of e ∙ method_again n)

method_fits : (m : AccessMethod) → object_identifier.fits (method_identifier m)
method_fits CaRepository = constant_oid (method_identifier CaRepository) refl refl
method_fits RpkiManifest = constant_oid (method_identifier RpkiManifest) refl refl
method_fits SignedObject = constant_oid (method_identifier SignedObject) refl refl
method_fits RpkiNotify = constant_oid (method_identifier RpkiNotify) refl refl

unknown_method : (id : List ℕ) → ((m : AccessMethod) → id ≢ method_identifier m) → (r : Option AccessMethod) → method_of id ≡ r → r ≡ None
unknown_method id h None e = refl
unknown_method id h (Some m) e = absurd (h m (method_is id m e))

-- ---- descriptions

location_takes : (id rest : List ℕ) (r : Option AccessMethod) (d : Description) → method_of id ≡ r → AreOctets rest →
    location_by r rest ≡ Some d → IsLocationWithin levels id d rest
location_takes id rest (Some m) d is low e =
    let a = bind_some (uri_format.read rest) (λ uri. at_end uri.1 (some {A = AccessMethod × List ℕ} (m, uri.0))) d e in
    let g = ended_some a.0.1 (some {A = AccessMethod × List ℕ} (m, a.0.0)) d a.2 in
    let one = (alone_reads uri_format uri_alone).takes rest a.0.0 a.0.1 low a.1 in
    let used : one.text ≡ rest = sym (append-nil one.text) ∙ sym (ap (λ (r : List ℕ). one.text ++ r) g.0) ∙ sym one.parts in
    subst (λ (x : Description). IsLocationWithin levels id x rest) g.1
    (method_is id m is, subst (λ (t : List ℕ). uri_format.encodes a.0.0 t) used one.encoded)
location_takes id rest None d is low e =
    let a = bind_some (skip_all_of rest) (λ u. some {A = Description} None) d e in
    subst (λ (x : Description). IsLocationWithin levels id x rest) (some_is {A = Description} None d a.2) (
      (λ m same. nothing {B = ⊥} m (sym is ∙ ap method_of same ∙ method_again m)),
      skip_all_reads.takes rest a.0 low a.1,
    )

location_again : (id : List ℕ) (d : Description) (rest : List ℕ) → IsLocationWithin levels id d rest → location_of id rest ≡ Some d
location_again id (Some (m, uri)) rest s =
    let whole : uri_format.read rest ≡ some {A = List ℕ × List ℕ} (uri, []) =
    ap uri_format.read (sym (append-nil rest)) ∙ (alone_reads uri_format uri_alone).again uri rest [] s.1 in
    rw (s.0, method_again m, whole) refl
location_again id None rest s = rw (unknown_method id s.0 (method_of id) refl, skip_all_reads.again tt rest s.1) refl

location_fits : (d : Description) → IsDescription d → object_identifier.fits (written_method d)
location_fits (Some (m, uri)) fits = method_fits m
location_fits None fits = absurd fits

location_ok : (d : Description) → IsDescription d → IfShort (written_uri d)
location_ok (Some (m, uri)) fits = uri_alone.law.octets uri fits
location_ok None fits = absurd fits

location_made : (d : Description) → IsDescription d → Short (written_uri d) → IsLocationWithin levels (written_method d) d (written_uri d)
location_made (Some (m, uri)) fits short = (refl, uri_alone.law.made uri fits short.0)
location_made None fits short = absurd fits

-- anything may follow an AccessDescription
pub description_alone : IsAlone (description_format levels)
unfolding description_format
description_alone = record {
  law = sequence_by_lawful location_of (IsLocationWithin levels) IsDescription written_method written_uri
      (λ id. record {
        takes = λ rest d low e. location_takes id rest (method_of id) d refl low e;
        again =
            location_again id;
      }) location_fits location_ok location_made;
  none = refl;
}

-- reading an AccessDescription uses octets up
pub description_shrinks : Shrinks (description_format levels).read
unfolding description_format
description_shrinks octets d rest e = omega (arith, description_alone.law.shorter octets d rest e)

-- ---- URIs

-- what a description gives under a method
module _ (uri_of : List ℕ → Option (List ℕ)) (IsUri : List ℕ → Type 0) (to : (text uri : List ℕ) →
    uri_of text ≡ Some uri → (text ≡ uri) × IsUri uri) (back : (uri : List ℕ) → IsUri uri → uri_of uri ≡ Some uri)
    (m : AccessMethod) where
  under_takes : (d : Description) (uri : List ℕ) → Unit {0} → uri_under m uri_of d ≡ Some uri → HasUri m IsUri d uri
  under_takes None uri u e = nothing uri e
  under_takes (Some (n, text)) uri u e =
      elim (cases_Bool (bytes_eq (method_identifier n) (method_identifier m))) [
        | inl y ↦
            let same : n ≡ m = one_method n m ((bytes_eq-Decides (method_identifier n) (method_identifier m)).0 y) in
            let g = to text uri (rw y at e) in
            ((λ i. some {A = AccessMethod × List ℕ} (same i, g.0 i)), g.1)
        | inr k ↦ nothing uri (rw k at e)
      ]

  under_again : (d : Description) (uri : List ℕ) → HasUri m IsUri d uri → uri_under m uri_of d ≡ Some uri
  under_again d uri h =
      let same : bytes_eq (method_identifier m) (method_identifier m) ≡ true =
      (bytes_eq-Decides (method_identifier m) (method_identifier m)).1 refl in
      rw (h.0, same) (back uri h.1)

  -- the step that keeps the first URI of a method is lawful
  pub under_law : {Fits : Description → Type 0} → IsLawful Fits (first_fold (uri_under m uri_of) (HasUri m IsUri))
  under_law = first_law (uri_under m uri_of) (HasUri m IsUri) (record { takes = under_takes; again = under_again })

abbrev Any : Description → Type 0
Any d = Unit {0}

one_octet : 0 < (description_format levels).least
unfolding description_format
one_octet = omega arith

access_law : IsLawful Any access_fold
access_law =
    beside_law _ _ (under_law rsync_of IsRsync (text_was is_rsync IsRsync rsync_decides)
    (text_is is_rsync IsRsync rsync_decides) CaRepository)
    (beside_law _ _ (under_law rsync_of IsRsync (text_was is_rsync IsRsync rsync_decides)
    (text_is is_rsync IsRsync rsync_decides) RpkiManifest)
    (beside_law _ _ (under_law rsync_of IsRsync (text_was is_rsync IsRsync rsync_decides)
    (text_is is_rsync IsRsync rsync_decides) SignedObject)
    (under_law https_of IsHttps (text_was is_https IsHttps https_decides) (text_is is_https IsHttps https_decides) RpkiNotify)))

uris_read : ReadsWhole (over (description_format levels).read access_fold.step access_fold.start)
    (IsFolded (description_format levels).encodes access_fold)
uris_read = over_reads (description_format levels).read (description_format levels).encodes Any access_fold
    (alone_reads (description_format levels) description_alone) description_shrinks (λ d text s. tt) access_law

-- ---- the extension

access_takes : (c : List ℕ) (a : Access) → AreOctets c → access_of c ≡ Some a → AreDescriptionsWithin levels a c
access_takes [] a low e = nothing a e
access_takes (b ∷ c) a low e =
    let u = bind_some (over (description_format levels).read access_fold.step access_fold.start (b ∷ c))
    (λ uris. some (access_made uris)) a e in
    let m = uris_read.takes (b ∷ c) u.0 low u.1 in
    let (repository, (manifest, (object, notify))) = m.2 in
    subst (λ (x : Access). AreDescriptionsWithin levels x (b ∷ c)) (some_is (access_made u.0) a u.2) (
      m.0,
      (
        m.1,
        some_texts (description_format levels) description_alone.law description_alone.none one_octet b
            c m.0 m.1,
      ),
      record { repository = repository; manifest = manifest; object = object; notify = notify },
    )

access_again : (a : Access) (c : List ℕ) → AreDescriptionsWithin levels a c → access_of c ≡ Some a
access_again a [] s = absurd (some_octet (description_format levels) description_alone.law description_alone.none one_octet s.0 s.1.0 s.1.1)
access_again a (b ∷ c) s =
    rw (uris_read.again (uris_of a) (b ∷ c)
    (s.0, s.1.0, (s.2.repository, (s.2.manifest, (s.2.object, s.2.notify))))) refl

-- ---- what is written, method by method

-- each method with its URI
abbrev Methods : Type 0
Methods = List (AccessMethod × Option (List ℕ))

abbrev methods_of : Access → Methods
methods_of a = (CaRepository, a.ca_repository) ∷ (RpkiManifest, a.rpki_manifest) ∷ (SignedObject, a.signed_object) ∷
    (RpkiNotify, a.rpki_notify) ∷ []

abbrev values : Methods → List Description
values ms = flat_map (λ (m : AccessMethod × Option (List ℕ)). description_if m.0 m.1) ms

values_are : (a : Access) → values (methods_of a) ≡ descriptions a
values_are a = rw append-nil refl

abbrev ArePrintables : Methods → Type 0
ArePrintables ms = AllByRecursion (λ (m : AccessMethod × Option (List ℕ)). IfSome m.1 ArePrintable) ms

all_fit : (ms : Methods) → ArePrintables ms → AllByRecursion (description_format levels).fits (values ms)
unfolding description_format
all_fit [] p = tt
all_fit ((m, None) ∷ ms) p = all_fit ms p.1
all_fit ((m, Some uri) ∷ ms) p = (uri_fits uri p.0, all_fit ms p.1)

-- ---- the first of each method

module _ (method : AccessMethod) (IsUri : List ℕ → Type 0) where
  abbrev AreOthers : Methods → Type 0
  AreOthers ms = AllByRecursion (λ (m : AccessMethod × Option (List ℕ)). m.0 ≡ method → ⊥) ms

  silent : (m : AccessMethod) (text : List ℕ) → (m ≡ method → ⊥) → (uri : List ℕ) → HasUri method IsUri (some (m, text)) uri → ⊥
  silent m text other uri h = other (both_are (m, text) (method, uri) h.0).0

  after_other : (m : AccessMethod) (o : Option (List ℕ)) → (m ≡ method → ⊥) →
      (ds : List Description) (v : Option (List ℕ)) → IsFirstOf (HasUri method IsUri) v ds →
      IsFirstOf (HasUri method IsUri) v (description_if m o ++ ds)
  after_other m None other ds v h = h
  after_other m (Some text) other ds None h = (silent m text other, h)
  after_other m (Some text) other ds (Some v) h = (
    h.0,
    record {
      before = some (m, text) ∷ h.1.before;
      after = h.1.after;
      is = ap (λ (es : List Description). some (m, text) ∷ es) h.1.is;
      has = h.1.has;
      none_before = ((λ g. silent m text other g.0 g.1), h.1.none_before);
    },
    h.2,
  )

  none : (ms : Methods) → AreOthers ms → IsFirstOf (HasUri method IsUri) None (values ms)
  none [] others = tt
  none (m ∷ ms) others = after_other m.0 m.1 others.0 (values ms) None (none ms others.1)

  first : (before : Methods) (o : Option (List ℕ)) (after : Methods) → AreOthers before → AreOthers after →
      IfSome o IsUri → IsFirstOf (HasUri method IsUri) o (values (before ++ (method, o) ∷ after))
  first [] None after b a is = none after a
  first [] (Some uri) after b a is = (
    some (method, uri),
    record { before = []; after = values after; is = refl; has = (uri, (refl, is)); none_before = tt },
    (refl, is),
  )
  first (m ∷ before) o after b a is = after_other m.0 m.1 b.0 (values (before ++ (method, o) ∷ after)) o (first before o after b.1 a is)

firsts : (a : Access) → HasUris a → GiveAccess a (values (methods_of a))
firsts a h =
    let r : AccessMethod × Option (List ℕ) = (CaRepository, a.ca_repository) in
    let m : AccessMethod × Option (List ℕ) = (RpkiManifest, a.rpki_manifest) in
    let o : AccessMethod × Option (List ℕ) = (SignedObject, a.signed_object) in
    let n : AccessMethod × Option (List ℕ) = (RpkiNotify, a.rpki_notify) in
    record {
      repository = first CaRepository IsRsync [] a.ca_repository (m ∷ o ∷ n ∷ []) tt
          ((λ e. cc), ((λ e. cc), ((λ e. cc), tt))) h.ca_repository_is;
      manifest = first RpkiManifest IsRsync (r ∷ []) a.rpki_manifest (o ∷ n ∷ []) ((λ e. cc), tt)
          ((λ e. cc), ((λ e. cc), tt)) h.rpki_manifest_is;
      object = first SignedObject IsRsync (r ∷ m ∷ []) a.signed_object (n ∷ []) ((λ e. cc), ((λ e. cc), tt))
          ((λ e. cc), tt) h.signed_object_is;
      notify = first RpkiNotify IsHttps (r ∷ m ∷ o ∷ []) a.rpki_notify [] ((λ e. cc), ((λ e. cc), ((λ e. cc), tt))) tt h.rpki_notify_is;
    }

-- ---- the whole

printables : (a : Access) → HasUris a → ArePrintables (methods_of a)
printables a h =
    let rsync : (uri : List ℕ) → IsRsync uri → ArePrintable uri = λ uri u. u.printable in
    let https : (uri : List ℕ) → IsHttps uri → ArePrintable uri = λ uri u. u.printable in (
      IfSome_then a.ca_repository h.ca_repository_is rsync,
      (
        IfSome_then a.rpki_manifest h.rpki_manifest_is rsync,
        (
          IfSome_then a.signed_object h.signed_object_is rsync,
          (IfSome_then a.rpki_notify h.rpki_notify_is https, tt),
        ),
      ),
    )

some_there : (r m o n : Option (List ℕ)) → (is_some r || (is_some m || (is_some o || is_some n))) ≡ true →
    1 ≤ length (description_if CaRepository r ++
    (description_if RpkiManifest m ++ (description_if SignedObject o ++ description_if RpkiNotify n)))
some_there (Some r) m o n e = omega arith
some_there None (Some m) o n e = omega arith
some_there None None (Some o) n e = omega arith
some_there None None None (Some n) e = omega arith
some_there None None None None e = absurd cc

fit : (a : Access) → HasUris a → AllByRecursion (description_format levels).fits (descriptions a)
fit a h = subst (λ (ds : List Description). AllByRecursion (description_format levels).fits ds) (values_are a)
    (all_fit (methods_of a) (printables a h))

-- anything may follow a SubjectInfoAccessSyntax
pub subject_information_access_alone : IsAlone (subject_information_access_format levels)
unfolding subject_information_access_format
subject_information_access_alone = record {
  law = primitive_lawful SEQUENCE access_of (AreDescriptionsWithin levels) (λ a. HasUris a × (has_uri a ≡ true))
      (λ a. written_all (descriptions a)) (omega arith) (omega arith)
      (record { takes = access_takes; again = access_again })
      (λ a fits. values_octets (description_format levels) description_alone.law (descriptions a) (fit a fits.0))
      (λ a fits short. (
        descriptions a,
        (
          values_made (description_format levels) description_alone.law (descriptions a) (fit a fits.0) short.0,
          some_there a.ca_repository a.rpki_manifest a.signed_object a.rpki_notify fits.1,
        ),
        subst (λ (ds : List Description). GiveAccess a ds) (values_are a) (firsts a fits.0),
      ));
  none = refl;
}

none_there : (r m o n : Option (List ℕ)) → (is_some r || (is_some m || (is_some o || is_some n))) ≡ false →
    record { ca_repository = r; rpki_manifest = m; signed_object = o; rpki_notify = n } ≡ no_access
none_there (Some r) m o n e = absurd cc
none_there None (Some m) o n e = absurd cc
none_there None None (Some o) n e = absurd cc
none_there None None None (Some n) e = absurd cc
none_there None None None None e = refl

-- where there is no URI
pub no_uris : (a : Access) → has_uri a ≡ false → a ≡ no_access
no_uris a e = none_there a.ca_repository a.rpki_manifest a.signed_object a.rpki_notify e
