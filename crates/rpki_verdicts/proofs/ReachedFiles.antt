-- The files of a path that a walk came to are a valid path, as the verdict on a path has it.
use Rattle.std.specs.List.{AllZip, cons_option}
use Rattle.std.specs.Prelude.{Option, Some, None, slice_get}
use Rattle.std.proofs.Common.{◌≡◌, ℕ, zero, suc, List, [], ◌∷◌, ◌++◌, map, refl, sym, ap, subst, ◌∙◌, inl, inr}
use Rattle.std.specs.Option.{option_map}
use Rattle.std.proofs.lemmas.List.{append-nil, map-append}
use Rattle.std.proofs.lemmas.Option.{slice_get-map, get_or_from_slice_get}
use Rattle.rpki_path.specs.Asking.{RevocationChecks}
use Rattle.rpki_cert.specs.Certificates.{CertFields, IsCertificate}
use Rattle.rpki_der.specs.Encoding.{Means}
use Rattle.rpki_folder.specs.Folders.{string_at, cas_at}
use Rattle.rpki_path.specs.GivenPaths.{path_to}
use Rattle.rpki_path.specs.declared.judging.Judged.{Judged}
use Rattle.rpki_path.specs.Judging.{IsAcceptedWith, IsRouterIfAny}
use Rattle.rpki_cert.specs.declared.inspect.Kind.{Kind}
use Rattle.rpki_cert.specs.declared.inspect.Kind.TheVariants.{Anchor, Authority, EndEntity, Detached, Router}
use Rattle.rpki_path.specs.LocatedPaths.{IsAcceptedFrom}
use Rattle.rpki_keys.specs.Locators.{NamedTal}
use Rattle.rpki_path.specs.Paths.{Candidate, candidate, Member, IsAccepted, IsMember}
use Rattle.rpki_parts.specs.SignedDatas.{signed_data}
use Rattle.rpki_der.specs.Values.{enc}
use Rattle.rpki_cert.specs.Verification.{Context, ResourceFields}
use Rattle.rpki_folder.specs.Walks.{IsAcceptedAs, IsReached, LeadsTo, at_anchor}
use Rattle.rpki_cert.proofs.CertificateFormats.{certificate_is}
use Rattle.rpki_files.specs.Files.{FileFields, contents}
use Rattle.rpki_cert.specs.SaidKinds.{BeginsWithKind}
use Rattle.rpki_verdicts.specs.Searches.{IsValidAmong, files_at}

-- ---- places

-- a certificate has octets
no_certificate : (c : CertFields) (octets : List ℕ) → Means IsCertificate c octets → octets ≡ [] → ⊥
unfolding enc
no_certificate c octets m is =
    let begins = m.1 in
    let text : begins.text ≡ signed_data c.signed_data = certificate_is c begins.text begins.encoded in
    let whole : [] ≡ signed_data c.signed_data ++ m.0 = sym is ∙ begins.parts ∙ ap (λ (l : List ℕ). l ++ m.0) text in
    absurd (cc whole)

-- the file at a place has these octets
abbrev IsThere : List FileFields → ℕ → Type 0
IsThere certs place =
    (file : FileFields) × (slice_get certs place ≡ Some file) × (file.octets ≡ string_at (contents certs) place)

-- a place at which a certificate stands is one
there : (certs : List FileFields) (place : ℕ) (c : CertFields) →
    Means IsCertificate c (string_at (contents certs) place) → IsThere certs place
there [] place c begins = absurd (no_certificate c [] begins refl)
there (f ∷ fs) zero c begins = (f, refl, refl)
there (f ∷ fs) (suc k) c begins = there fs k c begins

module _ (certs : List FileFields) where
  -- so the files at places where certificates stand have their octets
  octets_are : (places : List ℕ) (ms : List Member) (more : List Candidate) →
      AllZip IsMember ms (cas_at (contents certs) places ++ more) →
      contents (files_at certs places) ≡ map (string_at (contents certs)) places
  octets_are [] ms more z = refl
  octets_are (k ∷ ks) [] more z = absurd z
  octets_are (k ∷ ks) (m ∷ ms) more z =
      let is = there certs k m.cert z.0.begins in
      ap (λ (o : Option FileFields). contents (cons_option o (files_at certs ks))) is.1
      ∙ ap (λ (octets : List ℕ). octets ∷ contents (files_at certs ks)) is.2
      ∙ ap (λ (l : List (List ℕ)). string_at (contents certs) k ∷ l) (octets_are ks ms more z.1)

  -- the CAs there are those of these octets
  cas_are : (places : List ℕ) → cas_at (contents certs) places ≡ map (candidate Authority) (map (string_at (contents certs)) places)
  cas_are [] = refl
  cas_are (k ∷ ks) = ap (λ (l : List Candidate). candidate Authority (string_at (contents certs) k) ∷ l) (cas_are ks)

  -- the files of a path
  path_octets : (anchor file : FileFields) (places : List ℕ) (ms : List Member) (more : List Candidate) →
      AllZip IsMember ms (cas_at (contents certs) places ++ more) →
      contents (anchor ∷ (files_at certs places ++ file ∷ [])) ≡ anchor.octets ∷
      (map (string_at (contents certs)) places ++ file.octets ∷ [])
  path_octets anchor file places ms more z =
      ap (λ (l : List (List ℕ)). anchor.octets ∷ l)
      (map-append (λ (f : FileFields). f.octets) (files_at certs places) (file ∷ []) ∙
      ap (λ (l : List (List ℕ)). l ++ file.octets ∷ []) (octets_are places ms more z))

-- ---- what is held, without the locator's name

unnamed : ResourceFields → ResourceFields
unnamed r = record r { tal = [] }

accepted_from : (x : Context) (asked : RevocationChecks) (t : NamedTal) (anchor : List ℕ) (below : List Candidate)
    (r : ResourceFields) → IsAcceptedFrom x asked t anchor below r → IsAccepted x asked anchor below [] (unnamed r)
unfolding unnamed
accepted_from x asked t anchor below r h = record {
  path = h.path;
  path_of = h.path_of;
  is_valid = h.is_valid.is_valid;
  held = record { cert_is = h.held.cert_is; v4_is = h.held.v4_is; v6_is = h.held.v6_is; as_is = h.held.as_is; tal_is = refl };
}

router_below : (x : Context) (asked : RevocationChecks) (r : ResourceFields) (octets : List ℕ)
    (router : Option CertFields) → IsRouterIfAny x asked r (Some octets) router →
    IsRouterIfAny x asked (unnamed r) (Some octets) router
unfolding unnamed
router_below x asked r octets None h = absurd h
router_below x asked r octets (Some c) h = (h.0, record { meets = h.1.meets; checks = h.1.checks; unrevoked = h.1.unrevoked })

-- ---- the path

module _ (x : Context) (asked : RevocationChecks) (t : NamedTal) (anchor file : FileFields) (certs : List FileFields) (above : List ℕ) where
  abbrev Octets : List (List ℕ)
  Octets = map (string_at (contents certs)) above

  abbrev Files : List FileFields
  Files = anchor ∷ (files_at certs above ++ file ∷ [])

  -- as a path whose last is of this kind
  split_as : (kind : Kind) → BeginsWithKind kind file.octets → (j : Judged) →
      IsAcceptedWith x asked (path_to anchor.octets Octets kind file.octets) j →
      contents Files ≡ anchor.octets ∷ (Octets ++ file.octets ∷ []) → IsValidAmong x asked (contents Files)
  split_as kind begins j accepted are = record {
    strings = path_to anchor.octets Octets kind file.octets;
    given = inr (record {
      kind = kind;
      split =
          record { anchor = anchor.octets; cas = Octets; octets = file.octets; strings_are = are; path_is = refl };
      kind_is = inl begins;
    });
    judged = j;
    accepted = accepted;
  }

  -- a router below the last CA
  with_router : BeginsWithKind Router file.octets → (j : Judged) →
      LeadsTo x asked (at_anchor t anchor.octets) (cas_at (contents certs) above) j.holder →
      IsRouterIfAny x asked j.holder (Some file.octets) j.router → IsValidAmong x asked (contents Files)
  with_router begins j leads router =
      let none = append-nil (cas_at (contents certs) above) in
      let members = subst (λ (l : List Candidate). AllZip IsMember leads.path.below l) (sym none) leads.path_of.members in
      split_as Router begins (record { holder = unnamed j.holder; router = j.router })
      (record {
        accepted = subst (λ (l : List Candidate). IsAccepted x asked anchor.octets l [] (unnamed j.holder))
            (cas_are certs above)
            (accepted_from x asked t anchor.octets (cas_at (contents certs) above) j.holder leads);
        router = router_below x asked j.holder file.octets j.router router;
      })
      (path_octets certs anchor file above leads.path.below [] members)

  -- a further member
  with_member : (kind : Kind) → BeginsWithKind kind file.octets → (r : ResourceFields) →
      LeadsTo x asked (at_anchor t anchor.octets) (cas_at (contents certs) above ++ candidate kind file.octets ∷ [])
      r → ((below : List Candidate) → IsAccepted x asked anchor.octets below [] (unnamed r) →
      below ≡ map (candidate Authority) Octets ++ candidate kind file.octets ∷ [] →
      (j : Judged) × IsAcceptedWith x asked (path_to anchor.octets Octets kind file.octets) j) →
      IsValidAmong x asked (contents Files)
  with_member kind begins r leads as_path =
      let below = cas_at (contents certs) above ++ candidate kind file.octets ∷ [] in
      let j = as_path below (accepted_from x asked t anchor.octets below r leads)
      (ap (λ (l : List Candidate). l ++ candidate kind file.octets ∷ []) (cas_are certs above)) in
      split_as kind begins j.0 j.1
      (path_octets certs anchor file above leads.path.below (candidate kind file.octets ∷ [])
      leads.path_of.members)

  of_kind : (kind : Kind) → BeginsWithKind kind file.octets → (j : Judged) →
      IsAcceptedAs x asked (at_anchor t anchor.octets) (cas_at (contents certs) above) kind file.octets j →
      IsValidAmong x asked (contents Files)
  of_kind Router begins j h = with_router begins j h.0 h.1
  of_kind Authority begins j h = with_member Authority begins j.holder h.0
      (λ below a is. (
        record { holder = unnamed j.holder; router = None },
        record {
          accepted = subst (λ (l : List Candidate). IsAccepted x asked anchor.octets l [] (unnamed j.holder))
              is a;
          router = tt;
        },
      ))
  of_kind EndEntity begins j h = with_member EndEntity begins j.holder h.0
      (λ below a is. (
        record { holder = unnamed j.holder; router = None },
        record {
          accepted = subst (λ (l : List Candidate). IsAccepted x asked anchor.octets l [] (unnamed j.holder))
              is a;
          router = tt;
        },
      ))
  of_kind Detached begins j h = with_member Detached begins j.holder h.0
      (λ below a is. (
        record { holder = unnamed j.holder; router = None },
        record {
          accepted = subst (λ (l : List Candidate). IsAccepted x asked anchor.octets l [] (unnamed j.holder))
              is a;
          router = tt;
        },
      ))
  of_kind Anchor begins j h = absurd begins.2

  pub reached_files : slice_get certs 0 ≡ Some file →
      IsReached x asked (at_anchor t anchor.octets) (contents certs) above 0 → IsValidAmong x asked (contents Files)
  reached_files first h =
      let same : string_at (contents certs) 0 ≡ file.octets = get_or_from_slice_get (contents certs) 0 file.octets []
      (slice_get-map (λ (f : FileFields). f.octets) certs 0 ∙ ap (option_map (λ (f : FileFields). f.octets))
      first) in
      of_kind h.0 (subst (λ (o : List ℕ). BeginsWithKind h.0 o) same h.2) h.1
      (subst (λ (o : List ℕ). IsAcceptedAs x asked (at_anchor t anchor.octets) (cas_at (contents certs) above) h.0 o h.1) same h.3)
