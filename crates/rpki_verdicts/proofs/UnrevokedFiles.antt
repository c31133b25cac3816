-- The members of an accepted path are unrevoked by lists that were given.
use Rattle.std.specs.Prelude.{Any, Bool, Option, Some, None}
use Rattle.std.specs.List.{AllZip}
use Rattle.std.proofs.Common.{◌≡◌, ◌+◌, ◌<◌, ℕ, zero, suc, List, [], ◌∷◌, ◌++◌, length, map, get_or, refl, sym, ap}
use Rattle.std.proofs.Common.{subst, ◌∙◌, inl, inr, arith}
use Rattle.std.proofs.lemmas.Slice.Zip.{all_zipped_more}
use Rattle.rpki_path.specs.Asking.{RevocationChecks, IsUnrevokedBy}
use Rattle.rpki_path.specs.AskedLists.{LeavesUnrevoked, by_named_lists}
use Rattle.rpki_der.specs.Encoding.{Means}
use Rattle.rpki_cert.specs.Certificates.{CertFields, IsCertificate}
use Rattle.rpki_path.specs.GivenPaths.{PathStrings, path_to}
use Rattle.rpki_path.specs.declared.judging.Judged.{Judged}
use Rattle.rpki_path.specs.Judging.{IsAcceptedWith, IsRouterIfAny}
use Rattle.rpki_cert.specs.declared.inspect.Kind.{Kind}
use Rattle.rpki_cert.specs.declared.inspect.Kind.TheVariants.{Anchor, Authority, EndEntity, Detached, Router}
use Rattle.rpki_crl.specs.Lists.{CrlState, IsCertificateList}
use Rattle.rpki_path.specs.Paths.{Member, Path, Candidate, candidate, IsMember, IsValidPath, IsAccepted}
use Rattle.rpki_path.specs.Routers.{IsRouterUnder}
use Rattle.rpki_cert.specs.Verification.{Context, ResourceFields}
use Rattle.rpki_path.proofs.AskedNamedList.{left_by_asked}
use Rattle.rpki_verdicts.specs.PathFiles.{IsGivenBy, AreListsOf}
use Rattle.rpki_verdicts.specs.UnrevokedMembers.{IsGivenAmong, IsUnrevokedBelow, AreUnrevokedBelow, AreUnrevoked}

-- ---- what was read was given

any_later : {X : Type 0} (P : X → Type 0) (x : X) (xs : List X) → Any P xs → Any P (x ∷ xs)
any_later P x xs h = (suc h.0, h.1, omega (arith, h.2), h.3, h.4)

-- of a list that leaves a certificate unrevoked it is known which file it is
module _ (P : CrlState → Type 0) where
  -- one of the lists that have it was given
  abbrev GivenWith : List (List ℕ) → Type 0
  GivenWith files = (l : CrlState) × IsGivenAmong files l.list × P l

  later : (octets : List ℕ) (files : List (List ℕ)) → GivenWith files → GivenWith (octets ∷ files)
  later octets files h = (h.0, any_later (λ o. IsCertificateList h.0.list o) octets files h.1, h.2)

  among : (octets : List ℕ) (files : List (List ℕ)) (first : CrlState) (rest : List CrlState) →
      IsCertificateList first.list octets → (Any P rest → GivenWith files) → Any P (first ∷ rest) →
      GivenWith (octets ∷ files)
  among octets files first rest own more (zero, l, low, is, p) = (first, (0, octets, omega arith, refl, own), subst P (sym is) p)
  among octets files first rest own more (suc k, l, low, is, p) = later octets files (more (k, l, omega arith, is, p))

  given_of : (files : List (List ℕ)) (read : List CrlState) → AreListsOf files read → Any P read → GivenWith files
  given_of [] read are h = let none : Any P [] = subst (λ (ls : List CrlState). Any P ls) are h in absurd (omega (arith, none.2))
  given_of (octets ∷ files) read (inl are) h = later octets files (given_of files read are.1 h)
  given_of (octets ∷ files) read (inr are) h = among octets files are.0 are.1 are.2 (given_of files are.1 are.4)
      (subst (λ (ls : List CrlState). Any P ls) are.5 h)

-- ---- one member

module _ (names : Bool) (x : Context) (lists : List (List ℕ)) (read : List CrlState) (are : AreListsOf lists read) where
  abbrev ByThese : RevocationChecks
  ByThese = by_named_lists names x read

  one_unrevoked : (above octets : List ℕ) (issuer c : CertFields) → Means IsCertificate issuer above →
      Means IsCertificate c octets → IsUnrevokedBy ByThese issuer.fields c →
      IsUnrevokedBelow names x lists above octets
  one_unrevoked above octets issuer c i b h =
      let given = given_of (λ l. LeavesUnrevoked names x issuer.fields c l.list) lists read are
      (left_by_asked names x read issuer.fields c h) in
      record {
        issuer = issuer;
        issuer_begins = i;
        member = c;
        member_begins = b;
        list = given.0.list;
        is_given = given.1;
        unrevoked = given.2;
      }

  -- ---- members, one below the other

  abbrev Chain : CertFields → List CertFields → Type 0
  Chain issuer [] = Unit {0}
  Chain issuer (c ∷ cs) = IsUnrevokedBy ByThese issuer.fields c × Chain c cs

  by_place : (d issuer : CertFields) (cs : List CertFields) →
      ((i : ℕ) → i < length cs →
      IsUnrevokedBy ByThese (get_or (issuer ∷ cs) i d).fields (get_or (issuer ∷ cs) (i + 1) d)) → Chain issuer cs
  by_place d issuer [] h = tt
  by_place d issuer (c ∷ cs) h = (
    h 0 (omega arith),
    by_place d c cs (λ i low.
        let more : suc i + 1 ≡ suc (i + 1) = omega arith in
        subst (λ (n : ℕ). IsUnrevokedBy ByThese (get_or (c ∷ cs) i d).fields (get_or (issuer ∷ c ∷ cs) n d)) more
        (h (suc i) (omega (arith, low)))),
  )

  -- the last of them
  abbrev last_of : CertFields → List CertFields → CertFields
  last_of issuer [] = issuer
  last_of issuer (c ∷ cs) = last_of c cs

  chain_more : (issuer : CertFields) (cs : List CertFields) (c : CertFields) → Chain issuer cs →
      IsUnrevokedBy ByThese (last_of issuer cs).fields c → Chain issuer (cs ++ c ∷ [])
  chain_more issuer [] c h u = (u, tt)
  chain_more issuer (d ∷ ds) c h u = (h.0, chain_more d ds c h.1 u)

  files_unrevoked : (above : List ℕ) (issuer : CertFields) → Means IsCertificate issuer above →
      (cs : List CertFields) (files : List (List ℕ)) → AllZip (λ c octets. Means IsCertificate c octets) cs files →
      Chain issuer cs → AreUnrevokedBelow names x lists above files
  files_unrevoked above issuer i [] [] z h = tt
  files_unrevoked above issuer i [] (o ∷ os) z h = absurd z
  files_unrevoked above issuer i (c ∷ cs) [] z h = absurd z
  files_unrevoked above issuer i (c ∷ cs) (o ∷ os) z h = (one_unrevoked above o issuer c i z.0 h.0, files_unrevoked o c z.0 cs os z.1 h.1)

  -- ---- paths

  certs_begin : (ms : List Member) (cands : List Candidate) → AllZip IsMember ms cands →
      AllZip (λ c octets. Means IsCertificate c octets) (map (λ m. m.cert) ms) (map (λ s. s.octets) cands)
  certs_begin [] [] z = tt
  certs_begin [] (s ∷ ss) z = absurd z
  certs_begin (m ∷ ms) [] z = absurd z
  certs_begin (m ∷ ms) (s ∷ ss) z = (z.0.begins, certs_begin ms ss z.1)

  mapped_long : (ms : List Member) → length (map (λ (m : Member). m.cert) ms) ≡ length ms
  mapped_long [] = refl
  mapped_long (m ∷ ms) = ap suc (mapped_long ms)

  last_place : (d issuer : CertFields) (ms : List Member) →
      get_or (issuer ∷ map (λ (m : Member). m.cert) ms) (length ms) d ≡
      last_of issuer (map (λ (m : Member). m.cert) ms)
  last_place d issuer [] = refl
  last_place d issuer (m ∷ ms) = last_place d m.cert ms

  chain_of : (p : Path) → IsValidPath x ByThese p → Chain p.anchor (map (λ (m : Member). m.cert) p.below)
  chain_of p h = by_place p.anchor p.anchor (map (λ (m : Member). m.cert) p.below)
      (λ i low. h.members_unrevoked i (omega (arith, low, mapped_long p.below)))

  -- the octets of CAs, and of more
  authorities_octets : (cas : List (List ℕ)) (more : List Candidate) →
      map (λ (s : Candidate). s.octets) (map (candidate Authority) cas ++ more) ≡ cas ++
      map (λ (s : Candidate). s.octets) more
  authorities_octets [] more = refl
  authorities_octets (o ∷ os) more = ap (λ (l : List (List ℕ)). o ∷ l) (authorities_octets os more)

  mapped_alone : (cas : List (List ℕ)) → map (λ (s : Candidate). s.octets) (map (candidate Authority) cas) ≡ cas
  mapped_alone [] = refl
  mapped_alone (o ∷ os) = ap (λ (l : List (List ℕ)). o ∷ l) (mapped_alone os)

  members_unrevoked : (anchor : List ℕ) (below : List Candidate) (files : List (List ℕ)) (r : ResourceFields) →
      IsAccepted x ByThese anchor below [] r → map (λ (s : Candidate). s.octets) below ≡ files →
      AreUnrevokedBelow names x lists anchor files
  members_unrevoked anchor below files r h is =
      let certs = map (λ (m : Member). m.cert) h.path.below in
      let begin = subst (λ (os : List (List ℕ)). AllZip (λ c octets. Means IsCertificate c octets) certs os) is
      (certs_begin h.path.below below h.path_of.members) in
      files_unrevoked anchor h.path.anchor h.path_of.anchor_begins certs files begin (chain_of h.path h.is_valid)

  -- with a router below the last member
  router_unrevoked : (anchor : List ℕ) (below : List Candidate) (files : List (List ℕ)) (router : List ℕ)
      (r : ResourceFields) (c : CertFields) → IsAccepted x ByThese anchor below [] r →
      map (λ (s : Candidate). s.octets) below ≡ files
      → Means IsCertificate c router → IsRouterUnder x ByThese r c → AreUnrevokedBelow names x lists anchor (files ++ router ∷ [])
  router_unrevoked anchor below files router r c h is begins under =
      let p = h.path in
      let certs = map (λ (m : Member). m.cert) p.below in
      let begin = subst (λ (os : List (List ℕ)). AllZip (λ c octets. Means IsCertificate c octets) certs os) is
      (certs_begin p.below below h.path_of.members) in
      let issuer : r.cert ≡ last_of p.anchor certs = h.held.cert_is ∙ last_place p.anchor p.anchor p.below in
      let unrevoked : IsUnrevokedBy ByThese (last_of p.anchor certs).fields c =
      subst (λ (above : CertFields). IsUnrevokedBy ByThese above.fields c) issuer under.unrevoked in
      files_unrevoked anchor p.anchor h.path_of.anchor_begins (certs ++ c ∷ []) (files ++ router ∷ [])
      (all_zipped_more (λ (c : CertFields) (octets : List ℕ). Means IsCertificate c octets) certs files c router
      begin begins)
      (chain_more p.anchor certs c (chain_of p h.is_valid) unrevoked)

  to_router : (anchor : List ℕ) (cas : List (List ℕ)) (octets : List ℕ) (r : ResourceFields)
      (router : Option CertFields) → IsAccepted x ByThese anchor (map (candidate Authority) cas) [] r →
      IsRouterIfAny x ByThese r (Some octets) router → AreUnrevokedBelow names x lists anchor (cas ++ octets ∷ [])
  to_router anchor cas octets r None h b = absurd b
  to_router anchor cas octets r (Some c) h b = router_unrevoked anchor (map (candidate Authority) cas) cas octets r c
      h (mapped_alone cas) b.0 b.1

  to_last : (anchor : List ℕ) (cas : List (List ℕ)) (octets : List ℕ) (kind : Kind) (j : Judged) →
      IsAcceptedWith x ByThese (path_to anchor cas kind octets) j →
      AreUnrevokedBelow names x lists anchor (cas ++ octets ∷ [])
  to_last anchor cas octets Router j h = to_router anchor cas octets j.holder j.router h.accepted h.router
  to_last anchor cas octets EndEntity j h =
      members_unrevoked anchor (map (candidate Authority) cas ++ candidate EndEntity octets ∷ [])
      (cas ++ octets ∷ []) j.holder h.accepted (authorities_octets cas (candidate EndEntity octets ∷ []))
  to_last anchor cas octets Detached j h =
      members_unrevoked anchor (map (candidate Authority) cas ++ candidate Detached octets ∷ [])
      (cas ++ octets ∷ []) j.holder h.accepted (authorities_octets cas (candidate Detached octets ∷ []))
  to_last anchor cas octets Authority j h =
      members_unrevoked anchor (map (candidate Authority) cas ++ candidate Authority octets ∷ [])
      (cas ++ octets ∷ []) j.holder h.accepted (authorities_octets cas (candidate Authority octets ∷ []))
  to_last anchor cas octets Anchor j h =
      members_unrevoked anchor (map (candidate Authority) cas ++ candidate Anchor octets ∷ []) (cas ++ octets ∷ [])
      j.holder h.accepted (authorities_octets cas (candidate Anchor octets ∷ []))

  -- each member of a path that is accepted is left unrevoked by a list that was given
  pub accepted_unrevoked : (files : List (List ℕ)) (g : PathStrings) (j : Judged) → IsGivenBy files g →
      IsAcceptedWith x ByThese g j → AreUnrevoked names x lists files
  accepted_unrevoked files g j (inl h) a = subst (λ (fs : List (List ℕ)). AreUnrevoked names x lists fs) (sym h.1) tt
  accepted_unrevoked files g j (inr h) a =
      let s = h.split in
      let under = to_last s.anchor s.cas s.octets h.kind j (subst (λ (k : PathStrings). IsAcceptedWith x ByThese k j) s.path_is a) in
      subst (λ (fs : List (List ℕ)). AreUnrevoked names x lists fs) (sym s.strings_are) under
