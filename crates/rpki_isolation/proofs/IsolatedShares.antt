-- Files that strangers add change no share, and nothing that a walk looks at, on a path on which no
-- issuer has a key of theirs.
use Rattle.std.specs.List.{AllByRecursion, AllZip}
use Rattle.std.specs.Prelude.{Bool, Contains}
use Rattle.std.proofs.Common.{List, [], ap, append_assoc, arith, length, refl, subst, sym, ℕ, ◌++◌, ◌-◌, ◌/◌, ◌<◌, ◌∙◌, ◌∷◌, ◌≡◌, ◌≤◌}
use Rattle.std.proofs.lemmas.List.{length-append}
use Rattle.rpki_der.specs.Values.{IsUnambiguous}
use Rattle.rpki_der.proofs.Formats.{one_meant}
use Rattle.rpki_parts.specs.Keys.{KeyFields}
use Rattle.rpki_cert.specs.Certificates.{CertFields, IsCertificate}
use Rattle.rpki_cert.specs.Verification.{Context, ResourceFields}
use Rattle.rpki_cert.specs.declared.inspect.Kind.TheVariants.{Authority}
use Rattle.rpki_keys.specs.Locators.{NamedTal}
use Rattle.rpki_path.specs.AskedLists.{by_named_lists}
use Rattle.rpki_path.specs.Asking.{RevocationChecks}
use Rattle.rpki_path.specs.Paths.{Candidate, IsMember, IsPathOf, Member, Path, candidate, certificate_at, last, longer, member}
use Rattle.rpki_path.proofs.LongerPaths.{above, last_extended, zip_more}
use Rattle.rpki_folder.specs.Folders.{FolderFields, cas_at, string_at}
use Rattle.rpki_folder.specs.Strangers.{HasCertificate, IsFreeOf}
use Rattle.rpki_folder.specs.Walks.{AreAcceptedCas, AreChildren, HasShare, IsAcceptedCa, IsChildOf, IsHandedDown}
use Rattle.rpki_folder.specs.Walks.{IsLookedAt, LeadsTo, Root, StandsAt, at_anchor, members_at}
use Rattle.rpki_folder.proofs.Descent.{all_append}
use Rattle.rpki_folder.proofs.PathsDown.{is_child, members_next}
use Rattle.rpki_folder.proofs.Shares.{one_share}
use Rattle.rpki_isolation.specs.PathShares.{GoesDown, HasEnoughOn, HasShareOn, IsChildOn, IsOfOthers, LetsIn, LetsInOnce, ReachesLimit}
use Rattle.rpki_isolation.specs.ToldWalks.{IsAllFreeOf}
use Rattle.rpki_isolation.proofs.Carried.{Carries, carries_same}
use Rattle.rpki_isolation.proofs.FolderPaths.{all_below, as_many, has_there, have, leads_of, place_of, to_leads, with_end}
use Rattle.rpki_isolation.proofs.LookedAlike.{IsSame, looked_down, looked_there, same_path}
use Rattle.rpki_isolation.proofs.RelatedLists.{related, zip_back, zip_length, zip_on, zip_once}

-- the path down to these members
abbrev path_to : CertFields → List Member → Path
path_to top ms = record { anchor = top; below = ms }

-- the last of a path that goes on has no key of theirs, if no issuer of the longer path has
front_free : (keys : List KeyFields) (top : CertFields) (done : List Member) (m : Member) (rest : List Member) →
    IsFreeOf keys (path_to top (done ++ m ∷ rest)) → IsAllFreeOf keys (path_to top done)
front_free keys top done m rest free i low has =
    let long = length-append done (m ∷ rest) in
    let under : i < length (done ++ m ∷ rest) = omega (arith, low, long) in
    free i under (subst (λ (d : CertFields). Contains keys d.fields.key) (sym (above (path_to top done) m rest i low)) has)

module _ (x : Context) (names : Bool) (t : NamedTal) (law : IsUnambiguous IsCertificate) where
  abbrev asked : FolderFields → RevocationChecks
  asked f = by_named_lists names x f.lists

  abbrev root : List ℕ → Root
  root anchor = at_anchor t anchor

  abbrev ca : FolderFields → ℕ → Candidate
  ca f place = candidate Authority (string_at f.certs place)

  abbrev Looks : CertFields → FolderFields → (List ℕ → ℕ → Type 0) → List ℕ → ℕ → Type 0
  Looks top f admits = IsLookedAt names admits top f.certs

  -- one member more
  path_more : (anchor : List ℕ) (f : FolderFields) (top : CertFields) (done : List Member) (m : Member)
      (places : List ℕ) (place : ℕ) → IsPathOf anchor (cas_at f.certs places) (path_to top done) →
      IsMember m (ca f place)
      → IsPathOf anchor (cas_at f.certs (places ++ place ∷ [])) (path_to top (done ++ m ∷ []))
  path_more anchor f top done m places place p is = record {
    anchor_begins = p.anchor_begins;
    members = subst (λ (l : List Candidate). AllZip IsMember (done ++ m ∷ []) l)
        (sym (members_next (root anchor) f.certs places place))
        (zip_more IsMember done (cas_at f.certs places) m (ca f place) p.members is);
  }

  module _ (keys : List KeyFields) (aa : List ℕ) (a : FolderFields) (ia : List ℕ → ℕ → Type 0) (bb : List ℕ)
      (b : FolderFields) (ib : List ℕ → ℕ → Type 0) (on : Carries x names keys aa a bb b ib) where
    leads_on : (q : Path) → IsFreeOf keys q → (ms ns : List Candidate) → IsPathOf aa ms q → IsPathOf bb ns q →
        AllByRecursion (λ (m : Member). HasCertificate a m.cert) q.below → (r : ResourceFields)
        → LeadsTo x (asked a) (root aa) ms r → LeadsTo x (asked b) (root bb) ns r
    leads_on q free ms ns pa pb has r l =
        let e = leads_of x names t aa law a q ms r l pa has in
        to_leads x names t bb law b q ns r
        (record {
          through = on.through q free e.through;
          key_is = e.key_is;
          lists_some = e.lists_some;
          held =
              e.held;
        }) pb

    -- a walk goes down the path in both
    down_on : (p : Path) → IsFreeOf keys p → GoesDown x names ia t aa a p → GoesDown x names ib t bb b p
    down_on p free d =
        let has = have a p.below d.above d.path_of.members in
        let e = leads_of x names t aa law a p (cas_at a.certs d.above) d.holder d.leads d.path_of has in
        let l = on.through p free e.through in
        let others = all_below (IsOfOthers x.verifies keys) p
        (λ i low. (
          (certificate_at p i).fields.key,
          free i low,
          (l.is_valid.members_verified i low).1.1.1.1.1.0,
        )) in
        let there = looked_down x.verifies keys law names p.anchor a.certs ia b ib on.lets_in p.below
        (all_below (HasCertificate b) p l.members) others [] d.above [] tt d.path_of.members d.looked in
        let path_of : IsPathOf bb (cas_at b.certs there.places) p =
        record { anchor_begins = on.begins p.anchor d.path_of.anchor_begins; members = there.members } in
        record {
          above = there.places;
          path_of = path_of;
          looked = there.looked;
          holder = d.holder;
          leads = leads_on p free (cas_at a.certs d.above) (cas_at b.certs there.places) d.path_of path_of has d.holder d.leads;
        }

    -- ---- below an issuer

    module _ (q : Path) (free : IsAllFreeOf keys q) (A B : List ℕ) (pa : IsPathOf aa (cas_at a.certs A) q)
        (pb : IsPathOf bb (cas_at b.certs B) q) where
      free_above : IsFreeOf keys q
      free_above i low = free i (omega (arith, low))

      free_longer : (m : Member) → IsFreeOf keys (longer q m)
      free_longer m i low =
          let n = last_extended q m in
          let under : i ≤ last q = omega (arith, low, n) in
          λ has. free i under (subst (λ (d : CertFields). Contains keys d.fields.key) (above q m [] i under) has)

      has_all : AllByRecursion (λ (m : Member). HasCertificate a m.cert) q.below
      has_all = have a q.below A pa.members

      issuer_on : (r : ResourceFields) → LeadsTo x (asked a) (root aa) (members_at (root aa) a.certs A) r →
          LeadsTo x (asked b) (root bb) (members_at (root bb) b.certs B) r
      issuer_on r leads = leads_on q free_above (cas_at a.certs A) (cas_at b.certs B) pa pb has_all r leads

      -- a certificate at which both walks look, and which is a child of the issuer
      record Child (issuer : CertFields) (k j : ℕ) : Type 0 where
        same : IsSame a.certs b.certs k j
        others : IsOfOthers x.verifies keys same.0
        looked : Looks q.anchor a ia A k
        looks : Looks q.anchor b ib B j
        child : IsChildOf x.verifies issuer b.certs j

      module _ (r : ResourceFields) (leads : LeadsTo x (asked a) (root aa) (members_at (root aa) a.certs A) r) where
        own : Contains keys r.cert.fields.key → ⊥
        own has =
            let held = (leads_of x names t aa law a q (cas_at a.certs A) r leads pa has_all).held in
            let same : last q ≤ last q = omega arith in
            free (last q) same (subst (λ (d : CertFields). Contains keys d.fields.key) held.cert_is has)

        child_on : (k : ℕ) → Looks q.anchor a ia A k → IsChildOf x.verifies r.cert a.certs k → (j : ℕ) × Child r.cert k j
        child_on k looked child =
            let others : IsOfOthers x.verifies keys child.cert = (r.cert.fields.key, own, child.signed) in
            let some = place_of b child.cert
            (on.signed r.cert.fields.key own child.cert child.signed child.one_algorithm
            (has_there a k child.cert child.stands)) in
            let at = on.lets_in child.cert others some.0 some.1 B in
            let same : IsSame a.certs b.certs k at.0 = (child.cert, child.stands, at.1) in (
              at.0,
              record {
                same = same;
                others = others;
                looked = looked;
                looks = looked_there a.certs b.certs law names ia ib q.anchor A B
                    (same_path a.certs b.certs q.below A B pa.members pb.members) k at.0 same at.2 looked;
                child = record {
                  cert = child.cert;
                  stands = at.1;
                  names_key = child.names_key;
                  signed =
                      child.signed;
                  one_algorithm = child.one_algorithm;
                };
              },
            )

        -- a CA that is accepted below the issuer
        ca_on : (k : ℕ) → Looks q.anchor a ia A k → IsAcceptedCa x (asked a) (root aa) a.certs A k →
            (j : ℕ) × Child r.cert k j × IsAcceptedCa x (asked b) (root bb) b.certs B j
        ca_on k looked accepted =
            let leads_k = subst (λ (l : List Candidate). LeadsTo x (asked a) (root aa) l accepted.0)
            (members_next (root aa) a.certs A k) accepted.1 in
            let c = child_on k looked
            (is_child x (asked a) (root aa) law (members_at (root aa) a.certs A) r leads Authority
            (string_at a.certs k) [] accepted.0 leads_k a.certs k refl) in
            let cert = c.1.same.0 in
            let m = member Authority cert in
            let to_a = with_end aa a.certs A k Authority q cert pa c.1.same.1 in
            let to_b = with_end bb b.certs B c.0 Authority q cert pb c.1.same.2 in
            let has = all_append (λ (n : Member). HasCertificate a n.cert) q.below (m ∷ []) has_all (has_there a k cert c.1.same.1, tt) in
            let leads_j = leads_on (longer q m) (free_longer m) (cas_at a.certs A ++ ca a k ∷ [])
            (cas_at b.certs B ++ ca b c.0 ∷ []) to_a to_b has accepted.0 leads_k in (
              c.0,
              c.1,
              (
                accepted.0,
                subst (λ (l : List Candidate). LeadsTo x (asked b) (root bb) l accepted.0)
                    (sym (members_next (root bb) b.certs B c.0)) leads_j,
              ),
            )

      -- at which place of the first folder it is let in the second tells
      one_before : LetsInOnce x.verifies keys a.certs ia → (issuer : CertFields) (k n j : ℕ) → Child issuer k j → Child issuer n j → k ≡ n
      one_before once issuer k n j c d =
          let one : c.same.0 ≡ d.same.0 = one_meant IsCertificate law c.same.0 d.same.0 (string_at b.certs j) c.same.2 d.same.2 in
          once d.same.0 d.others A k n (subst (λ (e : CertFields). StandsAt a.certs k e) one c.same.1) d.same.1
          c.looked.admitted d.looked.admitted

      -- and the other way round
      one_behind : LetsInOnce x.verifies keys b.certs ib → (issuer other : CertFields) (k j i : ℕ) →
          Child issuer k j → StandsAt b.certs i other → StandsAt a.certs k other → ib B i → j ≡ i
      one_behind once issuer other k j i c there here admitted =
          let one : other ≡ c.same.0 = one_meant IsCertificate law other c.same.0 (string_at a.certs k) here c.same.1 in
          once c.same.0 c.others B j i c.same.2 (subst (λ (e : CertFields). StandsAt b.certs i e) one there) c.looks.admitted admitted

  -- a child at which a walk looks
  module _ (keys : List KeyFields) (aa : List ℕ) (a : FolderFields) (ia : List ℕ → ℕ → Type 0) (bb : List ℕ)
      (b : FolderFields) (ib : List ℕ → ℕ → Type 0) (on : Carries x names keys aa a bb b ib) (p : Path)
      (free : IsAllFreeOf keys p) where
    below_free : IsFreeOf keys p
    below_free i low = free i (omega (arith, low))

    pub child_there : (c : CertFields) → IsChildOn x names ia t aa a p c → IsChildOn x names ib t bb b p c
    child_there c h =
        let d = h.down in
        let e = down_on keys aa a ia bb b ib on p below_free d in
        let held = (leads_of x names t aa law a p (cas_at a.certs d.above) d.holder d.leads d.path_of
        (have a p.below d.above d.path_of.members)).held in
        let child : IsChildOf x.verifies d.holder.cert a.certs h.place =
        subst (λ (i : CertFields). IsChildOf x.verifies i a.certs h.place) (sym held.cert_is) h.child in
        let n = child_on keys aa a ia bb b ib on p free d.above e.above d.path_of e.path_of d.holder d.leads h.place h.looks child in
        let one : n.1.same.0 ≡ c = one_meant IsCertificate law n.1.same.0 c (string_at a.certs h.place) n.1.same.1 h.stands in
        record {
          down = e;
          place = n.0;
          stands = subst (λ (i : CertFields). StandsAt b.certs n.0 i) one n.1.same.2;
          looks = n.1.looks;
          child = subst (λ (i : CertFields). IsChildOf x.verifies i b.certs n.0) held.cert_is n.1.child;
        }

  -- ---- children, and the CAs among them

  module _ (keys : List KeyFields) (aa : List ℕ) (a : FolderFields) (ia : List ℕ → ℕ → Type 0) (bb : List ℕ)
      (b : FolderFields) (ib : List ℕ → ℕ → Type 0) (on : Carries x names keys aa a bb b ib)
      (back : Carries x names keys bb b aa a ia) (once_a : LetsInOnce x.verifies keys a.certs ia)
      (once_b : LetsInOnce x.verifies keys b.certs ib) (q : Path) (free : IsAllFreeOf keys q) (A B : List ℕ)
      (pa : IsPathOf aa (cas_at a.certs A) q) (pb : IsPathOf bb (cas_at b.certs B) q) where
    abbrev Both : CertFields → ℕ → ℕ → Type 0
    Both issuer = Child keys aa a ia bb b ib on q free A B pa pb issuer

    module _ (ks : List ℕ) (c : AreChildren x (asked a) (Looks q.anchor a ia) (root aa) a.certs A ks) where
      children_by : (js : List ℕ) × AllZip (Both c.issuer.cert) ks js
      children_by = related (Both c.issuer.cert) ks (λ k at. let h = c.only k at in
          child_on keys aa a ia bb b ib on q free A B pa pb c.issuer c.leads k h.0 h.1)

      children_on : AreChildren x (asked b) (Looks q.anchor b ib) (root bb) b.certs B children_by.0
      children_on =
          let js = children_by in
          record {
            issuer = c.issuer;
            leads = issuer_on keys aa a ia bb b ib on q free A B pa pb c.issuer c.leads;
            only = λ j at. let r = zip_back (Both c.issuer.cert) ks js.0 js.1 j at in (r.2.looks, r.2.child);
            all = λ j looks child.
                let r = child_on keys bb b ib aa a ia back q free B A pb pa c.issuer
                (issuer_on keys aa a ia bb b ib on q free A B pa pb c.issuer c.leads) j looks child in
                let k = r.0 in
                let i = zip_on (Both c.issuer.cert) ks js.0 js.1 k (c.all k r.1.looks r.1.child) in
                subst (λ (n : ℕ). Contains js.0 n)
                (one_behind keys aa a ia bb b ib on q free A B pa pb once_b c.issuer.cert r.1.same.0 k i.0 j i.2
                r.1.same.1 r.1.same.2 looks.admitted) i.1;
            once = zip_once (Both c.issuer.cert)
                (λ k n j one other. one_before keys aa a ia bb b ib on q free A B pa pb once_a c.issuer.cert k n j
                one other) ks js.0 js.1 c.once;
          }

      children_count : length ks ≡ length children_by.0
      children_count = zip_length (Both c.issuer.cert) ks children_by.0 children_by.1

    module _ (r : ResourceFields) (leads : LeadsTo x (asked a) (root aa) (members_at (root aa) a.certs A) r)
        (ks : List ℕ) (c : AreAcceptedCas x (asked a) (Looks q.anchor a ia) (root aa) a.certs A ks) where
      abbrev BothCas : ℕ → ℕ → Type 0
      BothCas k j = Both r.cert k j × IsAcceptedCa x (asked b) (root bb) b.certs B j

      cas_by : (js : List ℕ) × AllZip BothCas ks js
      cas_by = related BothCas ks (λ k at. let h = c.only k at in
          let n = ca_on keys aa a ia bb b ib on q free A B pa pb r leads k h.0 h.1 in
          (n.0, (n.1, n.2)))

      cas_on : AreAcceptedCas x (asked b) (Looks q.anchor b ib) (root bb) b.certs B cas_by.0
      cas_on =
          let js = cas_by in
          record {
            only = λ j at. let n = zip_back BothCas ks js.0 js.1 j at in (n.2.0.looks, n.2.1);
            all = λ j looks accepted.
                let n = ca_on keys bb b ib aa a ia back q free B A pb pa r
                (issuer_on keys aa a ia bb b ib on q free A B pa pb r leads) j looks accepted in
                let i = zip_on BothCas ks js.0 js.1 n.0 (c.all n.0 n.1.looks n.2) in
                subst (λ (p : ℕ). Contains js.0 p)
                (one_behind keys aa a ia bb b ib on q free A B pa pb once_b r.cert n.1.same.0 n.0 i.0 j i.2.0
                n.1.same.1 n.1.same.2 looks.admitted) i.1;
            once = zip_once BothCas
                (λ k n j one other. one_before keys aa a ia bb b ib on q free A B pa pb once_a r.cert k n j one.0
                other.0) ks js.0 js.1 c.once;
          }

      cas_count : length ks ≡ length cas_by.0
      cas_count = zip_length BothCas ks cas_by.0 cas_by.1

    -- so what is handed down of a share is the same
    handed_on : (share next : ℕ) → IsHandedDown x (asked a) (Looks q.anchor a ia) (root aa) a.certs A share next →
        IsHandedDown x (asked b) (Looks q.anchor b ib) (root bb) b.certs B share next
    handed_on share next h =
        let c = h.are_children in
        let many = children_count h.children c in
        let few = cas_count c.issuer c.leads h.cas h.are_cas in
        record {
          children = (children_by h.children c).0;
          are_children = children_on h.children c;
          enough = subst (λ (n : ℕ). n ≤ share) many h.enough;
          cas = (cas_by c.issuer c.leads h.cas h.are_cas).0;
          are_cas = cas_on c.issuer c.leads h.cas h.are_cas;
          next_is = h.next_is ∙ ap (λ (n : ℕ). (share - n) / length h.cas) many ∙
              ap (λ (n : ℕ). (share - length (children_by h.children c).0) / n) few;
        }

  -- ---- shares

  module _ (keys : List KeyFields) (aa : List ℕ) (a : FolderFields) (ia : List ℕ → ℕ → Type 0) (bb : List ℕ)
      (b : FolderFields) (ib : List ℕ → ℕ → Type 0) (on : Carries x names keys aa a bb b ib)
      (back : Carries x names keys bb b aa a ia) (once_a : LetsInOnce x.verifies keys a.certs ia)
      (once_b : LetsInOnce x.verifies keys b.certs ib) where
    abbrev Shared : CertFields → List ℕ → FolderFields → (List ℕ → ℕ → Type 0) → List ℕ → ℕ → List ℕ → ℕ → Type 0
    Shared top anchor f admits places share between end = HasShare x (asked f) (Looks top f admits) (root anchor)
        f.certs places share between end

    share_down : (top : CertFields) (done rest : List Member) (A As B Bs : List ℕ) → IsFreeOf keys (path_to top (done ++ rest))
        → IsPathOf aa (cas_at a.certs A) (path_to top done) → AllZip IsMember rest (cas_at a.certs As) →
        IsPathOf bb (cas_at b.certs B) (path_to top done) → AllZip IsMember rest (cas_at b.certs Bs)
        → (share end : ℕ) → Shared top aa a ia A share As end → Shared top bb b ib B share Bs end
    share_down top done [] A [] B [] free pa za pb zb share end h = h
    share_down top done [] A (k ∷ As) B Bs free pa za pb zb share end h = absurd za
    share_down top done [] A [] B (j ∷ Bs) free pa za pb zb share end h = absurd zb
    share_down top done (m ∷ rest) A [] B Bs free pa za pb zb share end h = absurd za
    share_down top done (m ∷ rest) A (k ∷ As) B [] free pa za pb zb share end h = absurd zb
    share_down top done (m ∷ rest) A (k ∷ As) B (j ∷ Bs) free pa za pb zb share end (next, handed, more) = (
      next,
      handed_on keys aa a ia bb b ib on back once_a once_b (path_to top done) (front_free keys top done m rest free) A
          B pa pb share next handed,
      share_down top (done ++ m ∷ []) rest (A ++ k ∷ []) As (B ++ j ∷ []) Bs
          (subst (λ (ms : List Member). IsFreeOf keys (path_to top ms)) (sym (append_assoc done (m ∷ []) rest))
          free)
          (path_more aa a top done m A k pa za.0) za.1 (path_more bb b top done m B j pb zb.0) zb.1 next end more,
    )

    module _ (p : Path) where
      -- at the places of one path, whichever they are, the share is the same
      share_on : IsFreeOf keys p →
          (d : GoesDown x names ia t aa a p) (e : GoesDown x names ib t bb b p) (steps share : ℕ) →
          Shared p.anchor aa a ia [] steps d.above share → Shared p.anchor bb b ib [] steps e.above share
      share_on free d e steps share h =
          let top_a : IsPathOf aa (cas_at a.certs []) (path_to p.anchor []) =
          record { anchor_begins = d.path_of.anchor_begins; members = tt } in
          let top_b : IsPathOf bb (cas_at b.certs []) (path_to p.anchor []) =
          record { anchor_begins = e.path_of.anchor_begins; members = tt } in
          share_down p.anchor [] p.below [] d.above [] e.above free top_a d.path_of.members top_b e.path_of.members steps share h

      pub shares : IsFreeOf keys p → (steps share : ℕ) → HasShareOn x names ia t aa a steps p share →
          HasShareOn x names ib t bb b steps p share
      shares free steps share h =
          let e = down_on keys aa a ia bb b ib on p free h.down in
          record { down = e; has = share_on free h.down e steps share h.has }

      module _ (free : IsAllFreeOf keys p) where
        all_above : IsFreeOf keys p
        all_above i low = free i (omega (arith, low))

        module _ (d : GoesDown x names ia t aa a p) (ks : List ℕ)
            (c : AreChildren x (asked a) (Looks p.anchor a ia) (root aa) a.certs d.above ks) where
          abbrev e : GoesDown x names ib t bb b p
          e = down_on keys aa a ia bb b ib on p all_above d

          abbrev js : List ℕ
          js = (children_by keys aa a ia bb b ib on back once_a once_b p free d.above e.above d.path_of e.path_of ks c).0

          are_there : AreChildren x (asked b) (Looks p.anchor b ib) (root bb) b.certs e.above js
          are_there = children_on keys aa a ia bb b ib on back once_a once_b p free d.above e.above d.path_of e.path_of ks c

          as_many_there : length ks ≡ length js
          as_many_there = children_count keys aa a ia bb b ib on back once_a once_b p free d.above e.above d.path_of e.path_of ks c

        -- whether the share is enough
        pub enough_there : (depth steps : ℕ) → HasEnoughOn x names ia t aa a depth steps p → HasEnoughOn x names ib t bb b depth steps p
        enough_there depth steps h =
            let d = h.down in
            let k = h.enough in
            let there = e d k.children k.are_children in
            let long : length d.above ≡ length there.above = as_many a p.below d.above d.path_of.members ∙
            sym (as_many b p.below there.above there.path_of.members) in
            record {
              down = there;
              enough = record {
                within = subst (λ (n : ℕ). n < depth) long k.within;
                last = k.last;
                has = share_on all_above d there steps k.last k.has;
                children = js d k.children k.are_children;
                are_children = are_there d k.children k.are_children;
                enough = subst (λ (n : ℕ). n ≤ k.last) (as_many_there d k.children k.are_children) k.enough;
              };
            }

        -- and where a walk reaches a limit
        pub limit_there : (depth steps children share : ℕ) →
            ReachesLimit x names ia t aa a depth steps p children share →
            ReachesLimit x names ib t bb b depth steps p children share
        limit_there depth steps children share h =
            let d = h.down in
            let there = e d h.places h.are_children in
            record {
              down = there;
              has = share_on all_above d there steps share h.has;
              places = js d h.places h.are_children;
              are_children = are_there d h.places h.are_children;
              count_is = h.count_is ∙ as_many_there d h.places h.are_children;
              why = h.why;
            }

  -- ---- one share

  module _ (admits : List ℕ → ℕ → Type 0) (anchor : List ℕ) (f : FolderFields) (p : Path) where
    same_share : (places between : List ℕ) (share one other : ℕ) →
        HasShare x (asked f) (Looks p.anchor f admits) (root anchor) f.certs places share between one →
        HasShare x (asked f) (Looks p.anchor f admits) (root anchor) f.certs places share between other →
        one ≡ other
    same_share places [] share one other h i = h ∙ sym i
    same_share places (place ∷ between) share one other h i =
        let same : h.0 ≡ i.0 = one_share x (asked f) (Looks p.anchor f admits) (root anchor) f.certs law places share h.0 i.0 h.1 i.1 in
        same_share (places ++ place ∷ []) between i.0 one other
        (subst (λ (n : ℕ). HasShare x (asked f) (Looks p.anchor f admits) (root anchor) f.certs
        (places ++ place ∷ []) n between one) same h.2) i.2

    -- of one path there is one share
    pub one_share_on : (keys : List KeyFields) → LetsIn x.verifies keys f.certs admits →
        LetsInOnce x.verifies keys f.certs admits → IsFreeOf keys p → (steps one other : ℕ) →
        HasShareOn x names admits t anchor f steps p one → HasShareOn x names admits t anchor f steps p other →
        one ≡ other
    one_share_on keys lets once free steps one other h i =
        let same = carries_same x names keys anchor f admits lets in
        same_share [] i.down.above steps one other
        (share_on keys anchor f admits anchor f admits same same once once p free h.down i.down steps one h.has)
        i.has
