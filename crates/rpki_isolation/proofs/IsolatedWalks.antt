-- What walks tell below paths on which no CA has a key of strangers is alike, whatever these add.
use Rattle.std.specs.List.{AllByRecursion}
use Rattle.std.specs.Prelude.{Any, Bool, Option, None, Some, Contains, Result, Ok, Err, IsOk}
use Rattle.std.proofs.Common.{◌≡◌, ◌≢◌, ◌⊎◌, ◌↔◌, ◌+◌, ◌≤◌, ℕ, List, [], ◌∷◌, ◌++◌, length, refl, sym, ap, subst, ◌∙◌, inl, inr, arith}
use Rattle.std.proofs.lemmas.List.Elements.{All-from_recursion}
use Rattle.rpki_der.specs.Values.{IsUnambiguous}
use Rattle.rpki_der.proofs.Formats.{one_meant}
use Rattle.rpki_ext.specs.Kinds.{Means}
use Rattle.rpki_parts.specs.Keys.{KeyFields}
use Rattle.rpki_parts.specs.Conditions.{IsFirstFalse}
use Rattle.rpki_crl.specs.Revocation.{revocation_checks}
use Rattle.rpki_crl.specs.declared.revocation_error.RevocationError.{RevocationError}
use Rattle.rpki_cert.specs.declared.verification_error.VerificationError.{VerificationError}
use Rattle.rpki_path.specs.declared.path_fault.PathFault.TheVariants.{Memory, Revocation}
use Rattle.rpki_path.specs.Asking.{RevocationChecks}
use Rattle.rpki_path.proofs.ValidPaths.{check_last}
use Rattle.rpki_isolation.proofs.AlikeFaults.{faults_alike, found_of, lists_alike}
use Rattle.rpki_folder.proofs.IsolatedPaths.{same_eligible}
use Rattle.rpki_cert.specs.Certificates.{TbsFields, CertFields, IsCertificate}
use Rattle.rpki_cert.specs.SaidKinds.{SaysKind}
use Rattle.rpki_cert.specs.Verification.{CheckUnder, Context, IsVerified, issued_checks, ResourceFields, router_checks}
use Rattle.rpki_cert.specs.declared.inspect.Kind.{Kind}
use Rattle.rpki_cert.specs.declared.inspect.Kind.TheVariants.{Anchor, Authority, EndEntity, Detached, Router}
use Rattle.rpki_cert.proofs.SaidOnce.{says_one}
use Rattle.rpki_keys.specs.Locators.{NamedTal}
use Rattle.rpki_path.specs.AskedLists.{by_named_lists}
use Rattle.rpki_path.specs.Judging.{IsRouterIfAny}
use Rattle.rpki_path.specs.Paths.{Candidate, candidate, Finds, HasHeld, IsPathOf, Member, member, Path, certificate_at, last, longer}
use Rattle.rpki_path.specs.Routers.{IsRouterUnder}
use Rattle.rpki_path.specs.declared.judging.Judged.{Judged}
use Rattle.rpki_path.specs.declared.path_fault.PathFault.{PathFault}
use Rattle.rpki_path.proofs.LongerPaths.{above, all_at, last_extended}
use Rattle.rpki_folder.specs.Folders.{FolderFields, cas_at, string_at}
use Rattle.rpki_folder.specs.Strangers.{AddsOnly, HasCertificate, IsFreeOf, LeadsThrough}
use Rattle.rpki_isolation.specs.PathShares.{HasEnoughOn, IsOfOthers, LetsIn}
use Rattle.rpki_isolation.specs.ToldWalks.{AreAlikeFaults, BeginAlike, HasLookedBelow, HasNoList, HoldAlike}
use Rattle.rpki_isolation.specs.ToldWalks.{IsToldAccepted, IsAllFreeOf, IsForWantOfList, HasToldVerdict, SayAlike, Walked}
use Rattle.rpki_folder.specs.Walks.{at_anchor, AreAdmitted, IsLookedAt, Covers, demand_as, IsAcceptedAs, IsReached}
use Rattle.rpki_folder.specs.Walks.{IsRight, IsRightOf, IsTold, StandsAt, Told}
use Rattle.rpki_folder.proofs.PathsDown.{no_fault, no_router_fault, some_is}
use Rattle.rpki_folder.proofs.SearchSteps.{told_let_in}
use Rattle.rpki_isolation.proofs.Carried.{Carries, carries_back, carries_on, unlet_back, unlet_on}
use Rattle.rpki_isolation.proofs.LookedAlike.{admitted_front, admitted_last, admitted_more, Down, looked_down, looked_there, same_path}
use Rattle.rpki_isolation.proofs.FolderPaths.{Leads, all_below, all_front, as_many, has_there, have, leads_of, place_of, to_leads, with_end}

ok_value : (r : Result Judged PathFault) → IsOk r → (j : Judged) × (r ≡ Ok j)
ok_value (Ok j) ok = (j, refl)
ok_value (Err e) ok = absurd (cc ok)

-- ---- what an accepted certificate is

module _ (x : Context) (names : Bool) (t : NamedTal) (law : IsUnambiguous IsCertificate) where
  -- what is said of a certificate of this kind that is accepted below the path
  abbrev IsOf : FolderFields → Kind → Path → CertFields → Judged → Type 0
  IsOf folder Router p c j = Leads x names t folder p j.holder × HasCertificate folder c ×
      IsRouterUnder x (by_named_lists names x folder.lists) j.holder c × (j.router ≡ Some c)
  IsOf folder kind p c j = Leads x names t folder (longer p (member kind c)) j.holder × (j.router ≡ None)

  -- and of the way on which a walk looked at it
  record Way (admits : List ℕ → ℕ → Type 0) (anchor : List ℕ) (folder : FolderFields) (p : Path) (c : CertFields)
      (j : Judged) : Type 0 where
    kind : Kind
    says : SaysKind kind c.fields
    places : List ℕ
    place : ℕ
    path_of : IsPathOf anchor (cas_at folder.certs places) p
    stands : StandsAt folder.certs place c
    looked : AreAdmitted (IsLookedAt names admits p.anchor folder.certs) [] (places ++ place ∷ [])
    is_of : IsOf folder kind p c j

  module _ (anchor : List ℕ) (folder : FolderFields) where
    abbrev asked : RevocationChecks
    asked = by_named_lists names x folder.lists

    abbrev As : List Candidate → Kind → List ℕ → Judged → Type 0
    As = IsAcceptedAs x asked (at_anchor t anchor)

    -- the verdict at the places is right
    right_at : (ts : List Told) (places : List ℕ) (place : ℕ) (v : Result Judged PathFault) →
        AllByRecursion (IsRight x asked (at_anchor t anchor) folder.certs) ts →
        Any (λ (u : Told). (u.above ≡ places) × (u.place ≡ place) × (u.verdict ≡ v)) ts
        → IsRightOf x asked (at_anchor t anchor) (cas_at folder.certs places) (string_at folder.certs place) v
    right_at ts places place v right h =
        let u = h.1 in
        let is : IsRight x asked (at_anchor t anchor) folder.certs u =
        subst (λ (w : Told). IsRight x asked (at_anchor t anchor) folder.certs w) h.3
        (All-from_recursion (IsRight x asked (at_anchor t anchor) folder.certs) ts right h.0 u h.2) in
        subst (λ (w : Result Judged PathFault). IsRightOf x asked (at_anchor t anchor) (cas_at folder.certs places)
        (string_at folder.certs place) w) h.4.2
        (subst (λ (n : ℕ). IsRightOf x asked (at_anchor t anchor) (cas_at folder.certs places) (string_at folder.certs n) u.verdict) h.4.1
        (subst (λ (l : List ℕ). IsRightOf x asked (at_anchor t anchor) (cas_at folder.certs l)
        (string_at folder.certs u.place) u.verdict) h.4.0 is))

    told_there : (ts : List Told) (places : List ℕ) (place : ℕ) (j : Judged) →
        Any (λ (u : Told). (u.above ≡ places) × (u.place ≡ place) × (u.verdict ≡ Ok j)) ts → IsTold ts places place
    told_there ts places place j h = (h.0, h.1, h.2, h.3, (h.4.0, h.4.1, subst (λ (r : Result Judged PathFault). IsOk r) (sym h.4.2) refl))

    module _ (p : Path) (c : CertFields) (places : List ℕ) (place : ℕ)
        (path_of : IsPathOf anchor (cas_at folder.certs places) p) (stands : StandsAt folder.certs place c) where
      abbrev octets : List ℕ
      octets = string_at folder.certs place

      abbrev cas_there : List Candidate
      cas_there = cas_at folder.certs places

      abbrev all_there : Kind → List Candidate
      all_there kind = cas_there ++ candidate kind octets ∷ []

      above_has : AllByRecursion (λ (m : Member). HasCertificate folder m.cert) p.below
      above_has = have folder p.below places path_of.members

      all_has : (kind : Kind) → AllByRecursion (λ (m : Member). HasCertificate folder m.cert) (longer p (member kind c)).below
      all_has kind = push p.below above_has where
        push : (ms : List Member) → AllByRecursion (λ (m : Member). HasCertificate folder m.cert) ms →
            AllByRecursion (λ (m : Member). HasCertificate folder m.cert) (ms ++ member kind c ∷ [])
        push [] has = (has_there folder place c stands, tt)
        push (m ∷ ms) has = (has.0, push ms has.1)

      path_to : (kind : Kind) → IsPathOf anchor (all_there kind) (longer p (member kind c))
      path_to kind = with_end anchor folder.certs places place kind p c path_of stands

      router_is : (r : ResourceFields) (o : Option CertFields) → IsRouterIfAny x asked r (Some octets) o →
          IsRouterUnder x asked r c × (o ≡ Some c)
      router_is r None h = absurd h
      router_is r (Some d) h =
          let same : d ≡ c = one_meant IsCertificate law d c octets h.0 stands in
          (subst (λ (e : CertFields). IsRouterUnder x asked r e) same h.1, ap (λ (e : CertFields). Some e) same)

      is_of_as : (kind : Kind) (j : Judged) → SaysKind kind c.fields → As cas_there kind octets j → IsOf folder kind p c j
      is_of_as Anchor j says h = absurd says
      is_of_as Authority j says h = (
        leads_of x names t anchor law folder (longer p (member Authority c)) (all_there Authority) j.holder h.0
            (path_to Authority) (all_has Authority),
        h.1,
      )
      is_of_as EndEntity j says h = (
        leads_of x names t anchor law folder (longer p (member EndEntity c)) (all_there EndEntity) j.holder h.0
            (path_to EndEntity) (all_has EndEntity),
        h.1,
      )
      is_of_as Detached j says h = (
        leads_of x names t anchor law folder (longer p (member Detached c)) (all_there Detached) j.holder h.0
            (path_to Detached) (all_has Detached),
        h.1,
      )
      is_of_as Router j says h =
          let r = router_is j.holder j.router h.1 in
          (leads_of x names t anchor law folder p cas_there j.holder h.0 path_of above_has, has_there folder place c stands, r.0, r.1)

      as_of : (kind : Kind) (j : Judged) → SaysKind kind c.fields → IsOf folder kind p c j → As cas_there kind octets j
      as_of Anchor j says h = absurd says
      as_of Authority j says h = (
        to_leads x names t anchor law folder (longer p (member Authority c)) (all_there Authority) j.holder h.0
            (path_to Authority),
        h.1,
      )
      as_of EndEntity j says h = (
        to_leads x names t anchor law folder (longer p (member EndEntity c)) (all_there EndEntity) j.holder h.0
            (path_to EndEntity),
        h.1,
      )
      as_of Detached j says h = (
        to_leads x names t anchor law folder (longer p (member Detached c)) (all_there Detached) j.holder h.0
            (path_to Detached),
        h.1,
      )
      as_of Router j says h = (
        to_leads x names t anchor law folder p cas_there j.holder h.0 path_of,
        subst (λ (o : Option CertFields). IsRouterIfAny x asked j.holder (Some octets) o) (sym h.3) (stands, h.2),
      )

      -- what is accepted there has no fault
      module _ (kind : Kind) (j : Judged) (says : SaysKind kind c.fields) (h : IsOf folder kind p c j) where
        not_wrong : (e : PathFault) → IsRightOf x asked (at_anchor t anchor) cas_there octets (Err e) → ⊥
        not_wrong e (apart, (other, issuer, begins, leads, finds)) =
            let stood : SaysKind other c.fields = subst (λ (d : CertFields). SaysKind other d.fields)
            (one_meant IsCertificate law begins.0 c octets begins.1 stands) begins.2 in
            let same = says_one c.fields other kind stood says in
            by_kind kind says h (subst (λ (k : Kind). Finds x (demand_as x asked issuer k) octets e) same finds)
          where
            by_kind : (k : Kind) → SaysKind k c.fields → IsOf folder k p c j → Finds x (demand_as x asked issuer k) octets e → ⊥
            by_kind Anchor says h finds = absurd says
            by_kind Authority says h finds = no_fault x asked (at_anchor t anchor) law cas_there issuer leads
                Authority octets [] j.holder (as_of Authority j says h).0 e apart finds
            by_kind EndEntity says h finds = no_fault x asked (at_anchor t anchor) law cas_there issuer leads
                EndEntity octets [] j.holder (as_of EndEntity j says h).0 e apart finds
            by_kind Detached says h finds = no_fault x asked (at_anchor t anchor) law cas_there issuer leads Detached
                octets [] j.holder (as_of Detached j says h).0 e apart finds
            by_kind Router says h finds =
                let stands_so = as_of Router j says h in
                no_router_fault x asked (at_anchor t anchor) law cas_there issuer leads octets j.holder j.router
                stands_so.0 stands_so.1 e apart finds

    -- ---- the way to what a walk accepted

    module _ (admits : List ℕ → ℕ → Type 0) (w : Walked x names admits t anchor folder) (p : Path) (c : CertFields) where
      way_of : (j : Judged) → HasToldVerdict anchor folder.certs w.verdicts p c (Ok j) → Way admits anchor folder p c j
      way_of j told =
          let tells = w.tells p.anchor told.path_of.anchor_begins in
          let right = right_at w.verdicts told.above told.place (Ok j) tells.right told.among in
          let kind = right.0 in
          let says : SaysKind kind c.fields = subst (λ (d : CertFields). SaysKind kind d.fields)
          (one_meant IsCertificate law right.1.0 c (string_at folder.certs told.place) right.1.1 told.stands)
          right.1.2 in
          record {
            kind = kind;
            says = says;
            places = told.above;
            place = told.place;
            path_of = told.path_of;
            stands = told.stands;
            looked = told_let_in (IsLookedAt names admits p.anchor folder.certs) told.place w.verdicts told.above
                tells.let_in (told_there w.verdicts told.above told.place j told.among);
            is_of = is_of_as p c told.above told.place told.path_of told.stands kind j says right.2;
          }

      -- where the walk's end says that it looked at what it accepted there, the CAs of the path have enough
      pub enough_of : Covers w.ended w.depth (last p + 1) → IsToldAccepted anchor folder.certs w.verdicts p c →
          HasEnoughOn x names admits t anchor folder w.depth w.steps p
      enough_of covers accepted =
          let told = accepted.1 in
          let tells = w.tells p.anchor told.path_of.anchor_begins in
          let right = right_at w.verdicts told.above told.place (Ok accepted.0) tells.right told.among in
          let looked = told_let_in (IsLookedAt names admits p.anchor folder.certs) told.place w.verdicts told.above
          tells.let_in (told_there w.verdicts told.above told.place accepted.0 told.among) in
          let many = as_many folder p.below told.above told.path_of.members in
          let far : Covers w.ended w.depth (length told.above + 1) = subst (λ (n : ℕ). Covers w.ended w.depth (n + 1)) (sym many) covers in
          let e = tells.enough told.above told.place far looked (right.0, accepted.0, right.1, right.2) in
          record {
            down = record {
              above = told.above;
              path_of = told.path_of;
              looked = admitted_front (IsLookedAt names admits p.anchor folder.certs) [] told.above told.place looked;
              holder = e.are_children.issuer;
              leads = e.are_children.leads;
            };
            enough = e;
          }

  -- ---- from one folder to the other

  module _ (keys : List KeyFields) (aa : List ℕ) (a : FolderFields) (ia : List ℕ → ℕ → Type 0) (bb : List ℕ)
      (b : FolderFields) (ib : List ℕ → ℕ → Type 0) (on : Carries x names keys aa a bb b ib) (p : Path)
      (free : IsAllFreeOf keys p) (c : CertFields) where
    free_above : IsFreeOf keys p
    free_above i low = free i (omega (arith, low))

    free_longer : (m : Member) → IsFreeOf keys (longer p m)
    free_longer m i low =
        let n = last_extended p m in
        let under : i ≤ last p = omega (arith, low, n) in
        λ has. free i under (subst (λ (d : CertFields). Contains keys d.fields.key) (above p m [] i under) has)

    moved : (q : Path) → IsFreeOf keys q → (r : ResourceFields) → Leads x names t a q r → Leads x names t b q r
    moved q free_q r l = record { through = on.through q free_q l.through; key_is = l.key_is; lists_some = l.lists_some; held = l.held }

    carried : (kind : Kind) (j : Judged) → IsOf a kind p c j → IsOf b kind p c j
    carried Anchor j h = (moved (longer p (member Anchor c)) (free_longer (member Anchor c)) j.holder h.0, h.1)
    carried Authority j h = (moved (longer p (member Authority c)) (free_longer (member Authority c)) j.holder h.0, h.1)
    carried EndEntity j h = (moved (longer p (member EndEntity c)) (free_longer (member EndEntity c)) j.holder h.0, h.1)
    carried Detached j h = (moved (longer p (member Detached c)) (free_longer (member Detached c)) j.holder h.0, h.1)
    carried Router j h =
        let under = h.2 in
        let same : last p ≤ last p = omega arith in
        let own : Contains keys j.holder.cert.fields.key →
        ⊥ = λ has. free (last p) same
        (subst (λ (d : CertFields). Contains keys d.fields.key) h.0.held.cert_is has) in (
          moved p free_above j.holder h.0,
          on.signed j.holder.cert.fields.key own c under.checks.1.1.1.1.1.0 under.meets.0 h.1,
          record { meets = under.meets; checks = under.checks; unrevoked = on.unrevoked j.holder.cert.fields own c under.unrevoked },
          h.3,
        )

    -- the certificates are there
    have_longer : (k : Kind) (r : ResourceFields) → Leads x names t b (longer p (member k c)) r →
        AllByRecursion (λ (m : Member). HasCertificate b m.cert) p.below × HasCertificate b c
    have_longer k r l =
        let all = all_below (HasCertificate b) (longer p (member k c)) l.through.members in (
          all_front (λ (m : Member). HasCertificate b m.cert) p.below (member k c ∷ []) all,
          all_at (λ (m : Member). HasCertificate b m.cert) p.below (member k c) [] all,
        )

    have_all : (kind : Kind) (j : Judged) → IsOf b kind p c j →
        AllByRecursion (λ (m : Member). HasCertificate b m.cert) p.below × HasCertificate b c
    have_all Router j h = (all_below (HasCertificate b) p h.0.through.members, h.1)
    have_all Anchor j h = have_longer Anchor j.holder h.0
    have_all Authority j h = have_longer Authority j.holder h.0
    have_all EndEntity j h = have_longer EndEntity j.holder h.0
    have_all Detached j h = have_longer Detached j.holder h.0

    -- others signed it
    others_signed : (q : Path) → IsFreeOf keys q → LeadsThrough names x b q →
        AllByRecursion (λ (m : Member). IsOfOthers x.verifies keys m.cert) q.below
    others_signed q free_q l = all_below (IsOfOthers x.verifies keys) q
        (λ i low. ((certificate_at q i).fields.key, free_q i low, (l.is_valid.members_verified i low).1.1.1.1.1.0))

    others_longer : (k : Kind) (r : ResourceFields) → Leads x names t b (longer p (member k c)) r →
        AllByRecursion (λ (m : Member). IsOfOthers x.verifies keys m.cert) p.below × IsOfOthers x.verifies keys c
    others_longer k r l =
        let all = others_signed (longer p (member k c)) (free_longer (member k c)) l.through in (
          all_front (λ (m : Member). IsOfOthers x.verifies keys m.cert) p.below (member k c ∷ []) all,
          all_at (λ (m : Member). IsOfOthers x.verifies keys m.cert) p.below (member k c) [] all,
        )

    others_all : (kind : Kind) (j : Judged) → IsOf b kind p c j →
        AllByRecursion (λ (m : Member). IsOfOthers x.verifies keys m.cert) p.below × IsOfOthers x.verifies keys c
    others_all Router j h =
        let same : last p ≤ last p = omega arith in
        let own : Contains keys j.holder.cert.fields.key →
        ⊥ = λ has. free (last p) same
        (subst (λ (d : CertFields). Contains keys d.fields.key) h.0.held.cert_is has) in
        (others_signed p free_above h.0.through, (j.holder.cert.fields.key, own, h.2.checks.1.1.1.1.1.0))
    others_all Anchor j h = others_longer Anchor j.holder h.0
    others_all Authority j h = others_longer Authority j.holder h.0
    others_all EndEntity j h = others_longer EndEntity j.holder h.0
    others_all Detached j h = others_longer Detached j.holder h.0

    -- what a walk of the first accepted, one of the second accepts that looked below the path
    module _ (j : Judged) (s : Way ia aa a p c j) (v : Walked x names ib t bb b) where
      abbrev kind_is : IsOf b s.kind p c j
      kind_is = carried s.kind j s.is_of

      begins : Means IsCertificate p.anchor bb
      begins = on.begins p.anchor s.path_of.anchor_begins

      -- the places of the CAs at which the second one looks, and of the certificate
      module _ (d : Down x.verifies keys law names p.anchor a.certs ia b ib on.lets_in p.below []) where
        abbrev path_there : IsPathOf bb (cas_at b.certs d.places) p
        path_there = record { anchor_begins = begins; members = d.members }

        there : (place : ℕ) × StandsAt b.certs place c × ib d.places place
        there = let some = place_of b c (have_all s.kind j kind_is).1 in on.lets_in c (others_all s.kind j kind_is).1 some.0 some.1 d.places

        accepted_so : IsTold v.verdicts d.places there.0 → IsToldAccepted bb b.certs v.verdicts p c
        accepted_so told =
            let k = ok_value told.1.verdict told.4.2 in (
              k.0,
              record {
                above = d.places;
                place = there.0;
                path_of = path_there;
                stands = there.1;
                among =
                    (told.0, told.1, told.2, told.3, (told.4.0, told.4.1, k.1));
              },
            )

        reached : IsReached x (by_named_lists names x b.lists) (at_anchor t bb) b.certs d.places there.0
        reached = (s.kind, j, (c, there.1, s.says), as_of bb b p c d.places there.0 path_there there.1 s.kind j s.says kind_is)

        looked : AreAdmitted (IsLookedAt names ib p.anchor b.certs) [] (d.places ++ there.0 ∷ [])
        looked =
            let same = same_path a.certs b.certs p.below s.places d.places s.path_of.members d.members in
            admitted_more (IsLookedAt names ib p.anchor b.certs) [] d.places there.0 d.looked
            (looked_there a.certs b.certs law names ia ib p.anchor s.places d.places same s.place there.0
            (c, s.stands, there.1) there.2
            (admitted_last (IsLookedAt names ia p.anchor a.certs) [] s.places s.place s.looked))

      accepted_there : HasLookedBelow p v → IsToldAccepted bb b.certs v.verdicts p c
      accepted_there (inl covers) =
          let d = looked_down x.verifies keys law names p.anchor a.certs ia b ib on.lets_in p.below
          (have_all s.kind j kind_is).0 (others_all s.kind j kind_is).0 [] s.places [] tt s.path_of.members
          (admitted_front (IsLookedAt names ia p.anchor a.certs) [] s.places s.place s.looked) in
          let many = as_many b p.below d.places d.members in
          let far : Covers v.ended v.depth (length d.places + 1) = subst (λ (n : ℕ). Covers v.ended v.depth (n + 1)) (sym many) covers in
          accepted_so d ((v.tells p.anchor begins).complete d.places (there d).0 far (looked d) (reached d))
      accepted_there (inr h) =
          let d : Down x.verifies keys law names p.anchor a.certs ia b ib on.lets_in p.below [] =
          record { places = h.down.above; members = h.down.path_of.members; looked = h.down.looked } in
          accepted_so d ((v.tells p.anchor begins).in_shares d.places (there d).0 h.enough (looked d) (reached d))

    -- and finds no fault
    not_rejected : (j : Judged) → Way ia aa a p c j →
        (lets : List ℕ → ℕ → Type 0) (v : Walked x names lets t bb b) (e : PathFault) →
        HasToldVerdict bb b.certs v.verdicts p c (Err e) → ⊥
    not_rejected j s lets v e told =
        let right = right_at bb b v.verdicts told.above told.place (Err e) (v.tells p.anchor told.path_of.anchor_begins).right told.among in
        not_wrong bb b p c told.above told.place told.path_of told.stands s.kind j s.says (carried s.kind j s.is_of) e right

  -- ---- verdicts

  alike_held : (q : Path) (r s : ResourceFields) → HasHeld q t.name r → HasHeld q t.name s → HoldAlike r s
  alike_held q r s h k = record {
    cert_is = h.cert_is ∙ sym k.cert_is;
    v4_is = λ n. ((λ i. (k.v4_is n).1 ((h.v4_is n).0 i)), (λ i. (h.v4_is n).1 ((k.v4_is n).0 i)));
    v6_is = λ n. ((λ i. (k.v6_is n).1 ((h.v6_is n).0 i)), (λ i. (h.v6_is n).1 ((k.v6_is n).0 i)));
    as_is = λ n. ((λ i. (k.as_is n).1 ((h.as_is n).0 i)), (λ i. (h.as_is n).1 ((k.as_is n).0 i)));
    tal_is = h.tal_is ∙ sym k.tal_is;
  }

  alike_judged : (a b : FolderFields) (p : Path) (c : CertFields) (kind : Kind) (j k : Judged) → IsOf a kind p c j →
      IsOf b kind p c k → HoldAlike j.holder k.holder × (j.router ≡ k.router)
  alike_judged a b p c Anchor j k h i = (alike_held (longer p (member Anchor c)) j.holder k.holder h.0.held i.0.held, h.1 ∙ sym i.1)
  alike_judged a b p c Authority j k h i = (alike_held (longer p (member Authority c)) j.holder k.holder h.0.held i.0.held, h.1 ∙ sym i.1)
  alike_judged a b p c EndEntity j k h i = (alike_held (longer p (member EndEntity c)) j.holder k.holder h.0.held i.0.held, h.1 ∙ sym i.1)
  alike_judged a b p c Detached j k h i = (alike_held (longer p (member Detached c)) j.holder k.holder h.0.held i.0.held, h.1 ∙ sym i.1)
  alike_judged a b p c Router j k h i = (alike_held p j.holder k.holder h.0.held i.0.held, h.3 ∙ sym i.3)

  -- ---- what strangers add

  module _ (keys : List KeyFields) (old new : FolderFields) (adds : AddsOnly x.verifies keys old new)
      (anchor after : List ℕ) (alike : BeginAlike anchor after) (i i_then : List ℕ → ℕ → Type 0) (p : Path)
      (free : IsAllFreeOf keys p) (c : CertFields) where
    module _ (w : Walked x names i t anchor old) (v : Walked x names i_then t after new) where
      -- what one walk accepted, the other did, if it looked below the path
      pub accepted_then : LetsIn x.verifies keys new.certs i_then → HasLookedBelow p v →
          IsToldAccepted anchor old.certs w.verdicts p c → IsToldAccepted after new.certs v.verdicts p c
      accepted_then lets far told = accepted_there keys anchor old i after new i_then
          (carries_on x names law keys old new adds anchor after alike i_then lets) p free c told.0
          (way_of anchor old i w p c told.0 told.1) v far

      pub accepted_before : LetsIn x.verifies keys old.certs i → HasLookedBelow p w →
          IsToldAccepted after new.certs v.verdicts p c → IsToldAccepted anchor old.certs w.verdicts p c
      accepted_before lets far told = accepted_there keys after new i_then anchor old i
          (carries_back x names law keys old new adds anchor after alike i lets) p free c told.0
          (way_of after new i_then v p c told.0 told.1) w far

      -- ---- faults

      abbrev issuer_is : TbsFields
      issuer_is = (certificate_at p (last p)).fields

      abbrev NoList : Type 0
      NoList = HasNoList names x old p c

      module _ (one other : ResourceFields) (h : HasHeld p t.name one) (k : HasHeld p t.name other) where
        checks_same : (e : VerificationError) → CheckUnder x one c e ↔ CheckUnder x other c e
        checks_same e =
            let f = check_last x p t.name one h c e in
            let g = check_last x p t.name other k c e in
            ((λ l. g.1 (f.0 l)), (λ l. f.1 (g.0 l)))

        module _ (names_key : c.fields.extensions.authority_key_identifier ≡ Some one.cert.fields.extensions.subject_key_identifier) where
          revoked_alike : (d e : RevocationError) →
              IsFirstFalse (by_named_lists names x old.lists one.cert.fields c) revocation_checks d →
              IsFirstFalse (by_named_lists names x new.lists other.cert.fields c) revocation_checks e
              → (d ≡ e) ⊎ (IsForWantOfList (Revocation d) × IsForWantOfList (Revocation e) × NoList)
          revoked_alike d e i j =
              let same : last p ≤ last p = omega arith in
              lists_alike names x issuer_is c old.lists new.lists (same_eligible names x keys old new adds issuer_is (free (last p) same) c)
              (subst (λ (b : CertFields). c.fields.extensions.authority_key_identifier ≡
              Some b.fields.extensions.subject_key_identifier) h.cert_is names_key)
              d e
              (subst (λ (b : CertFields). IsFirstFalse (by_named_lists names x old.lists b.fields c) revocation_checks d) h.cert_is i)
              (subst (λ (b : CertFields). IsFirstFalse (by_named_lists names x new.lists b.fields c) revocation_checks e) k.cert_is j)

        module _ (octets octets_then : List ℕ) (means : Means IsCertificate c octets)
            (means_then : Means IsCertificate c octets_then) (e f : PathFault) (apart : e ≢ Memory)
            (apart_then : f ≢ Memory) where
          by_checks : (kind : Kind) (checks : List VerificationError)
              → (IsVerified (CheckUnder x one c) checks →
              c.fields.extensions.authority_key_identifier ≡
              Some one.cert.fields.extensions.subject_key_identifier)
              → Finds x (record {
                kind = kind;
                check = CheckUnder x one;
                checks = checks;
                asked_check =
                    by_named_lists names x old.lists one.cert.fields;
              }) octets e
              → Finds x (record {
                kind = kind;
                check = CheckUnder x other;
                checks = checks;
                asked_check =
                    by_named_lists names x new.lists other.cert.fields;
              }) octets_then f
              → AreAlikeFaults names x old p c e f
          by_checks kind checks names_key i j =
              faults_alike x law c kind checks NoList (CheckUnder x one c) (CheckUnder x other c)
              (by_named_lists names x old.lists one.cert.fields c)
              (by_named_lists names x new.lists other.cert.fields c)
              checks_same (λ verified d b. revoked_alike (names_key verified) d b) e f
              (found_of x law c kind checks NoList (CheckUnder x one)
              (by_named_lists names x old.lists one.cert.fields) octets means e apart i)
              (found_of x law c kind checks NoList (CheckUnder x other)
              (by_named_lists names x new.lists other.cert.fields) octets_then means_then f apart_then j)

          issued_names : IsVerified (CheckUnder x one c) issued_checks →
              c.fields.extensions.authority_key_identifier ≡ Some one.cert.fields.extensions.subject_key_identifier
          issued_names all = some_is c.fields.extensions.authority_key_identifier
              one.cert.fields.extensions.subject_key_identifier all.1.1.0 all.1.1.1.0

          router_names : IsVerified (CheckUnder x one c) router_checks →
              c.fields.extensions.authority_key_identifier ≡ Some one.cert.fields.extensions.subject_key_identifier
          router_names all = some_is c.fields.extensions.authority_key_identifier
              one.cert.fields.extensions.subject_key_identifier all.1.1.0 all.1.1.1.0

          by_kind : (kind : Kind) → Finds x (demand_as x (by_named_lists names x old.lists) one kind) octets e →
              Finds x (demand_as x (by_named_lists names x new.lists) other kind) octets_then f →
              AreAlikeFaults names x old p c e f
          by_kind Anchor i j = by_checks Anchor issued_checks issued_names i j
          by_kind Authority i j = by_checks Authority issued_checks issued_names i j
          by_kind EndEntity i j = by_checks EndEntity issued_checks issued_names i j
          by_kind Detached i j = by_checks Detached issued_checks issued_names i j
          by_kind Router i j = by_checks Router router_checks router_names i j

      rejected_alike : (e f : PathFault) → HasToldVerdict anchor old.certs w.verdicts p c (Err e) →
          HasToldVerdict after new.certs v.verdicts p c (Err f) → AreAlikeFaults names x old p c e f
      rejected_alike e f m n =
          let i = right_at anchor old w.verdicts m.above m.place (Err e) (w.tells p.anchor m.path_of.anchor_begins).right m.among in
          let j = right_at after new v.verdicts n.above n.place (Err f) (v.tells p.anchor n.path_of.anchor_begins).right n.among in
          let h = leads_of x names t anchor law old p (cas_at old.certs m.above) i.1.1 i.1.3 m.path_of
          (have old p.below m.above m.path_of.members) in
          let k = leads_of x names t after law new p (cas_at new.certs n.above) j.1.1 j.1.3 n.path_of
          (have new p.below n.above n.path_of.members) in
          let said : SaysKind i.1.0 c.fields = subst (λ (d : CertFields). SaysKind i.1.0 d.fields)
          (one_meant IsCertificate law i.1.2.0 c (string_at old.certs m.place) i.1.2.1 m.stands) i.1.2.2 in
          let said_then : SaysKind j.1.0 c.fields = subst (λ (d : CertFields). SaysKind j.1.0 d.fields)
          (one_meant IsCertificate law j.1.2.0 c (string_at new.certs n.place) j.1.2.1 n.stands) j.1.2.2 in
          let same = says_one c.fields j.1.0 i.1.0 said_then said in
          by_kind i.1.1 j.1.1 h.held k.held (string_at old.certs m.place) (string_at new.certs n.place) m.stands
          n.stands e f i.0 j.0 i.1.0 i.1.4
          (subst (λ (kind : Kind). Finds x (demand_as x (by_named_lists names x new.lists) j.1.1 kind)
          (string_at new.certs n.place) f) same j.1.4)

      -- two verdicts on one certificate below one path say the same
      pub verdicts_alike : (one other : Result Judged PathFault) → HasToldVerdict anchor old.certs w.verdicts p c one →
          HasToldVerdict after new.certs v.verdicts p c other → SayAlike names x old p c one other
      verdicts_alike (Ok j) (Ok k) m n =
          let s = way_of anchor old i w p c j m in
          let r = way_of after new i_then v p c k n in
          let same = says_one c.fields r.kind s.kind r.says s.says in
          alike_judged old new p c s.kind j k s.is_of (subst (λ (kind : Kind). IsOf new kind p c k) same r.is_of)
      verdicts_alike (Ok j) (Err f) m n = not_rejected keys anchor old i after new (λ above place. Unit {0})
          (unlet_on x names law keys old new adds anchor after alike) p free c j (way_of anchor old i w p c j m)
          i_then v f n
      verdicts_alike (Err e) (Ok k) m n = not_rejected keys after new i_then anchor old (λ above place. Unit {0})
          (unlet_back x names law keys old new adds anchor after alike) p free c k
          (way_of after new i_then v p c k n) i w e m
      verdicts_alike (Err e) (Err f) m n = rejected_alike e f m n
