-- Files have one verdict at most.
use Rattle.std.specs.Prelude.{Option, Some, None}
use Rattle.std.proofs.Common.{◌≡◌, ◌+◌, ◌++◌, ◌∷◌, [], ℕ, List, length, inl, inr, refl, sym, ap, subst, ◌∙◌, arith}
use Rattle.std.proofs.lemmas.List.{same_from_push, length-append}
use Rattle.rpki_path.specs.Asking.{RevocationChecks, nobody}
use Rattle.rpki_path.specs.AskedLists.{by_named_lists}
use Rattle.rpki_cert.specs.Certificates.{CertFields, IsCertificate}
use Rattle.rpki_path.specs.GivenPaths.{PathStrings, path_to, anchor_alone}
use Rattle.rpki_path.specs.declared.judging.Judged.{Judged}
use Rattle.rpki_path.specs.Judging.{IsAcceptedWith, IsRouterIfAny, last_certificate, last_key}
use Rattle.rpki_keys.specs.KeyForms.{IsUsableKey}
use Rattle.rpki_cert.specs.declared.inspect.Kind.{Kind}
use Rattle.rpki_crl.specs.Lists.{CrlFields, CrlState, IsCertificateList}
use Rattle.rpki_path.specs.LocatedPaths.{BeginsWithNoNumber, ListsSome}
use Rattle.rpki_path.specs.NameChains.{strings_below}
use Rattle.rpki_path.specs.Paths.{Path, Candidate, HasHeld, IsAccepted, certificate_at, last}
use Rattle.rpki_der.specs.Values.{IsUnambiguous}
use Rattle.rpki_cert.specs.Verification.{Context, ResourceFields}
use Rattle.rpki_cert.proofs.SaidOnce.{begins_one}
use Rattle.rpki_der.proofs.Formats.{one_meant}
use Rattle.rpki_path.proofs.Rejections as paths
use Rattle.rpki_path.proofs.UnchainedNames.{never_chained}
use Rattle.rpki_files.specs.Contents.{BeginsWithCertificate}
use Rattle.rpki_verdicts.specs.Reasons.{locator_reason, resources_reason}
use Rattle.rpki_verdicts.specs.GivenLocators.{HasNumbersIf, IsLocated}
use Rattle.rpki_verdicts.specs.PathFiles.{Demands, HasJudgedLast, IsGivenBy, IsJudgedAs, AreListsOf}
use Rattle.rpki_verdicts.specs.PathAnswers.{reason_of, AreSame, HoldSame, IsUsablePath, IsVerdictOn, IsVerdictBy}
use Rattle.rpki_verdicts.specs.PathAnswers.Steps.{IsNamedVerdict}
use Rattle.rpki_verdicts.specs.declared.path.Fault.{Fault}
use Rattle.rpki_verdicts.specs.declared.path.Verdict.{Verdict}
use Rattle.rpki_verdicts.specs.declared.path.Verdict.TheVariants.{Accepted, Rejected}

module _ (one_certificate : IsUnambiguous IsCertificate) where
  one_judged : (octets : List ℕ) (a b : Kind) → IsJudgedAs a octets → IsJudgedAs b octets → a ≡ b
  one_judged octets a b (inl p) (inl q) = begins_one one_certificate octets a b p q
  one_judged octets a b (inl p) (inr q) = absurd (q.1 p.0 p.1)
  one_judged octets a b (inr p) (inl q) = absurd (p.1 q.0 q.1)
  one_judged octets a b (inr p) (inr q) = p.0 ∙ sym q.0

  -- ---- one path

  never_alone : (files : List (List ℕ)) (anchor : List ℕ) (g : PathStrings) → files ≡ anchor ∷ [] → HasJudgedLast files g → ⊥
  never_alone files anchor g alone h =
      let short = ap (λ (l : List (List ℕ)). length l) (sym alone ∙ h.split.strings_are) in
      omega (arith, short, length-append h.split.cas (h.split.octets ∷ []))

  one_last : (files : List (List ℕ)) (g h : PathStrings) → HasJudgedLast files g → HasJudgedLast files h → g ≡ h
  one_last files g h a b =
      let p = a.split in
      let q = b.split in
      let anchors : p.anchor ≡ q.anchor = cc (p.strings_are, q.strings_are) in
      let below : p.cas ++ p.octets ∷ [] ≡ q.cas ++ q.octets ∷ [] = cc (p.strings_are, q.strings_are) in
      let parts = same_from_push p.cas q.cas p.octets q.octets below in
      let kinds = one_judged q.octets a.kind b.kind (subst (λ (octets : List ℕ). IsJudgedAs a.kind octets) parts.1 a.kind_is) b.kind_is in
      let made : path_to p.anchor p.cas a.kind p.octets ≡ path_to q.anchor q.cas b.kind q.octets =
      ap (λ (anchor : List ℕ). path_to anchor p.cas a.kind p.octets) anchors
      ∙ ap (λ (cas : List (List ℕ)). path_to q.anchor cas a.kind p.octets) parts.0
      ∙ ap (λ (kind : Kind). path_to q.anchor q.cas kind p.octets) kinds
      ∙ ap (λ (octets : List ℕ). path_to q.anchor q.cas b.kind octets) parts.1
      in
      p.path_is ∙ made ∙ sym q.path_is

  one_path : (files : List (List ℕ)) (g h : PathStrings) → IsGivenBy files g → IsGivenBy files h → g ≡ h
  one_path files g h (inl p) (inl q) =
      let anchors : p.0 ≡ q.0 = cc (p.1, q.1) in
      p.2 ∙ ap anchor_alone anchors ∙ sym q.2
  one_path files g h (inl p) (inr q) = absurd (never_alone files p.0 h p.1 q)
  one_path files g h (inr p) (inl q) = absurd (never_alone files q.0 g q.1 p)
  one_path files g h (inr p) (inr q) = one_last files g h p q

  -- ---- one last certificate

  one_holder : (x : Context) (asked : RevocationChecks) (anchor : List ℕ) (below : List Candidate)
      (r s : ResourceFields) → IsAccepted x asked anchor below [] r → IsAccepted x asked anchor below [] s →
      r.cert ≡ s.cert
  one_holder x asked anchor below r s h k =
      let same = paths.one_path one_certificate anchor below h.path k.path h.path_of k.path_of in
      h.held.cert_is ∙ ap (λ (p : Path). certificate_at p (last p)) same ∙ sym k.held.cert_is

  same_router : (x : Context) (asked : RevocationChecks) (octets : Option (List ℕ)) (r s : ResourceFields)
      (c d : Option CertFields) → r.cert ≡ s.cert → IsRouterIfAny x asked r octets c →
      IsRouterIfAny x asked s octets d → last_certificate r c ≡ last_certificate s d
  same_router x asked None r s None None same h k = same
  same_router x asked None r s None (Some d) same h k = absurd k
  same_router x asked None r s (Some c) d same h k = absurd h
  same_router x asked (Some octets) r s None d same h k = absurd h
  same_router x asked (Some octets) r s (Some c) None same h k = absurd k
  same_router x asked (Some octets) r s (Some c) (Some d) same h k = one_meant IsCertificate one_certificate c d octets h.0 k.0

  -- a path that is accepted ends in one certificate
  pub one_last_certificate : (x : Context) (asked : RevocationChecks) (g : PathStrings) (j i : Judged) →
      IsAcceptedWith x asked g j → IsAcceptedWith x asked g i →
      last_certificate j.holder j.router ≡ last_certificate i.holder i.router
  one_last_certificate x asked g j i h k =
      same_router x asked g.router j.holder i.holder j.router i.router
      (one_holder x asked g.anchor g.below j.holder i.holder h.accepted k.accepted) h.router k.router

  -- and what it holds are the same numbers
  same_held : (x : Context) (asked : RevocationChecks) (anchor : List ℕ) (below : List Candidate)
      (r s : ResourceFields) → IsAccepted x asked anchor below [] r → IsAccepted x asked anchor below [] s →
      HoldSame r s
  same_held x asked anchor below r s h k =
      let same = paths.one_path one_certificate anchor below h.path k.path h.path_of k.path_of in
      let held : HasHeld k.path [] r = subst (λ (p : Path). HasHeld p [] r) same h.held in
      record {
        cert_is = held.cert_is ∙ sym k.held.cert_is;
        v4_same = λ n. ((λ a. (k.held.v4_is n).1 ((held.v4_is n).0 a)), (λ a. (held.v4_is n).1 ((k.held.v4_is n).0 a)));
        v6_same = λ n. ((λ a. (k.held.v6_is n).1 ((held.v6_is n).0 a)), (λ a. (held.v6_is n).1 ((k.held.v6_is n).0 a)));
        as_same = λ n. ((λ a. (k.held.as_is n).1 ((held.as_is n).0 a)), (λ a. (held.as_is n).1 ((k.held.as_is n).0 a)));
      }

  one_router : (x : Context) (asked : RevocationChecks) (octets : Option (List ℕ)) (r s : ResourceFields)
      (c d : Option CertFields) → IsRouterIfAny x asked r octets c → IsRouterIfAny x asked s octets d → c ≡ d
  one_router x asked None r s None None h k = refl
  one_router x asked None r s None (Some d) h k = absurd k
  one_router x asked None r s (Some c) d h k = absurd h
  one_router x asked (Some octets) r s None d h k = absurd h
  one_router x asked (Some octets) r s (Some c) None h k = absurd k
  one_router x asked (Some octets) r s (Some c) (Some d) h k =
      ap (λ (e : CertFields). Some e) (one_meant IsCertificate one_certificate c d octets h.0 k.0)

  all_same : (x : Context) (asked : RevocationChecks) (d : Demands) (g : PathStrings) (j i : Judged) →
      IsUsablePath x asked d g j → IsUsablePath x asked d g i → AreSame j i
  all_same x asked d g j i h k = (
    same_held x asked g.anchor g.below j.holder i.holder h.accepted.accepted k.accepted.accepted,
    one_router x asked g.router j.holder i.holder j.router i.router h.accepted.router k.accepted.router,
  )

  module _ (x : Context) (asked : RevocationChecks) (d : Demands) (files : List (List ℕ)) (g : PathStrings) where
    -- a trust anchor whose key no locator has
    pub other_key_verdict : (fault : Fault) → BeginsWithCertificate g.anchor →
        (IsLocated x.strict d.locators g.anchor → ⊥) → fault.index ≡ 0 → reason_of fault ≡ locator_reason →
        IsVerdictOn x asked d files g (Rejected fault)
    other_key_verdict fault begins other place reason = (
      (λ j u. other u.located),
      inl (inl (record { begins = begins; other = other; place_is = place; reason_is = reason })),
    )

    -- a trust anchor that lists no number, where a locator is given
    no_numbers : (locators : List (List ℕ)) → (locators ≡ [] → ⊥) → BeginsWithNoNumber g.anchor → HasNumbersIf locators g.anchor → ⊥
    no_numbers [] given none has = given refl
    no_numbers (file ∷ locators) given none has =
        none.lists_none
        (subst ListsSome
        (one_meant IsCertificate one_certificate has.cert none.cert g.anchor has.begins none.begins) has.lists)

    pub no_numbers_verdict : (fault : Fault) → (d.locators ≡ [] → ⊥) → BeginsWithNoNumber g.anchor → fault.index ≡ 0 →
        reason_of fault ≡ resources_reason → IsVerdictOn x asked d files g (Rejected fault)
    no_numbers_verdict fault given none place reason = (
      (λ j u. no_numbers d.locators given none u.numbers),
      inl (inr (record { given = given; begins = none; place_is = place; reason_is = reason })),
    )

    -- what names and the last key make of a valid path
    module _ (judged : Judged) (place : ℕ) (located : IsLocated x.strict d.locators g.anchor)
        (numbers : HasNumbersIf d.locators g.anchor) (accepted : IsAcceptedWith x asked g judged)
        (end : place + 1 ≡ length files) where
      pub named_verdict : (v : Verdict) → IsNamedVerdict g d.names judged place v → IsVerdictOn x asked d files g v
      named_verdict (Accepted j) (chained, k) = record {
        located = located;
        numbers = numbers;
        accepted = subst (λ (i : Judged). IsAcceptedWith x asked g i) (sym k.0) accepted;
        chained = chained;
        usable = subst (λ (i : Judged). IsUsableKey (last_key i)) (sym k.0) k.1;
      }
      named_verdict (Rejected fault) (inl other) = (
        (λ j u. never_chained one_certificate g.anchor (strings_below g) fault.index other.unchained (u.chained other.names_asked)),
        inr (inr (inl (record { judged = judged; accepted = accepted; other = other }))),
      )
      named_verdict (Rejected fault) (inr (chained, k)) = (
        (λ j u. k.0 (subst (λ (c : CertFields). IsUsableKey c.fields.key)
            (one_last_certificate x asked g j judged u.accepted accepted) u.usable)),
        inr (inr (inr (record {
          judged = judged;
          accepted = accepted;
          chained = chained;
          unusable = k.0;
          place_is =
              omega (arith, end, k.1);
          reason_is = k.2;
        }))),
      )

  module _ (one_list : IsUnambiguous IsCertificateList) where
    -- ---- the lists that are asked

    same_state : (l k : CrlState) → l.list ≡ k.list → l.is_cached ≡ k.is_cached → l ≡ k
    same_state l k lists cached = ap (λ (list : CrlFields). record { list = list; is_cached = l.is_cached }) lists ∙
        ap (λ (b : _). record { list = k.list; is_cached = b }) cached

    pub same_lists : (files : List (List ℕ)) (a b : List CrlState) → AreListsOf files a → AreListsOf files b → a ≡ b
    same_lists [] a b p q = p ∙ sym q
    same_lists (octets ∷ files) a b (inl p) (inl q) = same_lists files a b p.1 q.1
    same_lists (octets ∷ files) a b (inl p) (inr q) = absurd (p.0 (q.0.list, q.2))
    same_lists (octets ∷ files) a b (inr p) (inl q) = absurd (q.0 (p.0.list, p.2))
    same_lists (octets ∷ files) a b (inr p) (inr q) =
        let first = same_state p.0 q.0 (one_list p.0.list q.0.list octets octets [] [] p.2 q.2 refl).0 (p.3 ∙ sym q.3) in
        let more = same_lists files p.1 q.1 p.4 q.4 in
        p.5 ∙ ap (λ (l : CrlState). l ∷ p.1) first ∙ ap (λ (ls : List CrlState). q.0 ∷ ls) more ∙ sym q.5

    -- files aren't both accepted and rejected
    pub never_both : (x : Context) (d : Demands) (files lists : List (List ℕ)) (j : Judged) (fault : Fault) →
        IsVerdictBy x d files lists (Accepted j) → IsVerdictBy x d files lists (Rejected fault) → ⊥
    never_both x d files [] j fault a b =
        b.2.0 j (subst (λ (g : PathStrings). IsUsablePath x nobody d g j) (one_path files a.0 b.0 a.1 b.1) a.2)
    never_both x d files (list ∷ lists) j fault a b =
        let read = same_lists (list ∷ lists) a.0 b.0 a.1 b.1 in
        let paths = one_path files a.2.0 b.2.0 a.2.1 b.2.1 in
        let usable = subst (λ (g : PathStrings). IsUsablePath x (by_named_lists d.names x a.0) d g j) paths a.2.2 in
        b.2.2.0 j (subst (λ (ls : List CrlState). IsUsablePath x (by_named_lists d.names x ls) d b.2.0 j) read usable)

    -- files are accepted with one certificate, which holds the same numbers
    pub ever_same : (x : Context) (d : Demands) (files lists : List (List ℕ)) (j i : Judged) →
        IsVerdictBy x d files lists (Accepted j) → IsVerdictBy x d files lists (Accepted i) → AreSame j i
    ever_same x d files [] j i a b =
        all_same x nobody d b.0 j i
        (subst (λ (g : PathStrings). IsUsablePath x nobody d g j) (one_path files a.0 b.0 a.1 b.1) a.2) b.2
    ever_same x d files (list ∷ lists) j i a b =
        let read = same_lists (list ∷ lists) a.0 b.0 a.1 b.1 in
        let paths = one_path files a.2.0 b.2.0 a.2.1 b.2.1 in
        let usable = subst (λ (g : PathStrings). IsUsablePath x (by_named_lists d.names x a.0) d g j) paths a.2.2 in
        all_same x (by_named_lists d.names x b.0) d b.2.0 j i
        (subst (λ (ls : List CrlState). IsUsablePath x (by_named_lists d.names x ls) d b.2.0 j) read usable)
        b.2.2
