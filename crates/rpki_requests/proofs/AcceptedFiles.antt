-- What is completed below the issuer that files are is accepted by the same files.
use Rattle.std.specs.Prelude.{Option, Some, None, map, true}
use Rattle.std.proofs.Common.{◌≡◌, ◌↔◌, ℕ, List, [], ◌∷◌, ◌++◌, inl, inr, refl, sym, ap, subst, ◌∙◌, arith}
use Rattle.std.proofs.lemmas.Bool.{false≢true}
use Rattle.std.proofs.lemmas.List.{append-nil, map-append}
use Rattle.rpki_blocks.specs.IssuedSets.{IsListed}
use Rattle.rpki_blocks.specs.Resources.{Resources, missing, inherit, blocks}
use Rattle.rpki_blocks.specs.Sets.{Block, Has}
use Rattle.rpki_cert.specs.Certificates.{CertFields, IsCertificate}
use Rattle.rpki_cert.specs.SaidKinds.{SaysAuthority, SaysKind}
use Rattle.rpki_cert.specs.Verification.{Context, ResourceFields}
use Rattle.rpki_cert.specs.declared.inspect.Kind.{Kind}
use Rattle.rpki_cert.specs.declared.inspect.Kind.TheVariants as kinds
use Rattle.rpki_crl.specs.Lists.{CrlState, IsCertificateList}
use Rattle.rpki_der.proofs.Answering.{whole_means}
use Rattle.rpki_der.proofs.Formats.{one_meant}
use Rattle.rpki_der.specs.Encoding.{Means}
use Rattle.rpki_der.specs.Times.{Moment}
use Rattle.rpki_der.specs.Values.{IsUnambiguous}
use Rattle.rpki_issuing.specs.Acceptance.{IsAcceptedBelow, IsAcceptedLast}
use Rattle.rpki_keys.specs.KeyForms.{IsUsableKey}
use Rattle.rpki_path.proofs.ChainedNames.{chain_alone, chain_longer}
use Rattle.rpki_path.proofs.LongerPaths.{last_extended, parted, there, zip_more}
use Rattle.rpki_path.proofs.Rejections as paths
use Rattle.rpki_path.specs.AskedLists.{by_named_lists}
use Rattle.rpki_path.specs.Asking.{RevocationChecks, nobody}
use Rattle.rpki_path.specs.GivenPaths.{PathStrings, anchor_alone, path_to}
use Rattle.rpki_path.specs.Judging.{IsRouterIfAny}
use Rattle.rpki_path.specs.NameChains.{BeginChained, router_candidates}
use Rattle.rpki_path.specs.Paths.{Candidate, IsAccepted, IsMember, IsPathOf, IsValidPath, Member, Path, candidate}
use Rattle.rpki_path.specs.Paths.{certificate_at, last, longer, member}
use Rattle.rpki_path.specs.declared.judging.Judged.{Judged}
use Rattle.rpki_verdicts.proofs.OneVerdict.{same_lists}
use Rattle.rpki_verdicts.specs.PathAnswers.{IsPathVerdict, IsUsablePath, IsVerdictBy}
use Rattle.rpki_verdicts.specs.PathFiles.{IsGivenBy, IsJudgedAs}
use Rattle.rpki_verdicts.specs.declared.path.Verdict.TheVariants.{Accepted}
use Rattle.rpki_requests.specs.Fulfilment.{AnswersForIssuer, IsAcceptedCertificate, IsAcceptedMade, IsAcceptedOf}
use Rattle.rpki_requests.specs.Fulfilment.{context_of}
use Rattle.rpki_requests.specs.RequestFiles.{InputFields, IsRequestIssuer, IsPathIssuer, IsSoAsked, chained}
use Rattle.rpki_requests.specs.RequestWords.{AskedFields}
use Rattle.rpki_requests.specs.declared.fulfilling.Made.{Made}
use Rattle.rpki_requests.specs.declared.fulfilling.Made.TheVariants as made

-- what resources list, as a set
listed : Resources → List Block
listed missing = []
listed inherit = []
listed (blocks chain) = chain

lists_all : (r : Resources) (n : ℕ) → Has (listed r) n ↔ IsListed n r
unfolding listed
lists_all missing n = ((λ h. absurd (false≢true h)), (λ h. absurd h))
lists_all inherit n = ((λ h. absurd (false≢true h)), (λ h. absurd h))
lists_all (blocks chain) n = ((λ h. h), (λ h. h))

-- the files are accepted with a file behind them
abbrev AcceptsBehind : Context → RevocationChecks → List (List ℕ) → List ℕ → Type 0
AcceptsBehind x asked files octets =
    (judged : Judged) × IsPathVerdict x asked chained (files ++ octets ∷ []) (Accepted judged)

-- the trust anchor's file, and those of the CAs below it
record Split (files : List (List ℕ)) (g : PathStrings) : Type 0 where
  cas : List (List ℕ)
  files_are : files ≡ g.anchor ∷ cas
  below_is : g.below ≡ map (candidate kinds.Authority) cas
  router_is : g.router ≡ None

module _ (one_certificate : IsUnambiguous IsCertificate) where
  -- the last string of a path begins with its last certificate
  last_begins : (anchor : List ℕ) (before : List Candidate) (y : Candidate) (p : Path)
      → IsPathOf anchor (before ++ y ∷ []) p → Means IsCertificate (certificate_at p (last p)) y.octets
  last_begins anchor before y p of =
      let cut = parted IsMember p.below before y [] of.members in
      let q : Path = record { anchor = p.anchor; below = cut.front } in
      let more = longer q cut.item in
      let more_of : IsPathOf anchor (before ++ y ∷ []) more = record {
        anchor_begins = of.anchor_begins;
        members = zip_more IsMember cut.front before cut.item y cut.fronts cut.items;
      } in
      let same : more ≡ p = paths.one_path one_certificate anchor (before ++ y ∷ []) more p more_of of in
      let end : certificate_at more (last more) ≡ cut.item.cert =
      ap (λ (i : ℕ). certificate_at more i) (last_extended q cut.item) ∙ there q cut.item [] in
      subst (λ (t : Path). Means IsCertificate (certificate_at t (last t)) y.octets) same
      (subst (λ (c : CertFields). Means IsCertificate c y.octets) (sym end) cut.items.begins)

  module _ (x : Context) (asked : RevocationChecks) (octets : List ℕ) where
    -- ---- a trust anchor

    alone : (anchor : CertFields) (below : List Member)
        → let p : Path = record { anchor = anchor; below = below } in
        IsPathOf octets [] p → IsValidPath x asked p
        → (kind : Kind) → IsAcceptedCertificate x asked None kind octets → AcceptsBehind x asked [] octets
    alone anchor (m ∷ ms) of valid kind made = absurd of.members
    alone anchor [] of valid kind made =
        let same : made.cert ≡ anchor =
        one_meant IsCertificate one_certificate made.cert anchor octets
        (whole_means IsCertificate made.cert octets made.is_certificate) of.anchor_begins in
        let r : ResourceFields = record {
          cert = anchor;
          v4 = listed anchor.fields.extensions.v4_resources;
          v6 = listed anchor.fields.extensions.v6_resources;
          as_numbers = listed anchor.fields.extensions.as_resources;
          tal = [];
        } in (
          record { holder = r; router = None },
          (
            anchor_alone octets,
            inl (octets, refl, refl),
            record {
              located = tt;
              numbers = tt;
              accepted = record {
                accepted = record {
                  path = record { anchor = anchor; below = [] };
                  path_of = of;
                  is_valid = valid;
                  held = record {
                    cert_is = refl;
                    v4_is = λ n. let all = lists_all anchor.fields.extensions.v4_resources n in (
                      (λ h. record { listed = all.0 h; passed_on = λ j low high. absurd (omega arith) }),
                      (λ h. all.1 h.listed),
                    );
                    v6_is = λ n. let all = lists_all anchor.fields.extensions.v6_resources n in (
                      (λ h. record { listed = all.0 h; passed_on = λ j low high. absurd (omega arith) }),
                      (λ h. all.1 h.listed),
                    );
                    as_is = λ n. let all = lists_all anchor.fields.extensions.as_resources n in (
                      (λ h. record { listed = all.0 h; passed_on = λ j low high. absurd (omega arith) }),
                      (λ h. all.1 h.listed),
                    );
                    tal_is = refl;
                  };
                };
                router = tt;
              };
              chained = λ names. record {
                path = record { anchor = anchor; below = [] };
                path_of = of;
                chain = (chain_alone anchor).1
                    (subst (λ (c : CertFields). c.fields.issuer ≡ c.fields.subject) same made.named);
              };
              usable = subst (λ (c : CertFields). IsUsableKey c.fields.key) same made.usable;
            },
          ),
        )

    -- ---- below an issuer

    module _ (files : List (List ℕ)) (g : PathStrings) (r : ResourceFields)
        (usable : IsUsablePath x asked chained g (record { holder = r; router = None }))
        (authority : SaysAuthority r.cert.fields) where
      abbrev held : IsAccepted x asked g.anchor g.below [] r
      held = usable.accepted.accepted

      says_authority : (before : List Candidate) (kind : Kind) (end : List ℕ)
          → g.below ≡ before ++ candidate kind end ∷ [] → (c : CertFields) → Means IsCertificate c end
          → SaysAuthority c.fields
      says_authority before kind end is c begins =
          let of = subst (λ (l : List Candidate). IsPathOf g.anchor l held.path) is held.path_of in
          let begun = last_begins g.anchor before (candidate kind end) held.path of in
          let same : r.cert ≡ c =
          held.held.cert_is ∙ one_meant IsCertificate one_certificate _ c end begun begins in
          subst (λ (d : CertFields). SaysAuthority d.fields) same authority

      no_router : (end : List ℕ) → g.router ≡ Some end → ⊥
      no_router end is = subst (λ (o : Option (List ℕ)). IsRouterIfAny x asked r o None) is usable.accepted.router

      at_kind : (anchor : List ℕ) (cas : List (List ℕ)) (end : List ℕ)
          → files ≡ anchor ∷ (cas ++ end ∷ []) → (kind : Kind) → IsJudgedAs kind end
          → g ≡ path_to anchor cas kind end → Split files g
      at_kind anchor cas end is kinds.Authority judged path = record {
        cas = cas ++ end ∷ [];
        files_are = is ∙ ap (λ (s : PathStrings). s.anchor ∷ (cas ++ end ∷ [])) (sym path);
        below_is = ap (λ (s : PathStrings). s.below) path
            ∙ sym (map-append (candidate kinds.Authority) cas (end ∷ []));
        router_is = ap (λ (s : PathStrings). s.router) path;
      }
      at_kind anchor cas end is kinds.Router judged path =
          absurd (no_router end (ap (λ (s : PathStrings). s.router) path))
      at_kind anchor cas end is kinds.Anchor (inl says) path = absurd says.2
      at_kind anchor cas end is kinds.Anchor (inr other) path = absurd (cc other.0)
      at_kind anchor cas end is kinds.EndEntity (inl says) path =
          absurd (says.2.0.1 (says_authority (map (candidate kinds.Authority) cas) kinds.EndEntity end
          (ap (λ (s : PathStrings). s.below) path) says.0 says.1))
      at_kind anchor cas end is kinds.EndEntity (inr other) path = absurd (cc other.0)
      at_kind anchor cas end is kinds.Detached (inl says) path =
          absurd (says.2.0.1 (says_authority (map (candidate kinds.Authority) cas) kinds.Detached end
          (ap (λ (s : PathStrings). s.below) path) says.0 says.1))
      at_kind anchor cas end is kinds.Detached (inr other) path = absurd (cc other.0)

      -- the last of the files is a CA
      split_of : IsGivenBy files g → Split files g
      split_of (inl one) = record {
        cas = [];
        files_are = one.1 ∙ ap (λ (s : PathStrings). s.anchor ∷ []) (sym one.2);
        below_is = ap (λ (s : PathStrings). s.below) one.2;
        router_is = ap (λ (s : PathStrings). s.router) one.2;
      }
      split_of (inr end) =
          at_kind end.split.anchor end.split.cas end.split.octets end.split.strings_are end.kind end.kind_is
          end.split.path_is

      module _ (s : Split files g) (said : Kind) (made : IsAcceptedCertificate x asked (Some r) said octets) where
        abbrev above : List Candidate
        above = map (candidate kinds.Authority) s.cas

        begins : Means IsCertificate made.cert octets
        begins = whole_means IsCertificate made.cert octets made.is_certificate

        accepted_above : IsAccepted x asked g.anchor above [] r
        accepted_above = subst (λ (l : List Candidate). IsAccepted x asked g.anchor l [] r) s.below_is held

        chained_above : BeginChained g.anchor above
        chained_above =
            subst (λ (l : List Candidate). BeginChained g.anchor l)
            (ap (λ (o : Option (List ℕ)). g.below ++ router_candidates o) s.router_is ∙ append-nil g.below ∙ s.below_is)
            (usable.chained refl)

        -- names chain with the certificate behind
        named : (kind : Kind) → BeginChained g.anchor (above ++ candidate kind octets ∷ [])
        named kind =
            let p = chained_above.path in
            let m = member kind made.cert in
            let same : accepted_above.path ≡ p =
            paths.one_path one_certificate g.anchor above accepted_above.path p accepted_above.path_of
            chained_above.path_of in
            let end : r.cert ≡ certificate_at p (last p) =
            accepted_above.held.cert_is ∙ ap (λ (q : Path). certificate_at q (last q)) same in
            record {
              path = longer p m;
              path_of = record {
                anchor_begins = chained_above.path_of.anchor_begins;
                members = zip_more IsMember p.below above m (candidate kind octets) chained_above.path_of.members
                    (record { kind_is = refl; begins = begins });
              };
              chain = (chain_longer p m).1
                  (chained_above.chain, made.named ∙ ap (λ (c : CertFields). c.fields.subject) end);
            }

        given : (kind : Kind) → SaysKind kind made.cert.fields
            → IsGivenBy (files ++ octets ∷ []) (path_to g.anchor s.cas kind octets)
        given kind says = inr (record {
          kind = kind;
          split = record {
            anchor = g.anchor;
            cas = s.cas;
            octets = octets;
            strings_are = ap (λ (l : List (List ℕ)). l ++ octets ∷ []) s.files_are;
            path_is = refl;
          };
          kind_is = inl (made.cert, begins, says);
        })

        -- a certificate that holds numbers
        abbrev with_last : Kind → PathStrings
        with_last kind = record { anchor = g.anchor; below = above ++ candidate kind octets ∷ []; router = None }

        behind : (kind : Kind) → IsGivenBy (files ++ octets ∷ []) (with_last kind) →
            IsAcceptedLast x asked r kind octets → AcceptsBehind x asked files octets
        behind kind is last_is =
            let got = last_is g.anchor above [] accepted_above in
            let begun = last_begins g.anchor above (candidate kind octets) got.1.path got.1.path_of in
            let same : made.cert ≡ got.0.cert =
            one_meant IsCertificate one_certificate made.cert _ octets begins begun ∙ sym got.1.held.cert_is in (
              record { holder = got.0; router = None },
              (
                with_last kind,
                is,
                record {
                  located = tt;
                  numbers = tt;
                  accepted = record { accepted = got.1; router = tt };
                  chained = λ names. subst (λ (l : List Candidate). BeginChained g.anchor l)
                      (sym (append-nil (above ++ candidate kind octets ∷ []))) (named kind);
                  usable = subst (λ (c : CertFields). IsUsableKey c.fields.key) same made.usable;
                },
              ),
            )

        -- by its kind
        by_kind : (kind : Kind) → SaysKind kind made.cert.fields → IsAcceptedBelow x asked kind (Some r) octets →
            AcceptsBehind x asked files octets
        by_kind kinds.Anchor says is = absurd says
        by_kind kinds.Authority says is = behind kinds.Authority (given kinds.Authority says) is
        by_kind kinds.EndEntity says is = behind kinds.EndEntity (given kinds.EndEntity says) is
        by_kind kinds.Detached says is = behind kinds.Detached (given kinds.Detached says) is
        by_kind kinds.Router says is =
            let same : made.cert ≡ is.cert =
            one_meant IsCertificate one_certificate made.cert is.cert octets begins is.begins in (
              record { holder = r; router = Some is.cert },
              (
                path_to g.anchor s.cas kinds.Router octets,
                given kinds.Router says,
                record {
                  located = tt;
                  numbers = tt;
                  accepted = record { accepted = accepted_above; router = (is.begins, is.under) };
                  chained = λ names. named kinds.Router;
                  usable = subst (λ (c : CertFields). IsUsableKey c.fields.key) same made.usable;
                },
              ),
            )

    -- the verdict on the issuer's path with the certificate behind it
    accepts_behind : (files : List (List ℕ)) (r : ResourceFields) → SaysAuthority r.cert.fields
        → IsPathVerdict x asked chained files (Accepted (record { holder = r; router = None }))
        → (kind : Kind) → IsAcceptedCertificate x asked (Some r) kind octets → AcceptsBehind x asked files octets
    accepts_behind files r authority verdict kind made =
        let split = split_of files verdict.0 r verdict.2 authority verdict.1 in
        by_kind files verdict.0 r verdict.2 authority split kind made kind made.kind_is made.accepted

    accepts_alone : (files : List (List ℕ)) → files ≡ [] → (kind : Kind) →
        IsAcceptedCertificate x asked None kind octets → AcceptsBehind x asked files octets
    accepts_alone files empty kind made =
        let is = subst (λ (k : Kind). IsAcceptedBelow x asked k None octets) made.kind_is made.accepted in
        subst (λ (l : List (List ℕ)). AcceptsBehind x asked l octets) (sym empty)
        (alone is.0.anchor is.0.below is.1 is.2 kind made)

  -- ---- by the lists that are given

  module _ (one_list : IsUnambiguous IsCertificateList) (x : Context) where
    accepted_by : (octets : List ℕ) (files lists : List (List ℕ)) (issuer : Option ResourceFields)
        → IsPathIssuer x files lists issuer
        → IsSoAsked x lists (λ checks. (kind : Kind) × IsAcceptedCertificate x checks issuer kind octets)
        → (judged : Judged) × IsVerdictBy x chained (files ++ octets ∷ []) lists (Accepted judged)
    accepted_by octets files [] None is so =
        let got = accepts_alone x nobody octets files is so.0 so.1 in
        (got.0, got.1)
    accepted_by octets files [] (Some r) is so =
        let got = accepts_behind x nobody octets files r is.authority is.accepted so.0 so.1 in
        (got.0, got.1)
    accepted_by octets files (list ∷ lists) None is so =
        let got = accepts_alone x (by_named_lists true x so.0) octets files is so.2.0 so.2.1 in
        (got.0, (so.0, so.1, got.1))
    accepted_by octets files (list ∷ lists) (Some r) is so =
        let read = is.accepted.0 in
        let same = same_lists one_certificate one_list (list ∷ lists) so.0 read so.1 is.accepted.1 in
        let made = subst (λ (l : List CrlState). IsAcceptedCertificate x (by_named_lists true x l) (Some r) so.2.0
        octets) same so.2.1 in
        let got = accepts_behind x (by_named_lists true x read) octets files r is.authority is.accepted.2 so.2.0 made in
        (got.0, (read, is.accepted.1, got.1))

    -- what is so by whatever source
    by_any : (lists : List (List ℕ)) (Is : Type 0) → IsSoAsked x lists (λ checks. Is) → Is
    by_any [] Is so = so
    by_any (list ∷ lists) Is so = so.2

  -- what is completed is accepted
  pub accepted_of : IsUnambiguous IsCertificateList →
      (asked : AskedFields) (inputs : InputFields) (at : Moment) (issuer : Option ResourceFields) →
      IsRequestIssuer (context_of asked at) inputs.issuers inputs.lists issuer → (given : Made) →
      IsSoAsked (context_of asked at) inputs.lists
      (λ checks. IsAcceptedMade (context_of asked at) checks issuer given) → IsAcceptedOf asked inputs at given
  accepted_of one_list asked inputs at issuer is (made.ToSign octets) so =
      by_any one_list (context_of asked at) inputs.lists ⊥ so
  accepted_of one_list asked inputs at issuer is (made.Certificate octets) so =
      accepted_by one_list (context_of asked at) octets inputs.issuers inputs.lists issuer is.1 so
  accepted_of one_list asked inputs at issuer is (made.RevocationList octets) so = record {
    issuer = issuer;
    issuer_is = is;
    is_so = by_any one_list (context_of asked at) inputs.lists
        (AnswersForIssuer (context_of asked at) issuer octets) so;
  }
