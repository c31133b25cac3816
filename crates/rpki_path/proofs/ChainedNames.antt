-- The names of a path chain, step by step.
use Rattle.std.specs.Prelude.{Option, None, Some}
use Rattle.std.proofs.Common.{◌≡◌, ◌⊎◌, ◌↔◌, ◌+◌, ◌<◌, ℕ, List, [], ◌∷◌, ◌++◌, length, map, take, drop, get_or}
use Rattle.std.proofs.Common.{Result, Ok, Err, IfOk, IfErr, refl, sym, ap, subst, ◌∙◌, inl, inr, arith}
use Rattle.std.proofs.lemmas.List.{append-nil, append_assoc, length-append}
use Rattle.rpki_cert.specs.Certificates.{CertFields}
use Rattle.rpki_cert.specs.declared.inspect.Kind.{Kind}
use Rattle.rpki_cert.specs.declared.inspect.Kind.TheVariants.{Authority, EndEntity, Detached, Router}
use Rattle.rpki_path.specs.declared.given.Last.{Last}
use Rattle.rpki_path.specs.declared.given.Last.TheVariants as last
use Rattle.rpki_path.specs.declared.path_fault.PathFault.{PathFault}
use Rattle.rpki_path.specs.declared.names.Stop.{Stop}
use Rattle.rpki_path.specs.declared.names.Stop.TheVariants.{Unchained, Unread}
use Rattle.rpki_path.specs.declared.names.Stopped.{Stopped}
use Rattle.rpki_path.specs.GivenPaths.{PathStrings, path_strings, router_count, string_count}
use Rattle.rpki_path.specs.Paths.{Path, Member, member, longer, certificate_at, Candidate, candidate, IsMember}
use Rattle.rpki_path.specs.NameChains.{IsNamedBelow, IsSelfNamed, NamesChain, router_candidates, strings_below}
use Rattle.rpki_path.specs.NameChains.{IsFoundBelow, IsUnchained, IsUnreadBelow}
use Rattle.rpki_path.specs.NameChains.Steps.{BeginChainedTo, BeginsSelfNamed, BeginsNamed, IsStopAtAnchor}
use Rattle.rpki_path.specs.NameChains.Steps.{IsStopBelow, IsStopped}
use Rattle.rpki_path.proofs.LongerPaths.{there, last_extended, all_below_more, all_below_fewer, zip_more}
use Rattle.rpki_path.proofs.PathSteps.{one_taken, cut_there, place_there}

-- ---- paths

-- the names of a trust anchor alone chain where it is named so itself
pub chain_alone : (c : CertFields) → NamesChain (record { anchor = c; below = [] }) ↔ IsSelfNamed c
chain_alone c = (
  (λ chain. chain.anchor_named),
  (λ named. record { anchor_named = named; members_named = λ i h. absurd (omega arith) }),
)

-- those of a longer path where those of the path do, and the further member is named below its last
pub chain_longer : (p : Path) (m : Member) →
    NamesChain (longer p m) ↔ (NamesChain p × IsNamedBelow (certificate_at p (length p.below)) m.cert)
chain_longer p m = (
  (λ chain. let parts = all_below_fewer IsNamedBelow p m chain.members_named in
      (record { anchor_named = chain.anchor_named; members_named = parts.0 }, parts.1)),
  (λ both. record {
    anchor_named = both.0.anchor_named;
    members_named =
        all_below_more IsNamedBelow p m both.0.members_named both.1;
  }),
)

-- ---- strings

module _ (anchor : List ℕ) where
  -- a trust anchor of one name
  pub anchor_chained : (subject : List ℕ) → BeginsSelfNamed anchor subject → BeginChainedTo anchor [] subject
  anchor_chained subject h = record {
    chained = record {
      path = record { anchor = h.cert; below = [] };
      path_of = record { anchor_begins = h.begins; members = tt };
      chain = (chain_alone h.cert).1 h.self_named;
    };
    subject_is = h.subject_is;
  }

  module _ (below : List Candidate) (above : List ℕ) (h : BeginChainedTo anchor below above) (kind : Kind)
      (octets : List ℕ) where
    abbrev p : Path
    p = h.chained.path

    -- names that chain go on with a member that is named so
    pub one_named : (subject : List ℕ) → BeginsNamed above octets subject →
        BeginChainedTo anchor (below ++ candidate kind octets ∷ []) subject
    one_named subject is =
        let m = member kind is.cert in
        let end : certificate_at (longer p m) (length (longer p m).below) ≡ is.cert =
        ap (λ (i : ℕ). certificate_at (longer p m) i) (last_extended p m) ∙ there p m [] in
        record {
          chained = record {
            path = longer p m;
            path_of = record {
              anchor_begins = h.chained.path_of.anchor_begins;
              members = zip_more IsMember p.below below m (candidate kind octets) h.chained.path_of.members
                  (record { kind_is = refl; begins = is.begins });
            };
            chain = (chain_longer p m).1 (h.chained.chain, is.issuer_is ∙ h.subject_is);
          };
          subject_is = is.subject_is ∙ ap (λ (c : CertFields). c.fields.subject) (sym end);
        }

    -- where they don't go on, and why
    pub stopped_there : (after : List Candidate) (s : Stopped) → s.place ≡ length below + 1 →
        IsStopBelow above octets s.why → IsStopped anchor (below ++ candidate kind octets ∷ after) s
    stopped_there after s at why = inr (record {
      before = below;
      there = candidate kind octets;
      after = after;
      parts = refl;
      above = h.chained;
      place_is = at;
      found = subst (λ (name : List ℕ). IsStopBelow name octets s.why) h.subject_is why;
    })

  -- it is one of more strings
  pub stopped_of_more : (below more : List Candidate) (s : Stopped) → IsStopped anchor below s →
      IsStopped anchor (below ++ more) s
  stopped_of_more below more s (inl h) = inl h
  stopped_of_more below more s (inr h) = inr (record {
    before = h.before;
    there = h.there;
    after = h.after ++ more;
    parts = ap (λ (l : List Candidate). l ++ more) h.parts ∙ append_assoc h.before (h.there ∷ h.after) more;
    above = h.above;
    place_is = h.place_is;
    found = h.found;
  })

  -- ---- the CAs in turn

  module _ (cas : List (List ℕ)) (i : ℕ) (h : i < length cas) (octets : List ℕ)
      (there : octets ≡ get_or cas i octets) (above : List ℕ)
      (chained : BeginChainedTo anchor (map (candidate Authority) (take i cas)) above) where
    -- names that chain go on with the next CA
    pub next_named : (subject : List ℕ) → BeginsNamed above octets subject →
        BeginChainedTo anchor (map (candidate Authority) (take (i + 1) cas)) subject
    next_named subject is =
        subst (λ (l : List Candidate). BeginChainedTo anchor l subject) (sym (one_taken cas i h octets there))
        (one_named (map (candidate Authority) (take i cas)) above chained Authority octets subject is)

    -- or they stop there
    pub next_stopped : (s : Stopped) → s.place ≡ i + 1 → IsStopBelow above octets s.why →
        IsStopped anchor (map (candidate Authority) cas) s
    next_stopped s at why =
        subst (λ (l : List Candidate). IsStopped anchor l s) (sym (cut_there cas i h octets there))
        (stopped_there (map (candidate Authority) (take i cas)) above chained Authority octets
        (map (candidate Authority) (drop (i + 1) cas)) s (place_there cas i h octets there s.place at) why)

  -- ---- the last string

  module _ (below : List Candidate) (above : List ℕ) (chained : BeginChainedTo anchor below above) (kind : Kind)
      (octets : List ℕ) where
    -- names that chain go on with it
    pub end_named : (r : Result (List ℕ) Stopped) → IfOk r (BeginsNamed above octets) →
        IfOk r (BeginChainedTo anchor (below ++ candidate kind octets ∷ []))
    end_named (Ok subject) is = one_named below above chained kind octets subject is
    end_named (Err s) is = tt

    -- or they stop there
    pub end_stopped : (n : ℕ) → n ≡ length below + 1 → (r : Result (List ℕ) Stopped) → IfErr r (λ s. s.place ≡ n) →
        IfErr r (λ s. IsStopBelow above octets s.why) →
        IfErr r (IsStopped anchor (below ++ candidate kind octets ∷ []))
    end_stopped n is (Ok subject) at why = tt
    end_stopped n is (Err s) at why = stopped_there below above chained kind octets [] s (at ∙ is) why

-- what stands below CAs, as the last member or the router
abbrev pub last_strings : Option Last → List Candidate
last_strings None = []
last_strings (Some (last.Ee octets)) = candidate EndEntity octets.now ∷ []
last_strings (Some (last.DetachedEe octets)) = candidate Detached octets.now ∷ []
last_strings (Some (last.Router octets)) = candidate Router octets.now ∷ []

-- the strings of a path are those of the CAs, and then the last
pub all_strings : (anchor : List ℕ) (cas : List (List ℕ)) (end : Option Last) →
    strings_below (path_strings anchor cas end) ≡ map (candidate Authority) cas ++ last_strings end
all_strings anchor cas None = append-nil (map (candidate Authority) cas ++ [])
all_strings anchor cas (Some (last.Ee octets)) =
    append-nil (map (candidate Authority) cas ++ candidate EndEntity octets.now ∷ [])
all_strings anchor cas (Some (last.DetachedEe octets)) =
    append-nil (map (candidate Authority) cas ++ candidate Detached octets.now ∷ [])
all_strings anchor cas (Some (last.Router octets)) =
    ap (λ (l : List Candidate). l ++ candidate Router octets.now ∷ [])
    (append-nil (map (candidate Authority) cas))

-- ---- what is told

module _ (g : PathStrings) (s : Stopped) (h : IsStopped g.anchor (strings_below g) s) where
  -- why a walk stops, in place of the reason that it gives
  stopped_for : (why : Stop) → s.why ≡ why →
      ((s.place ≡ 0) × IsStopAtAnchor g.anchor why) ⊎
      IsFoundBelow (λ above octets. IsStopBelow above.fields.subject octets why) g.anchor (strings_below g)
      s.place
  stopped_for why is = subst (λ (y : Stop). ((s.place ≡ 0) × IsStopAtAnchor g.anchor y) ⊎
      IsFoundBelow (λ above octets. IsStopBelow above.fields.subject octets y) g.anchor (strings_below g) s.place)
      is h

  pub told_unchained : s.why ≡ Unchained → IsUnchained g.anchor (strings_below g) s.place
  told_unchained is = stopped_for Unchained is

  pub told_unread : (fault : PathFault) → s.why ≡ Unread fault →
      IsUnreadBelow g.anchor (strings_below g) (record { index = s.place; fault = fault })
  told_unread fault is = stopped_for (Unread fault) is

  router_length : (router : Option (List ℕ)) → length (router_candidates router) ≡ router_count router
  router_length None = refl
  router_length (Some octets) = refl

  -- the place is that of a string
  pub place_of : s.place < string_count g
  place_of =
      let all : length (strings_below g) ≡ length g.below + router_count g.router =
      length-append g.below (router_candidates g.router) ∙ ap (λ (n : ℕ). length g.below + n)
      (router_length g.router) in
      elim h [
        | inl at ↦ omega (arith, at.0)
        | inr found ↦
            let parts : length (strings_below g) ≡ length found.before + length (found.there ∷ found.after) =
            ap (λ (l : List Candidate). length l) found.parts ∙
            length-append found.before (found.there ∷ found.after) in
            omega (arith, found.place_is, parts, all)
      ]
