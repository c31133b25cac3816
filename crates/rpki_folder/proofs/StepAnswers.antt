-- What a step answers, from what its calls answer.
use Rattle.std.specs.Prelude.{Result, Ok, Err}
use Rattle.std.proofs.Common.{◌≡◌, ◌≢◌, ◌+◌, ◌-◌, ◌<◌, ◌≤◌, ℕ, List, [], ◌∷◌, ◌++◌, length, take, get_or, IfOk}
use Rattle.std.proofs.Common.{IfErr, ap, subst, ◌∙◌, inl, arith}
use Rattle.std.specs.Global.{Vec}
use Rattle.std.proofs.lemmas.List.{get_or_default, take-append-le, take_all, length-append}
use Rattle.rpki_der.specs.Values.{IsUnambiguous}
use Rattle.rpki_cert.specs.Certificates.{IsCertificate}
use Rattle.rpki_cert.specs.Verification.{Context, ResourceFields}
use Rattle.rpki_path.specs.Asking.{RevocationChecks}
use Rattle.rpki_keys.specs.Locators.{NamedTal}
use Rattle.rpki_path.specs.declared.located.LocatedError.{LocatedError}
use Rattle.rpki_path.specs.declared.located.LocatedError.TheVariants.{OtherKey, NoResources, Path as path}
use Rattle.rpki_path.specs.declared.path_fault.PathFault.{PathFault}
use Rattle.rpki_path.specs.declared.path_fault.PathFault.TheVariants.{Memory}
use Rattle.rpki_path.specs.declared.validator.Role.{Role}
use Rattle.rpki_path.specs.declared.validator.Role.TheVariants as role
use Rattle.rpki_path.specs.Paths.{Finds, trust_anchor_demand}
use Rattle.rpki_path.specs.Paths.Steps.{kind_of, demand_under, IsTrustAnchor}
use Rattle.rpki_path.specs.LocatedPaths.{BeginsWithAnchor, IsLocatedFault}
use Rattle.rpki_path.proofs.LocatedPaths.{below_anchor, located_headline}
use Rattle.rpki_path.proofs.ValidPaths.{anchor_alone}
use Rattle.rpki_folder.specs.Folders.{string_at}
use Rattle.rpki_folder.specs.Walks.{at_anchor, LeadsTo}
use Rattle.rpki_folder.specs.Walks.Steps.{IsAnswer, IsAtTop}

-- the octets at a place
pub octets_here : (certs now : List (List ℕ)) (place : ℕ) (item : List ℕ) → now ≡ certs →
    item ≡ get_or now place item → place < length certs → item ≡ string_at certs place
octets_here certs now place item same is low = is ∙ ap (λ (l : List (List ℕ)). get_or l place item) same ∙
    get_or_default certs place item [] low

-- the places above, once the last is taken off
pub popped : (v : Vec ℕ) (above : List ℕ) (place : ℕ) → v.items ≡ above ++ place ∷ [] → take (v.len - 1) v.items ≡ above
popped v above place is =
    let long : v.len ≡ length above + 1 = omega (arith, v.ok.0, ap length is, length-append above (place ∷ [])) in
    let less : v.len - 1 ≡ length above = omega (arith, long) in
    let low : length above ≤ length above = omega arith in
    ap (λ (l : List ℕ). take (v.len - 1) l) is ∙ ap (λ (n : ℕ). take n (above ++ place ∷ [])) less ∙
    take-append-le (length above) above (place ∷ []) low ∙ take_all (length above) above low

module _ (x : Context) (asked : RevocationChecks) where
  -- a member that is rejected
  pub member_rejected : (issuer : ResourceFields) (octets : List ℕ) (r : Role) (e : PathFault) → e ≢ Memory →
      Finds x (demand_under x asked issuer (kind_of r)) octets e →
      IsAnswer x asked issuer octets (kind_of r) (Err e)
  member_rejected issuer octets role.Authority e apart found = (apart, found)
  member_rejected issuer octets role.EndEntity e apart found = (apart, found)
  member_rejected issuer octets role.Detached e apart found = (apart, found)

  module _ (t : NamedTal) (anchor : List ℕ) where
    module _ (law : IsUnambiguous IsCertificate) (key : BeginsWithAnchor t.tal anchor) where
      -- a trust anchor that is valid
      pub anchor_leads : (name : List ℕ) → name ≡ t.name →
          (r : Result ResourceFields LocatedError) (answer : Result ResourceFields PathFault) →
          IfOk r (λ v. answer ≡ Ok v) → IfOk answer (IsTrustAnchor x anchor name) →
          IfOk r (LeadsTo x asked (at_anchor t anchor) [])
      anchor_leads name same (Err e) answer is valid = tt
      anchor_leads name same (Ok r) answer is valid =
          let here : IsTrustAnchor x anchor name r =
          subst (λ (a : Result ResourceFields PathFault). IfOk a (IsTrustAnchor x anchor name)) is valid in
          let named : IsTrustAnchor x anchor t.name r = subst (λ (n : List ℕ). IsTrustAnchor x anchor n r) same here in
          located_headline x asked [] law t anchor (Ok r) (key, anchor_alone x asked anchor t.name r named) tt

      -- one that isn't
      wrong_top : (e : LocatedError) (answer : Result ResourceFields PathFault) → IsAtTop e answer →
          IfErr answer (Finds x (trust_anchor_demand x) anchor) → IsLocatedFault x asked t.tal anchor [] e
      wrong_top OtherKey answer top found = absurd top
      wrong_top NoResources answer top found = absurd top
      wrong_top (path e) answer top found =
          below_anchor x asked [] law t.tal anchor key e
          (inl (record {
            index_is = top.0;
            fault_is =
                subst (λ (a : Result ResourceFields PathFault). IfErr a (Finds x (trust_anchor_demand x) anchor))
                top.1 found;
          }))

      pub anchor_wrong : (r : Result ResourceFields LocatedError) (answer : Result ResourceFields PathFault) →
          IfErr r (λ e. IsAtTop e answer) → IfErr answer (Finds x (trust_anchor_demand x) anchor) →
          IfErr r (IsLocatedFault x asked t.tal anchor [])
      anchor_wrong (Ok r) answer is found = tt
      anchor_wrong (Err e) answer is found = wrong_top e answer is found
