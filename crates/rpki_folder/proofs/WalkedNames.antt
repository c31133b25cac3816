-- The names of a path chain where its certificates were looked at with names.
use Rattle.std.specs.List.{AllZip}
use Rattle.std.specs.Prelude.{true}
use Rattle.std.proofs.Common.{◌≡◌, ◌+◌, ◌<◌, ℕ, zero, suc, List, [], ◌∷◌, ◌++◌, length, map, get_or, refl, sym}
use Rattle.std.proofs.Common.{subst, arith}
use Rattle.rpki_cert.specs.Certificates.{CertFields}
use Rattle.rpki_cert.specs.declared.inspect.Kind.{Kind}
use Rattle.rpki_path.specs.NameChains.{IsNamedBelow, IsSelfNamed, NamesChain}
use Rattle.rpki_path.specs.Paths.{candidate, IsMember, IsPathOf, Member, Path}
use Rattle.rpki_folder.specs.Folders.{cas_at, string_at}
use Rattle.rpki_folder.specs.Walks.{StandsAt, IsLastOf, IsLookedAt, AreAdmitted}
use Rattle.rpki_folder.proofs.LookedAt.{last_pushed}

-- each is named below the one above it
abbrev pub AreNamed : CertFields → List Member → Type 0
AreNamed above [] = Unit {0}
AreNamed above (m ∷ ms) = IsNamedBelow above m.cert × AreNamed m.cert ms

pub named_at : (above : CertFields) (ms : List Member) → AreNamed above ms → (i : ℕ) → i < length ms → (d : CertFields)
    → IsNamedBelow (get_or (above ∷ map (λ (m : Member). m.cert) ms) i d)
    (get_or (above ∷ map (λ (m : Member). m.cert) ms) (i + 1) d)
named_at above [] h i low d = absurd (omega (arith, low))
named_at above (m ∷ ms) h zero low d = h.0
named_at above (m ∷ ms) h (suc i) low d =
    let one : suc i + 1 ≡ suc (i + 1) = omega arith in
    let less : i < length ms = omega (arith, low) in
    subst (λ (n : ℕ). IsNamedBelow (get_or (m.cert ∷ map (λ (m : Member). m.cert) ms) i d)
    (get_or (above ∷ m.cert ∷ map (λ (m : Member). m.cert) ms) n d)) (sym one)
    (named_at m.cert ms h.1 i less d)

module _ (admits : List ℕ → ℕ → Type 0) (top : CertFields) (certs : List (List ℕ)) where
  abbrev pub Stand : Member → ℕ → Type 0
  Stand m place = StandsAt certs place m.cert

  pub walked : (before : List ℕ) (above : CertFields) → IsLastOf top certs before above →
      (places : List ℕ) (ms : List Member) → AllZip Stand ms places →
      AreAdmitted (IsLookedAt true admits top certs) before places → AreNamed above ms
  walked before above last [] [] stand h = tt
  walked before above last [] (m ∷ ms) stand h = absurd stand
  walked before above last (p ∷ places) [] stand h = absurd stand
  walked before above last (p ∷ places) (m ∷ ms) stand h = (
    h.0.named above last refl m.cert stand.0,
    walked (before ++ p ∷ []) m.cert (last_pushed top certs before p m.cert stand.0) places ms stand.1 h.1,
  )

  pub stand_at : (above : List ℕ) (place : ℕ) (kind : Kind) (ms : List Member) →
      AllZip IsMember ms (cas_at certs above ++ candidate kind (string_at certs place) ∷ []) →
      AllZip Stand ms (above ++ place ∷ [])
  stand_at [] place kind [] h = absurd h
  stand_at [] place kind (m ∷ []) h = (h.0.begins, tt)
  stand_at [] place kind (m ∷ n ∷ ms) h = absurd h.1
  stand_at (p ∷ above) place kind [] h = absurd h
  stand_at (p ∷ above) place kind (m ∷ ms) h = (h.0.begins, stand_at above place kind ms h.1)

pub walked_chain : (admits : List ℕ → ℕ → Type 0) (anchor : List ℕ) (certs : List (List ℕ)) (above : List ℕ)
    (place : ℕ) (kind : Kind) (p : Path)
    → IsPathOf anchor (cas_at certs above ++ candidate kind (string_at certs place) ∷ []) p → IsSelfNamed p.anchor
    → AreAdmitted (IsLookedAt true admits p.anchor certs) [] (above ++ place ∷ []) → NamesChain p
walked_chain admits anchor certs above place kind p path_of itself h = record {
  anchor_named = itself;
  members_named = λ i low. named_at p.anchor p.below
      (walked admits p.anchor certs [] p.anchor refl (above ++ place ∷ []) p.below
      (stand_at admits p.anchor certs above place kind p.below path_of.members) h) i low p.anchor;
}
