-- Which share is enough for the children of CAs further down.
use Rattle.std.proofs.Common.{◌≡◌, ◌+◌, ◌-◌, ◌*◌, ◌/◌, ◌<◌, ◌≤◌, ℕ, List, [], ◌∷◌, ◌++◌, length, refl, sym, subst}
use Rattle.std.proofs.Common.{append_assoc, arith}
use Rattle.std.proofs.Math.Nat.{mul-div-le, mul-le-mul_left, mul_comm}
use Rattle.std.proofs.lemmas.Nat.{le-div}
use Rattle.std.proofs.lemmas.List.{append-nil}
use Rattle.rpki_der.specs.Values.{IsUnambiguous}
use Rattle.rpki_cert.specs.Certificates.{IsCertificate}
use Rattle.rpki_cert.specs.Verification.{Context}
use Rattle.rpki_path.specs.Asking.{RevocationChecks}
use Rattle.rpki_folder.specs.Walks.{Root, AreChildren, IsHandedDown, HasShare, HasEnough}
use Rattle.rpki_folder.specs.ReachedLimits.{IsNeed}
use Rattle.rpki_folder.proofs.Shares.{one_count, one_share}

-- ---- even shares

-- where there is so much, each of m has n of what is left
each_has : (k m s n : ℕ) → 0 < m → k + m * n ≤ s → n ≤ (s - k) / m
each_has k m s n some low =
    let turned : n * m ≡ m * n = mul_comm n m in
    le-div n (s - k) m some (omega (arith, turned, low))

-- and where each has, there is so much
all_have : (k m s n : ℕ) → k ≤ s → n ≤ (s - k) / m → k + m * n ≤ s
all_have k m s n low each =
    let most : m * ((s - k) / m) ≤ s - k = mul-div-le (s - k) m in
    let more : m * n ≤ m * ((s - k) / m) = mul-le-mul_left m each in
    omega (arith, most, more, low)

module _ (x : Context) (asked : RevocationChecks) (admits : List ℕ → ℕ → Type 0) (root : Root)
    (certs : List (List ℕ)) (law : IsUnambiguous IsCertificate) (above : List ℕ) where
  -- ---- the children of the last of the CAs above

  module _ (children : List ℕ) (are : AreChildren x asked admits root certs above children) (depth : ℕ)
      (low : 0 < depth) where
    -- need as many as they are
    pub need_here : IsNeed x asked admits root certs above depth [] (length children)
    need_here share = (
      (λ enough. record {
        within = low;
        last = share;
        has = refl;
        children = children;
        are_children = subst (λ (l : List ℕ). AreChildren x asked admits root certs l children)
            (sym (append-nil above)) are;
        enough = enough;
      }),
      (λ h.
          let same : AreChildren x asked admits root certs above h.children =
          subst (λ (l : List ℕ). AreChildren x asked admits root certs l h.children) (append-nil above)
          h.are_children in
          let count : length children ≡ length h.children = one_count x asked admits root certs law above children
          h.children are same in
          let last : h.last ≡ share = h.has in
          let enough = h.enough in
          omega (arith, count, last, enough)),
    )

  -- ---- those further down

  -- another share is handed down by the same CAs
  handed_with : (share next other : ℕ) (h : IsHandedDown x asked admits root certs above share next) →
      length h.children ≤ other →
      IsHandedDown x asked admits root certs above other ((other - length h.children) / length h.cas)
  handed_with share next other h low =
      record {
        children = h.children;
        are_children = h.are_children;
        enough = low;
        cas = h.cas;
        are_cas =
            h.are_cas;
        next_is = refl;
      }

  module _ (place : ℕ) (between : List ℕ) (depth : ℕ) (low : 0 < depth) where
    grouped : (above ++ place ∷ []) ++ between ≡ above ++ place ∷ between
    grouped = append_assoc above (place ∷ []) between

    -- enough below the CA at the place is enough
    enough_above : (share next : ℕ) → IsHandedDown x asked admits root certs above share next →
        HasEnough x asked admits root certs (above ++ place ∷ []) next (depth - 1) between →
        HasEnough x asked admits root certs above share depth (place ∷ between)
    enough_above share next handed h =
        let within = h.within in
        record {
          within = omega (arith, within, low);
          last = h.last;
          has = (next, handed, h.has);
          children = h.children;
          are_children = subst (λ (l : List ℕ). AreChildren x asked admits root certs l h.children) grouped
              h.are_children;
          enough = h.enough;
        }

    pub enough_below : (share next : ℕ)
        (h : HasEnough x asked admits root certs above share depth (place ∷ between)) → h.has.0 ≡ next →
        HasEnough x asked admits root certs (above ++ place ∷ []) next (depth - 1) between
    enough_below share next h is =
        let within = h.within in
        record {
          within = omega (arith, within, low);
          last = h.last;
          has = subst (λ (n : ℕ). HasShare x asked admits root certs (above ++ place ∷ []) n between h.last) is h.has.2;
          children = h.children;
          are_children = subst (λ (l : List ℕ). AreChildren x asked admits root certs l h.children) (sym grouped)
              h.are_children;
          enough = h.enough;
        }

    -- what they need is counted up from what they need below it
    pub need_above : (share next need : ℕ) (h : IsHandedDown x asked admits root certs above share next) →
        0 < length h.cas → IsNeed x asked admits root certs (above ++ place ∷ []) (depth - 1) between need
        → IsNeed x asked admits root certs above depth (place ∷ between) (length h.children + length h.cas * need)
    need_above share next need h some below other = (
      (λ enough.
          let kids : length h.children ≤ other = omega (arith, enough) in
          let each = (other - length h.children) / length h.cas in
          enough_above other each (handed_with share next other h kids)
          ((below each).0 (each_has (length h.children) (length h.cas) other need some enough))),
      (λ e.
          let down = e.has.1 in
          let count : length down.children ≡ length h.children = one_count x asked admits root certs law above
          down.children h.children down.are_children h.are_children in
          let all = down.enough in
          let kids : length h.children ≤ other = omega (arith, all, count) in
          let each = (other - length h.children) / length h.cas in
          let same : e.has.0 ≡ each = one_share x asked admits root certs law above other e.has.0 each down
          (handed_with share next other h kids) in
          all_have (length h.children) (length h.cas) other need kids
          ((below each).1 (enough_below other each e same))),
    )
