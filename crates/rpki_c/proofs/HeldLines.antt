-- Ranges that are held, and lines that tell of them, as others follow.
use Rattle.std.specs.Prelude.{Bool}
use Rattle.std.proofs.Common.{◌≡◌, ◌+◌, ◌-◌, ◌<◌, ◌≤◌, ℕ, List, [], ◌∷◌, ◌++◌, length, map, take, drop, get_or, sym}
use Rattle.std.proofs.Common.{ap, subst, ◌∙◌, inl, inr, arith}
use Rattle.std.proofs.Math.ListN.{get_or-append}
use Rattle.std.proofs.lemmas.Bool.{cases_lt}
use Rattle.std.proofs.lemmas.List.{append-nil, drop-append-le, get_or_push, length-append, length-drop, take-append-le}
use Rattle.rpki_cert.specs.Verification.{ResourceFields}
use Rattle.rpki_folder.specs.Folders.{string_at}
use Rattle.rpki_c.specs.FolderFates.{Fate, anchor, list, neither, unseen, accepted, rejected}
use Rattle.rpki_c.specs.FolderLimits.{TellsReached, but_for_limits}
use Rattle.rpki_c.specs.FolderFates.{IsWhyAt, StringWalk, fate_at, origin_of}
use Rattle.rpki_c.specs.FolderTelling.{AreLinesOf, IsFateLine, IsLineAt, IsLineWith}
use Rattle.rpki_c.specs.HeldRanges.{AreHeldAt, KeepsItems, HaveGrown}
use Rattle.rpki_c.specs.Writing.{as_struct, ip_struct, IsPartAt}
use Rattle.rpki_c.specs.declared.folder_lines.RpkiLine.{RpkiLine}
use Rattle.rpki_c.specs.declared.folder_lines.ToldLines.{ToldLines}
use Rattle.rpki_folder.specs.declared.limits.Reached.{Reached}
use Rattle.rpki_folder.specs.declared.unseen.Unseen.{Unseen}
use Rattle.rpki_c.specs.declared.ranges.Ranges.{Ranges}
use Rattle.rpki_c.specs.declared.ranges.RpkiHeld.{RpkiHeld}

-- a part stays one
part_stays : {A : Type 0} (old more : List A) (at count : ℕ) (part : List A)
    → IsPartAt old at count part → IsPartAt (old ++ more) at count part
part_stays old more at count part h =
    let size = length-append old more in
    let inside = h.0 in
    let rest = length-drop at old in
    let fits : at + count - at ≤ length (drop at old) = omega (arith, inside, rest) in
    let low : at ≤ length old = omega (arith, inside) in (
      omega (arith, size, inside),
      ap (λ (l : List _). take (at + count - at) l) (drop-append-le at old more low)
          ∙ take-append-le (at + count - at) (drop at old) more fits ∙ h.1,
    )

-- nothing was added
pub goes_on : {A : Type 0} (xs : List A) → KeepsItems xs xs
goes_on xs = ([], sym (append-nil xs))

pub not_grown : (r : Ranges) → HaveGrown r r
not_grown r = record { v4_on = goes_on r.v4.items; v6_on = goes_on r.v6.items; asn_on = goes_on r.asn.items }

part_goes_on : {A : Type 0} (old new : List A) (at count : ℕ) (part : List A)
    → KeepsItems old new → IsPartAt old at count part → IsPartAt new at count part
part_goes_on old new at count part on h =
    subst (λ (l : List _). IsPartAt l at count part) (sym on.1) (part_stays old on.0 at count part h)

held_stays : (r : ResourceFields) (old new : Ranges) (held : RpkiHeld)
    → HaveGrown old new → AreHeldAt r old held → AreHeldAt r new held
held_stays r old new held on h = record {
  v4_is = part_goes_on old.v4.items new.v4.items held.v4_at held.v4 (map ip_struct r.v4) on.v4_on h.v4_is;
  v6_is = part_goes_on old.v6.items new.v6.items held.v6_at held.v6 (map ip_struct r.v6) on.v6_on h.v6_is;
  asn_is = part_goes_on old.asn.items new.asn.items held.asn_at held.asn (map as_struct r.as_numbers)
      on.asn_on h.asn_is;
}

-- a line of a fate is one without limits
module _ (asks : Bool) (top : ℕ) (octets : List ℕ) (IsWhy : Unseen → Type 0) (ranges : Ranges) where
  line_bare : (fate : Fate) (line : RpkiLine) → IsFateLine asks top octets IsWhy fate ranges line →
      IsFateLine asks top octets IsWhy fate ranges (but_for_limits line)
  line_bare unseen line h = (h.0, h.1, ap but_for_limits h.2)
  line_bare anchor line h = ap but_for_limits h
  line_bare (accepted above j) line h = (
    h.0,
    h.1,
    elim h.2 [
      | inl wrong ↦ inl (wrong.0, ap but_for_limits wrong.1)
      | inr right ↦ inr (right.0, right.1, ap but_for_limits right.2)
    ],
  )
  line_bare (rejected step fault) line h = (h.0, h.1, ap but_for_limits h.2)
  line_bare list line h = ap but_for_limits h
  line_bare neither line h = ap but_for_limits h

  -- and tells limits where these are added
  pub line_with : (fate : Fate) (r : Reached) (line told : RpkiLine) →
      IsFateLine asks top octets IsWhy fate ranges line →
      but_for_limits told ≡ but_for_limits line → TellsReached r told
      → IsLineWith asks top octets IsWhy fate r ranges told
  line_with fate r line told h same tells = (
    subst (λ (l : RpkiLine). IsFateLine asks top octets IsWhy fate ranges l) (sym same) (line_bare fate line h),
    tells,
  )

module _ (asks : Bool) (old new : Ranges) (on : HaveGrown old new) where
  line_stays : (top : ℕ) (octets : List ℕ) (IsWhy : Unseen → Type 0) (fate : Fate) (line : RpkiLine)
      → IsFateLine asks top octets IsWhy fate old line → IsFateLine asks top octets IsWhy fate new line
  line_stays top octets IsWhy unseen line h = h
  line_stays top octets IsWhy anchor line h = h
  line_stays top octets IsWhy (accepted above j) line h = (
    h.0,
    h.1,
    elim h.2 [
      | inl wrong ↦ inl wrong
      | inr right ↦ inr (right.0, held_stays j.holder old new line.held on right.1, right.2)
    ],
  )
  line_stays top octets IsWhy (rejected step fault) line h = h
  line_stays top octets IsWhy list line h = h
  line_stays top octets IsWhy neither line h = h

  module _ (w : StringWalk) where
    stays_at : (place : ℕ) (line : RpkiLine) → IsLineAt asks w place old line → IsLineAt asks w place new line
    stays_at place line h = (
      line_stays (origin_of w.sorted w.anchor) (string_at w.sorted.strings.now place) (IsWhyAt w place)
          (fate_at w place) (but_for_limits line) h.0,
      h.1,
    )

    -- one line more
    pub lines_more : (n : ℕ) (it told : ToldLines) (line : RpkiLine)
        → it.ranges ≡ old → told.ranges ≡ new → told.lines.items ≡ it.lines.items ++ line ∷ []
        → AreLinesOf asks w n it → IsLineAt asks w n new line → AreLinesOf asks w (n + 1) told
    lines_more n it told line were are pushed h is =
        let size = length-append it.lines.items (line ∷ []) in
        let count = h.count_is in
        let all : length told.lines.items ≡ n + 1 = ap length pushed ∙ omega (arith, size, count) in
        record {
          count_is = all;
          line_is = λ place d low.
              subst (λ (r : Ranges). IsLineAt asks w place r (get_or told.lines.items place d)) (sym are)
              (subst (λ (l : List RpkiLine). IsLineAt asks w place new (get_or l place d)) (sym pushed)
              (elim (cases_lt place n) [
                | inl before ↦
                    let within : place < length it.lines.items = omega (arith, before, count) in
                    subst (λ (l : RpkiLine). IsLineAt asks w place new l)
                    (sym (get_or-append it.lines.items (line ∷ []) d place within))
                    (stays_at place (get_or it.lines.items place d)
                    (subst (λ (r : Ranges). IsLineAt asks w place r (get_or it.lines.items place d)) were
                    (h.line_is place d before)))
                | inr behind ↦
                    let same : place ≡ n = omega (arith, low, behind) in
                    let here : length it.lines.items ≡ place = count ∙ sym same in
                    subst (λ (l : RpkiLine). IsLineAt asks w place new l)
                    (sym (get_or_push it.lines.items line d place here))
                    (subst (λ (m : ℕ). IsLineAt asks w m new line) (sym same) is)
              ]));
        }
