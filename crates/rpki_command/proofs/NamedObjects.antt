-- The objects of files that are named.
use Rattle.std.proofs.Common.{◌≡◌, ◌+◌, ◌<◌, ◌∷◌, ◌++◌, ℕ, List, [], length, take, get_or, map, sym, subst, arith}
use Rattle.std.proofs.lemmas.List.{get_or-map, length-map, map_more}
use Rattle.std.proofs.lemmas.List.Elements.{AllZip-push}
use Rattle.rpki_text.specs.CommandLines.{usual_size}
use Rattle.rpki_command.specs.ReadFiles.{ReadsFile}
use Rattle.rpki_command.specs.RequestRuns.{AreObjectsNamed, IsObjectNamed, IsUnreadOf}
use Rattle.rpki_command.specs.UnreadFiles.{IsWhyUnread}
use Rattle.rpki_command.specs.declared.inputs.Unreadable.{Unreadable}

module _ {X : Type 0} (reads : ReadsFile) (now : X → List ℕ) (names : List X) (i : ℕ) (d : X) (low : i < length names) where
  -- one more that was read
  pub more_named : (objects all : List (List ℕ)) (octets : List ℕ) →
      AreObjectsNamed reads (map now (take i names)) objects → IsObjectNamed reads (now (get_or names i d)) octets →
      all ≡ objects ++ octets ∷ [] → AreObjectsNamed reads (map now (take (i + 1) names)) all
  more_named objects all octets are is more =
      subst (λ (l : List (List ℕ)). AreObjectsNamed reads l all) (sym (map_more now names i d low))
      (subst (λ (l : List (List ℕ)). AreObjectsNamed reads (map now (take i names) ++ now (get_or names i d) ∷ []) l) (sym more)
      (AllZip-push (IsObjectNamed reads) (map now (take i names)) objects (now (get_or names i d)) octets are is))

  -- one that can't be read
  pub one_unread : (file : Unreadable) → file.name.now ≡ now (get_or names i d) →
      IsWhyUnread reads usual_size (now (get_or names i d)) file.why → IsUnreadOf reads (map now names) file
  one_unread file named unread =
      let long = length-map names now in
      let below : i < length (map now names) = omega arith in
      rw (named) ((i, below, get_or-map now names i d (now (get_or names i d)) low), unread)
