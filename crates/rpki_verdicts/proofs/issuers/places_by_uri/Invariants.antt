use Rattle.std.specs.BTreeMap.{get}
use Rattle.std.specs.Cmp.Lexicographic.{slice_cmp}
use Rattle.std.specs.Ordering.{nat_cmp}
use Rattle.std.proofs.Common.{◌≡◌, ℕ, List, map, take}
use Rattle.rpki_folder.specs.FirstPlaces.{first_from}
use Rattle.rpki_verdicts.specs.ShownPaths.{placed, uri_of}
use Rattle.rpki_verdicts.proofs.issuers.places_by_uri.Given as goal

-- the places so far
abbrev pub invariant-loop-place : goal.invariant-loop-place
invariant-loop-place l = (uri : List ℕ) →
    get (slice_cmp nat_cmp) l.files uri ≡
    first_from 0 (map uri_of (map (λ f. placed l.root f.now) (take l.place l.certs))) uri
