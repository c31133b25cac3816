use Rattle.rpki_der.specs.Place.{remaining}
use Rattle.std.proofs.Common.{rules, ◌∙◌, sym, ◌≡◌, ℕ, true, false, List, Option, Some, None, refl}
use Rattle.std.specs.Prelude.{is_some}
use Rattle.rpki_der.proofs.Octets.{if_some}
use Rattle.rpki_parts.specs.Uris.Tests.{is_rsync}
use Rattle.rpki_ext.specs.GeneralNames.{rsync_of, keep_rsync}
use Rattle.rpki_ext.proofs.names.keep.Goals as goal

second : (v : Option (List ℕ)) (text w : List ℕ) → rsync_of text ≡ Some w → is_some v ≡ true → keep_rsync v text ≡ None
second v text w e h = let g = if_some (is_rsync text) text w e in rw (g.0, h) refl

only : (v : Option (List ℕ)) (text w : List ℕ) → rsync_of text ≡ Some w → is_some v ≡ false → keep_rsync v text ≡ Some (Some w)
only v text w e h = let g = if_some (is_rsync text) text w e in rw (g.0, h, g.1) refl

pub returns : goal.returns
returns c = only c.args.uri.now (remaining c.args.text) c.in-Some.read (sym c.in_ok-read.ensures.ok ∙ c.in-Some.is) (search rules)

pub returns-then-is_some : goal.returns-then-is_some
returns-then-is_some c = second c.args.uri.now (remaining c.args.text) c.in-Some.read
    (sym c.in_ok-read.ensures.ok ∙ c.in-Some.is) (search rules)
