use Rattle.std.proofs.Common.{◌≡◌, ◌<◌, subst}
use Rattle.rpki_path.specs.declared.names.Stop.TheVariants.{Unchained, Unread}
use Rattle.rpki_path.specs.GivenPaths.{PathStrings, path_strings, string_count}
use Rattle.rpki_path.specs.NameChains.{strings_below, IsUnchained, IsUnreadBelow}
use Rattle.rpki_path.proofs.ChainedNames.{told_unchained, told_unread, place_of}
use Rattle.rpki_path.proofs.names.first_unchained.Goals as goal

pub returns-in-Err-Unchained-clause-names : goal.returns-in-Err-Unchained-clause-names
returns-in-Err-Unchained-clause-names c =
    let p = c.path.inside in
    let s = c.in-Err-Unchained.field-0 in
    let why : s.why ≡ Unchained = cc in
    subst (λ (g : PathStrings). IsUnchained g.anchor (strings_below g) s.place) c.path.view_is
    (told_unchained (path_strings p.anchor.now p.cas.now p.last) s c.in-Err-Unchained.ensures.stopped why)

pub returns-in-Err-Unchained-clause-place : goal.returns-in-Err-Unchained-clause-place
returns-in-Err-Unchained-clause-place c =
    let p = c.path.inside in
    let s = c.in-Err-Unchained.field-0 in
    subst (λ (g : PathStrings). s.place < string_count g) c.path.view_is
    (place_of (path_strings p.anchor.now p.cas.now p.last) s c.in-Err-Unchained.ensures.stopped)

pub returns-in-Err-Unread-clause-names : goal.returns-in-Err-Unread-clause-names
returns-in-Err-Unread-clause-names c =
    let p = c.path.inside in
    let s = c.in-Err-Unread.field-0 in
    let fault = c.in-Err-Unread.fault in
    let why : s.why ≡ Unread fault = cc in
    subst (λ (g : PathStrings). IsUnreadBelow g.anchor (strings_below g)
    (record { index = s.place; fault = fault })) c.path.view_is
    (told_unread (path_strings p.anchor.now p.cas.now p.last) s c.in-Err-Unread.ensures.stopped fault why)

pub returns-in-Err-Unread-clause-index : goal.returns-in-Err-Unread-clause-index
returns-in-Err-Unread-clause-index c =
    let p = c.path.inside in
    let s = c.in-Err-Unread.field-0 in
    subst (λ (g : PathStrings). s.place < string_count g) c.path.view_is
    (place_of (path_strings p.anchor.now p.cas.now p.last) s c.in-Err-Unread.ensures.stopped)
