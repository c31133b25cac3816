use Rattle.std.proofs.Common.{◌≡◌, ◌∙◌, ℕ, ◌<◌, List, length, get_or, sym, ap, subst}
use Rattle.std.proofs.lemmas.List.{get_or_read}
use Rattle.rpki_folder.specs.Folders.{string_at}
use Rattle.rpki_folder.specs.declared.folder.Added.{Added}
use Rattle.rpki_folder.specs.declared.folder.Added.TheVariants.{Certificate, Neither}
use Rattle.rpki_c.specs.FolderFates.{Fate}
use Rattle.rpki_c.specs.FolderFates.{IsAddedWhy, IsCertWhy, IsWhyAt, added_fate, added_reached, cert_fate, fate_at}
use Rattle.rpki_c.specs.FolderFates.{origin_of, line_reached_at, seen}
use Rattle.rpki_c.specs.FolderLimits.{TellsReached}
use Rattle.rpki_c.specs.FolderTelling.{IsFateLine}
use Rattle.rpki_folder.specs.declared.limits.Reached.{Reached}
use Rattle.rpki_folder.specs.declared.unseen.Unseen.{Unseen as Why}
use Rattle.rpki_c.proofs.HeldLines.{line_with}
use Rattle.rpki_c.proofs.SortedMore.{filed_at}
use Rattle.rpki_c.proofs.folder_lines.WalkLines.line_at.Goals as goal

pub cert_line-requires-clause-inside : goal.cert_line-requires-clause-inside
cert_line-requires-clause-inside c =
    let s = c.args.self.now.sorted.now in
    let place = c.args.place in
    let inside : place < length s.added.items = subst (λ (n : ℕ). place < n) (sym c.requires.sorted.count)
    c.requires.inside in
    let read : get_or s.added.items place Neither ≡ Certificate c.in-Certificate.at =
    sym (get_or_read s.added.items place c.index.result.now inside c.index.ensures Neither) ∙
    c.in-Certificate.is in
    (filed_at s c.requires.sorted place c.in-Certificate.at c.requires.inside read).0

pub returns-in_ok-line-in-Certificate-clause-line : goal.returns-in_ok-line-in-Certificate-clause-line
returns-in_ok-line-in-Certificate-clause-line c =
    let w = seen c.args.self.now in
    let s = w.sorted in
    let at = c.in-Certificate.at in
    let place = c.args.place in
    let top = origin_of s w.anchor in
    let inside : place < length s.added.items = subst (λ (n : ℕ). place < n) (sym c.requires.sorted.count)
    c.requires.inside in
    let read : get_or s.added.items place Neither ≡ Certificate at =
    sym (get_or_read s.added.items place c.index.result.now inside c.index.ensures Neither) ∙
    c.in-Certificate.is in
    let filed = filed_at s c.requires.sorted place at c.requires.inside read in
    let fate : cert_fate w at ≡ fate_at w place = sym (ap (λ (a : Added). added_fate w a) read) in
    let reached : c.reached.result ≡ line_reached_at w place = c.reached.ensures ∙
    sym (ap (λ (a : Added). added_reached w a) read) in
    let ranges = c.cert_line.new.ranges in
    let line = c.in_ok-line-in-Certificate.line in
    let told = c.with_limits.result in
    let why : IsCertWhy w at ≡ IsWhyAt w place = sym (ap (λ (a : Added). IsAddedWhy w a) read) in
    line_with c.args.asks_key top (string_at s.strings.now place) (IsWhyAt w place) ranges (fate_at w place)
    (line_reached_at w place) line told
    (subst (λ (Is : Why → Type 0). IsFateLine c.args.asks_key top (string_at s.strings.now place) Is (fate_at w place)
    ranges line) why
    (subst (λ (f : Fate). IsFateLine c.args.asks_key top (string_at s.strings.now place) (IsCertWhy w at) f ranges
    line) fate
    (subst (λ (o : List ℕ). IsFateLine c.args.asks_key top o (IsCertWhy w at) (cert_fate w at) ranges line) filed.1
    c.in_ok-line-in-Certificate.ensures.line)))
    c.with_limits.ensures.line
    (subst (λ (r : Reached). TellsReached r told) reached c.with_limits.ensures.limits)
