use Rattle.std.specs.Prelude.{slice_get, Some}
use Rattle.std.proofs.Common.{◌≡◌, ◌-◌, length, sym, ap, ◌∙◌}
use Rattle.std.specs.Option.{option_copied}
use Rattle.rpki_c.specs.FolderFates.{origin_of}
use Rattle.rpki_c.proofs.Issuers.{issuer_last}
use Rattle.rpki_c.proofs.sorting.Sorted.issuer.Goals as goal

pub returns-in-Some : goal.returns-in-Some
returns-in-Some c =
    let above = c.args.above.now in
    let got : slice_get above (length above - 1) ≡ Some c.in-Some.field-0.now = sym c.last.ensures.value ∙
    ap (λ o. option_copied o) c.in-Some.is in
    c.origin.ensures ∙ sym (issuer_last (origin_of c.args.self.now) c.args.anchor above c.in-Some.field-0.now got)
