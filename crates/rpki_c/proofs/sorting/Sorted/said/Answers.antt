use Rattle.std.proofs.Common.{◌≡◌, ◌∙◌, ◌<◌, ℕ, List, [], length, sym, ap, subst}
use Rattle.std.proofs.lemmas.List.{get_or_read}
use Rattle.rpki_cert.specs.SaidKinds.{BeginsWithSaid}
use Rattle.rpki_folder.specs.Folders.{string_at}
use Rattle.rpki_c.proofs.sorting.Sorted.said.Goals as goal

pub returns : goal.returns
returns c =
    let certs = c.args.self.now.folder.certs in
    let at = c.args.at in
    let low : at < length c.certs.result.now = subst (λ (l : List (List ℕ)). at < length l) (sym c.certs.ensures)
    c.requires in
    let filed : c.index-certs-at.result ≡ string_at certs at =
    get_or_read c.certs.result.now at c.index-certs-at.result low c.index-certs-at.is [] ∙
    ap (λ (l : List (List ℕ)). string_at l at) c.certs.ensures in
    subst (λ (o : List ℕ). BeginsWithSaid c.said.result o) filed c.said.ensures
