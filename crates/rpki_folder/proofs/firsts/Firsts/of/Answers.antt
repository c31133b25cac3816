use Rattle.std.specs.List.{AllZip}
use Rattle.std.proofs.Common.{◌≡◌, ◌<◌, ◌+◌, ℕ, List, [], ◌∷◌, ◌++◌, length, take, get_or, sym, ap, subst, ◌∙◌}
use Rattle.std.proofs.lemmas.List.{take_more}
use Rattle.std.proofs.lemmas.List.Elements.{AllZip-push}
use Rattle.rpki_folder.specs.FirstPlaces.{IsCertificateOctets}
use Rattle.rpki_folder.proofs.firsts.Firsts.of.Goals as goal

pub loop-file-preserved : goal.loop-file-preserved
loop-file-preserved c =
    let certs = c.args.folder.now.certs in
    let i = c.loop-file.file-index in
    let file = c.file-item.result in
    let own = c.in_ok-certificate_octets.field-0 in
    let same = c.certs-file-items.ensures in
    let low : i < length certs = subst (λ (l : List (List ℕ)). i < length l) same c.loop-file-test.true in
    let is : file ≡ get_or certs i file = c.file-item.is ∙ ap (λ (l : List (List ℕ)). get_or l i file) same in
    let next : take (i + 1) certs ≡ take i certs ++ file ∷ [] = take_more certs i file low ∙
    ap (λ (o : List ℕ). take i certs ++ o ∷ []) (sym is) in
    let before = c.loop-file.invariant in (
      before.0 ++ own ∷ [],
      subst (λ (l : List (List ℕ)). AllZip IsCertificateOctets l (before.0 ++ own ∷ [])) (sym next)
          (AllZip-push IsCertificateOctets (take i certs) before.0 file own before.1
          c.in_ok-certificate_octets.ensures),
      c.in_ok-add.ensures before.0 before.2,
    )
