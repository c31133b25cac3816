use Rattle.std.proofs.Common.{sym, ◌∙◌}
use Rattle.std.proofs.lemmas.Slice.Eq.{bytes_eq-Decides}
use Rattle.rpki_folder.proofs.IssuersAmong.{own_key}
use Rattle.rpki_verdicts.proofs.search.has_key.Goals as goal

pub returns-in-Certificate : goal.returns-in-Certificate
returns-in-Certificate c =
    let said = c.in-Certificate.said in
    let key = c.args.key.now in
    let own = own_key c.unambiguous.ensures.certificate c.args.file.now.octets said c.in-Certificate.ensures.0 key in
    let same = bytes_eq-Decides said.key key in
    (λ is. own.1 (same.0 (sym c.eq.ensures ∙ is)), λ h. c.eq.ensures ∙ same.1 (own.0 h))
