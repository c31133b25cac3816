use Rattle.std.proofs.Common.{◌<◌, false, get_or, rules}
use Rattle.std.proofs.Output.{has_written_append, has_written_of_eq}
use Rattle.rpki_der.proofs.Texts.{pairs_more}
use Rattle.rpki_der.proofs.oid.OidDisplay.fmt.Goals as goal

pub loop-octet-preserved : goal.loop-octet-preserved
loop-octet-preserved g c = λ plain.
    let octets = c.as_bytes-octet-items.result.now in
    let i = c.loop-octet.octet-index in
    let small : get_or octets i 0 < 256 = search rules in
    has_written_of_eq _ _ _ _ _ (pairs_more false octets i (search rules) small)
    (has_written_append _ _ _ _ _ _ (c.loop-octet.invariant plain) (search rules))
