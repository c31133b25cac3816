use Rattle.std.proofs.lemmas.Bool.{false≢true}
use Rattle.rpki_requests.proofs.RevokedFiles.{own_is, own_not}
use Rattle.rpki_requests.proofs.lists.own_list.Goals as goal

pub returns-in_default : goal.returns-in_default
returns-in_default c = λ w h. c.in_default.ensures (w, h.is_list)

pub returns-then-not-is_own : goal.returns-then-not-is_own
returns-then-not-is_own c =
    own_not c.args.issuer.now.cert.fields c.args.file.now.octets c.unambiguous.ensures.list c.in-Some.list.now.list
    c.in-Some.ensures (λ own. false≢true (c.if-not-is_own.ensures.1 own))

pub returns : goal.returns
returns c =
    own_is c.args.issuer.now.cert.fields c.args.file.now.octets c.unambiguous.ensures.list c.in-Some.list.now.list
    c.in-Some.ensures (c.is_own.ensures.0 c.if-not-is_own.false)
