use Rattle.std.specs.Prelude.{Err}
use Rattle.std.proofs.Common.{◌≡◌, Option, refl, rules}
use Rattle.rpki_crl.specs.Lists.{CrlFields}
use Rattle.rpki_files.specs.Files.{contents}
use Rattle.rpki_requests.specs.RequestFiles.{IsPreviousOf}
use Rattle.rpki_requests.proofs.RevokedFiles.{previous_none, previous_not, previous_one, previous_several}
use Rattle.rpki_requests.proofs.lists.previous_of.Goals as goal

pub returns-in_err-file : goal.returns-in_err-file
returns-in_err-file c =
    let none = previous_several c.args.issuer.now.cert.fields (contents c.args.files.now)
    c.in_err-file.ensures.several in
    let same : c.from_residual.result ≡ Err c.in_err-file.field-0.0 = search rules in
    rw same ((c.in_err-file.ensures.other, none), λ not. none)

pub returns-in_default : goal.returns-in_default
returns-in_default c =
    previous_none c.args.issuer.now.cert.fields (contents c.args.files.now)
    (rw c.in_default.is at c.in_ok-file.ensures.alone)

pub returns-in-Some-own_list : goal.returns-in-Some-own_list
returns-in-Some-own_list c =
    previous_one c.args.issuer.now.cert.fields (contents c.args.files.now) c.in-Some.file.now.octets
    (rw c.in-Some.is at c.in_ok-file.ensures.alone) c.in-Some-own_list.list.now.list
    c.in-Some-own_list.ensures

pub returns-in-None : goal.returns-in-None
returns-in-None c =
    let none : (other : Option CrlFields) →
    IsPreviousOf c.args.issuer.now.cert.fields (contents c.args.files.now) other → ⊥ =
    previous_not c.args.issuer.now.cert.fields (contents c.args.files.now) c.in-Some.file.now.octets
    (rw c.in-Some.is at c.in_ok-file.ensures.alone) c.in-None.ensures in
    ((refl, none), λ not. none)
