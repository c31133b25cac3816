use Rattle.std.proofs.Common.{◌≡◌, List, ℕ, Bor, Err, rules}
use Rattle.rpki_files.specs.Files.{contents}
use Rattle.rpki_command.proofs.NamedObjects.{more_named, one_unread}
use Rattle.rpki_command.proofs.inputs.objects_named.Goals as goal

pub loop-name-preserved : goal.loop-name-preserved
loop-name-preserved g c =
    let reads = g.F.FileSource.reads c.args.files.now in
    let its = c.in_ok-push_named.ensures.read in
    more_named reads (λ (name : Bor (List ℕ)). name.now) c.args.names.now c.loop-name.name-index _ c.loop-name-test.true
    (contents c.loop-name.all.items) (contents c.push_named.new.all.items) its.0 c.loop-name.invariant its.1 its.2

pub returns-in_err-push_named-clause-unread : goal.returns-in_err-push_named-clause-unread
returns-in_err-push_named-clause-unread g c =
    let is : c.from_residual.result ≡ Err c.in_err-push_named.field-0.0 = search rules in
    let reads = g.F.FileSource.reads c.args.files.now in
    rw is (λ known.
    let unread = c.in_err-push_named.ensures.unread known in
    one_unread reads (λ (name : Bor (List ℕ)). name.now) c.args.names.now c.loop-name.name-index
    _ c.loop-name-test.true c.in_err-push_named.field-0.0 unread.0 unread.1)
