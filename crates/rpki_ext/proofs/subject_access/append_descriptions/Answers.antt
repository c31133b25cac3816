use Rattle.std.proofs.lemmas.Result.{on_ok_weaker, on_err_weaker}
use Rattle.rpki_der.proofs.Appending.{on_err}
use Rattle.rpki_der.proofs.TooLong.{passed_long, still_long}
use Rattle.rpki_ext.specs.SubjectAccess.{access_behind}
use Rattle.rpki_ext.proofs.WrittenDescriptions.{one_by_one, pieces_shorter, front_kept, front_of}
use Rattle.rpki_ext.proofs.subject_access.append_descriptions.Goals as goal

pub returns-in_err-append_access-clause-too_long : goal.returns-in_err-append_access-clause-too_long
returns-in_err-append_access-clause-too_long c =
    let access = access_behind c.args.ca_repository c.args.rpki_manifest c.args.signed_object c.args.rpki_notify in
    passed_long c.from_residual.result _ _ _ c.from_residual.ensures.1
    (rw c.rsync_octets.ensures at c.in_err-append_access.ensures.too_long) (pieces_shorter access).0

pub returns-in_err-append_access-2-clause-err : goal.returns-in_err-append_access-2-clause-err
returns-in_err-append_access-2-clause-err c =
    on_err c.from_residual-in_err-append_access-2.result
    (front_kept c.args.out.now.items c.append_access.new.out.items c.append_access-2.new.out.items
    c.in_err-append_access-2.ensures.err (front_of _ _ _ c.in_ok-append_access.ensures.ok))

pub returns-in_err-append_access-2-clause-too_long : goal.returns-in_err-append_access-2-clause-too_long
returns-in_err-append_access-2-clause-too_long c =
    let access = access_behind c.args.ca_repository c.args.rpki_manifest c.args.signed_object c.args.rpki_notify in
    passed_long c.from_residual-in_err-append_access-2.result _ _ _ c.from_residual-in_err-append_access-2.ensures.1
    (rw c.rsync_octets-2.ensures at c.in_err-append_access-2.ensures.too_long) (pieces_shorter access).1

pub returns-in_err-append_access-3-clause-err : goal.returns-in_err-append_access-3-clause-err
returns-in_err-append_access-3-clause-err c =
    let two = front_kept c.args.out.now.items c.append_access.new.out.items c.append_access-2.new.out.items
    (front_of _ _ _ c.in_ok-append_access-2.ensures.ok) (front_of _ _ _ c.in_ok-append_access.ensures.ok) in
    on_err c.from_residual-in_err-append_access-3.result
    (front_kept c.args.out.now.items c.append_access-2.new.out.items c.append_access-3.new.out.items
    c.in_err-append_access-3.ensures.err two)

pub returns-in_err-append_access-3-clause-too_long : goal.returns-in_err-append_access-3-clause-too_long
returns-in_err-append_access-3-clause-too_long c =
    let access = access_behind c.args.ca_repository c.args.rpki_manifest c.args.signed_object c.args.rpki_notify in
    passed_long c.from_residual-in_err-append_access-3.result _ _ _ c.from_residual-in_err-append_access-3.ensures.1
    (rw c.rsync_octets-3.ensures at c.in_err-append_access-3.ensures.too_long) (pieces_shorter access).2

pub returns-clause-ok : goal.returns-clause-ok
returns-clause-ok c =
    let access = access_behind c.args.ca_repository c.args.rpki_manifest c.args.signed_object c.args.rpki_notify in
    on_ok_weaker c.append_access-4.result
    (one_by_one access _ _ _ _ _ (rw c.rsync_octets.ensures at c.in_ok-append_access.ensures.ok)
    (rw c.rsync_octets-2.ensures at c.in_ok-append_access-2.ensures.ok)
    (rw c.rsync_octets-3.ensures at c.in_ok-append_access-3.ensures.ok))
    (rw c.https_octets.ensures at c.append_access-4.ensures.ok)

pub returns-clause-err : goal.returns-clause-err
returns-clause-err c =
    let two = front_kept c.args.out.now.items c.append_access.new.out.items c.append_access-2.new.out.items
    (front_of _ _ _ c.in_ok-append_access-2.ensures.ok) (front_of _ _ _ c.in_ok-append_access.ensures.ok) in
    let three = front_kept c.args.out.now.items c.append_access-2.new.out.items c.append_access-3.new.out.items
    (front_of _ _ _ c.in_ok-append_access-3.ensures.ok) two in
    on_err_weaker c.append_access-4.result
    (λ kept. front_kept c.args.out.now.items c.append_access-3.new.out.items c.append_access-4.new.out.items
    kept three) c.append_access-4.ensures.err

pub returns-clause-too_long : goal.returns-clause-too_long
returns-clause-too_long c =
    let access = access_behind c.args.ca_repository c.args.rpki_manifest c.args.signed_object c.args.rpki_notify in
    still_long c.append_access-4.result _ _ (rw c.https_octets.ensures at c.append_access-4.ensures.too_long) (pieces_shorter access).3
