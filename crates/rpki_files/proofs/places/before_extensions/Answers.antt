use Rattle.std.proofs.Common.{◌≡◌, Err, inl, inr, rules}
use Rattle.rpki_files.specs.StopPlaces.{AreFields, Passes, ReadsEntries, ReadsToExtensions, StopsAmong}
use Rattle.rpki_files.specs.StopPlaces.{StopsAtEntries, StopsBeforeExtensions, certificate_fields, list_fields}
use Rattle.rpki_files.proofs.StopWalks.{errs_so, oks_so, passed}
use Rattle.rpki_files.proofs.places.before_extensions.Goals as goal

pub returns-in_err-past_all-clause-stop : goal.returns-in_err-past_all-clause-stop
returns-in_err-past_all-clause-stop c =
    let old = c.args.cursor.now in
    let same : c.from_residual.result ≡ Err c.in_err-past_all.field-0.0 = search rules in
    passed (StopsAmong list_fields old) (StopsBeforeExtensions c.args.is_list old) _ _ same
    c.in_err-past_all.ensures.stop (λ stop octet s. rw c.if-is_list.true (inl s))

pub returns-in_ok-past_all-clause-stop : goal.returns-in_ok-past_all-clause-stop
returns-in_ok-past_all-clause-stop c =
    let old = c.args.cursor.now in
    let mid = c.past_all.new.cursor in
    errs_so (StopsAtEntries mid) (StopsBeforeExtensions c.args.is_list old) c.entries.result c.entries.ensures.stop
    (λ stop octet s. rw c.if-is_list.true (inr (mid, c.in_ok-past_all.ensures.read, s)))

pub returns-in_ok-past_all-clause-read : goal.returns-in_ok-past_all-clause-read
returns-in_ok-past_all-clause-read c =
    let old = c.args.cursor.now in
    let mid = c.past_all.new.cursor in
    let new = c.entries.new.cursor in
    oks_so (ReadsEntries mid new) (ReadsToExtensions c.args.is_list old new) c.entries.result c.entries.ensures.read
    (λ read. rw c.if-is_list.true (mid, c.in_ok-past_all.ensures.read, read))

pub returns-else-is_list-clause-stop : goal.returns-else-is_list-clause-stop
returns-else-is_list-clause-stop c =
    let old = c.args.cursor.now in
    let r = c.past_all-else-is_list in
    errs_so (StopsAmong certificate_fields old) (StopsBeforeExtensions c.args.is_list old) r.result r.ensures.stop
    (λ stop octet s. rw c.if-is_list.false s)

pub returns-else-is_list-clause-read : goal.returns-else-is_list-clause-read
returns-else-is_list-clause-read c =
    let old = c.args.cursor.now in
    let r = c.past_all-else-is_list in
    oks_so (Passes (AreFields certificate_fields) old r.new.cursor)
    (ReadsToExtensions c.args.is_list old r.new.cursor) r.result r.ensures.read
    (λ read. rw c.if-is_list.false read)
