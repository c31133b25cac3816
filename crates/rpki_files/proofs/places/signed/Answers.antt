use Rattle.std.proofs.Common.{◌≡◌, Err, inl, inr, rules}
use Rattle.rpki_files.specs.StopPlaces.{ReadsSigned, StopsAtExtensions, StopsBeforeExtensions, StopsBehind, StopsInSigned}
use Rattle.rpki_files.proofs.StopWalks.{errs_so, oks_so, passed}
use Rattle.rpki_files.proofs.places.signed.Goals as goal

pub returns-in_err-before_extensions-clause-stop : goal.returns-in_err-before_extensions-clause-stop
returns-in_err-before_extensions-clause-stop c =
    let old = c.args.cursor.now in
    let same : c.from_residual.result ≡ Err c.in_err-before_extensions.field-0.0 = search rules in
    passed (StopsBeforeExtensions c.args.is_list old) (StopsInSigned c.args.is_list old) _ _ same
    c.in_err-before_extensions.ensures.stop (λ stop octet s. inl s)

pub returns-in_err-extensions-clause-stop : goal.returns-in_err-extensions-clause-stop
returns-in_err-extensions-clause-stop c =
    let old = c.args.cursor.now in
    let mid = c.before_extensions.new.cursor in
    let same : c.from_residual-in_err-extensions.result ≡ Err c.in_err-extensions.field-0.0 = search rules in
    passed (StopsAtExtensions c.args.is_list mid) (StopsInSigned c.args.is_list old) _ _ same
    c.in_err-extensions.ensures.stop (λ stop octet s. inr (mid, c.in_ok-before_extensions.ensures.read, inl s))

pub returns-clause-stop : goal.returns-clause-stop
returns-clause-stop c =
    let old = c.args.cursor.now in
    let mid = c.before_extensions.new.cursor in
    let new = c.extensions.new.cursor in
    errs_so (StopsBehind new) (StopsInSigned c.args.is_list old) c.ended.result c.ended.ensures.stop
    (λ stop octet s. inr (mid, c.in_ok-before_extensions.ensures.read, inr (new, c.in_ok-extensions.ensures.read, s)))

pub returns-clause-read : goal.returns-clause-read
returns-clause-read c =
    let old = c.args.cursor.now in
    let mid = c.before_extensions.new.cursor in
    let new = c.extensions.new.cursor in
    oks_so (new.from ≡ new.to) (ReadsSigned c.args.is_list old) c.ended.result c.ended.ensures.end (λ end. record {
      extensions = mid;
      behind = new;
      fields = c.in_ok-before_extensions.ensures.read;
      extensions_are = c.in_ok-extensions.ensures.read;
      ends = end;
    })
