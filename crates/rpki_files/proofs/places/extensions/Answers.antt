use Rattle.std.proofs.Common.{◌≡◌, Err, inl, inr, rules}
use Rattle.rpki_der.specs.Tags.{SEQUENCE}
use Rattle.rpki_files.specs.StopPlaces.{HasTag, Opens, ReadsExtensions, StopsAmongElements, StopsAtExtensions}
use Rattle.rpki_files.specs.StopPlaces.{StopsBefore, StopsBehind, extensions_tag}
use Rattle.rpki_files.specs.declared.expected.Part.TheVariants as part
use Rattle.rpki_files.proofs.StopWalks.{errs_so, oks_so, passed}
use Rattle.rpki_files.proofs.places.extensions.Goals as goal

pub returns-in_err-tagged-clause-stop : goal.returns-in_err-tagged-clause-stop
returns-in_err-tagged-clause-stop c =
    let old = c.args.cursor.now in
    let same : c.from_residual.result ≡ Err c.in_err-tagged.field-0.0 = search rules in
    passed (StopsBefore (HasTag c.extensions_tag.result) part.Extensions old) (StopsAtExtensions c.args.is_list old)
    _ _ same c.in_err-tagged.ensures.stop (λ stop octet s. inl (rw (← c.extensions_tag.ensures) s))

pub returns-in_err-inside-clause-stop : goal.returns-in_err-inside-clause-stop
returns-in_err-inside-clause-stop c =
    let old = c.args.cursor.now in
    let next = c.opened.new.cursor in
    let tagged = c.in_ok-tagged.tagged in
    let opens : Opens (extensions_tag c.args.is_list) old tagged next = rw (← c.extensions_tag.ensures) c.in_ok-tagged.ensures.read in
    let same : c.from_residual-in_err-inside.result ≡ Err c.in_err-inside.field-0.0 = search rules in
    passed (StopsBefore (HasTag SEQUENCE) part.Extensions tagged) (StopsAtExtensions c.args.is_list old) _ _ same
    c.in_err-inside.ensures.stop (λ stop octet s. inr (tagged, next, opens, inl s))

pub returns-in_err-elements-clause-stop : goal.returns-in_err-elements-clause-stop
returns-in_err-elements-clause-stop c =
    let old = c.args.cursor.now in
    let next = c.opened.new.cursor in
    let tagged = c.in_ok-tagged.tagged in
    let inner = c.in_ok-inside.inside in
    let behind = c.opened-2.new.cursor in
    let opens : Opens (extensions_tag c.args.is_list) old tagged next = rw (← c.extensions_tag.ensures) c.in_ok-tagged.ensures.read in
    let same : c.from_residual-in_err-elements.result ≡ Err c.in_err-elements.field-0.0 = search rules in
    passed (StopsAmongElements c.args.is_list c.at-octet.result inner) (StopsAtExtensions c.args.is_list old) _ _ same
    c.in_err-elements.ensures.stop
    (λ stop octet s. inr (tagged, next, opens, inr (inner, behind, c.in_ok-inside.ensures.read, inl (rw (← c.at-octet.ensures.octet) s))))

pub returns-clause-stop : goal.returns-clause-stop
returns-clause-stop c =
    let old = c.args.cursor.now in
    let next = c.opened.new.cursor in
    let tagged = c.in_ok-tagged.tagged in
    let inner = c.in_ok-inside.inside in
    let behind = c.opened-2.new.cursor in
    let opens : Opens (extensions_tag c.args.is_list) old tagged next = rw (← c.extensions_tag.ensures) c.in_ok-tagged.ensures.read in
    errs_so (StopsBehind behind) (StopsAtExtensions c.args.is_list old) c.ended.result c.ended.ensures.stop
    (λ stop octet s. inr (tagged, next, opens, inr (inner, behind, c.in_ok-inside.ensures.read, inr (c.in_ok-elements.ensures.all, s))))

pub returns-clause-read : goal.returns-clause-read
returns-clause-read c =
    let old = c.args.cursor.now in
    let next = c.opened.new.cursor in
    let tagged = c.in_ok-tagged.tagged in
    let inner = c.in_ok-inside.inside in
    let behind = c.opened-2.new.cursor in
    let opens_tag : Opens (extensions_tag c.args.is_list) old tagged next = rw (← c.extensions_tag.ensures) c.in_ok-tagged.ensures.read in
    oks_so (behind.from ≡ behind.to) (ReadsExtensions c.args.is_list old next) c.ended.result c.ended.ensures.end (λ end. record {
      tagged = tagged;
      elements = inner;
      behind = behind;
      opens = opens_tag;
      inside = c.in_ok-inside.ensures.read;
      ends = end;
      complete = c.in_ok-elements.ensures.all;
    })
