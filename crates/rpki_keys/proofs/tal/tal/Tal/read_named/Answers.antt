use Rattle.std.proofs.Common.{rules, ◌≡◌, Err}
use Rattle.std.specs.Str.Lines.{lines}
use Rattle.rpki_keys.proofs.SectionsRead.{fault_of, fault_of_key, out_of_memory, rejects, sections_of, some_texts}
use Rattle.rpki_keys.proofs.tal.tal.Tal.read_named.Goals as goal

pub returns-in_err-digits-clause-fault : goal.returns-in_err-digits-clause-fault
returns-in_err-digits-clause-fault c =
    let same : c.from_residual.result ≡ Err c.in_err-digits.field-0.0 = search rules in
    let text = c.is_text.ensures.0 c.if-not-is_text.false in
    rw same (fault_of c.args.strict c.in_err-digits.field-0.0 c.args.file.now _ text
    c.behind_comments.ensures.comments c.behind_comments.ensures.ends c.in_err-digits.ensures.stops)

pub returns-in_err-digits-clause-rejected : goal.returns-in_err-digits-clause-rejected
returns-in_err-digits-clause-rejected c =
    let same : c.from_residual.result ≡ Err c.in_err-digits.field-0.0 = search rules in
    let text = c.is_text.ensures.0 c.if-not-is_text.false in
    rw same (rejects c.args.strict c.in_err-digits.field-0.0 c.args.file.now
    (fault_of c.args.strict c.in_err-digits.field-0.0 c.args.file.now _ text c.behind_comments.ensures.comments
    c.behind_comments.ensures.ends c.in_err-digits.ensures.stops))

pub returns-in_err-key_info-clause-fault : goal.returns-in_err-key_info-clause-fault
returns-in_err-key_info-clause-fault c =
    let same : c.from_residual-in_err-key_info.result ≡ Err c.in_err-key_info.field-0.0 = search rules in
    let text = c.is_text.ensures.0 c.if-not-is_text.false in
    rw same (fault_of_key c.args.strict c.in_err-key_info.field-0.0 c.args.file.now _ c.take_uris.new.uris.items
    (lines c.in_ok-digits.digits.now) text c.behind_comments.ensures.comments c.in_ok-digits.ensures.ok
    c.in_ok-digits.ensures.some c.in_err-key_info.ensures.rejected)

pub returns-in_err-key_info-clause-rejected : goal.returns-in_err-key_info-clause-rejected
returns-in_err-key_info-clause-rejected c =
    let same : c.from_residual-in_err-key_info.result ≡ Err c.in_err-key_info.field-0.0 = search rules in
    let text = c.is_text.ensures.0 c.if-not-is_text.false in
    rw same (rejects c.args.strict c.in_err-key_info.field-0.0 c.args.file.now
    (fault_of_key c.args.strict c.in_err-key_info.field-0.0 c.args.file.now _ c.take_uris.new.uris.items
    (lines c.in_ok-digits.digits.now) text c.behind_comments.ensures.comments c.in_ok-digits.ensures.ok
    c.in_ok-digits.ensures.some c.in_err-key_info.ensures.rejected))

pub returns-in_err-info-clause-rejected : goal.returns-in_err-info-clause-rejected
returns-in_err-info-clause-rejected c =
    (out_of_memory c.args.strict c.args.file.now c.from_residual-in_err-info.result
    c.from_residual-in_err-info.ensures.1).0

pub returns-in_err-info-clause-fault : goal.returns-in_err-info-clause-fault
returns-in_err-info-clause-fault c =
    (out_of_memory c.args.strict c.args.file.now c.from_residual-in_err-info.result
    c.from_residual-in_err-info.ensures.1).1

pub returns-clause-ok : goal.returns-clause-ok
returns-clause-ok c = record {
  is_text = c.is_text.ensures.0 c.if-not-is_text.false;
  digits = lines c.in_ok-digits.digits.now;
  sections = sections_of _ _ _ _ c.behind_comments.ensures.comments c.in_ok-digits.ensures.ok;
  some = some_texts c.take_uris.new.uris.items c.in_ok-digits.ensures.some;
  key_is = c.in_ok-key_info.ensures.ok;
}
