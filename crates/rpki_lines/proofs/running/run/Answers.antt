use Rattle.std.specs.Prelude.{string_bytes}
use Rattle.rpki_lines.proofs.running.run.Goals as goal

pub returns-clause-answered : goal.returns-clause-answered
returns-clause-answered g c = record {
  input = c.in_ok-text.text.items;
  output = string_bytes c.in_ok-report.report.text;
  is_read = c.in_ok-text.ensures.whole;
  to_the_end = c.in_ok-text.ensures.end;
  short = c.in_ok-text.ensures.short;
  says = c.in_ok-report.ensures c.in_ok-text.text.items (rw c.deref.ensures.value at c.in_ok-input.ensures);
  is_written = rw c.as_bytes.ensures.value at c.in_ok-write_whole.ensures.written;
}
