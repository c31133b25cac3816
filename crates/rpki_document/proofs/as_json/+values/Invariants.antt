use Rattle.std.proofs.Common.{take}
use Rattle.rpki_document.specs.Views.{Puts, parts_members}
use Rattle.rpki_document.proofs.as_json.+values.Given as goal

abbrev pub invariant-put_parts-loop-it : goal.invariant-put_parts-loop-it
invariant-put_parts-loop-it l = Puts (parts_members (take l.it-index l.it-items)) l.fn.out l.out
