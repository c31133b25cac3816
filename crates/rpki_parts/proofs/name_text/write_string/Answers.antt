use Rattle.std.proofs.Common.{rules, ◌≡◌, ◌∷◌, false}
use Rattle.rpki_parts.specs.NameTexts.{octets_text, octet_text, is_at_edge, string_text}
use Rattle.rpki_parts.proofs.NameTexts.{piece_written}
use Rattle.rpki_parts.proofs.name_text.write_string.Goals as goal

pub loop-octet-preserved : goal.loop-octet-preserved
loop-octet-preserved g c = λ plain.
    let is : c.loop-octet.rest.now ≡ c.in-Some.octet.now ∷ c.in-Some.behind.now = search rules in
    let so_far = rw is at (c.loop-octet.invariant plain) in
    piece_written g.W.Write.write_str_gives c.args.f.now (string_text c.args.octets.now) c.loop-octet.f
    (octet_text (is_at_edge c.loop-octet.is_first c.in-Some.octet.now c.in-Some.behind.now) c.in-Some.octet.now)
    (octets_text false c.in-Some.behind.now) c.write_octet.new.f
    so_far (rw c.is_at_edge.ensures at (c.write_octet.ensures so_far.1.plain (search rules)))
