use Rattle.std.proofs.lemmas.Str.{IsUtf8-from_ascii}
use Rattle.rpki_parts.proofs.UriTests.{printable_ascii}
use Rattle.rpki_parts.proofs.uri.text_of.Goals as goal

pub unreachable-requires : goal.unreachable-requires
unreachable-requires c = c.in-Err.ensures.cases.0 (IsUtf8-from_ascii c.args.octets.now (printable_ascii c.args.octets.now c.requires))
