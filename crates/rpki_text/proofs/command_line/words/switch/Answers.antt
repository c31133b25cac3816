use Rattle.std.proofs.Common.{rules, refl}
use Rattle.rpki_text.specs.CommandLines.{lenient, json, quiet, all, no_names, trust_first, no_crl, strict_exit, help}
use Rattle.rpki_text.proofs.command_line.words.switch.Goals as goal

pub returns-then-is-clause-added : goal.returns-then-is-clause-added
returns-then-is-clause-added c = (lenient, (c.args.word.now, refl, search rules), refl)

pub returns-then-is-3-clause-added : goal.returns-then-is-3-clause-added
returns-then-is-3-clause-added c = (json, (c.args.word.now, refl, search rules), refl)

pub returns-then-is-5-clause-added : goal.returns-then-is-5-clause-added
returns-then-is-5-clause-added c = (quiet, (c.args.word.now, refl, search rules), refl)

pub returns-then-is-6-clause-added : goal.returns-then-is-6-clause-added
returns-then-is-6-clause-added c = (all, (c.args.word.now, refl, search rules), refl)

pub returns-then-is-7-clause-added : goal.returns-then-is-7-clause-added
returns-then-is-7-clause-added c = (no_names, (c.args.word.now, refl, search rules), refl)

pub returns-then-is-8-clause-added : goal.returns-then-is-8-clause-added
returns-then-is-8-clause-added c = (trust_first, (c.args.word.now, refl, search rules), refl)

pub returns-then-is-9-clause-added : goal.returns-then-is-9-clause-added
returns-then-is-9-clause-added c = (no_crl, (c.args.word.now, refl, search rules), refl)

pub returns-then-is-10-clause-added : goal.returns-then-is-10-clause-added
returns-then-is-10-clause-added c = (strict_exit, (c.args.word.now, refl, search rules), refl)

pub returns-then-is-12-clause-added : goal.returns-then-is-12-clause-added
returns-then-is-12-clause-added c = (help, (c.args.word.now, refl, search rules), refl)
