use Rattle.rpki_files.specs.declared.expected.Part.TheVariants as part
use Rattle.rpki_files.proofs.found.own_flaw.Goals as goal

pub returns-in-Field : goal.returns-in-Field
returns-in-Field c = rw c.in-Field.is (c.in_field.ensures c.args.is_list (part.Field c.in-Field.field))

pub returns-in-Second : goal.returns-in-Second
returns-in-Second c = rw c.in-Second.is (c.extension_flaw.ensures (part.Second c.in-Second.field-0))
