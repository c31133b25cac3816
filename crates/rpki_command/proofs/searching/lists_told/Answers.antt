use Rattle.std.proofs.Common.{◌++◌, refl}
use Rattle.rpki_command.specs.PassedFiles.{no_list_message}
use Rattle.rpki_text.specs.CommandLines.Views.{word_octets}
use Rattle.rpki_command.proofs.WrittenTexts.{appends_both}
use Rattle.rpki_command.proofs.searching.lists_told.Goals as goal

pub returns-clause-said : goal.returns-clause-said
returns-clause-said g c =
    let contents = g.E.Write.contents in
    let (of_others, says, first) = c.in_ok-tell_others.ensures in
    let message = no_list_message (word_octets c.in_ok-names.names.items) in
    let second = rw c.deref.ensures.value at c.in_default.ensures.said in (
      of_others ++ message,
      (of_others, says, refl),
      appends_both (contents c.args.err.now) (contents c.tell_others.new.err) (contents c.tell_no_list.new.err)
          of_others message first second,
    )
