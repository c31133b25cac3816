use Rattle.std.proofs.Common.{subst}
use Rattle.rpki_files.specs.Contents.{IsContent}
use Rattle.rpki_files.specs.declared.contents.Content.{Content}
use Rattle.rpki_files.proofs.FoundOctets.{no_list_read, part_of_list}
use Rattle.rpki_files.proofs.contents.Content.into_whole_list.Goals as goal

pub returns-else-left-eq0 : goal.returns-else-left-eq0
returns-else-left-eq0 c = λ octets is.
    part_of_list octets c.unambiguous.ensures.list c.in-List.list c.in-List.left
    (subst (λ (it : Content). IsContent octets it) c.in-List.is is) c.if-left-eq0.false

pub returns-in_default : goal.returns-in_default
returns-in_default c = λ octets is. no_list_read octets c.args.self is c.in_default.not-List
