use Rattle.std.proofs.Common.{◌++◌, ◌∷◌, [], List, ℕ, take, sym, subst}
use Rattle.std.proofs.lemmas.List.{take_all}
use Rattle.rpki_text.specs.CommandLines.Views.{word_octets}
use Rattle.rpki_files.specs.Files.{FileFields}
use Rattle.rpki_command.specs.SoughtPaths.{AreListNames}
use Rattle.rpki_command.proofs.ListsAmong.{gone_over, lists_more}
use Rattle.rpki_command.proofs.searching.list_names.Goals as goal

pub loop-file-preserved : goal.loop-file-preserved
loop-file-preserved c =
    let files = c.args.files.now in
    let i = c.loop-file.file-index in
    let file = c.file-item.result in
    let its = c.in_ok-push_list_name.ensures in
    subst (λ (l : List FileFields). AreListNames l (word_octets c.push_list_name.new.names.items))
    (sym (gone_over files i file c.loop-file-test.true c.file-item.is))
    (subst (λ (l : List (List ℕ)). AreListNames (take i files ++ file ∷ []) l) (sym its.2)
    (lists_more (take i files) (word_octets c.loop-file.names.items) c.loop-file.invariant file its.0 its.1))

pub returns : goal.returns
returns c =
    let files = c.args.files.now in
    subst (λ (l : List FileFields). AreListNames l (word_octets c.loop-file.names.items))
    (take_all c.loop-file.file-index files c.loop-file-test.false) c.loop-file.invariant
