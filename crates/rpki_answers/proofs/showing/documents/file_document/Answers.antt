use Rattle.std.proofs.Common.{◌≡◌, ◌++◌, append_assoc}
use Rattle.rpki_document.specs.Building.{nodes_of}
use Rattle.rpki_answers.specs.ShownFiles.{file_nodes, is_to_be_signed}
use Rattle.rpki_answers.proofs.showing.documents.file_document.Goals as goal

pub returns : goal.returns
returns c =
    let said = c.in_ok-add_said.ensures in
    let are : nodes_of c.add_said.new.parts.items ≡ file_nodes c.args.object.now (is_to_be_signed c.args.subject.now) ++ said.0 =
    rw (said.2, c.in_ok-add_file.ensures, c.is_to_be_signed.ensures, c.new-parts.ensures.items) (simp append_assoc) in
    record {
      what = c.args.subject.now;
      what_is = c.requires;
      said = said.0;
      said_is = said.1;
      nodes_are = are;
    }
