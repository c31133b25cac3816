-- What contracts see of words and of a request.
use Rattle.std.specs.Prelude.{ℕ, List, map}
use Rattle.std.specs.declared.vec.Vec.{Vec}
use Rattle.rpki_text.specs.declared.command_line.arguments.Request.{Request}
use Rattle.rpki_text.specs.CommandLines.{RequestFields}

-- the octets of each word
abbrev pub word_octets : {Z : Type 0} → List (Vec ℕ Z) → List (List ℕ)
word_octets words = map (λ word. word.items) words

-- what a request asks
abbrev pub fields_of : Request → RequestFields
fields_of r = record {
  task = r.task;
  at = r.at;
  strict = r.strict;
  format = r.format;
  is_quiet = r.quiet;
  all_entries = r.all;
  max_size = r.max_size;
  names = r.names;
  files = map (λ name. name.now) r.files.items;
  lists = map (λ name. name.now) r.lists.items;
  locators = map (λ name. name.now) r.locators.items;
  folders = map (λ name. name.now) r.folders.items;
  trust_first = r.trust_first;
  no_crl = r.no_crl;
  strict_exit = r.strict_exit;
  only_rejected = r.only_rejected;
  depth = r.depth;
  steps = r.steps;
}
