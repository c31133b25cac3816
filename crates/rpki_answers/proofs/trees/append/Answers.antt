use Rattle.std.specs.Prelude.{Result, Ok, Err, OnOk, if◌then◌else◌, is_ok}
use Rattle.std.proofs.Common.{◌≡◌, ℕ, List, ◌++◌, string_bytes}
use Rattle.rpki_answers.specs.TreeDocuments.{rendered}
use Rattle.rpki_document.specs.Building.{nodes_of}
use Rattle.rpki_answers.proofs.trees.append.Goals as goal

appended : {T E : Type 0} (r : Result T E) (old new more : List ℕ) → new ≡ (if is_ok r then old ++ more else old) →
    OnOk r (new ≡ old ++ more)
appended (Ok x) old new more is = is
appended (Err x) old new more is = tt

pub returns : goal.returns
returns c =
    appended c.push_str.result (string_bytes c.args.out.now) (string_bytes c.push_str.new.self)
    (rendered c.args.format (nodes_of c.args.parts.now.items))
    (rw (c.as_str.ensures.value, c.in_ok-text.ensures) at c.push_str.ensures.bytes)
