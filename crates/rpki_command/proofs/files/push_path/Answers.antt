use Rattle.std.specs.Prelude.{All, Result, Ok, Err, OnOk}
use Rattle.std.proofs.Common.{◌≡◌, ◌∷◌, ◌++◌, [], List}
use Rattle.std.proofs.lemmas.List.Elements.{All-push}
use Rattle.rpki_text.specs.CommandLines.Views.{word_octets}
use Rattle.rpki_command.specs.ListedFolders.{IsPathIn}
use Rattle.rpki_command.proofs.files.push_path.Goals as goal

-- so it is with one more of which it is so
more : {X T E : Type 0} (P : X → Type 0) (old new : List X) (x : X) (r : Result T E) → P x →
    OnOk r (new ≡ old ++ x ∷ []) → OnOk r (All P old → All P new)
more P old new x (Ok t) p e = λ are. rw e (All-push P old x are p)
more P old new x (Err e) p is = tt

pub returns : goal.returns
returns c =
    let is_in : IsPathIn c.args.folder.now c.in-Some.path.items = (c.args.name.now, rw c.in-Some.is at c.in_ok-path.ensures.path) in
    more (IsPathIn c.args.folder.now) (word_octets c.args.paths.now.items) (word_octets c.push.new.all.items)
    c.in-Some.path.items c.push.result is_in c.push.ensures
