use Rattle.std.specs.Prelude.{Option, Some, None, Result, Ok, Err, IfOk, MatchOption, option_map}
use Rattle.std.proofs.Common.{ℕ, List, inr, rules}
use Rattle.rpki_text.specs.CommandLines.Views.{word_octets}
use Rattle.rpki_command.specs.ListedFolders.{IsNoFolder, ListsFolder, holds, listing_of}
use Rattle.rpki_command.proofs.folders.listed.Goals as goal

-- what listing gives of a name
by_listing : {X E : Type 0} (names_of : X → List (List ℕ)) (lists : ListsFolder) (name : List ℕ) (r : Result (Option X) E) →
    IfOk r (λ names. lists name (listing_of (option_map names_of names))) →
    IfOk r (λ listed. MatchOption listed (IsNoFolder lists name) (λ given. lists name (holds (names_of given))))
by_listing names_of lists name (Ok None) its = inr its
by_listing names_of lists name (Ok (Some names)) its = its
by_listing names_of lists name (Err why) its = tt

pub returns-in-Ok-clause-listed : goal.returns-in-Ok-clause-listed
returns-in-Ok-clause-listed g c =
    let lists = g.F.FileSource.lists c.args.files.now in
    let its : IfOk c.list_folder.result
    (λ names. lists c.args.name.now (listing_of (option_map (λ names. word_octets names.items) names))) =
    search rules in
    by_listing (λ names. word_octets names.items) lists c.args.name.now c.list_folder.result its
