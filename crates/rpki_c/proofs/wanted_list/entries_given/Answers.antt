use Rattle.std.proofs.Common.{◌∙◌, ◌++◌, ◌∷◌, [], List, map, get_or, ap, sym}
use Rattle.std.proofs.lemmas.List.{map-append}
use Rattle.rpki_crl.specs.RevokedEntries.{Entry}
use Rattle.rpki_crl.specs.RevokedEntries.Views.{entry_of}
use Rattle.rpki_crl.specs.declared.entry.CrlEntry.{CrlEntry}
use Rattle.rpki_c.specs.WantedLists.{HasDate, given_entry}
use Rattle.rpki_c.specs.declared.lists.RpkiEntry.{RpkiEntry}
use Rattle.rpki_c.proofs.OneMore.{all_more, map_more, not_at}
use Rattle.rpki_c.proofs.wanted_list.entries_given.Goals as goal

-- what stands at no place
abbrev nothing : RpkiEntry
nothing = record {
  date = record { year = 0; month = 0; day = 0; hour = 0; minute = 0; second = 0; unused = 0 };
  serial = [];
}

pub returns-in_default-clause-none : goal.returns-in_default-clause-none
returns-in_default-clause-none c = not_at HasDate c.args.revoked.now c.loop-it.it-index nothing
    c.loop-it-test.true c.in_default.ensures

pub loop-it-preserved : goal.loop-it-preserved
loop-it-preserved c =
    let rs = c.args.revoked.now in
    let i = c.loop-it.it-index in
    let all = c.loop-it.all.items in
    record {
      entries_are =
          ap (λ (es : List CrlEntry). map entry_of es) c.in_default-push.ensures.items
          ∙ map-append entry_of all (c.in-Some.entry ∷ [])
          ∙ ap (λ (e : Entry). map entry_of all ++ e ∷ []) c.in-Some.ensures.0
          ∙ ap (λ (es : List Entry). es ++ given_entry (get_or rs i nothing) ∷ []) c.loop-it.invariant.entries_are
          ∙ sym (map_more given_entry rs i nothing c.loop-it-test.true);
      dates_exist = all_more HasDate rs i nothing c.loop-it-test.true c.loop-it.invariant.dates_exist
          c.in-Some.ensures.1;
    }
