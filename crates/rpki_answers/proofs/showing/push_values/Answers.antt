use Rattle.std.proofs.Common.{[], map, refl, rules}
use Rattle.serde_json.specs.View.{view}
use Rattle.rpki_files.specs.ToBeSigned.{CanBeShown}
use Rattle.rpki_files.specs.Files.{contents}
use Rattle.rpki_answers.specs.ShownFiles.{IsFileItem}
use Rattle.rpki_answers.specs.VerdictTexts.{SaysOfEach}
use Rattle.rpki_answers.proofs.FlaggedItems.{flag_of_more, flag_of_all}
use Rattle.rpki_answers.proofs.GrownLists.{none_grown, grown_more, grown_all}
use Rattle.rpki_verdicts.proofs.MappedItems.{mapped_low, mapped_high, mapped_there}
use Rattle.rpki_answers.proofs.showing.push_values.Goals as goal

pub loop-object-init : goal.loop-object-init
loop-object-init c = record {
  shows = search rules;
  pushed = none_grown (SaysOfEach (IsFileItem c.args.options.now) []) (map view c.args.values.now.items) refl;
}

pub loop-object-preserved : goal.loop-object-preserved
loop-object-preserved c =
    let l = c.loop-object in
    let i = l.object-index in
    let objects = c.args.objects.now in
    let low = c.loop-object-test.true in
    let file = c.object-item.result in
    let here = c.in_ok-shows.ensures in
    record {
      shows = flag_of_more (CanBeShown c.args.options.now.strict) (contents objects) i file.octets
          (mapped_low (λ file. file.octets) objects i low)
          (mapped_there (λ file. file.octets) objects i file low c.object-item.is) l.can_be_shown
          c.in_ok-shows.shows l.invariant.shows here.shows;
      pushed = grown_more (IsFileItem c.args.options.now) objects i file (map view c.args.values.now.items)
          (map view l.values.items) (map view c.push_value.new.values.items) low c.object-item.is l.invariant.pushed
          here.pushed;
    }

pub returns-clause-shows : goal.returns-clause-shows
returns-clause-shows c =
    let l = c.loop-object in
    let objects = c.args.objects.now in
    flag_of_all (CanBeShown c.args.options.now.strict) (contents objects) l.object-index
    (mapped_high (λ file. file.octets) objects l.object-index c.loop-object-test.false) l.can_be_shown
    l.invariant.shows

pub returns-clause-pushed : goal.returns-clause-pushed
returns-clause-pushed c =
    let l = c.loop-object in
    grown_all (IsFileItem c.args.options.now) c.args.objects.now l.object-index (map view c.args.values.now.items)
    (map view l.values.items) c.loop-object-test.false l.invariant.pushed
