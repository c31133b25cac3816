use Rattle.std.proofs.Common.{◌++◌, refl}
use Rattle.std.proofs.lemmas.List.{map-id}
use Rattle.rpki_text.specs.CommandLines.Views.{fields_of}
use Rattle.rpki_command.proofs.NamedFiles.{are_given}
use Rattle.rpki_command.proofs.WrittenTexts.{appends_both}
use Rattle.rpki_command.proofs.searching.names_sought.Goals as goal

pub sought_if_read-requires : goal.sought_if_read-requires
sought_if_read-requires g c =
    let given = c.in_ok-given.given in
    let its = c.in_ok-given.ensures in
    let are = rw (map-id given.files.items, map-id given.lists.items) at its.1 in
    rw (c.deref.ensures.value, c.deref-2.ensures.value, c.deref-3.ensures.value)
    (are_given (g.F.FileSource.reads c.args.files.now) (fields_of c.args.request.now) given.files.items
    given.lists.items given.locators.items its.0 are)

pub returns : goal.returns
returns g c =
    let contents = g.E.Write.contents in
    let given = c.in_ok-given.given in
    let its = c.in_ok-given.ensures in
    let are = rw (map-id given.files.items, map-id given.lists.items) at its.1 in
    let (of_search, says, second) = c.in_ok-sought.ensures.said in (
      its.0 ++ of_search,
      record {
        files = c.deref.result.now;
        lists = c.deref-2.result.now;
        locators = c.deref-3.result.now;
        of_files = its.0;
        are_read = rw (c.deref.ensures.value, c.deref-2.ensures.value, c.deref-3.ensures.value) are;
        gives = c.in_ok-sought.ensures.gives;
        of_search = of_search;
        says = says;
        said_is = refl;
      },
      appends_both (contents c.args.err.now) (contents c.read_given.new.err) (contents c.sought_if_read.new.err) its.0
          of_search its.2 second,
    )
