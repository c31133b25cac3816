use Rattle.std.proofs.Common.{◌++◌, refl}
use Rattle.rpki_command.proofs.WrittenTexts.{appends_both}
use Rattle.rpki_command.proofs.reading.read_given.Goals as goal

pub returns : goal.returns
returns g c =
    let contents = g.E.Write.contents in
    let files = c.in_ok-members.ensures in
    let lists = c.in_ok-lists.ensures in
    let locators = c.in_ok-locators.ensures.files in
    let so_far = appends_both (contents c.args.err.now) (contents c.read_files.new.err)
    (contents c.read_files-2.new.err) files.0 lists.0 files.2 lists.2 in (
      files.0 ++ lists.0 ++ locators.0,
      record {
        of_files = files.0;
        of_lists = lists.0;
        of_locators = locators.0;
        files_are = rw (c.deref.ensures.value) at files.1;
        lists_are = rw (c.deref-2.ensures.value) at lists.1;
        locators_are = rw (c.deref-3.ensures.value) at locators.1;
        locators_read = c.in_ok-locators.ensures.read;
        said_is = refl;
      },
      appends_both (contents c.args.err.now) (contents c.read_files-2.new.err) (contents c.read_locators.new.err)
          (files.0 ++ lists.0) locators.0 so_far locators.2,
    )
