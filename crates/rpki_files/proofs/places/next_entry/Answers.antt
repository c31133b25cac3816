use Rattle.std.proofs.Common.{refl}
use Rattle.rpki_crl.specs.RevokedEntries.{IsEntry, entry_format}
use Rattle.rpki_crl.specs.RevokedEntries.Views.{entry_of}
use Rattle.rpki_crl.proofs.EntryReads.{entry_shrinks}
use Rattle.rpki_files.specs.StopPlaces.{EncodesSome, StopsBefore}
use Rattle.rpki_files.specs.declared.expected.Part.TheVariants as part
use Rattle.rpki_files.proofs.StopWalks.{stops_for, took}
use Rattle.rpki_files.proofs.places.next_entry.Goals as goal

pub returns-in-Ok-clause-read : goal.returns-in-Ok-clause-read
returns-in-Ok-clause-read c =
    let begins = c.in-Ok.ensures.encoded in
    let e = entry_of c.in-Ok.field-0 in (
      e,
      took (IsEntry e) c.args.rest.now c.take_from.new.cursor begins.text c.at-octet.ensures.order
          c.at-octet.ensures.within c.at-behind.ensures.order c.in-Ok.ensures.keeps begins.encoded begins.parts,
    )

pub returns-in-Ok-clause-shrinks : goal.returns-in-Ok-clause-shrinks
returns-in-Ok-clause-shrinks c = entry_shrinks _ _ _ c.in-Ok.ensures.reads

pub returns-in-Err-clause-stop : goal.returns-in-Err-clause-stop
returns-in-Err-clause-stop c =
    stops_for (StopsBefore (EncodesSome entry_format) part.Entry c.args.rest.now) part.Entry c.at-octet.result
    c.in-Err.fault c.stopped.result c.stopped.ensures
    (λ other. record {
      stop_is = refl;
      octet_is = c.at-octet.ensures.octet;
      none = λ text rest is parts. c.in-Err.ensures.encoded.1 is.0 rest (record { text = text; encoded = is.1; parts = parts });
    })
