use Rattle.std.proofs.Common.{List, inl, inr, refl, subst, sym}
use Rattle.rpki_der.specs.Encoding.{Begins}
use Rattle.rpki_der.specs.Place.{EndsAt, IsWithin, Place, remaining}
use Rattle.rpki_crl.specs.RevokedEntries.{AreEntries, Entry, revoked_format}
use Rattle.rpki_der.specs.Tags.{SEQUENCE}
use Rattle.rpki_der.specs.Values.{IsEnc}
use Rattle.rpki_files.specs.StopPlaces.{EncodesSome, Passes, ReadsEntries, StopsAtEntries, StopsInEntries}
use Rattle.rpki_files.specs.declared.expected.Part.TheVariants as part
use Rattle.rpki_files.proofs.StopWalks.{entries_are, errs_so, no_entries_are, oks_so, opens_at, opens_some, passes_so, stays, stops_for}
use Rattle.rpki_files.proofs.places.entries.Goals as goal

pub returns-in-Ok-Some-clause-stop : goal.returns-in-Ok-Some-clause-stop
returns-in-Ok-Some-clause-stop c =
    let old = c.args.cursor.now in
    let new = c.take_opt_sequence.new.self in
    let inner = c.in-Ok-Some.inside in
    let begins : Begins (IsEnc SEQUENCE) (remaining old) (remaining inner) (remaining new) =
    rw c.in-Ok-Some.field-0-is at c.in-Ok-Some.ensures.answers in
    let within : IsWithin inner old = rw c.in-Ok-Some.field-0-is at c.in-Ok-Some.ensures.inside in
    let ends : EndsAt inner new = rw c.in-Ok-Some.field-0-is at c.in-Ok-Some.ensures.placed in
    let opens = opens_at SEQUENCE old inner new c.at-octet.ensures.order c.at-octet.ensures.within
    c.at-behind.ensures.order c.at-first.ensures.order c.in-Ok-Some.ensures.keeps within ends begins in
    errs_so (StopsInEntries inner) (StopsAtEntries old) c.each_entry.result c.each_entry.ensures.stop
    (λ stop octet s. inr (inner, new, opens, s))

pub returns-in-Ok-Some-clause-read : goal.returns-in-Ok-Some-clause-read
returns-in-Ok-Some-clause-read c =
    let old = c.args.cursor.now in
    let new = c.take_opt_sequence.new.self in
    let inner = c.in-Ok-Some.inside in
    let begins : Begins (IsEnc SEQUENCE) (remaining old) (remaining inner) (remaining new) =
    rw c.in-Ok-Some.field-0-is at c.in-Ok-Some.ensures.answers in
    let within : IsWithin inner old = rw c.in-Ok-Some.field-0-is at c.in-Ok-Some.ensures.inside in
    let ends : EndsAt inner new = rw c.in-Ok-Some.field-0-is at c.in-Ok-Some.ensures.placed in
    let opens = opens_at SEQUENCE old inner new c.at-octet.ensures.order c.at-octet.ensures.within
    c.at-behind.ensures.order c.at-first.ensures.order c.in-Ok-Some.ensures.keeps within ends begins in
    oks_so ((es : List Entry) × AreEntries es (remaining inner)) (ReadsEntries old new) c.each_entry.result
    c.each_entry.ensures.read (λ es. record {
      passes = passes_so (IsEnc SEQUENCE (remaining inner)) (EncodesSome revoked_format) old new
          (λ text enc. entries_are es.0 (remaining inner) text es.1 enc) opens.value;
      absent = λ same. absurd (opens_some SEQUENCE old inner new opens same);
    })

pub returns-in-Ok-None-clause-read : goal.returns-in-Ok-None-clause-read
returns-in-Ok-None-clause-read c =
    let old = c.args.cursor.now in
    let none = rw c.in-Ok-None.field-0-is at c.in-Ok-None.ensures.answers in
    record {
      passes = subst (λ (p : Place). Passes (EncodesSome revoked_format) old p) (sym none.1)
          (stays (EncodesSome revoked_format) old c.at-octet.ensures.order c.at-octet.ensures.within
          no_entries_are);
      absent = λ same. none.0;
    }

pub returns-in-Err-clause-stop : goal.returns-in-Err-clause-stop
returns-in-Err-clause-stop c =
    let none = c.in-Err.ensures.answers in
    stops_for (StopsAtEntries c.args.cursor.now) part.Entries c.at-octet.result c.in-Err.fault c.stopped.result c.stopped.ensures
    (λ other. inl (
      none.1,
      record {
        stop_is = refl;
        octet_is = c.at-octet.ensures.octet;
        none = λ text rest has parts. none.2 has.0 rest (record { text = text; encoded = has.1; parts = parts });
      },
    ))
