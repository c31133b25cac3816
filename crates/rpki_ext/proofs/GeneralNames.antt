-- Names that are URIs are read as they are encoded, and what is written of them encodes them.
use Rattle.std.specs.List.{list_all}
use Rattle.std.specs.Char.{is_ascii}
use Rattle.std.specs.Prelude.{filter}
use Rattle.std.proofs.Common.{◌≡◌, ℕ, ◌<◌, ◌%◌, List, [], ◌∷◌, refl, arith, Decides, Some, subst, Option, None, ap}
use Rattle.std.proofs.Common.{sym, Bool, cond, inl, inr}
use Rattle.std.proofs.lemmas.Bool.{ltb-true, lt-ltb, cases_Bool}
use Rattle.std.proofs.lemmas.List.{append-nil}
use Rattle.rpki_der.specs.Tags.{CONTEXT}
use Rattle.rpki_der.specs.Formats.{IsLawful, any_octets}
use Rattle.rpki_der.specs.Values.{AreOctets}
use Rattle.rpki_der.specs.Reading.{ReadsWhole}
use Rattle.rpki_der.specs.Sequences.{IsAtMostOne}
use Rattle.rpki_der.specs.Sequences.Reading.{Shrinks}
use Rattle.rpki_der.specs.Folding.{Fold, once_fold, over, IsFolded}
use Rattle.rpki_der.proofs.FormatAnswers.{IsAlone, alone_reads}
use Rattle.rpki_der.proofs.FormatLaws.{any_octets_lawful}
use Rattle.rpki_der.proofs.Octets.{if_some, some, some_is, bind_some}
use Rattle.rpki_der.proofs.Folding.{over_reads, once_law}
use Rattle.rpki_der.proofs.ValueWritten.{Short}
use Rattle.rpki_der.proofs.WrittenOctets.{IfShort}
use Rattle.rpki_parts.specs.Uris.Tests.{is_rsync}
use Rattle.rpki_parts.specs.Uris.{IsRsync, ArePrintable}
use Rattle.rpki_parts.proofs.UriTests.{all_decides, rsync_decides}
use Rattle.rpki_ext.specs.GeneralNames.{AreAscii, IsGeneralNames, keep_rsync, names_in, names_of, uri_format}
use Rattle.rpki_der.proofs.FormatChoices.{primitive_lawful, restricted_lawful}
use Rattle.rpki_ext.proofs.OnlyElements.{only_from, only_to, one_from, one_to}

ascii_decides : (text : List ℕ) → Decides (list_all is_ascii text) (AreAscii text)
ascii_decides text = all_decides is_ascii (λ octet. octet < 128) (λ octet. (ltb-true octet 128, lt-ltb octet 128)) text

-- anything may follow a uniformResourceIdentifier
pub uri_alone : IsAlone uri_format
unfolding uri_format
uri_alone = record {
  law = restricted_lawful (list_all is_ascii) AreAscii (any_octets (CONTEXT 6))
      (λ text b s. ascii_decides text) (any_octets_lawful (CONTEXT 6) (omega arith) (omega arith));
  none = refl;
}

-- reading a uniformResourceIdentifier uses octets up
pub uri_shrinks : Shrinks uri_format.read
unfolding uri_format
uri_shrinks octets uri rest e = omega (arith, uri_alone.law.shorter octets uri rest e)

-- ---- names

abbrev Kept : Fold (List ℕ) (Option (List ℕ))
Kept = once_fold is_rsync (λ uri. Some uri) (λ x w. x ≡ w)

kept_reads : ReadsWhole (over uri_format.read keep_rsync None) (IsFolded uri_format.encodes Kept)
kept_reads = over_reads uri_format.read uri_format.encodes (λ x. Unit {0}) Kept (alone_reads uri_format uri_alone)
    uri_shrinks (λ x text s. tt)
    (once_law is_rsync (λ uri. Some uri) (λ x w. x ≡ w)
    (record { takes = λ x v fits e. some_is x v e; again = λ x v e. ap some e }))

-- GeneralNames are read as they are encoded
pub names_read : ReadsWhole names_of IsGeneralNames
names_read = record {
  takes = λ c v low e.
      let a = bind_some (over uri_format.read keep_rsync None c) (λ uri. uri) v e in
      let m = kept_reads.takes c a.0 low a.1 in
      let one : IsAtMostOne (λ x w. x ≡ w) (filter is_rsync m.0) (Some v) =
      subst (λ (o : Option (List ℕ)). IsAtMostOne (λ x w. x ≡ w) (filter is_rsync m.0) o) a.2 m.2 in
      record { texts = m.0; encoded = m.1; one = only_from is_rsync IsRsync rsync_decides m.0 v (one_from (filter is_rsync m.0) v one) };
  again = λ v c s. rw (kept_reads.again (Some v) c (
    s.texts,
    s.encoded,
    one_to (filter is_rsync s.texts) v (only_to is_rsync IsRsync rsync_decides s.texts v s.one),
  )) refl;
}

-- ---- texts that are URIs

module _ (test : List ℕ → Bool) (P : List ℕ → Type 0) (decides : (text : List ℕ) → Decides (test text) (P text)) where
  -- a text with the property is read as itself
  pub text_is : (text : List ℕ) → P text → cond (test text) (some text) None ≡ Some text
  text_is text p = rw ((decides text).1 p) refl

  -- a text without the property isn't read
  pub text_is_not : (text : List ℕ) → (P text → ⊥) → cond (test text) (some text) None ≡ None
  text_is_not text p =
      elim (cases_Bool (test text)) [
        | inl y ↦ absurd (p ((decides text).0 y))
        | inr n ↦ rw n refl
      ]

  -- a text that was read is itself, with the property
  pub text_was : (text uri : List ℕ) → cond (test text) (some text) None ≡ Some uri → (text ≡ uri) × P uri
  text_was text uri e = let g = if_some (test text) text uri e in (g.1, subst P g.1 ((decides text).0 g.0))

-- ---- what is written

octets : (text : List ℕ) → ArePrintable text → AreOctets text × AreAscii text
octets [] h = (tt, tt)
octets (x ∷ text) h = let more = octets text h.1 in ((omega (arith, h.0.1), more.0), (omega (arith, h.0.1), more.1))

-- a printable text can be written as a uniformResourceIdentifier
pub uri_fits : (uri : List ℕ) → ArePrintable uri → uri_format.fits uri
unfolding uri_format
uri_fits uri p = octets uri p

-- what is written of an rsync URI, if short, consists of octets
pub names_ok : (uri : List ℕ) → IsRsync uri → IfShort (uri_format.written uri)
names_ok uri r = uri_alone.law.octets uri (uri_fits uri r.printable)

-- and encodes it as the only name
pub names_made : (uri : List ℕ) → IsRsync uri → Short (uri_format.written uri) → IsGeneralNames uri (uri_format.written uri)
names_made uri r short = record {
  texts = uri ∷ [];
  encoded = (
    uri_format.written uri,
    [],
    uri_alone.law.made uri (uri_fits uri r.printable) short.0,
    refl,
    sym (append-nil (uri_format.written uri)),
  );
  one = record { before = []; after = []; is = refl; has = r; none_before = tt; none_after = tt };
}

-- GeneralNames in a value of a tag are lawful
pub names_lawful : (t : ℕ) → t < 256 → t % 32 < 31 → IsLawful (names_in t)
names_lawful t below low = primitive_lawful t names_of IsGeneralNames IsRsync uri_format.written below low names_read names_ok names_made
