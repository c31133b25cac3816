-- The extensions of a revocation list, both ways, and what is written of them.
use Rattle.std.proofs.Common.{◌<◌, ◌^◌, length, ◌≡◌, ℕ, List, [], ◌∷◌, Option, Some, false, refl, subst, sym, arith}
use Rattle.std.proofs.lemmas.List.{append-nil}
use Rattle.rpki_der.specs.Extensions.{Extension, IsExtension, extension_format}
use Rattle.rpki_der.specs.Folding.{IsFolded, over}
use Rattle.rpki_der.specs.Folding as folding
use Rattle.rpki_der.specs.Formats.{IsLawful}
use Rattle.rpki_der.specs.Reading.{ReadsWhole}
use Rattle.rpki_der.specs.Tags.{SEQUENCE}
use Rattle.rpki_der.specs.Values.{AreOctets}
use Rattle.rpki_der.specs.Values.Reading.{◌>>=◌}
use Rattle.rpki_der.proofs.Answering.{whole_means}
use Rattle.rpki_der.proofs.ExtensionReads.{HasOctets, extension_reads, extension_shrinks, extension_octets}
use Rattle.rpki_der.proofs.ExtensionWritten.{extension_content_short, extension_made, ok_extension}
use Rattle.rpki_der.proofs.Folding.{beside_law, each_law, over_reads}
use Rattle.rpki_der.proofs.FormatChoices.{primitive_lawful}
use Rattle.rpki_der.proofs.Octets.{bind_some, some, some_is}
use Rattle.rpki_der.proofs.ValueWritten.{Short, append_short, plain_oid}
use Rattle.rpki_der.proofs.WrittenOctets.{literal, ok_append}
use Rattle.rpki_ext.specs.ExtensionKinds.{authority_key_identifier, crl_number}
use Rattle.rpki_ext.specs.Kinds.{is_of, Gives}
use Rattle.rpki_ext.specs.KindTables.{identifiers_of}
use Rattle.rpki_ext.proofs.CertificateExtensions.{authority_fits, authority_key_identifier_alone, crl_number_alone, list_kinds_are}
use Rattle.rpki_ext.proofs.KindTables.{table_law}
use Rattle.rpki_crl.specs.ListExtensions.{AreExtensions, FitListExtensions, GiveListExtensions, ListExtensions}
use Rattle.rpki_crl.specs.ListExtensions.{both_seen, list_extensions, list_extensions_format, list_extensions_of}
use Rattle.rpki_crl.specs.ListExtensions.{list_fold, list_kinds_with_any_flag, list_sequence, with_any_flag}

list_fold_law : folding.IsLawful HasOctets list_fold
list_fold_law = beside_law _ _ (each_law (is_of (identifiers_of list_kinds_with_any_flag)))
    (table_law list_kinds_with_any_flag list_kinds_are)

give : (xs : List Extension) (identifier : Option (List ℕ)) (number : Option ℕ) (f : ListExtensions) →
    both_seen (tt, (identifier, (number, tt))) ≡ Some f → list_fold.means xs (tt, (identifier, (number, tt))) →
    GiveListExtensions xs f
give xs identifier number f e (others, (identifier_given, (number_given, _))) =
    let i = bind_some identifier (λ i. number >>= λ n. some (list_extensions i n)) f e in
    let n = bind_some number (λ n. some (list_extensions i.0 n)) f i.2 in
    subst (λ (g : ListExtensions). GiveListExtensions xs g) (some_is (list_extensions i.0 n.0) f n.2) (record {
      no_others = others;
      authority_key_identifier_is =
          subst (λ (v : Option (List ℕ)). Gives (with_any_flag authority_key_identifier) xs v) i.1 identifier_given;
      crl_number_is = subst (λ (v : Option ℕ). Gives (with_any_flag crl_number) xs v) n.1 number_given;
    })

-- the extensions of a revocation list are read as they are encoded
pub list_extensions_read : ReadsWhole list_extensions_of AreExtensions
unfolding list_extensions_of
list_extensions_read = record {
  takes = λ c f low e.
      let a = bind_some (over extension_format.read list_fold.step list_fold.start c) both_seen f e in
      let (_, (identifier, (number, _))) = a.0 in
      let folded : IsFolded IsExtension list_fold a.0 c = going.takes c a.0 low a.1 in
      (folded.0, folded.1, give folded.0 identifier number f a.2 folded.2);
  again = λ f c s. rw (going.again (tt, (Some f.authority_key_identifier, (Some f.crl_number, tt))) c
      (s.0, s.1, (s.2.no_others, (s.2.authority_key_identifier_is, (s.2.crl_number_is, tt))))) refl;
}
  where
    going : ReadsWhole (over extension_format.read list_fold.step list_fold.start) (IsFolded IsExtension list_fold)
    going = over_reads extension_format.read IsExtension HasOctets list_fold extension_reads extension_shrinks
        extension_octets list_fold_law

-- ---- what is written

abbrev identifier_of : ListExtensions → Extension
identifier_of x = record {
  identifier = authority_key_identifier.identifier;
  critical = false;
  content =
      authority_key_identifier.format.written x.authority_key_identifier;
}

abbrev number_of : ListExtensions → Extension
number_of x = record { identifier = crl_number.identifier; critical = false; content = crl_number.format.written x.crl_number }

module _ (x : ListExtensions) (fits : FitListExtensions x) (short : length (list_sequence x) < 2 ^ 32) where
  abbrev first : List ℕ
  first = extension_format.written (identifier_of x)

  abbrev second : List ℕ
  second = extension_format.written (number_of x)

  identifier_fits : authority_key_identifier.format.fits x.authority_key_identifier
  identifier_fits = authority_fits x.authority_key_identifier fits.identifier_is

  sequence_octets : AreOctets (list_sequence x)
  sequence_octets =
      let one = authority_key_identifier_alone.law.octets x.authority_key_identifier identifier_fits in
      let two = crl_number_alone.law.octets x.crl_number fits.number_is in
      ok_append first second
      (ok_extension authority_key_identifier.identifier false _ (literal authority_key_identifier.identifier refl) one)
      (ok_extension crl_number.identifier false _ (literal crl_number.identifier refl) two)
      short

  parts_short : Short first × Short second
  parts_short = append_short first second (short, sequence_octets)

  given : GiveListExtensions (identifier_of x ∷ number_of x ∷ []) x
  given =
      let one = extension_content_short authority_key_identifier.identifier false (identifier_of x).content parts_short.0 in
      let two = extension_content_short crl_number.identifier false (number_of x).content parts_short.1 in
      let identifier_is = authority_key_identifier_alone.law.made x.authority_key_identifier identifier_fits one.0 in
      let number_is = crl_number_alone.law.made x.crl_number fits.number_is two.0 in
      record {
        no_others = (refl, (refl, tt));
        authority_key_identifier_is = (
          x.authority_key_identifier,
          (
            tt,
            whole_means authority_key_identifier.format.encodes x.authority_key_identifier
                (identifier_of x).content identifier_is,
          ),
          refl,
        );
        crl_number_is = (x.crl_number, (tt, whole_means crl_number.format.encodes x.crl_number (number_of x).content number_is), refl);
      }

  sequence_made : AreExtensions x (list_sequence x)
  sequence_made = (
    identifier_of x ∷ number_of x ∷ [],
    (
      first,
      second,
      extension_made (identifier_of x) (plain_oid 0x55 (0x1D ∷ 0x23 ∷ []) (omega arith, (omega arith, (omega arith, tt)))) parts_short.0,
      (
        second,
        [],
        extension_made (number_of x)
            (plain_oid 0x55 (0x1D ∷ 0x14 ∷ []) (omega arith, (omega arith, (omega arith, tt)))) parts_short.1,
        refl,
        sym (append-nil second),
      ),
      refl,
    ),
    given,
  )

-- the extensions of a revocation list are lawful
pub list_extensions_lawful : IsLawful list_extensions_format
list_extensions_lawful = primitive_lawful SEQUENCE list_extensions_of AreExtensions FitListExtensions list_sequence
    (omega arith) (omega arith) list_extensions_read sequence_octets (λ x fits short. sequence_made x fits short.0)
