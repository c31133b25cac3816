-- The content of an extension that was written.
use Rattle.std.specs.Prelude.{Result, Ok, Err, IfOk, IsOk, OnOk}
use Rattle.std.specs.declared.alloc.AllocError.{AllocError}
use Rattle.std.proofs.Common.{◌≡◌, ◌<◌, ◌^◌, ◌++◌, ℕ, List, [], length, Option, Some, None, true, refl, sym, ap}
use Rattle.std.proofs.Common.{subst, ◌∙◌, inl, inr, arith}
use Rattle.std.proofs.lemmas.Bool.{false≢true}
use Rattle.std.proofs.lemmas.List.{append-nil}
use Rattle.rpki_der.specs.Encoding.{Begins}
use Rattle.rpki_der.specs.Extensions.{Extension, IsExtension, content_of_some, extension, extension_of_some, extension_format}
use Rattle.rpki_blocks.specs.declared.overclaim.Overclaim.{Overclaim}
use Rattle.rpki_blocks.specs.declared.overclaim.Overclaim.TheVariants.{Refuse, Trim}
use Rattle.rpki_blocks.specs.Overclaims.{as_identifier, ip_identifier}
use Rattle.rpki_der.specs.Primitives.{IsOid}
use Rattle.rpki_der.specs.declared.error.EncodeError.{EncodeError}
use Rattle.rpki_blocks.specs.ResourceExtensions.{critical}
use Rattle.rpki_blocks.specs.Unions.{text_of}
use Rattle.rpki_der.specs.Values.{AreOctets}
use Rattle.rpki_der.specs.Writers.{Writes}
use Rattle.rpki_der.proofs.ExtensionReads.{extension_reads, extension_shrinks}
use Rattle.rpki_der.proofs.ExtensionWritten.{extension_encoded, extension_inside_octets}
use Rattle.rpki_der.proofs.IdentifierReads.{oid_takes}
use Rattle.rpki_der.proofs.Octets.{some_is}
use Rattle.rpki_text.specs.FaultSearch.{IsContentOf, IsExtensionOf, IsExtensionOrNone}

-- ---- the content of what is an extension

-- no octets are none
pub not_nothing : (x : Extension) → IsExtension x [] → ⊥
not_nothing x is = absurd (omega (arith, extension_shrinks [] x [] (extension_reads.again x [] [] is)))

module _ (octets : List ℕ) where
  -- of no octets it is none
  pub nothing_kept : (content : List ℕ) → content ≡ octets → octets ≡ [] → IsContentOf octets content
  nothing_kept content same empty =
      record {
        none = λ e. same ∙ e;
        is =
            λ x is. absurd (not_nothing x (subst (λ (b : List ℕ). IsExtension x b) empty is));
      }

  -- it is the one that is read
  pub content_read : (y : Extension) (rest : List ℕ) → extension_format.read octets ≡ Some (y, rest) → IsContentOf octets y.content
  content_read y rest read =
      let not_empty : octets ≡ [] → ⊥ = λ empty. omega (arith, extension_shrinks octets y rest read, ap length empty) in
      let same = λ (x : Extension) (is : IsExtension x octets).
      let again : extension_format.read octets ≡ Some (x, []) = ap extension_format.read (sym (append-nil octets)) ∙
      extension_reads.again x octets [] is in
      let one : (y, rest) ≡ (x, []) = some_is {A = Extension × List ℕ} (y, rest) (x, []) (sym read ∙ again) in
      ap (λ (p : Extension × List ℕ). p.0.content) one in
      record { none = λ e. absurd (not_empty e); is = same }

  -- it is not refused
  pub not_refused : (octets ≡ [] → ⊥) → IsExtensionOrNone octets →
      ((x : Extension) (rest : List ℕ) → Begins IsExtension octets x rest → ⊥) → ⊥
  not_refused some are refused = elim are [
    | inl empty ↦ some empty
    | inr x ↦ refused x.0 [] (record { text = octets; encoded = x.1; parts = sym (append-nil octets) })
  ]

-- ---- what is written

module _ (id : List ℕ) (oid : IsOid id) where
  -- it is read
  is_written : (content : List ℕ) → length (content_of_some id true (Some content)) < 2 ^ 32 →
      AreOctets (extension id true content) →
      IsExtension (record { identifier = id; critical = true; content = content }) (extension id true content)
  is_written content short octets = extension_encoded (record { identifier = id; critical = true; content = content })
      oid (short, extension_inside_octets id true content octets)

  module _ (c : Option (List ℕ)) (short : length (content_of_some id true c) < 2 ^ 32)
      (octets : AreOctets (extension_of_some id true c)) where
    -- an extension was written, or none
    pub written_or_none : IsExtensionOrNone (extension_of_some id true c)
    written_or_none = elim c as (λ c. length (content_of_some id true c) < 2 ^ 32 →
        AreOctets (extension_of_some id true c) → IsExtensionOrNone (extension_of_some id true c)) [
          | None ↦ λ s o. inl refl
          | Some content ↦ λ s o. inr (record { identifier = id; critical = true; content = content }, is_written content s o)
        ] short octets

    -- and its content is found
    pub content_found : (found : List ℕ) → IsContentOf (extension_of_some id true c) found → found ≡ text_of c
    content_found found = elim c as (λ c. length (content_of_some id true c) < 2 ^ 32 →
        AreOctets (extension_of_some id true c) → IsContentOf (extension_of_some id true c) found →
        found ≡ text_of c) [
          | None ↦ λ s o h. h.none refl
          | Some content ↦ λ s o h. h.is (record { identifier = id; critical = true; content = content }) (is_written content s o)
        ] short octets

-- what is kept of what was written is that extension
pub kept_is : (id : List ℕ) → IsOid id →
    (c : Option (List ℕ)) (old written : List ℕ) (answer : Result (Unit {0}) EncodeError)
    (kept : Result (List ℕ) AllocError) → old ≡ [] → Writes (critical id c) old answer written
    → OnOk kept (IsOk answer) → IfOk kept (λ octets. octets ≡ written) → IfOk kept AreOctets → IfOk kept (IsExtensionOf (text_of c))
kept_is id oid c old written answer (Err e) empty writes well same octets = tt
kept_is id oid c old written (Err e) (Ok kept) empty writes well same octets = absurd (false≢true well)
kept_is id oid c old written (Ok u) (Ok kept) empty writes well same octets =
    let is : kept ≡ extension_of_some id true c = same ∙ writes.ok ∙ ap (λ (o : List ℕ). o ++ extension_of_some id true c) empty in
    let fits = subst AreOctets is octets in
    record {
      extension = subst IsExtensionOrNone (sym is) (written_or_none id oid c writes.fits fits);
      content_is = λ found h. content_found id oid c writes.fits fits found (subst (λ (b : List ℕ). IsContentOf b found) is h);
    }

-- ---- the identifiers of resources

-- of IP resources
pub ip_oid : (mode : Overclaim) → IsOid (ip_identifier mode)
ip_oid Refuse = oid_takes _ refl
ip_oid Trim = oid_takes _ refl

-- of AS resources
pub as_oid : (mode : Overclaim) → IsOid (as_identifier mode)
as_oid Refuse = oid_takes _ refl
as_oid Trim = oid_takes _ refl
