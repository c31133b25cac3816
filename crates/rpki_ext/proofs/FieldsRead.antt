-- Fields of which the sequence that is written is read as a certificate's have resources, and what
-- they have as IPv4 are whole IPv4 addresses.
use Rattle.std.specs.List.{AllByRecursion, AllZip}
use Rattle.std.specs.Prelude.{IfSome}
use Rattle.std.proofs.Common.{◌≡◌, ℕ, ◌-◌, ◌^◌, List, [], ◌∷◌, Option, Some, None, refl, subst, sym, ◌∙◌, ap, map, inl, inr}
use Rattle.std.proofs.lemmas.Option.{same_Some}
use Rattle.rpki_der.specs.Extensions.{Extension, OptionalExtension, IsExtension, extension_format, text}
use Rattle.rpki_der.specs.Sequences.{IsAtMostOne}
use Rattle.rpki_der.proofs.ExtensionReads.{extension_reads, extension_shrinks}
use Rattle.rpki_der.proofs.Octets.{some_is}
use Rattle.rpki_der.proofs.Sequences.{sequence_again}
use Rattle.rpki_der.proofs.ValueWritten.{Short, pieces_short}
use Rattle.rpki_blocks.specs.Addresses.{Ip}
use Rattle.rpki_blocks.specs.Prefixes.{AreV4}
use Rattle.rpki_blocks.specs.Resources.{IsResources}
use Rattle.rpki_blocks.specs.declared.overclaim.Overclaim.{Overclaim}
use Rattle.rpki_blocks.proofs.ResourcesWritten.{no_ip}
use Rattle.rpki_blocks.proofs.ReadAsV4.{read_as_v4, some_ip, some_as}
use Rattle.rpki_ext.specs.CertificateExtensions.{ExtensionFields, AreExtensions, HasResources, extensions, parts}
use Rattle.rpki_ext.specs.ExtensionKinds.{certificate_kinds, ip_resources, as_resources}
use Rattle.rpki_ext.specs.Kinds.{ExtensionKind, TellsUnder, GivesUnder, extension_for, identifiers_by_mode, kept_if, only}
use Rattle.rpki_ext.specs.ResourceKinds.{addresses_format, are_there, has_addresses}
use Rattle.rpki_ext.proofs.ResourceKinds.{addresses_written, numbers_written}
use Rattle.rpki_ext.proofs.CertificateExtensions.{known_parts, one_each}
use Rattle.rpki_ext.proofs.KindsWritten.{written, IsOnly, only_ones, only_written, elements_made, contents_short}
use Rattle.rpki_ext.proofs.TablesWritten.{identifiers_by_kind}

-- the extension that is written of a part with this content
abbrev filled : OptionalExtension → List ℕ → Extension
filled p c = record { identifier = p.identifier; critical = p.critical; content = c }

-- a part that gives something has a content
has_content : {V : Type 0} (P : Extension → V → Type 0) (p : OptionalExtension) (o : Option (List ℕ)) (v : Option V) →
    IsAtMostOne P (written (record { identifier = p.identifier; critical = p.critical; content = o } ∷ [])) v →
    (v ≡ None → ⊥) → (c : List ℕ) × (o ≡ Some c)
has_content P p None v h some = absurd (some h)
has_content P p (Some c) v h some = (c, refl)

-- the content of a part tells something
tells_something : {V : Type 0} (P : Extension → V → Type 0) (p : OptionalExtension) (o : Option (List ℕ)) (c : List ℕ)
    (v : Option V) → o ≡ Some c →
    IsAtMostOne P (written (record { identifier = p.identifier; critical = p.critical; content = o } ∷ [])) v →
    (w : V) × P (filled p c) w
tells_something P p None c v e h = absurd cc
tells_something {V} P p (Some d) c v e h = subst (λ (x : List ℕ). (w : V) × P (filled p x) w) (same_Some _ _ e) (h.0, h.1)

module _ (x y : ExtensionFields) (short : Short (extensions x)) (read : AreExtensions y (extensions x)) where
  abbrev i : Ip
  i = record { v4 = x.v4_resources; v6 = x.v6_resources }

  shorts : AllByRecursion Short (map text (parts x))
  unfolding extensions
  shorts = pieces_short (map text (parts x)) short

  -- the extensions that are read are those that are written
  same : read.0 ≡ written (parts x)
  unfolding extensions
  same =
      let again = sequence_again extension_format.read IsExtension extension_reads extension_shrinks in
      some_is read.0 (written (parts x))
      (sym (again read.0 (extensions x) read.1) ∙ again (written (parts x)) (extensions x)
      (elements_made (parts x) (known_parts x) shorts))

  ones : AllZip (IsOnly (parts x)) (identifiers_by_kind certificate_kinds) (parts x)
  ones = only_ones (parts x) (identifiers_by_kind certificate_kinds) (parts x) (one_each x.overclaim x) (contents_short (parts x) shorts)

  -- what the part of a kind with modes gives
  given : {V : Type 0} (kinds : Overclaim → ExtensionKind V) (p : OptionalExtension) (v : Option V) →
      IsOnly (parts x) (identifiers_by_mode kinds) p → GivesUnder kinds y.overclaim read.0 v →
      IsAtMostOne (TellsUnder kinds y.overclaim) (written (p ∷ [])) v
  given {V} kinds p v one h =
      let is : only (identifiers_by_mode kinds) read.0 ≡ written (p ∷ []) =
      ap (only (identifiers_by_mode kinds)) same ∙ only_written (identifiers_by_mode kinds) (parts x) ∙
      ap written one.one in
      subst (λ (xs : List Extension). IsAtMostOne (TellsUnder kinds y.overclaim) xs v) is h

  abbrev address_part : OptionalExtension
  address_part = extension_for (ip_resources x.overclaim) (kept_if has_addresses i)

  abbrev number_part : OptionalExtension
  number_part = extension_for (as_resources x.overclaim) (kept_if are_there x.as_resources)

  resource_parts : IsOnly (parts x) (identifiers_by_mode ip_resources) address_part ×
      IsOnly (parts x) (identifiers_by_mode as_resources) number_part
  resource_parts = let (_, (_, (_, (_, (_, (_, (_, (_, (_, (ips, (asns, _))))))))))) = ones in (ips, asns)

  read_resources : GivesUnder ip_resources y.overclaim read.0 read.2.ip × GivesUnder as_resources y.overclaim read.0 read.2.numbers
  read_resources = let (_, (_, (_, (_, (_, (_, (_, (_, (_, (ips, (asns, _))))))))))) = read.2.each_is in (ips, asns)

  addresses_given : IsAtMostOne (TellsUnder ip_resources y.overclaim) (written (address_part ∷ [])) read.2.ip
  addresses_given = given ip_resources address_part read.2.ip resource_parts.0 read_resources.0

  numbers_given : IsAtMostOne (TellsUnder as_resources y.overclaim) (written (number_part ∷ [])) read.2.numbers
  numbers_given = given as_resources number_part read.2.numbers resource_parts.1 read_resources.1

  -- fields whose extensions are read have resources
  pub resources_read : HasResources x
  resources_read =
      elim read.2.some_resources [
        | inl some ↦
            let c = has_content (TellsUnder ip_resources y.overclaim) address_part address_part.content read.2.ip addresses_given some in
            elim (some_ip i c.0 (sym (addresses_written i) ∙ c.1)) [ inl four ↦ inl four | inr six ↦ inr (inl six) ]
        | inr some ↦
            let c = has_content (TellsUnder as_resources y.overclaim) number_part number_part.content read.2.numbers numbers_given some in
            inr (inr (some_as x.as_resources c.0 (sym (numbers_written x.as_resources) ∙ c.1)))
      ]

  -- and what they have as IPv4 are whole IPv4 addresses
  pub v4_read : IsResources (2 ^ 128 - 1) x.v4_resources → AreV4 x.v4_resources
  unfolding addresses_format
  v4_read kind = by_content address_part.content refl
    where
      by_content : (o : Option (List ℕ)) → address_part.content ≡ o → AreV4 x.v4_resources
      by_content None e = subst AreV4 (sym (ap (λ (j : Ip). j.v4) (no_ip i (sym (addresses_written i) ∙ e)))) tt
      by_content (Some c) e =
          let (addresses, (_, (_, (rest, begins)))) = tells_something (TellsUnder ip_resources y.overclaim)
          address_part address_part.content c read.2.ip e addresses_given in
          let content_short : Short c = subst (λ (o : Option (List ℕ)). IfSome o Short) e resource_parts.0.short in
          read_as_v4 i begins.encoded.0 c rest kind (sym (addresses_written i) ∙ e) content_short
          (record { text = begins.text; encoded = begins.encoded.1; parts = begins.parts })
