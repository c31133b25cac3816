-- The first flaw of a part, by its first octet, its value and what that holds.
use Rattle.std.specs.Prelude.{Bool, true, false, if◌then◌else◌, slice_get, slice_range, Contains}
use Rattle.std.proofs.Common.{◌≡◌, ◌≢◌, ℕ, List, [], ◌∷◌, ◌-◌, drop, inl, inr, length, map, Option, Some, None, refl, subst, sym, arith}
use Rattle.std.proofs.lemmas.Bool.{false≢true}
use Rattle.std.proofs.lemmas.List.{length-drop, take_all}
use Rattle.rpki_der.specs.Encoding.{Begins, Means}
use Rattle.rpki_der.specs.Extensions.{Extension, IsExtension, extension_format}
use Rattle.rpki_der.specs.Values.{IsEnc}
use Rattle.rpki_der.proofs.ExtensionReads.{extension_alone}
use Rattle.rpki_der.proofs.FormatAnswers.{alone_means}
use Rattle.rpki_der.proofs.Formats.{one_meant}
use Rattle.rpki_files.specs.Flaws.{IsContentFlaw, IsExtensionFlaw, IsFirstFlaw, IsFirstTrue, IsFlaw, extension_flaws}
use Rattle.rpki_files.specs.Flaws.{extension_of, openings, own_flaws}
use Rattle.rpki_files.specs.KnownKinds.{MayHaveFlag, known_kind}
use Rattle.rpki_files.specs.declared.expected.Part.{Part}
use Rattle.rpki_files.specs.declared.expected.Part.TheVariants as part
use Rattle.rpki_files.specs.declared.flaws.ExtensionFlaw.{ExtensionFlaw}
use Rattle.rpki_files.specs.declared.flaws.ExtensionFlaw.TheVariants.{Critical, NotCritical, OtherContent, Second}
use Rattle.rpki_files.specs.declared.flaws.Flaw.{Flaw}
use Rattle.rpki_files.specs.declared.flaws.Flaw.TheVariants as flaw
use Rattle.rpki_files.specs.declared.kinds.Kind.{Kind}
use Rattle.rpki_files.specs.declared.kinds.Kind.TheVariants as known
use Rattle.rpki_files.proofs.FirstTrue.{first_so}

-- ---- by the first octet

-- there is none
pub first_end : (is_list : Bool) (p : Part) (octets : List ℕ) → slice_get octets 0 ≡ None → IsFirstFlaw is_list p octets (Some flaw.End)
first_end is_list p [] none = inl (refl, refl)
first_end is_list p (x ∷ xs) none = absurd cc

-- it is this one
pub opened_by : (octets : List ℕ) (identifier : ℕ) → slice_get octets 0 ≡ Some identifier → (rest : List ℕ) × (octets ≡ identifier ∷ rest)
opened_by [] identifier some = absurd cc
opened_by (x ∷ xs) identifier some = (xs, cc)

module _ (is_list : Bool) (p : Part) (identifier : ℕ) where
  other : (octets rest : List ℕ) → octets ≡ identifier ∷ rest → (Contains (openings is_list p) identifier → ⊥) →
      IsFirstFlaw is_list p octets (Some (flaw.Other identifier))
  other octets rest is none = subst (λ (l : List ℕ). IsFirstFlaw is_list p l (Some (flaw.Other identifier))) (sym is)
      (inl ((rest, refl, none), refl))

  -- the part may not begin with it
  pub first_other : (octets : List ℕ) → (rest : List ℕ) × (octets ≡ identifier ∷ rest) →
      (Contains (openings is_list p) identifier → ⊥) → IsFirstFlaw is_list p octets (Some (flaw.Other identifier))
  first_other octets first none = other octets first.0 first.1 none

  -- no value stands there
  pub first_broken : (octets : List ℕ) → (rest : List ℕ) × (octets ≡ identifier ∷ rest) → Contains (openings is_list p) identifier
      → ((tag : ℕ) (content : List ℕ) → Means (IsEnc tag) content octets → ⊥) → IsFirstFlaw is_list p octets (Some flaw.Broken)
  first_broken octets first opens none =
      subst (λ (l : List ℕ). ((tag : ℕ) (content : List ℕ) → Means (IsEnc tag) content l → ⊥) →
      IsFirstFlaw is_list p l (Some flaw.Broken)) (sym first.1)
      (λ fails. inr ((λ o. o.2 opens), inl (fails, refl))) none

  -- one stands there
  pub first_own : (octets : List ℕ) (o : Option Flaw) → (rest : List ℕ) × (octets ≡ identifier ∷ rest) →
      Contains (openings is_list p) identifier
      → (tag : ℕ) × (content : List ℕ) × Means (IsEnc tag) content octets →
      IsFirstTrue (IsFlaw is_list p octets) (own_flaws p) o → IsFirstFlaw is_list p octets o
  first_own octets o first opens whole is =
      subst (λ (l : List ℕ). ((tag : ℕ) × (content : List ℕ) × Means (IsEnc tag) content l) →
      IsFirstTrue (IsFlaw is_list p l) (own_flaws p) o → IsFirstFlaw is_list p l o) (sym first.1)
      (λ stands own. inr ((λ o. o.2 opens), inr ((λ fails. fails stands.0 stands.1 stands.2), own))) whole is

-- ---- of an extension

-- the flag of its kind is another one
pub first_flag : (is_list : Bool) (identifier : List ℕ) (critical : Bool) (content : List ℕ) →
    (MayHaveFlag is_list (known_kind is_list identifier) critical → ⊥)
    → IsFirstTrue (IsExtensionFlaw is_list (extension_of identifier critical content)) extension_flaws
    (Some (if critical then Critical else NotCritical))
first_flag is_list identifier true content none = inl ((refl, none), refl)
first_flag is_list identifier false content none = inr ((λ p. false≢true p.0), inl ((refl, none), refl))

-- its flag is well
module _ (is_list : Bool) (identifier content : List ℕ) (o : Option ExtensionFlaw) where
  behind_flag : (critical : Bool) → MayHaveFlag is_list (known_kind is_list identifier) critical
      → IsFirstTrue (IsExtensionFlaw is_list (extension_of identifier critical content)) (OtherContent ∷ Second ∷ []) o
      → IsFirstTrue (IsExtensionFlaw is_list (extension_of identifier critical content)) extension_flaws o
  behind_flag true may is = inr ((λ p. p.1 may), inr ((λ p. false≢true (sym p.0)), is))
  behind_flag false may is = inr ((λ p. false≢true p.0), inr ((λ p. p.1 may), is))

  -- and then its content tells
  pub first_content : (critical : Bool) → MayHaveFlag is_list (known_kind is_list identifier) critical →
      IsContentFlaw (known_kind is_list identifier) content o
      → IsFirstTrue (IsExtensionFlaw is_list (extension_of identifier critical content)) extension_flaws o
  first_content critical may (inl (told, none)) = behind_flag critical may (inl (none, told))
  first_content critical may (inr (told, has)) = behind_flag critical may (inr ((λ none. none has), inl ((may, has), told)))

-- the extension that was read is the one that stands there
pub first_extension : (is_list : Bool) (x : Extension) (octets rest : List ℕ) → Begins IsExtension octets x rest →
    (flaws : List ExtensionFlaw) (o : Option ExtensionFlaw)
    → IsFirstTrue (IsExtensionFlaw is_list x) flaws o →
    IsFirstTrue (λ f. (y : Extension) × Means IsExtension y octets × IsExtensionFlaw is_list y f) flaws o
first_extension is_list x octets rest begins flaws o is =
    first_so (IsExtensionFlaw is_list x) (λ f. (y : Extension) × Means IsExtension y octets × IsExtensionFlaw is_list y f) flaws o
    (λ f p. (x, (rest, begins), p))
    (λ f p. subst (λ (y : Extension). IsExtensionFlaw is_list y f)
    (one_meant IsExtension (alone_means extension_format extension_alone) p.0 x octets p.1 (rest, begins)) p.2)
    is

-- the flaws of a kind that a list may have
pub flaws_of_kind : (k : Kind) → (k ≢ known.NoList) → own_flaws (part.Kind k) ≡ map flaw.Extension extension_flaws
flaws_of_kind known.BasicConstraints other = refl
flaws_of_kind known.SubjectKeyIdentifier other = refl
flaws_of_kind known.AuthorityKeyIdentifier other = refl
flaws_of_kind known.KeyUsage other = refl
flaws_of_kind known.ExtendedKeyUsage other = refl
flaws_of_kind known.CrlDistributionPoints other = refl
flaws_of_kind known.AuthorityInformationAccess other = refl
flaws_of_kind known.SubjectInformationAccess other = refl
flaws_of_kind known.CertificatePolicies other = refl
flaws_of_kind known.IpResources other = refl
flaws_of_kind known.AsResources other = refl
flaws_of_kind known.CrlNumber other = refl
flaws_of_kind known.Unknown other = refl
flaws_of_kind known.NoList other = absurd (other refl)

-- ---- of a file

-- its octets from one on, up to its end
pub to_the_end : (octets : List ℕ) (octet : ℕ) → slice_range octets octet (length octets) ≡ drop octet octets
to_the_end octets octet = take_all (length octets - octet) (drop octet octets) (omega (arith, length-drop octet octets))
