-- What is written of a kind gives its value, and what is written of all known ones is a sequence.
use Rattle.std.specs.List.{flat_map, list_any, AllByRecursion, AllZip, list_all, concat}
use Rattle.std.specs.Prelude.{bytes_eq, filter, IfSome, ◌&&◌}
use Rattle.std.proofs.Common.{ℕ, Bool, List, Option, [], ◌∷◌, Some, None, ◌≡◌, true, false, cond, ◌++◌, ap, refl, map}
use Rattle.std.proofs.lemmas.Bool.{and_parts}
use Rattle.rpki_der.specs.Extensions.{OptionalExtension, Extension, extension_of_some, IsExtension, text}
use Rattle.rpki_der.specs.Primitives.Reading.{is_oid}
use Rattle.rpki_der.specs.Sequences.{AreEncodings, IsAtMostOne}
use Rattle.rpki_der.proofs.Answering.{whole_means}
use Rattle.rpki_der.proofs.ExtensionWritten.{extension_made, extension_content_short, ok_extension}
use Rattle.rpki_der.proofs.IdentifierReads.{oid_takes}
use Rattle.rpki_der.proofs.ValueWritten.{Short}
use Rattle.rpki_der.proofs.WrittenOctets.{IfShort, all_octets, literal, ok_append}
use Rattle.rpki_blocks.specs.declared.overclaim.Overclaim.{Overclaim}
use Rattle.rpki_ext.specs.ExtensionKinds.{known}
use Rattle.rpki_ext.specs.Kinds.{only, Flag, flag_of, IsFlagFor, required, untested, ExtensionKind, Tells}
use Rattle.rpki_ext.specs.Kinds.{extension_for, identifiers, Gives, identifiers_by_mode, TellsUnder, GivesUnder}
use Rattle.rpki_ext.specs.Kinds.{is_of}
use Rattle.rpki_der.proofs.FormatAnswers.{IsAlone}

abbrev raw : List ℕ → Bool → Option (List ℕ) → OptionalExtension
raw identifier critical content = record { identifier = identifier; critical = critical; content = content }

abbrev extension_if : List ℕ → Bool → Option (List ℕ) → List Extension
extension_if id critical None = []
extension_if id critical (Some c) = record { identifier = id; critical = critical; content = c } ∷ []

-- the extensions that are written of parts: those with a content
abbrev pub written : List OptionalExtension → List Extension
written ps = flat_map (λ (p : OptionalExtension). extension_if p.identifier p.critical p.content) ps

-- ---- of one kind

-- whether the part has one of these identifiers
abbrev pub is_in : List (List ℕ) → OptionalExtension → Bool
is_in kind p = list_any (λ id. bytes_eq p.identifier id) kind

only_more : (kind : List (List ℕ)) (id : List ℕ) (critical : Bool) (o : Option (List ℕ))
    (ps : List OptionalExtension) → only kind (written ps) ≡ written (filter (is_in kind) ps) →
    only kind (extension_if id critical o ++ written ps) ≡ written (filter (is_in kind) (raw id critical o ∷ ps))
only_more kind id critical None ps h =
    elim (is_in kind (raw id critical None)) as
    (λ b. only kind (written ps) ≡
    written (cond b (raw id critical None ∷ filter (is_in kind) ps) (filter (is_in kind) ps)))
    [ true ↦ h | false ↦ h ]
only_more kind id critical (Some c) ps h =
    let x : Extension = record { identifier = id; critical = critical; content = c } in
    elim (is_in kind (raw id critical (Some c))) as
    (λ b. cond b (x ∷ only kind (written ps)) (only kind (written ps)) ≡
    written (cond b (raw id critical (Some c) ∷ filter (is_in kind) ps) (filter (is_in kind) ps)))
    [ true ↦ ap (λ (xs : List Extension). x ∷ xs) h | false ↦ h ]

-- the extensions of a kind that are written are those of its parts
pub only_written : (kind : List (List ℕ)) (ps : List OptionalExtension) → only kind (written ps) ≡ written (filter (is_in kind) ps)
only_written kind [] = refl
only_written kind (p ∷ ps) = only_more kind p.identifier p.critical p.content ps (only_written kind ps)

-- the extension is the only one of its kind, and its content is short
pub record IsOnly (ps : List OptionalExtension) (kind : List (List ℕ)) (p : OptionalExtension) : Type 0 where
  pub one : filter (is_in kind) ps ≡ p ∷ []
  pub short : IfSome p.content Short

-- where each kind finds one part among all, it is the only one of the kind
pub only_ones : (all : List OptionalExtension) (kinds : List (List (List ℕ))) (ps : List OptionalExtension) →
    map (λ kind. filter (is_in kind) all) kinds ≡ map (λ p. p ∷ []) ps →
    AllByRecursion (λ p. IfSome p.content Short) ps → AllZip (IsOnly all) kinds ps
only_ones all [] [] e s = tt
only_ones all [] (p ∷ ps) e s = absurd cc
only_ones all (kind ∷ kinds) [] e s = absurd cc
only_ones all (kind ∷ kinds) (p ∷ ps) e s = (record { one = cc; short = s.0 }, only_ones all kinds ps (cc) s.1)

-- ---- what the extension of a kind tells

own_flag : (flag : Flag) → IsFlagFor flag (flag_of flag)
own_flag (required critical) = refl
own_flag (untested critical) = tt

module _ {V : Type 0} (kind : ExtensionKind V) (is : IsAlone kind.format) (P : Extension → V → Type 0)
    (says : (x : Extension) (v : V) → x.identifier ≡ kind.identifier → Tells kind x v → P x v) where
  any : (v : Option V) → IfSome v kind.format.fits → IfSome (extension_for kind v).content Short →
      IsAtMostOne P (written (extension_for kind v ∷ [])) v
  any None fits short = refl
  any (Some v) fits short = (
    v,
    says _ v refl
        (own_flag kind.flag, whole_means kind.format.encodes v (kind.format.written v) (is.law.made v fits short.0)),
    refl,
  )

  told : {ps : List OptionalExtension} {ids : List (List ℕ)} (v : Option V) → IsOnly ps ids (extension_for kind v) →
      IfSome v kind.format.fits → IsAtMostOne P (only ids (written ps)) v
  told {ps} {ids} v h fits = rw (only_written ids ps, h.one) (any v fits h.short)

-- the extension of a kind gives its value
pub gives : {V : Type 0} {ps : List OptionalExtension} (kind : ExtensionKind V) → IsAlone kind.format →
    (v : Option V) → IsOnly ps (identifiers kind) (extension_for kind v) → IfSome v kind.format.fits →
    Gives kind (written ps) v
gives kind is v h = told kind is (Tells kind) (λ x u id t. t) v h

-- the part of a kind with modes gives its value under the mode
pub gives_under : {V : Type 0} {ps : List OptionalExtension} (kinds : Overclaim → ExtensionKind V) (m : Overclaim) →
    IsAlone (kinds m).format → (v : Option V) → IsOnly ps (identifiers_by_mode kinds) (extension_for (kinds m) v) →
    IfSome v (kinds m).format.fits → GivesUnder kinds m (written ps) v
gives_under kinds m is v h = told (kinds m) is (TellsUnder kinds m) (λ x u id t. (id, t)) v h

-- what is written of a value that fits, if short, consists of octets
pub ok_part : {V : Type 0} (kind : ExtensionKind V) → IsAlone kind.format → (v : Option V) →
    IfSome v kind.format.fits → IfSome (extension_for kind v).content IfShort
ok_part kind is None fits = tt
ok_part kind is (Some v) fits = is.law.octets v fits

-- ---- all parts

-- the identifier is well formed and known, by computation
abbrev pub is_known : OptionalExtension → Bool
is_known p = is_in known p && (is_oid p.identifier && all_octets p.identifier)

-- the identifier is one that certificates know
pub record IsKnown (p : OptionalExtension) : Type 0 where
  pub kind : is_in known p ≡ true
  pub oid : is_oid p.identifier ≡ true
  pub octets : all_octets p.identifier ≡ true

-- parts that pass the test are known
pub all_known : (ps : List OptionalExtension) → list_all is_known ps ≡ true → AllByRecursion IsKnown ps
all_known [] e = tt
all_known (p ∷ ps) e =
    let a = and_parts (is_known p) (list_all is_known ps) e in
    let b = and_parts (is_in known p) _ a.0 in
    let c = and_parts (is_oid p.identifier) _ b.1 in
    (record { kind = b.0; oid = c.0; octets = c.1 }, all_known ps a.1)

-- extensions of known parts have nothing unknown that is critical
pub none_unknown : (ps : List OptionalExtension) → AllByRecursion IsKnown ps →
    AllByRecursion (λ x. is_of known x ≡ false → x.critical ≡ false) (written ps)
none_unknown [] k = tt
none_unknown (p ∷ ps) k = here p.content (none_unknown ps k.1)
  where
    here : (o : Option (List ℕ)) → AllByRecursion (λ x. is_of known x ≡ false → x.critical ≡ false) (written ps) →
        AllByRecursion (λ x. is_of known x ≡ false → x.critical ≡ false)
        (written (raw p.identifier p.critical o ∷ ps))
    here None more = more
    here (Some c) more = ((λ u. absurd cc (k.0.kind, u)), more)

-- what is written of known parts is a sequence of their extensions
pub elements_made : (ps : List OptionalExtension) → AllByRecursion IsKnown ps → AllByRecursion Short (map text ps) →
    AreEncodings IsExtension (written ps) (concat (map text ps))
elements_made [] k h = refl
elements_made (p ∷ ps) k h = here p.content h.0 (elements_made ps k.1 h.1)
  where
    here : (o : Option (List ℕ)) → Short (extension_of_some p.identifier p.critical o) →
        AreEncodings IsExtension (written ps) (concat (map text ps)) →
        AreEncodings IsExtension (written (raw p.identifier p.critical o ∷ ps))
        (concat (map text (raw p.identifier p.critical o ∷ ps)))
    here None short more = more
    here (Some c) short more = (
      _,
      _,
      extension_made (record { identifier = p.identifier; critical = p.critical; content = c })
          (oid_takes p.identifier k.0.oid) short,
      more,
      refl,
    )

-- parts that are written short have short contents
pub contents_short : (ps : List OptionalExtension) → AllByRecursion Short (map text ps) → AllByRecursion (λ p. IfSome p.content Short) ps
contents_short [] h = tt
contents_short (p ∷ ps) h = (here p.content h.0, contents_short ps h.1)
  where
    here : (o : Option (List ℕ)) → Short (extension_of_some p.identifier p.critical o) → IfSome o Short
    here None short = tt
    here (Some c) short = extension_content_short p.identifier p.critical c short

-- what is written of known parts, if short, consists of octets where their contents do
pub ok_sequence : (ps : List OptionalExtension) → AllByRecursion IsKnown ps →
    AllByRecursion (λ p. IfSome p.content IfShort) ps → IfShort (concat (map text ps))
ok_sequence [] k h = λ l. tt
ok_sequence (p ∷ ps) k h = ok_append (text p) (concat (map text ps)) (here p.content h.0) (ok_sequence ps k.1 h.1)
  where
    here : (o : Option (List ℕ)) → IfSome o IfShort → IfShort (extension_of_some p.identifier p.critical o)
    here None octets = λ l. tt
    here (Some c) octets = ok_extension p.identifier p.critical c (literal p.identifier k.0.octets) octets
