-- How the extensions are written one by one, and what is too long of them.
use Rattle.std.proofs.Common.{ℕ, zero, suc, ◌<◌, ◌≤◌, ◌++◌, Bool, false, List, [], ◌∷◌, length, map, get_or, take}
use Rattle.std.proofs.Common.{Option, Some, None, ◌≡◌, refl, sym, ap, ◌∙◌, append_assoc, arith}
use Rattle.std.specs.List.{concat}
use Rattle.std.proofs.lemmas.List.{append-nil, get_or-map, length-append, length-map, take_all}
use Rattle.rpki_der.specs.Extensions.{extension_of_some, content_of_some, OptionalExtension, text, part_of}
use Rattle.rpki_der.proofs.ExtensionWritten.{extension_longer}
use Rattle.rpki_blocks.specs.Overclaims.{as_identifier, ip_identifier}
use Rattle.rpki_blocks.specs.ResourceExtensions.{as_extension, critical, ip_extension}
use Rattle.rpki_blocks.specs.declared.overclaim.Overclaim.{Overclaim}
use Rattle.rpki_ext.specs.CertificateExtensions.{ExtensionFields, part_for, parts, extensions}
use Rattle.rpki_ext.specs.declared.extensions.Named.{Named}
use Rattle.rpki_ext.specs.declared.extensions.Named.TheVariants.{IpResources, AsResources}
use Rattle.rpki_ext.proofs.ResourceKinds.{addresses_written, numbers_written}

-- an extension without content
abbrev pub nothing : OptionalExtension
nothing = record { identifier = []; critical = false; content = None }

some_longer : (id : List ℕ) (critical : Bool) (c : Option (List ℕ)) →
    length (content_of_some id critical c) ≤ length (extension_of_some id critical c)
some_longer id critical None = omega arith
some_longer id critical (Some c) = extension_longer id critical c

longer_at : (ps : List OptionalExtension) (k : ℕ) → length (part_of (get_or ps k nothing)).inside ≤ length (concat (map text ps))
longer_at [] k = omega arith
longer_at (p ∷ ps) zero = omega (arith, some_longer p.identifier p.critical p.content, length-append (text p) (concat (map text ps)))
longer_at (p ∷ ps) (suc k) = omega (arith, longer_at ps k, length-append (text p) (concat (map text ps)))

-- what stands inside a part isn't longer than all that is written
pub elements_longer : (x : ExtensionFields) (k : ℕ) → length (part_of (get_or (parts x) k nothing)).inside ≤ length (extensions x)
unfolding extensions
elements_longer x k = longer_at (parts x) k

-- the part of addresses, as it is written
pub addresses_part : (x : ExtensionFields) (mode : Overclaim) →
    ip_extension mode x.v4_resources x.v6_resources ≡ part_of (part_for x (IpResources mode))
addresses_part x mode = ap (critical (ip_identifier mode)) (sym (addresses_written (record { v4 = x.v4_resources; v6 = x.v6_resources })))

-- the part of AS numbers, as it is written
pub numbers_part : (x : ExtensionFields) (mode : Overclaim) → as_extension mode x.as_resources ≡ part_of (part_for x (AsResources mode))
numbers_part x mode = ap (critical (as_identifier mode)) (sym (numbers_written x.as_resources))

-- the part of a kind in the order of the table
pub part_at : (x : ExtensionFields) (kinds : List Named) (i : ℕ) (d : Named) → map (part_for x) kinds ≡ parts x →
    i < length (parts x) → part_for x (get_or kinds i d) ≡ get_or (parts x) i nothing
part_at x kinds i d order lt =
    let in_kinds : i < length kinds = omega (arith, lt, length-map kinds (part_for x), ap length order) in
    sym (get_or-map (part_for x) kinds i d nothing in_kinds) ∙ ap (λ (ps : List OptionalExtension). get_or ps i nothing) order

-- ---- a sequence that grows

-- the first k extensions
abbrev pub written_before : ExtensionFields → ℕ → List ℕ
written_before f k = concat (map text (take k (parts f)))

one_more : (ps : List OptionalExtension) (k : ℕ) →
    concat (map text (take (suc k) ps)) ≡ concat (map text (take k ps)) ++ text (get_or ps k nothing)
one_more [] zero = refl
one_more [] (suc k) = refl
one_more (p ∷ ps) zero = append-nil (text p)
one_more (p ∷ ps) (suc k) = ap (λ (b : List ℕ). text p ++ b) (one_more ps k) ∙
    sym (append_assoc (text p) (concat (map text (take k ps))) (text (get_or ps k nothing)))

-- a part that is appended goes on what was written before it
pub grown : (f : ExtensionFields) (k : ℕ) (old prev new : List ℕ) → prev ≡ old ++ written_before f k →
    new ≡ prev ++ text (get_or (parts f) k nothing) → new ≡ old ++ written_before f (suc k)
grown f k old prev new before more =
    let one = text (get_or (parts f) k nothing) in
    more ∙ ap (λ (b : List ℕ). b ++ one) before ∙ append_assoc old (written_before f k) one ∙
    ap (λ (b : List ℕ). old ++ b) (sym (one_more (parts f) k))

-- and so all are written
pub all_written : (x : ExtensionFields) (k : ℕ) → length (parts x) ≤ k → written_before x k ≡ extensions x
unfolding extensions
all_written x k le = ap (λ (ps : List OptionalExtension). concat (map text ps)) (take_all k (parts x) le)
