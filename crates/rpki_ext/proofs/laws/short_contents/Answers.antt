use Rattle.std.proofs.Common.{◌≡◌, ℕ, ◌<◌, ◌^◌, Bool, true, false, List, [], ◌++◌, length, refl, arith}
use Rattle.std.proofs.lemmas.List.{length-append}
use Rattle.rpki_der.specs.Tags.{BIT_STRING, SEQUENCE, OBJECT_IDENTIFIER, OCTET_STRING, CONTEXT}
use Rattle.rpki_der.specs.Primitives.{bool_or_false}
use Rattle.rpki_der.specs.Values.{enc}
use Rattle.rpki_der.proofs.RoundTrips.{enc_small}
use Rattle.rpki_blocks.specs.declared.overclaim.Overclaim.{Overclaim}
use Rattle.rpki_blocks.specs.declared.overclaim.Overclaim.TheVariants.{Refuse, Trim}
use Rattle.rpki_blocks.specs.Overclaims.{policy_identifier}
use Rattle.rpki_ext.specs.ExtensionKinds.{basic_constraints, basic_constraints_format, certificate_policies}
use Rattle.rpki_ext.specs.ExtensionKinds.{certificate_policies_format, authority_key_identifier_format, key_usage}
use Rattle.rpki_ext.specs.ExtensionKinds.{key_usage_format, usage_bits}
use Rattle.rpki_parts.specs.Keys.{key_identifier_format}
use Rattle.rpki_ext.specs.declared.key_usage.KeyUsage.{KeyUsage}
use Rattle.rpki_ext.specs.declared.key_usage.KeyUsage.TheVariants.{Ca, Ee}
use Rattle.rpki_ext.proofs.laws.short_contents.Goals as goal

flag_small : (ca : Bool) → length (basic_constraints.format.written ca) < 2 ^ 32
unfolding basic_constraints_format
flag_small true = omega (arith, enc_small SEQUENCE (bool_or_false true) (omega arith))
flag_small false = omega (arith, enc_small SEQUENCE (bool_or_false false) (omega arith))

identifier_small : (t : ℕ) (id : List ℕ) → length id ≡ 20 → length (enc t id) ≡ 22
identifier_small t id l = omega (arith, enc_small t id (omega arith))

usage_small : (usage : KeyUsage) → length (key_usage.format.written usage) < 2 ^ 32
unfolding key_usage_format
usage_small Ca = omega (arith, enc_small BIT_STRING (usage_bits Ca) (omega arith))
usage_small Ee = omega (arith, enc_small BIT_STRING (usage_bits Ee) (omega arith))

policy_small : (overclaim : Overclaim) → length (policy_identifier overclaim) ≡ 8
policy_small Refuse = refl
policy_small Trim = refl

policies_small : (overclaim : Overclaim) → length (certificate_policies.format.written overclaim) < 2 ^ 32
unfolding certificate_policies_format
policies_small overclaim =
    let oid = enc OBJECT_IDENTIFIER (policy_identifier overclaim) in
    let id : List ℕ = oid ++ [] in
    let one : length id ≡ 10 =
    omega (
      arith,
      length-append oid [],
      policy_small overclaim,
      enc_small OBJECT_IDENTIFIER (policy_identifier overclaim) (omega (arith, policy_small overclaim)),
    ) in
    let two : length (enc SEQUENCE id) ≡ 12 = omega (arith, enc_small SEQUENCE id (omega arith)) in
    omega (arith, enc_small SEQUENCE (enc SEQUENCE id) (omega arith))

pub returns-clause-basic_constraints : goal.returns-clause-basic_constraints
returns-clause-basic_constraints c = flag_small

pub returns-clause-subject_key_identifier : goal.returns-clause-subject_key_identifier
unfolding key_identifier_format
returns-clause-subject_key_identifier c = λ id l. omega (arith, identifier_small OCTET_STRING id l)

pub returns-clause-authority_key_identifier : goal.returns-clause-authority_key_identifier
unfolding authority_key_identifier_format
returns-clause-authority_key_identifier c =
    λ id l. omega (
      arith,
      enc_small SEQUENCE (enc (CONTEXT 0) id) (omega (arith, identifier_small (CONTEXT 0) id l)),
      identifier_small (CONTEXT 0) id l,
    )

pub returns-clause-key_usage : goal.returns-clause-key_usage
returns-clause-key_usage c = usage_small

pub returns-clause-certificate_policies : goal.returns-clause-certificate_policies
returns-clause-certificate_policies c = policies_small
