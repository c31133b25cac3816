-- The certificate that is asked: what each of its fields is (RFC 6487 4, RFC 8209 3.1).
use Rattle.std.specs.Int.{w32, to_be_bytes}
use Rattle.std.specs.Prelude.{ℕ, Bool, true, false, if◌then◌else◌, List, ◌∷◌, ◌++◌, Option, Some, None, option_map}
use Rattle.std.specs.Prelude.{codes}
use Rattle.rpki_blocks.specs.Resources.{Resources, blocks}
use Rattle.rpki_blocks.specs.declared.overclaim.Overclaim.TheVariants.{Refuse, Trim}
use Rattle.rpki_cert.specs.Certificates.{TbsFields}
use Rattle.rpki_cert.specs.declared.inspect.Kind.{Kind}
use Rattle.rpki_cert.specs.declared.inspect.Kind.TheVariants.{Anchor, Authority, EndEntity, Detached, Router}
use Rattle.rpki_der.specs.Tags.{OBJECT_IDENTIFIER}
use Rattle.rpki_der.specs.Values.{enc}
use Rattle.rpki_ext.specs.RouterPurposes.{router_purpose}
use Rattle.rpki_ext.specs.SubjectAccess.{Access}
use Rattle.rpki_ext.specs.declared.key_usage.KeyUsage.TheVariants.{Ca, Ee}
use Rattle.rpki_parts.specs.Algorithms.{with_null}
use Rattle.rpki_parts.specs.KeyNames.{hexadecimal, name_of_digits, subject_name}
use Rattle.rpki_parts.specs.Keys.{KeyFields, key_identifier}
use Rattle.rpki_issuing.specs.declared.wanted.wanted.Places.{Places}
use Rattle.rpki_issuing.specs.declared.wanted.wanted.Wanted.{Wanted}

-- whether certificates of the kind are CAs'
abbrev pub is_authority : Kind → Bool
is_authority Anchor = true
is_authority Authority = true
is_authority EndEntity = false
is_authority Detached = false
is_authority Router = false

-- the text of a router's name: `ROUTER-`, and its AS number in eight hexadecimal digits (RFC 8209
-- 3.1.1)
abbrev pub router_text : ℕ → List ℕ
router_text n = codes "ROUTER-" ++ hexadecimal (to_be_bytes w32 n)

-- the name of a router
abbrev pub router_name : ℕ → List ℕ
router_name n = name_of_digits (router_text n)

-- the least AS number that is listed
abbrev pub least_of : Resources → Option ℕ
least_of (blocks (b ∷ bs)) = Some b.min
least_of _ = None

-- the name of the router with this AS number; without one, that of the key
abbrev pub router_subject : Option ℕ → KeyFields → List ℕ
router_subject (Some n) key = router_name n
router_subject None key = subject_name key

-- the subject: of a router, by the least AS number that is given; else by the key (RFC 6487 4.5)
abbrev pub subject_asked : Kind → Resources → KeyFields → List ℕ
subject_asked Router systems key = router_subject (least_of systems) key
subject_asked kind systems key = subject_name key

-- the further purposes of the key: of a router, its own (RFC 8209 3.1.3.2)
abbrev pub purposes_asked : Kind → Option (List ℕ)
purposes_asked Router = Some (enc OBJECT_IDENTIFIER router_purpose)
purposes_asked kind = None

-- who issues: the issuer's subject; a trust anchor's own (RFC 6487 4.4)
abbrev pub issuer_name : Option TbsFields → List ℕ → List ℕ
issuer_name (Some issuer) subject = issuer.subject
issuer_name None subject = subject

-- the URIs of what the key signs
abbrev pub access_asked : Places → Access
access_asked places = record {
  ca_repository = places.repository;
  rpki_manifest = places.manifest;
  signed_object = places.object;
  rpki_notify = places.notify;
}

-- What isn't said is left out, by the names of issuer and subject.
abbrev pub fields_named : Kind → Bool → Wanted → Option TbsFields → List ℕ → List ℕ → KeyFields → TbsFields
fields_named kind trims w issuer name subject key = record {
  serial = w.serial;
  algorithm = with_null;
  issuer = name;
  validity = record { not_before = w.not_before; not_after = w.not_after };
  subject = subject;
  key = key;
  extensions = record {
    basic_ca = if is_authority kind then Some true else None;
    subject_key_identifier = key_identifier key;
    authority_key_identifier = option_map (λ above. above.extensions.subject_key_identifier) issuer;
    key_usage = if is_authority kind then Ca else Ee;
    extended_key_usage = purposes_asked kind;
    crl_uri = w.places.list;
    ca_issuer = w.places.issuer;
    access = access_asked w.places;
    overclaim = if trims then Trim else Refuse;
    v4_resources = w.numbers.v4;
    v6_resources = w.numbers.v6;
    as_resources = w.numbers.systems;
  };
}

-- The fields of the certificate of this kind: the values that are wanted, the key, and what follows
-- from the kind and from who issues it.
abbrev pub fields_asked : Kind → Bool → Wanted → Option TbsFields → KeyFields → TbsFields
fields_asked kind trims w issuer key =
    let subject = subject_asked kind w.numbers.systems key in
    fields_named kind trims w issuer (issuer_name issuer subject) subject key
