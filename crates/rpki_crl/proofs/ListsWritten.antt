-- What is too long of a list that is written.
use Rattle.std.proofs.Common.{ℕ, ◌≤◌, length, Option, Some, None, false, arith}
use Rattle.std.proofs.lemmas.List.{length-append}
use Rattle.rpki_der.specs.Extensions.{extension_part}
use Rattle.rpki_der.specs.Formats.{written_if}
use Rattle.rpki_der.specs.Primitives.{number}
use Rattle.rpki_der.specs.Tags.{CONTEXT_CONSTRUCTED, SEQUENCE}
use Rattle.rpki_der.specs.Values.{enc}
use Rattle.rpki_der.proofs.ExtensionWritten.{extension_longer}
use Rattle.rpki_der.proofs.ValueWritten.{enc_longer}
use Rattle.rpki_ext.specs.ExtensionKinds.{authority_key_identifier, crl_number}
use Rattle.rpki_crl.specs.ListExtensions.{ListExtensions, list_sequence}
use Rattle.rpki_crl.specs.Lists.{ListFields, list_content, list_content_format, tagged_list_extensions}
use Rattle.rpki_crl.specs.RevokedEntries.{Revoked, kept_entries, revoked, revoked_format, revoked_part, some_entries}

-- each extension, in the sequence
pub identifier_longer : (x : ListExtensions) →
    length (extension_part authority_key_identifier.identifier false
    (authority_key_identifier.format.written x.authority_key_identifier)).inside ≤ length (list_sequence x)
identifier_longer x =
    omega (
      arith,
      extension_longer authority_key_identifier.identifier false
          (authority_key_identifier.format.written x.authority_key_identifier),
      length-append {A = ℕ},
    )

-- the extension of a CRL number isn't longer than the sequence
pub number_longer : (x : ListExtensions) →
    length (extension_part crl_number.identifier false (number x.crl_number)).inside ≤ length (list_sequence x)
number_longer x = omega (arith, extension_longer crl_number.identifier false (number x.crl_number), length-append {A = ℕ})

-- the sequence, and its SEQUENCE, in the tag
pub elements_longer : (x : ListExtensions) → length (list_sequence x) ≤ length (tagged_list_extensions x)
elements_longer x = omega (
  arith,
  enc_longer (CONTEXT_CONSTRUCTED 0) (enc SEQUENCE (list_sequence x)),
  enc_longer SEQUENCE (list_sequence x),
)

-- the SEQUENCE of extensions isn't longer than inside its tag
pub sequence_longer : (x : ListExtensions) → length (enc SEQUENCE (list_sequence x)) ≤ length (tagged_list_extensions x)
sequence_longer x = enc_longer (CONTEXT_CONSTRUCTED 0) (enc SEQUENCE (list_sequence x))

-- the entries, in their SEQUENCE
entries_longer : (r : Revoked) → length (revoked_part r).inside ≤ length (revoked r)
unfolding revoked_format
entries_longer r = longer (some_entries r.octets r.entries)
  where
    longer : (o : Option Revoked) → length (written_if kept_entries.inside o) ≤ length (written_if kept_entries.written o)
    longer None = omega arith
    longer (Some s) = enc_longer SEQUENCE s.octets

-- entries aren't longer than the list's data
pub revoked_longer : (f : ListFields Revoked) → length (revoked_part f.revoked).inside ≤ length (list_content f)
unfolding list_content_format
revoked_longer f = omega (arith, entries_longer f.revoked, length-append {A = ℕ})

-- and neither are the extensions inside their tags
pub tagged_longer : (f : ListFields Revoked) → length (tagged_list_extensions f.extensions) ≤ length (list_content f)
unfolding list_content_format
tagged_longer f = omega (arith, length-append {A = ℕ})
