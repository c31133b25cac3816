use Rattle.std.proofs.Common.{◌≡◌, length, false, true, refl, subst, rules}
use Rattle.rpki_der.specs.Extensions.{extension_part}
use Rattle.rpki_der.specs.Identifiers.{pkix}
use Rattle.rpki_der.specs.Tags.{SEQUENCE}
use Rattle.rpki_der.specs.Values.{enc}
use Rattle.rpki_der.specs.Writers.{Part, Writes}
use Rattle.rpki_der.proofs.Ending.{ended}
use Rattle.rpki_der.proofs.ExtensionWritten.{content_longer}
use Rattle.rpki_der.proofs.IdentifierReads.{oid_takes}
use Rattle.rpki_der.proofs.TooLong.{still_long}
use Rattle.rpki_ext.specs.Kinds.{kept_if, part}
use Rattle.rpki_ext.specs.SubjectAccess.{access_behind, descriptions, has_uri, subject_information_access}
use Rattle.rpki_ext.specs.SubjectAccess.{subject_information_access_format, written_all}
use Rattle.rpki_ext.proofs.subject_access.encode_subject_information_access.Goals as goal

pub end_extension-requires-clause-oid : goal.end_extension-requires-clause-oid
end_extension-requires-clause-oid c = oid_takes _ refl

pub returns : goal.returns
unfolding subject_information_access_format
returns c =
    let old = c.args.out.now.items in
    let a = access_behind c.args.ca_repository c.args.rpki_manifest c.args.signed_object c.args.rpki_notify in
    let inside = enc SEQUENCE (written_all (descriptions a)) in
    let some : has_uri a ≡ true = search rules in
    let start : c.len-start.result ≡ length old = search rules in
    let content = c.append_content-content.ensures in
    let long = still_long c.append_content-content.result _ _ content.too_long (content_longer (pkix 0x01 0x0B) false inside) in
    let same : extension_part (pkix 0x01 0x0B) false inside ≡ part subject_information_access (kept_if has_uri a) = rw some refl in
    subst (λ (p : Part). Writes p old c.end_extension.result c.end_extension.new.out.items) same
    (ended (extension_part (pkix 0x01 0x0B) false) _ old inside _ _ c.append_content-content.result
    c.end_extension.result start content.ok content.err long c.end_extension.ensures)
