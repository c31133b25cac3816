use Rattle.std.proofs.Common.{◌≡◌, subst, sym}
use Rattle.rpki_der.specs.Extensions.{part_of}
use Rattle.rpki_der.specs.Writers.{Part, Writes}
use Rattle.rpki_blocks.specs.ResourceExtensions.{as_extension, ip_extension}
use Rattle.rpki_ext.specs.CertificateExtensions.{ExtensionFields, part_for}
use Rattle.rpki_ext.specs.declared.extensions.Named.TheVariants.{AsResources, IpResources}
use Rattle.rpki_ext.proofs.WritingSteps.{addresses_part, numbers_part}
use Rattle.rpki_ext.proofs.extensions.Extensions.append.Goals as goal

pub returns-in-IpResources : goal.returns-in-IpResources
returns-in-IpResources c =
    let x = c.args.self.now in
    let mode = c.in-IpResources.mode in
    let is = subst (λ (y : ExtensionFields). ip_extension mode y.v4_resources y.v6_resources ≡
    part_of (part_for x (IpResources mode))) (sym c.self.view_is) (addresses_part x mode) in
    subst (λ (p : Part). Writes p c.args.out.now.items c.encode_extension.result c.encode_extension.new.out.items)
    (rw c.in-IpResources.is is) c.encode_extension.ensures

pub returns-in-AsResources : goal.returns-in-AsResources
returns-in-AsResources c =
    let x = c.args.self.now in
    let mode = c.in-AsResources.mode in
    let is = subst (λ (y : ExtensionFields). as_extension mode y.as_resources ≡
    part_of (part_for x (AsResources mode))) (sym c.self.view_is) (numbers_part x mode) in
    subst (λ (p : Part). Writes p c.args.out.now.items c.encode_extension-in-AsResources.result
    c.encode_extension-in-AsResources.new.out.items) (rw c.in-AsResources.is is)
    c.encode_extension-in-AsResources.ensures
