use Rattle.std.proofs.Common.{rules}
use Rattle.rpki_parts.specs.Keys.{IsPublicKey, public_key_format}
use Rattle.rpki_der.proofs.FormatAnswers.{alone_means}
use Rattle.rpki_parts.proofs.PartFormats.{public_key_alone}
use Rattle.rpki_issuing.proofs.WholeOctets.{whole_only}
use Rattle.rpki_requests.proofs.keys.read_key.Goals as goal

pub returns-in-Ok : goal.returns-in-Ok
returns-in-Ok c =
    let is : IsPublicKey c.in-Ok.key c.args.octets.now = search rules in (
      is,
      λ w h. whole_only IsPublicKey (alone_means public_key_format public_key_alone) c.in-Ok.key w
          c.args.octets.now is h,
    )
