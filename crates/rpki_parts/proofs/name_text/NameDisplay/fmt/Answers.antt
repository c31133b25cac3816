use Rattle.std.proofs.Common.{◌≡◌, ap, subst, ◌∙◌}
use Rattle.std.proofs.Output.{has_written_of_eq}
use Rattle.rpki_der.specs.Place.{remaining}
use Rattle.rpki_parts.specs.Names.{IsName}
use Rattle.rpki_parts.specs.NameTexts.{name_text}
use Rattle.rpki_parts.specs.NameTexts.Reading.{written_name}
use Rattle.rpki_parts.proofs.NameReads.{name_is}
use Rattle.rpki_parts.proofs.NameValues.{name_is_written}
use Rattle.rpki_parts.proofs.name_text.NameDisplay.fmt.Goals as goal

pub returns : goal.returns
returns g c =
    let same : remaining c.cursor.result ≡ c.args.self.now = c.cursor.ensures.all ∙ c.self.view_is in
    let valid : IsName c.args.self.now c.args.self.now = subst (λ octets. IsName octets octets) c.self.view_is
    (name_is c.self.inside.octets c.cursor.ensures.octets c.self.invariant) in
    record {
      writes = λ plain ok. has_written_of_eq g.W.Write.write_str_gives c.args.f.now
          (written_name (remaining c.cursor.result)) (name_text c.args.self.now) c.write_name.new.f
          (ap written_name same ∙ name_is_written c.args.self.now valid) (c.write_name.ensures plain ok);
      styled = tt;
    }
