use Rattle.std.proofs.Common.{rules, ◌≡◌, Err}
use Rattle.std.proofs.lemmas.Bool.{false≢true}
use Rattle.rpki_der.specs.Place.{remaining}
use Rattle.rpki_der.proofs.Answering.{all_rejected, none_encoded}
use Rattle.rpki_der.proofs.FormatAnswers.{alone_reads}
use Rattle.rpki_parts.specs.Keys.{IsPublicKey, public_key_format}
use Rattle.rpki_parts.proofs.PartFormats.{public_key_alone}
use Rattle.rpki_parts.proofs.key.PublicKey.from_bytes.Goals as goal

pub returns-in_err-key : goal.returns-in_err-key
returns-in_err-key c =
    let same : c.from_residual.result ≡ Err c.in_err-key.field-0.0 = search rules in
    all_rejected (λ x. x) IsPublicKey _ _ (remaining c.new-cursor.result) c.args.octets c.new-cursor.ensures.all same
    c.in_err-key.ensures.encoded

pub returns-then-not-is_empty : goal.returns-then-not-is_empty
returns-then-not-is_empty c = λ y encoded.
    none_encoded public_key_format.read IsPublicKey (alone_reads public_key_format public_key_alone) c.in_ok-key.key y
    (remaining c.new-cursor.result) c.args.octets (remaining c.take_from.new.cursor) c.new-cursor.ensures.all
    (λ nil. false≢true (c.if-not-is_empty.ensures.1 nil)) c.in_ok-key.ensures.encoded encoded
