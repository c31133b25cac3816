use Rattle.std.specs.Prelude.{IsOk, Result}
use Rattle.std.proofs.Common.{◌≡◌, ◌++◌, ℕ, List, ap, subst, sym, ◌∙◌}
use Rattle.std.proofs.lemmas.Bool.{false≢true}
use Rattle.rpki_der.specs.Encoding.{Begins}
use Rattle.rpki_der.specs.Place.{Place, remaining}
use Rattle.rpki_der.specs.Tags.{SEQUENCE}
use Rattle.rpki_der.specs.Values.{IsEnc}
use Rattle.rpki_der.specs.declared.error.DecodeError.{DecodeError}
use Rattle.rpki_parts.specs.SignedDatas.{SignedFields}
use Rattle.rpki_parts.specs.Signatures.{SignatureFields}
use Rattle.rpki_c.proofs.PlacesFound.{key_begins, key_there, message_at, message_there, outer_there, same_value}
use Rattle.rpki_c.proofs.PlacesFound.{signature_at, span_at}
use Rattle.rpki_c.proofs.places.places_of.Goals as goal

pub unreachable-requires : goal.unreachable-requires
unreachable-requires c =
    c.in_default.ensures.answers.encoded.1 _ _
    (outer_there c.args.octets.now c.args.cert.now c.requires c.new.result c.new.ensures.all)

pub unreachable-requires-in_default-take_sequence : goal.unreachable-requires-in_default-take_sequence
unreachable-requires-in_default-take_sequence c =
    c.in_default-take_sequence.ensures.answers.encoded.1 _ _
    (message_there c.args.octets.now c.args.cert.now c.requires c.new.result c.new.ensures.all c.in-Ok.content
    c.take_sequence.new.self c.in-Ok.ensures.answers.encoded)

pub unreachable-requires-in_default-skip : goal.unreachable-requires-in_default-skip
unreachable-requires-in_default-skip c =
    let k = key_there c.args.octets.now c.args.cert.now c.requires c.new.result c.new.ensures.all c.in-Ok.content
    c.take_sequence.new.self c.in-Ok.ensures.answers.encoded c.in-Ok-take_sequence.fields c.take_sequence-2.new.self
    c.in-Ok-take_sequence.ensures.answers.encoded in
    false≢true (subst (λ (r : Result (Unit {0}) DecodeError). IsOk r) c.in_default-skip.is
    (c.skip.ensures.there k.0 k.1))

pub unreachable-requires-in_default-take_sequence-2 : goal.unreachable-requires-in_default-take_sequence-2
unreachable-requires-in_default-take_sequence-2 c =
    let k = key_there c.args.octets.now c.args.cert.now c.requires c.new.result c.new.ensures.all c.in-Ok.content
    c.take_sequence.new.self c.in-Ok.ensures.answers.encoded c.in-Ok-take_sequence.fields c.take_sequence-2.new.self
    c.in-Ok-take_sequence.ensures.answers.encoded in
    let key = key_begins c.args.cert.now.fields k.0 k.2 in
    c.in_default-take_sequence-2.ensures.answers.encoded.1 key.0 k.2.0
    (subst (λ (o : List ℕ). Begins (IsEnc SEQUENCE) o key.0 k.2.0) (sym (c.in-Ok-skip.ensures.behind k.0 k.1)) key.1)

pub overflow_sub-result-2 : goal.overflow_sub-result-2
overflow_sub-result-2 c =
    let value : c.value-signature.result.now ≡ c.args.cert.now.signed_data.signature.value =
    c.value-signature.ensures.same ∙ ap (λ (s : SignatureFields). s.value) c.signature.ensures
    ∙ ap (λ (s : SignedFields). s.signature.value) c.signed_data-signed.ensures in
    rw (value, c.span-from.ensures.span) (signature_at c.args.octets.now c.args.cert.now c.requires c.new.result
    c.new.ensures.all c.in-Ok.content c.take_sequence.new.self c.in-Ok.ensures.answers.encoded
    (c.in-Ok.ensures.inside.source ∙ ap (λ (p : Place). p.source) c.new.ensures.whole) c.span-from.ensures.order
    c.span-from.ensures.inside).0

pub returns : goal.returns
returns c =
    let octets = c.args.octets.now in
    let cert = c.args.cert.now in
    let all = c.new.ensures.all in
    let inner = c.in-Ok.content in
    let read = c.in-Ok.ensures.answers.encoded in
    let source = c.in-Ok.ensures.inside.source ∙ ap (λ (p : Place). p.source) c.new.ensures.whole in
    let from = c.span-from.ensures in
    let k = key_there octets cert c.requires c.new.result all inner c.take_sequence.new.self read
    c.in-Ok-take_sequence.fields c.take_sequence-2.new.self c.in-Ok-take_sequence.ensures.answers.encoded in
    let there = c.in-Ok-skip.ensures.behind k.0 k.1 in
    let begins = key_begins cert.fields k.0 k.2 in
    let last = c.in-Ok-take_sequence-2.ensures.answers in
    let same = same_value SEQUENCE (remaining c.skip.new.cursor) _ _ begins.0 k.2.0 last.encoded
    (subst (λ (o : List ℕ). Begins (IsEnc SEQUENCE) o begins.0 k.2.0) (sym there) begins.1) in
    let message : c.data.result.now ≡ cert.signed_data.message =
    c.data.ensures ∙ ap (λ (s : SignedFields). s.message) c.signed_data-signed.ensures in
    let value : c.value-signature.result.now ≡ cert.signed_data.signature.value =
    c.value-signature.ensures.same ∙ ap (λ (s : SignatureFields). s.value) c.signature.ensures
    ∙ ap (λ (s : SignedFields). s.signature.value) c.signed_data-signed.ensures in
    rw (from.span, c.span-key.ensures.span, c.span-end.ensures.span, message, value)
    record {
      info = k.2.1.text;
      key_is = k.2.1.encoded;
      key = span_at c.skip.new.cursor c.take_sequence-3.new.self octets k.2.1.text
          (c.in-Ok-skip.ensures.moves.source ∙ c.in-Ok-take_sequence.ensures.inside.source ∙ source)
          c.span-key.ensures.order c.span-key.ensures.inside c.span-end.ensures.order last.keeps
          (there ∙ k.2.1.parts ∙ ap (λ (t : List ℕ). k.2.1.text ++ t) (sym same.1));
      message = message_at octets cert c.requires c.new.result all inner c.take_sequence.new.self read source from.order
          from.inside;
      signature = (signature_at octets cert c.requires c.new.result all inner c.take_sequence.new.self read source
          from.order from.inside).1;
    }
