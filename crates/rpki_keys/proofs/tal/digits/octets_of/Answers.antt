use Rattle.std.proofs.Common.{refl}
use Rattle.rpki_keys.specs.Digits.{base64_of}
use Rattle.rpki_keys.proofs.tal.digits.octets_of.Goals as goal

pub returns-in-Ok : goal.returns-in-Ok
unfolding base64_of
returns-in-Ok c = record {
  found = (c.in-Ok.ensures.bytes, c.in-Ok.ensures.exact (refl, refl));
  only = λ others bytes same.
      let decodes = (c.decode.ensures.strict (refl, refl) others bytes).1 same in
      let here = c.in-Ok.ensures.ok in
      cc (decodes, here);
}

pub returns-in-Err-DecodeError : goal.returns-in-Err-DecodeError
unfolding base64_of
returns-in-Err-DecodeError c = record {
  found = λ octets bytes same.
      let decodes = (c.decode.ensures.strict (refl, refl) octets bytes).1 same in
      let fails = rw c.in-Err-DecodeError.field-0-is at c.in-Err-DecodeError.ensures.err in
      cc (decodes, fails);
  only = tt;
}
