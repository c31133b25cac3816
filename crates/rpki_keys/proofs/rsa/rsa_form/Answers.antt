use Rattle.std.proofs.Common.{refl}
use Rattle.rpki_der.specs.Place.{remaining}
use Rattle.rpki_keys.proofs.RsaKeyReads.{key-read, modulus-read, no-key}
use Rattle.rpki_keys.proofs.Sizes.{some-content, not-odd}
use Rattle.rpki_keys.proofs.rsa.rsa_form.Goals as goal

pub returns-in_default : goal.returns-in_default
returns-in_default c = no-key (remaining c.args.bits.now) c.in_default.ensures.reads.1

pub is_odd-requires : goal.is_odd-requires
is_odd-requires c =
    let m = modulus-read _ _ _ c.in-Ok.ensures.octets c.in-Ok.ensures.reads in
    rw c.rest-modulus.ensures.remaining (some-content _ m.1.shortest)

pub bit_count-requires-clause-shortest : goal.bit_count-requires-clause-shortest
bit_count-requires-clause-shortest c =
    let m = modulus-read _ _ _ c.in-Ok.ensures.octets c.in-Ok.ensures.reads in
    rw c.rest-modulus.ensures.remaining m.1.shortest

pub bit_count-requires-clause-short : goal.bit_count-requires-clause-short
bit_count-requires-clause-short c =
    let m = modulus-read _ _ _ c.in-Ok.ensures.octets c.in-Ok.ensures.reads in
    rw c.rest-modulus.ensures.remaining m.1.enc.short

pub returns-then-is_odd : goal.returns-then-is_odd
returns-then-is_odd c =
    let key = key-read _ _ _ c.in-Ok.ensures.octets c.in-Ok.ensures.reads in
    record {
      n = _;
      e = _;
      key = key;
      odd = rw c.rest-modulus.ensures.remaining at (c.if-is_odd.ensures.0 refl);
      size = rw c.rest-modulus.ensures.remaining at c.bit_count.ensures;
      exponent_is = rw c.rest.ensures.remaining at c.small_number.ensures;
    }

pub returns-else-is_odd : goal.returns-else-is_odd
returns-else-is_odd c =
    let key = key-read _ _ _ c.in-Ok.ensures.octets c.in-Ok.ensures.reads in
    record {
      n = _;
      e = _;
      key = key;
      even = rw (← c.rest-modulus.ensures.remaining) (not-odd _ (λ odd. absurd (let no = c.if-is_odd.ensures.1 odd in cc)));
    }
