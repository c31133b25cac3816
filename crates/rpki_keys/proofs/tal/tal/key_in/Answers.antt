use Rattle.std.proofs.Common.{rules, ◌≡◌, ◌≢◌, inr, refl, sym, ◌∙◌}
use Rattle.std.specs.List.{flat_map}
use Rattle.std.specs.Str.Lines.{lines}
use Rattle.rpki_der.specs.declared.error.DecodeError.TheVariants as decoding
use Rattle.rpki_keys.specs.Digits.{without_white_space}
use Rattle.rpki_keys.proofs.KeysRead.{said, not_a_key}
use Rattle.rpki_keys.proofs.tal.tal.key_in.Goals as goal

pub returns : goal.returns
returns c =
    let other : c.in-Err.other ≢ decoding.Memory = search rules in
    let octets : c.in_ok-map_err.field-0 ≡ c.in-Some.octets.items = search rules in
    let digits : c.deref.result.now ≡ flat_map without_white_space (lines c.args.text.now) = search rules in
    let only = rw c.in-Some.is at c.in_ok-octets.ensures.only in
    record {
      ok = tt;
      rejected = inr (
        refl,
        λ k. not_a_key c.in_ok-map_err.field-0 c.deref.result.now (lines c.args.text.now) k digits
            (said c.in-Err.other _ c.in-Err.ensures other)
            (λ others bytes same. only others bytes same ∙ sym octets),
      );
    }
