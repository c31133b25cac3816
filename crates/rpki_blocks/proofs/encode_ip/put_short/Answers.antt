use Rattle.std.proofs.Common.{◌≡◌, ◌+◌, ◌*◌, ◌/◌, ◌%◌, ◌^◌, ◌-◌, ◌≤◌, ◌++◌, ◌∷◌, [], ℕ, List, length, take, refl, ap}
use Rattle.std.proofs.Common.{sym, ◌∙◌, append_assoc, arith}
use Rattle.std.specs.Int.{bytes_high_first}
use Rattle.std.proofs.Math.Nat.{div-mul-le_self}
use Rattle.std.proofs.lemmas.List.{length-append}
use Rattle.rpki_der.specs.Tags.{BIT_STRING}
use Rattle.rpki_blocks.specs.AddressBits.{front, without}
use Rattle.rpki_blocks.proofs.AddressOctets.{cut_upper}
use Rattle.rpki_blocks.proofs.AddressWritten.{put_cut}
use Rattle.rpki_blocks.proofs.encode_ip.put_short.Goals as goal

-- octets put at once behind a head are cut as those put behind it
put_upper : (last address : ℕ) (old new : List ℕ) (start count upper : ℕ) → 96 ≤ last → last ≤ 128 →
    start ≡ length old → count ≡ (128 - last + 7) / 8 →
    upper ≡ address / 2 ^ 96 / 2 ^ (last - 96) * 2 ^ (last - 96) →
    new ≡ old ++ BIT_STRING ∷ (count + 1) ∷ (last % 8) ∷ bytes_high_first 4 upper →
    take (start + 3 + count) new ≡ old ++ without last address
put_upper last address old new start count upper least most here is upper_is new_is =
    let cut : take count (bytes_high_first 4 upper) ≡ (front last address).1 =
    ap (λ (k : ℕ). take k (bytes_high_first 4 upper)) is ∙
    ap (λ (k : ℕ). take ((128 - last + 7) / 8) (bytes_high_first 4 k)) upper_is ∙
    cut_upper last address least most in
    put_cut last address old (old ++ BIT_STRING ∷ (count + 1) ∷ (last % 8) ∷ []) new (bytes_high_first 4 upper)
    (start + 3) count most (omega (arith, length-append old (BIT_STRING ∷ (count + 1) ∷ (last % 8) ∷ []))) is
    refl (new_is ∙
    sym (append_assoc old (BIT_STRING ∷ (count + 1) ∷ (last % 8) ∷ []) (bytes_high_first 4 upper))) cut

pub returns-clause-ok : goal.returns-clause-ok
returns-clause-ok c =
    let whole : c.args.address / 2 ^ 96 / 2 ^ (c.args.last - 96) * 2 ^ (c.args.last - 96) % 2 ^ 64 ≡
    c.args.address / 2 ^ 96 / 2 ^ (c.args.last - 96) * 2 ^ (c.args.last - 96) =
    omega (arith, div-mul-le_self (c.args.address / 2 ^ 96) (2 ^ (c.args.last - 96))) in
    let here : c.len-start.result ≡ length c.args.out.now.items = omega arith in
    c.truncate.ensures.items ∙ put_upper c.args.last c.args.address c.args.out.now.items
    c.extend_from_slice.new.self.items c.len-start.result c.octets_kept-count.result _ c.requires.least
    c.requires.most here c.octets_kept-count.ensures.octets whole
    (rw c.to_be_bytes.ensures at c.in_ok-extend_from_slice.ensures.items)
