use Rattle.std.proofs.Common.{◌≡◌, ◌*◌, ◌/◌, ◌%◌, ◌^◌, ℕ, take, ap, ◌∙◌, arith, rules}
use Rattle.std.specs.Int.{bytes_high_first}
use Rattle.std.proofs.Math.Nat.{div-mul-le_self}
use Rattle.rpki_blocks.specs.AddressBits.{front}
use Rattle.rpki_blocks.proofs.AddressOctets.{cut_address}
use Rattle.rpki_blocks.proofs.AddressWritten.{put_cut}
use Rattle.rpki_blocks.proofs.encode_ip.put_address.Goals as goal

pub returns-clause-ok : goal.returns-clause-ok
returns-clause-ok c =
    let fits : c.args.address / 2 ^ c.args.last * 2 ^ c.args.last % 2 ^ 128 ≡ c.args.address / 2 ^ c.args.last * 2 ^
    c.args.last = omega (arith, div-mul-le_self c.args.address (2 ^ c.args.last)) in
    let cut : take c.octets_kept-count.result c.to_be_bytes.result ≡ (front c.args.last c.args.address).1 =
    ap (λ (k : ℕ). take k c.to_be_bytes.result) c.octets_kept-count.ensures.octets ∙
    ap (take _) (c.to_be_bytes.ensures ∙ ap (bytes_high_first 16) fits) ∙ cut_address c.args.last c.args.address
    c.requires in
    c.truncate.ensures.items ∙ put_cut c.args.last c.args.address c.args.out.now.items
    c.extend_from_slice.new.self.items c.extend_from_slice-2.new.self.items c.to_be_bytes.result
    c.len-start.result c.octets_kept-count.result c.requires (search rules) c.octets_kept-count.ensures.octets
    c.in_ok-extend_from_slice.ensures.items c.in_ok-extend_from_slice-2.ensures.items cut
