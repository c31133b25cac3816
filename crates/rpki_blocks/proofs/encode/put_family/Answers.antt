use Rattle.std.proofs.Common.{◌≡◌, [], ◌∷◌, ◌++◌, List, ℕ, length, refl, ap, ◌∙◌, append_assoc, arith, rules}
use Rattle.std.proofs.lemmas.List.{length-append}
use Rattle.rpki_der.specs.Tags.{OCTET_STRING, SEQUENCE}
use Rattle.rpki_der.specs.Values.{enc}
use Rattle.rpki_blocks.specs.AddressBits.{ip_block}
use Rattle.rpki_blocks.specs.Unions.{text_of, written_choice}
use Rattle.rpki_blocks.proofs.Enclosing.{enclosed_long}
use Rattle.rpki_blocks.proofs.Lengths.{passed_long, still_long, family_is, family_longer}
use Rattle.rpki_blocks.proofs.encode.put_family.Goals as goal

pub returns-in_err-put_choice-clause-too_long : goal.returns-in_err-put_choice-clause-too_long
returns-in_err-put_choice-clause-too_long c = passed_long c.from_residual-in_err-put_choice.result
    _ _ _ c.from_residual-in_err-put_choice.ensures.1 c.in_err-put_choice.ensures.too_long
    (omega (arith, family_longer c.args.code c.args.resources.now (c.if-not-is_present.ensures.present.0 refl)))

pub returns-clause-too_long : goal.returns-clause-too_long
returns-clause-too_long c =
    let is = family_is c.args.code c.args.resources.now (c.if-not-is_present.ensures.present.0 refl) in
    let out : c.put_choice.new.out.items ≡ c.args.out.now.items ++
    ((OCTET_STRING ∷ 2 ∷ 0 ∷ c.args.code ∷ []) ++ text_of (written_choice ip_block c.args.resources.now)) =
    c.in_ok-put_choice.ensures.ok ∙ ap (λ (b : List ℕ). b ++ text_of (written_choice ip_block c.args.resources.now))
    c.in_ok-extend_from_slice.ensures.items ∙ append_assoc c.args.out.now.items _ _ in
    still_long c.enclose.result
    _ _ (enclosed_long c.enclose.result SEQUENCE c.len-start.result c.args.out.now.items
    _ _ c.enclose.ensures.too_long.0 (search rules) out)
    (omega (
      arith,
      ap length is,
      length-append
          (enc SEQUENCE
          ((OCTET_STRING ∷ 2 ∷ 0 ∷ c.args.code ∷ []) ++ text_of (written_choice ip_block c.args.resources.now))) [],
    ))
