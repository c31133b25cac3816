use Rattle.std.proofs.Common.{ℕ, List, inl, inr, subst}
use Rattle.rpki_issuing.specs.BlockTexts.{hyphen, IsPrefix, IsAddressRange, IsAddressesText}
use Rattle.rpki_parts.specs.Uris.{slash}
use Rattle.rpki_issuing.proofs.OnlyParts.{carried, one_parting, parted_has}
use Rattle.rpki_issuing.proofs.values.families.addresses.Goals as goal

pub returns-in-Some : goal.returns-in-Some
returns-in-Some c =
    let family = c.args.family in
    let text = c.args.text.now in
    let before = c.in-Some.parts.0.now in
    let behind = c.in-Some.parts.1.now in
    let parted = c.in-Some.ensures.some in
    carried (λ b. IsPrefix family before behind b) (λ b. IsAddressesText family b text)
    (λ b p. inl (record { before = before; behind = behind; parted = parted; prefix = p }))
    (λ b is. elim is [
      | inl p ↦
          let same = one_parting slash text p.before p.behind before behind p.parted parted in
          subst (λ (y : List ℕ). IsPrefix family before y b) same.1
          (subst (λ (x : List ℕ). IsPrefix family x p.behind b) same.0 p.prefix)
      | inr r ↦ absurd (parted_has slash text before behind parted r.unprefixed)
    ])
    c.prefix.result c.prefix.ensures

pub returns-in-Some-parted : goal.returns-in-Some-parted
returns-in-Some-parted c =
    let family = c.args.family in
    let text = c.args.text.now in
    let before = c.in-Some-parted.parts.0.now in
    let behind = c.in-Some-parted.parts.1.now in
    let parted = c.in-Some-parted.ensures.some in
    carried (λ b. IsAddressRange family before behind b) (λ b. IsAddressesText family b text)
    (λ b r. inr (record {
      unprefixed = c.in_default.ensures.none;
      before = before;
      behind = behind;
      parted =
          parted;
      range = r;
    }))
    (λ b is. elim is [
      | inl p ↦ absurd (parted_has slash text p.before p.behind p.parted c.in_default.ensures.none)
      | inr r ↦
          let same = one_parting hyphen text r.before r.behind before behind r.parted parted in
          subst (λ (y : List ℕ). IsAddressRange family before y b) same.1
          (subst (λ (x : List ℕ). IsAddressRange family x r.behind b) same.0 r.range)
    ])
    c.range.result c.range.ensures
