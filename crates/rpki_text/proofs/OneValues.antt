-- Whether octets are one value.
use Rattle.std.proofs.Common.{◌≡◌, ◌↔◌, ◌≤◌, ℕ, List, [], ◌++◌, length, get_or, sym, ap, subst, ◌∙◌, arith}
use Rattle.std.proofs.lemmas.List.{append-nil}
use Rattle.rpki_der.specs.Encoding.{Begins}
use Rattle.rpki_der.specs.Values.{IsEnc, IsValue, enc}
use Rattle.rpki_der.proofs.Formats.{of_enc}
use Rattle.rpki_der.proofs.Values.{one_value}

module _ (tag : ℕ) (octets : List ℕ) where
  -- where a value begins, they are one if nothing follows it
  pub one_if_ends : (content rest : List ℕ) → Begins (IsEnc tag) octets content rest → (rest ≡ []) ↔ IsValue octets
  one_if_ends content rest begins =
      let value = of_enc begins.encoded in
      let to = λ (ends : rest ≡ []).
      let whole : begins.text ≡ octets = sym (append-nil begins.text) ∙ ap (λ (t : List ℕ). begins.text ++ t)
      (sym ends) ∙ sym begins.parts in
      subst IsValue whole value in
      let back = λ (v : IsValue octets). sym (one_value octets begins.text [] rest v value (append-nil octets ∙ begins.parts)).1 in
      (to, back)

  -- where none with this identifier octet begins, no value stands there that has it
  pub none_if_refused : 1 ≤ length octets → get_or octets 0 0 ≡ tag →
      ((content rest : List ℕ) → Begins (IsEnc tag) octets content rest → ⊥) → IsValue octets → ⊥
  unfolding enc
  none_if_refused some first none v =
      let same : v.tag ≡ tag = sym (ap (λ (b : List ℕ). get_or b 0 0) v.enc.is) ∙ first in
      none v.content [] (record {
        text = octets;
        encoded = subst (λ (t : ℕ). IsEnc t v.content octets) same v.enc;
        parts =
            sym (append-nil octets);
      })

-- no octets are none
pub nothing_is_none : (octets : List ℕ) → length octets ≡ 0 → IsValue octets → ⊥
unfolding enc
nothing_is_none octets empty v = absurd (omega (arith, empty, ap length v.enc.is))
