-- Octets that are an encoding, and nothing behind it.
use Rattle.std.proofs.Common.{◌≡◌, ◌≢◌, ℕ, List, [], ◌++◌, refl, sym, ap, subst, ◌∙◌}
use Rattle.std.proofs.lemmas.List.{append-nil, append_cancel_left}
use Rattle.rpki_der.specs.declared.error.DecodeError.{DecodeError}
use Rattle.rpki_der.specs.declared.error.DecodeError.TheVariants as decoding
use Rattle.rpki_der.specs.Encoding.{Begins}
use Rattle.rpki_der.specs.Place.{Rejects}
use Rattle.rpki_der.specs.Values.{IsUnambiguous}
use Rattle.rpki_der.proofs.Answering.{memory_alone}

module _ {V : Type 0} (encodes : V → List ℕ → Type 0) where
  -- what they begin with, where nothing is left, they are
  pub whole_is : (v : V) (found octets rest : List ℕ) → found ≡ octets → rest ≡ [] → Begins encodes found v rest →
      encodes v octets
  whole_is v found octets rest same empty b =
      let text : b.text ≡ octets = sym (append-nil b.text) ∙ ap (λ (l : List ℕ). b.text ++ l) (sym empty) ∙
      sym b.parts ∙ same in
      subst (λ (l : List ℕ). encodes v l) text b.encoded

  -- they are of one value at most
  pub whole_only : IsUnambiguous encodes → (v w : V) (octets : List ℕ) → encodes v octets → encodes w octets → w ≡ v
  whole_only one v w octets h k = (one w v octets octets [] [] k h refl).0

  -- where something is left behind what they begin with, they are of none
  pub none_whole : IsUnambiguous encodes → (v w : V) (found octets rest : List ℕ) → found ≡ octets →
      (rest ≡ [] → ⊥) → Begins encodes found v rest → encodes w octets → ⊥
  none_whole one v w found octets rest same some b h =
      let parts : octets ++ [] ≡ b.text ++ rest = append-nil octets ∙ sym same ∙ b.parts in
      let is = (one w v octets b.text [] rest h b.encoded parts).1 in
      some (append_cancel_left octets rest [] (ap (λ (l : List ℕ). l ++ rest) is ∙ sym parts))

  -- where they can't be read, they are of none
  pub unread_whole : (e : DecodeError) → e ≢ decoding.Memory → (found octets : List ℕ) → found ≡ octets →
      Rejects e ((y : V) (rest : List ℕ) → Begins encodes found y rest → ⊥) → (w : V) → encodes w octets → ⊥
  unread_whole e not found octets same rejected w h =
      not (memory_alone e rejected
      (λ none. none w [] (record { text = octets; encoded = h; parts = same ∙ sym (append-nil octets) })))
