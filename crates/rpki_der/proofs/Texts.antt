-- Octets that are printed one after the other.
use Rattle.std.specs.Fmt.{digit_glyph, digits, format_spec, padded_integral}
use Rattle.std.specs.List.{flat_map}
use Rattle.std.proofs.Common.{◌≡◌, ℕ, Bool, ◌+◌, ◌-◌, ◌/◌, ◌%◌, ◌^◌, ◌<◌, false, List, [], ◌∷◌, ◌++◌, length, take, get_or, sym, ap, ◌∙◌}
use Rattle.std.proofs.lemmas.Fmt.{hex_byte}
use Rattle.std.proofs.lemmas.List.{take_more}
use Rattle.std.proofs.lemmas.List.Concat.{flat_map-append}

-- octets, each in two hexadecimal digits of one case
abbrev pub pairs : Bool → List ℕ → List ℕ
pairs upper octets = flat_map (λ octet. digit_glyph upper (octet / 16) ∷ digit_glyph upper (octet % 16) ∷ []) octets

-- one octet more, as `{:02X}` or `{:02x}` writes it
pub pairs_more : (upper : Bool) (octets : List ℕ) (i : ℕ) → i < length octets → get_or octets i 0 < 256
    → pairs upper (take i octets) ++ padded_integral (format_spec 32 0 4 2 (2 ^ 64 - 1)) false []
    (digits 16 upper (get_or octets i 0)) ≡ pairs upper (take (i + 1) octets)
pairs_more upper octets i there small =
    let x = get_or octets i 0 in
    ap (λ (l : List ℕ). pairs upper (take i octets) ++ l) (hex_byte upper x small)
    ∙ sym (flat_map-append (λ (octet : ℕ). digit_glyph upper (octet / 16) ∷ digit_glyph upper (octet % 16) ∷ []) (take i octets) (x ∷ []))
    ∙ ap (pairs upper) (sym (take_more octets i 0 there))
