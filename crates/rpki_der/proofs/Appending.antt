-- What an append that may fail leaves behind.
use Rattle.std.proofs.Common.{◌≡◌, ◌≤◌, ℕ, ◌+◌, List, ◌∷◌, ◌++◌, length, Result, Ok, Err, ap, ◌∙◌, append_assoc, arith}
use Rattle.std.specs.Prelude.{OnOk, OnErr, is_ok, if◌then◌else◌}
use Rattle.std.proofs.lemmas.List.{length-append}
use Rattle.rpki_der.specs.Values.{length_octets, enc}
use Rattle.rpki_der.specs.Extensions.{extension_content}
use Rattle.rpki_der.specs.Tags.{OBJECT_IDENTIFIER, OCTET_STRING, SEQUENCE}

-- what was appended may be written in another form
pub appends : {T E : Type 0} (r : Result T E) (old ds es new : List ℕ) → ds ≡ es →
    new ≡ (if is_ok r then old ++ ds else old) → OnOk r (new ≡ old ++ es)
appends (Ok x) old ds es new same e = e ∙ ap (λ (s : List ℕ). old ++ s) same
appends (Err d) old ds es new same e = tt

-- what is true anyway is true after an error
pub on_err : {T E P : Type 0} (r : Result T E) → P → OnErr r P
on_err (Ok x) h = tt
on_err (Err d) h = h

-- the length of an encoding: the tag, the length octets and the content
pub length-enc : (t : ℕ) (c : List ℕ) → length (enc t c) ≡ 1 + (length (length_octets (length c)) + length c)
unfolding enc
length-enc t c = omega (arith, length-append (length_octets (length c)) c)

-- the length of three pieces is the sum of theirs
pub length-pieces : (a b c : List ℕ) → length (a ++ (b ++ c)) ≡ length a + (length b + length c)
length-pieces a b c = omega (arith, length-append b c, length-append a (b ++ c))

regrouped : (s t : ℕ) (a b c d e : List ℕ) → (s ∷ (a ++ (b ++ (c ++ (t ∷ d))))) ++ e ≡ s ∷ (a ++ (b ++ (c ++ (t ∷ (d ++ e)))))
regrouped s t a b c d e = simp append_assoc

-- what stands before the content of an extension, and the content
pub fronted : (id flag content : List ℕ) (len content_len : ℕ) → len ≡ length (extension_content id flag content) →
    content_len ≡ length content →
    (SEQUENCE ∷ (length_octets len ++
    (enc OBJECT_IDENTIFIER id ++ (flag ++ (OCTET_STRING ∷ length_octets content_len))))) ++ content ≡
    enc SEQUENCE (extension_content id flag content)
unfolding enc
fronted id flag content len content_len e f =
    rw (e, f) (regrouped SEQUENCE OCTET_STRING (length_octets (length (extension_content id flag content)))
    (enc OBJECT_IDENTIFIER id) flag (length_octets (length content)) content)

-- the contents in an extension aren't longer than what stands inside its SEQUENCE
pub contents_shorter : (id flag content : List ℕ) → (length id ≤ length (extension_content id flag content)) ×
    (length content ≤ length (extension_content id flag content))
contents_shorter id flag content =
    let pieces = length-pieces (enc OBJECT_IDENTIFIER id) flag (enc OCTET_STRING content) in
    (omega (arith, pieces, length-enc OBJECT_IDENTIFIER id), omega (arith, pieces, length-enc OCTET_STRING content))
