-- No two lists of octets have one text, also with more behind it in its line.
use Rattle.std.specs.Prelude.{IsTrue, not, Bool, true, false}
use Rattle.std.proofs.Common.{◌≡◌, ℕ, ◌/◌, ◌%◌, ◌<◌, ◌≢◌, List, [], ◌∷◌, ◌++◌, refl, sym, ◌∙◌, arith}
use Rattle.std.proofs.lemmas.List.{append_assoc}
use Rattle.std.proofs.lemmas.Bool.Decides.{nat_tests}
use Rattle.rpki_document.specs.Lines.{AreOctets}
use Rattle.rpki_document.specs.Texts.{character_text, characters_text, digit, inner_text, separates, stands}
use Rattle.rpki_document.specs.declared.leaves.Escape.TheVariants.{Text, Inner}
use Rattle.rpki_document.proofs.RowTexts.{inner_separates_nothing, text_by}

-- two digits are those of two numbers
same_digit : (m n : ℕ) → m < 16 → n < 16 → digit m ≡ digit n → m ≡ n
same_digit m n below small e = grind (arith, nat_tests)

-- what stands for itself is no backslash
stands_alone : (o : ℕ) → stands Text o ≡ true → o ≢ 92
stands_alone o e = grind (arith, nat_tests)

-- the first octets of equal texts are equal, and so is what follows, where no backslash stands
same_first : (one two : Bool) (c d : ℕ) (x y : List ℕ) → (one ≡ true → c ≢ 92) → (two ≡ true → d ≢ 92)
    → c < 256 → d < 256 → text_by one c ++ x ≡ text_by two d ++ y → (c ≡ d) × (x ≡ y)
same_first true true c d x y f g below small e = (cc, cc)
same_first true false c d x y f g below small e = absurd (f refl (cc))
same_first false true c d x y f g below small e = absurd (g refl (cc))
same_first false false c d x y f g below small e =
    let high : digit (c / 16) ≡ digit (d / 16) = cc in
    let low : digit (c % 16) ≡ digit (d % 16) = cc in
    let upper = same_digit (c / 16) (d / 16) (omega arith) (omega arith) high in
    let lower = same_digit (c % 16) (d % 16) (omega arith) (omega arith) low in
    (omega arith, cc)

-- no octet has an empty text
some_text : (plain : Bool) (c : ℕ) (x : List ℕ) → [] ≡ text_by plain c ++ x → ⊥
some_text true c x e = cc
some_text false c x e = cc

-- two lists of octets have two texts
pub same_octets : (one other : List ℕ) → AreOctets one → AreOctets other → characters_text one ≡ characters_text other → one ≡ other
same_octets [] [] are are_too e = refl
same_octets [] (d ∷ ds) are are_too e = absurd (some_text (stands Text d) d _ e)
same_octets (c ∷ cs) [] are are_too e = absurd (some_text (stands Text c) c _ (sym e))
same_octets (c ∷ cs) (d ∷ ds) are are_too e =
    let first = same_first (stands Text c) (stands Text d) c d _ _ (stands_alone c) (stands_alone d) are.0 are_too.0 e in
    let rest = same_octets cs ds are.1 are_too.1 first.1 in
    cc (first.0, rest)

-- ---- a text behind which more follows

inside_alone : (o : ℕ) → stands Inner o ≡ true → o ≢ 92
inside_alone o e = grind (arith, nat_tests)

-- no separator begins the text of an octet
not_first : (plain : Bool) (c octet : ℕ) (x y : List ℕ) → IsTrue (separates c)
    → (plain ≡ true → IsTrue (not (separates octet))) → c ∷ x ≡ text_by plain octet ++ y → ⊥
not_first true c octet x y is shows e =
    let same : c ≡ octet = cc in
    grind (arith, nat_tests, same, is, shows refl)
not_first false c octet x y is shows e =
    let same : c ≡ 92 = cc in
    grind (arith, nat_tests, same, is)

-- a text and what follows, cut behind the first octet
cut_first : (octet : ℕ) (octets more : List ℕ)
    → inner_text (octet ∷ octets) ++ more ≡ text_by (stands Inner octet) octet ++ (inner_text octets ++ more)
cut_first octet octets more = append_assoc (character_text Inner octet) (inner_text octets) more

-- two lists of octets behind whose texts a separator stands are one where the texts are, and so is what
-- follows
pub inner_apart : (one other : List ℕ) (c d : ℕ) (behind after : List ℕ)
    → AreOctets one → AreOctets other → IsTrue (separates c) → IsTrue (separates d)
    → inner_text one ++ c ∷ behind ≡ inner_text other ++ d ∷ after
    → (one ≡ other) × (c ∷ behind ≡ d ∷ after)
inner_apart [] [] c d behind after are are_too is is_too e = (refl, e)
inner_apart [] (o ∷ os) c d behind after are are_too is is_too e =
    absurd (not_first (stands Inner o) c o behind _ is (inner_separates_nothing o) (e ∙ cut_first o os (d ∷ after)))
inner_apart (o ∷ os) [] c d behind after are are_too is is_too e =
    absurd (not_first (stands Inner o) d o after _ is_too (inner_separates_nothing o) (sym e ∙ cut_first o os (c ∷ behind)))
inner_apart (o ∷ os) (p ∷ ps) c d behind after are are_too is is_too e =
    let first = same_first (stands Inner o) (stands Inner p) o p _ _ (inside_alone o) (inside_alone p) are.0 are_too.0
    (sym (cut_first o os (c ∷ behind)) ∙ e ∙ cut_first p ps (d ∷ after)) in
    let rest = inner_apart os ps c d behind after are.1 are_too.1 is is_too first.1 in
    (cc (first.0, rest.0), rest.1)
