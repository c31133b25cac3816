-- What a request asks: one thing at most.
use Rattle.std.specs.Prelude.{codes, Option, Some, None, cond, map, fold}
use Rattle.std.specs.Str.{bytes_eq}
use Rattle.std.proofs.Common.{◌≡◌, ◌⊎◌, ℕ, List, [], ◌∷◌, ◌++◌, drop, get_or, inl, inr, refl, sym, ap, ◌∙◌, subst}
use Rattle.std.proofs.lemmas.List.Sums.{fold-append}
use Rattle.rpki_text.specs.WordParts.{AddsParts, AreInOrder, words_before, words_behind}
use Rattle.rpki_text.proofs.PartsOfWords.{one_list}
use Rattle.rpki_requests.specs.declared.words.Errand.{Errand}
use Rattle.rpki_requests.specs.declared.words.Errand.TheVariants.{Authority, EndEntity, Detached, Router, Anchor}
use Rattle.rpki_requests.specs.declared.words.Errand.TheVariants.{RevocationList, Completion}
use Rattle.rpki_requests.specs.declared.words.Misuse.{Misuse}
use Rattle.rpki_requests.specs.RequestMisuses.{IsErrandReason, IsUnsuitedRequest}
use Rattle.rpki_requests.specs.RequestWords.{AskedFields, BeginsRequest, IsRequestLine, IsRequestPart, RequestPart}
use Rattle.rpki_requests.specs.RequestWords.{SuitsErrand, errand_words, file, only_errand, with_request_part}
use Rattle.rpki_requests.proofs.RequestParts.{request_grammar, request_clear}

-- ---- the first words

-- what is to be prepared
prepared_of : List (List ℕ) → Option Errand
prepared_of [] = None
prepared_of (word ∷ rest) =
    cond (bytes_eq word (codes "ca")) (Some Authority)
    (cond (bytes_eq word (codes "ee")) (Some EndEntity)
    (cond (bytes_eq word (codes "detached")) (Some Detached)
    (cond (bytes_eq word (codes "router")) (Some Router)
    (cond (bytes_eq word (codes "anchor")) (Some Anchor)
    (cond (bytes_eq word (codes "list")) (Some RevocationList) None)))))

-- the errand that words name
errand_of : List (List ℕ) → Option Errand
errand_of [] = None
errand_of (word ∷ rest) =
    cond (bytes_eq word (codes "complete")) (Some Completion)
    (cond (bytes_eq word (codes "prepare")) (prepared_of rest) None)

names : (errand : Errand) (rest : List (List ℕ)) → errand_of (errand_words errand ++ rest) ≡ Some errand
unfolding errand_of prepared_of
names Authority rest = refl
names EndEntity rest = refl
names Detached rest = refl
names Router rest = refl
names Anchor rest = refl
names RevocationList rest = refl
names Completion rest = refl

-- words name one errand at most
pub one_errand : (errand other : Errand) (rest behind : List (List ℕ)) →
    errand_words errand ++ rest ≡ errand_words other ++ behind → errand ≡ other
one_errand errand other rest behind e =
    let is : Some errand ≡ Some other = sym (names errand rest) ∙ ap errand_of e ∙ names other behind in
    cc

-- and what stands behind it is the same
one_rest : (errand : Errand) (rest behind : List (List ℕ)) → errand_words errand ++ rest ≡ errand_words errand ++
    behind → rest ≡ behind
one_rest Authority rest behind e = ap (λ (l : List (List ℕ)). drop 2 l) e
one_rest EndEntity rest behind e = ap (λ (l : List (List ℕ)). drop 2 l) e
one_rest Detached rest behind e = ap (λ (l : List (List ℕ)). drop 2 l) e
one_rest Router rest behind e = ap (λ (l : List (List ℕ)). drop 2 l) e
one_rest Anchor rest behind e = ap (λ (l : List (List ℕ)). drop 2 l) e
one_rest RevocationList rest behind e = ap (λ (l : List (List ℕ)). drop 2 l) e
one_rest Completion rest behind e = ap (λ (l : List (List ℕ)). drop 1 l) e

-- the first word of a request is one of two
pub first_is : (words : List (List ℕ)) (first : List ℕ) (rest : List (List ℕ)) → words ≡ first ∷ rest →
    BeginsRequest words → (first ≡ codes "prepare") ⊎ (first ≡ codes "complete")
first_is words first rest is (other, behind, are, inl prepare) =
    inl (ap (λ (l : List (List ℕ)). get_or l 0 []) (sym is ∙ are) ∙ prepare)
first_is words first rest is (other, behind, are, inr complete) =
    inr (ap (λ (l : List (List ℕ)). get_or l 0 []) (sym is ∙ are) ∙ complete)

-- ---- a request

module _ (words : List (List ℕ)) (errand : Errand) (rest : List (List ℕ))
    (words_are : words ≡ errand_words errand ++ rest) where
  -- the errand of a request is this one, and so are the words behind it
  same_words : (asked : AskedFields) (h : IsRequestLine asked words) → (errand ≡ h.errand) × (rest ≡ h.rest)
  same_words asked h =
      let both = sym words_are ∙ h.words_are in
      let is = one_errand errand h.errand rest h.rest both in
      (is, one_rest errand rest h.rest (both ∙ ap (λ (e : Errand). errand_words e ++ h.rest) (sym is)))

  -- the words behind it are no parts
  pub no_parts : ((parts : List RequestPart) → AreInOrder IsRequestPart parts (words_before rest) → ⊥) →
      (asked : AskedFields) → IsRequestLine asked words → ⊥
  no_parts none asked h =
      none h.parts (subst (λ (l : List (List ℕ)). AreInOrder IsRequestPart h.parts (words_before l))
      (sym (same_words asked h).1) h.parts_are)

  module _ (mid asked : AskedFields)
      (adds : AddsParts IsRequestPart with_request_part (words_before rest) (only_errand errand) mid)
      (files : asked ≡ fold with_request_part mid (map file (words_behind rest))) where
    all_asked : asked ≡ fold with_request_part (only_errand errand) (adds.0 ++ map file (words_behind rest))
    all_asked =
        files ∙ ap (λ (m : AskedFields). fold with_request_part m (map file (words_behind rest))) adds.2
        ∙ sym (fold-append with_request_part (only_errand errand) adds.0 (map file (words_behind rest)))

    -- they ask this
    pub asks : SuitsErrand asked → IsRequestLine asked words
    asks suits = record {
      errand = errand;
      rest = rest;
      words_are = words_are;
      parts = adds.0;
      parts_are =
          adds.1;
      asks = all_asked;
      suits = suits;
    }

    -- they ask nothing else
    pub only : (other : AskedFields) → IsRequestLine other words → other ≡ asked
    only other h =
        let same = same_words other h in
        let parts = one_list request_grammar request_clear adds.0 h.parts (words_before rest) adds.1
        (subst (λ (l : List (List ℕ)). AreInOrder IsRequestPart h.parts (words_before l)) (sym same.1)
        h.parts_are) in
        h.asks
        ∙ ap (λ (e : Errand). fold with_request_part (only_errand e) (h.parts ++ map file (words_behind h.rest)))
        (sym same.0)
        ∙ ap (λ (l : List RequestPart). fold with_request_part (only_errand errand)
        (l ++ map file (words_behind h.rest))) parts
        ∙ ap (λ (l : List (List ℕ)). fold with_request_part (only_errand errand) (adds.0 ++ map file (words_behind l)))
        (sym same.1)
        ∙ sym all_asked

    -- for a reason that is told
    pub reason_told : (misuse : Misuse) → IsErrandReason misuse asked → IsUnsuitedRequest misuse errand rest
    reason_told misuse reason =
        record { parts = adds.0; parts_are = adds.1; asked = asked; asks = all_asked; reason = reason }

    -- what they ask doesn't suit their errand
    pub unsuited : (SuitsErrand asked → ⊥) → (other : AskedFields) → IsRequestLine other words → ⊥
    unsuited not other h = not (subst SuitsErrand (only other h) h.suits)
