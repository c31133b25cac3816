-- Files behind `--` that are added to what is asked.
use Rattle.std.specs.Prelude.{fold, map}
use Rattle.std.specs.declared.vec.Vec.{Vec}
use Rattle.std.proofs.Common.{◌≡◌, ℕ, ◌+◌, ◌<◌, List, [], ◌∷◌, ◌++◌, length, get_or, take, sym, ap, ◌∙◌}
use Rattle.std.proofs.lemmas.List.{map-append}
use Rattle.std.proofs.lemmas.List.Sums.{fold_push}
use Rattle.rpki_text.specs.CommandLines.Views.{word_octets}
use Rattle.rpki_text.proofs.WordByWord.{words_more}
use Rattle.rpki_requests.specs.RequestWords.{AskedFields, RequestPart, file, with_request_part}

-- one more of them
pub files_more : {Z : Type 0} (words : List (Vec ℕ Z)) (i : ℕ) (word : Vec ℕ Z) → i < length words →
    word ≡ get_or words i word → (start so_far new : AskedFields) (text : List ℕ) → text ≡ word.items →
    so_far ≡ fold with_request_part start (map file (word_octets (take i words))) →
    new ≡ with_request_part so_far (file text) →
    new ≡ fold with_request_part start (map file (word_octets (take (i + 1) words)))
files_more words i word low there start so_far new text text_is is added =
    let before = map file (word_octets (take i words)) in
    let more : map file (word_octets (take (i + 1) words)) ≡ before ++ file word.items ∷ [] =
    ap (λ (l : List (List ℕ)). map file l) (words_more words i word low there) ∙
    map-append file (word_octets (take i words)) (word.items ∷ []) in
    added ∙ ap (λ (t : List ℕ). with_request_part so_far (file t)) text_is ∙
    ap (λ (a : AskedFields). with_request_part a (file word.items)) is
    ∙ sym (fold_push with_request_part start before (file word.items))
    ∙ ap (λ (l : List RequestPart). fold with_request_part start l) (sym more)
