use Rattle.std.proofs.Common.{◌++◌, [], List, ℕ, subst}
use Rattle.rpki_lines.specs.TextLines.{IsWithout}
use Rattle.rpki_lines.proofs.Splits.{words_of, other_form, stands_in, none_where}
use Rattle.rpki_lines.proofs.lines.split_words.Goals as goal

pub returns-then-ne-clause-none : goal.returns-then-ne-clause-none
returns-then-ne-clause-none c = λ list serial without e.
    other_form c.in_ok-form.form.now c.if-ne.ensures
    (words_of c.args.line.now c.in_ok-form.form.now c.in_ok-form.words.now list serial c.in_ok-form.ensures.first
    c.in_ok-form.ensures.parts e).0

pub returns-clause-none : goal.returns-clause-none
returns-clause-none c =
    none_where c.split_once-2.result
    (λ (none : IsWithout 32 c.in_ok-form.words.now) list serial without e.
    let words = words_of c.args.line.now c.in_ok-form.form.now c.in_ok-form.words.now list serial
    c.in_ok-form.ensures.first c.in_ok-form.ensures.parts e in
    stands_in 32 list (serial ++ []) (subst (λ (w : List ℕ). IsWithout 32 w) words.1 none))
    c.split_once-2.ensures.none
