use Rattle.std.proofs.Common.{⊎_elim, ◌∙◌, inl, subst, sym}
use Rattle.std.proofs.lemmas.Bool.{false≢true}
use Rattle.rpki_files.specs.Contents.{IsContent}
use Rattle.rpki_files.specs.declared.contents.Content.{Content}
use Rattle.rpki_files.proofs.FoundOctets.{kept_list, some_or_none}
use Rattle.rpki_files.proofs.bare.front_of.Goals as goal

pub returns-then-is_some : goal.returns-then-is_some
returns-then-is_some c = λ octets is.
    let whole = some_or_none c.whole_list.result (c.whole_list.ensures octets is) (λ l own. (l.now.list, own)) in
    kept_list octets c.args.content.now is (whole.0 (sym c.is_some.ensures ∙ c.if-is_some.true))

pub returns-in-List : goal.returns-in-List
returns-in-List c = λ octets is.
    let whole = some_or_none c.whole_list.result (c.whole_list.ensures octets is) (λ l own. (l.now.list, own)) in
    let none = ⊎_elim (λ list begins. (subst (λ (it : Content). IsContent octets it) list.2 is).1 begins)
    (λ other begins. (subst (λ (it : Content). IsContent octets it) other.1 is).1 (inl begins)) c.in-List.is in
    (none, λ list. false≢true (sym c.if-is_some.false ∙ c.is_some.ensures ∙ whole.1 list))
