-- Numbers of a question that no terms have.
use Rattle.std.proofs.Common.{◌≢◌, ◌<◌, Bool, true, false, arith, subst}
use Rattle.rpki_der.specs.Times.{IsMoment}
use Rattle.rpki_cert.specs.declared.inspect.Kind.{Kind}
use Rattle.rpki_cert.specs.declared.inspect.Kind.TheVariants.{Anchor, Authority, EndEntity, Detached, Router}
use Rattle.rpki_c.specs.Questions.{question_size, kind_number, choice_number, HasNoTerms}
use Rattle.rpki_c.specs.TimeParts.{moment_of_parts}
use Rattle.rpki_c.specs.declared.question.RpkiQuestion.{RpkiQuestion}

pub kind_small : (k : Kind) → kind_number k < 5
kind_small Anchor = omega arith
kind_small Authority = omega arith
kind_small EndEntity = omega arith
kind_small Detached = omega arith
kind_small Router = omega arith

pub choice_small : (b : Bool) → choice_number b < 2
choice_small true = omega arith
choice_small false = omega arith

pub no_size : (q : RpkiQuestion) → q.size ≢ question_size → HasNoTerms q
no_size q h t terms = h terms.size_is

pub no_kind : (q : RpkiQuestion) → 4 < q.last → HasNoTerms q
no_kind q h t terms = omega (arith, h, terms.last_is, kind_small t.last)

pub no_moment : (q : RpkiQuestion) → (IsMoment (moment_of_parts q.moment) → ⊥) → HasNoTerms q
no_moment q h t terms = h (subst IsMoment terms.now_is terms.now_exists)

pub no_revocation : (q : RpkiQuestion) → 1 < q.revocation → HasNoTerms q
no_revocation q h t terms = omega (arith, h, terms.lists_is, choice_small t.asks_lists)

pub no_anchor : (q : RpkiQuestion) → 1 < q.anchor → HasNoTerms q
no_anchor q h t terms = omega (arith, h, terms.locator_is, choice_small t.asks_locator)

pub no_key : (q : RpkiQuestion) → 1 < q.key → HasNoTerms q
no_key q h t terms = omega (arith, h, terms.key_is, choice_small t.asks_key)

pub no_names : (q : RpkiQuestion) → 1 < q.names → HasNoTerms q
no_names q h t terms = omega (arith, h, terms.names_is, choice_small t.asks_names)
