-- What a caller asks of a path, by octets, lengths and numbers (own).
use Rattle.std.specs.Prelude.{◌≡◌, ◌≢◌, ◌↔◌, ℕ, Bool, true, false, IsTrue}
use Rattle.rpki_der.specs.Times.{IsMoment}
use Rattle.rpki_cert.specs.declared.inspect.Kind.{Kind}
use Rattle.rpki_cert.specs.declared.inspect.Kind.TheVariants.{Anchor, Authority, EndEntity, Detached, Router}
use Rattle.rpki_c.specs.TimeParts.{moment_of_parts}
use Rattle.rpki_c.specs.declared.question.RpkiQuestion.{RpkiQuestion}
use Rattle.rpki_c.specs.declared.question.Terms.{Terms}

-- how many octets a question has in the caller's memory
abbrev pub question_size : ℕ
question_size = 120

-- the number of a kind of certificates
abbrev pub kind_number : Kind → ℕ
kind_number Anchor = 0
kind_number Authority = 1
kind_number EndEntity = 2
kind_number Detached = 3
kind_number Router = 4

-- what is asked has the number 0, and what is left out 1
abbrev pub choice_number : Bool → ℕ
choice_number true = 0
choice_number false = 1

-- the path of the question is judged so
pub record HasTerms (q : RpkiQuestion) (t : Terms) : Type 0 where
  pub size_is : q.size ≡ question_size
  pub last_is : q.last ≡ kind_number t.last
  pub strict_is : IsTrue t.strict ↔ (q.strict ≢ 0)
  pub now_is : t.now ≡ moment_of_parts q.moment
  pub now_exists : IsMoment t.now
  pub lists_is : q.revocation ≡ choice_number t.asks_lists
  pub locator_is : q.anchor ≡ choice_number t.asks_locator
  pub key_is : q.key ≡ choice_number t.asks_key
  pub names_is : q.names ≡ choice_number t.asks_names

-- no kind, moment or choice has its numbers, or it is a question of another size
abbrev pub HasNoTerms : RpkiQuestion → Type 0
HasNoTerms q = (t : Terms) → HasTerms q t → ⊥
