-- What is told of words that ask for nothing to be prepared or completed.
use Rattle.rpki_requests.specs.RequestMisuses.{HasWrongCount, IsErrandReason}
use Rattle.rpki_requests.specs.RequestWords.{AskedFields}
use Rattle.rpki_requests.specs.declared.words.Misuse.{Misuse}
use Rattle.rpki_requests.specs.declared.words.Misuse.TheVariants.{NoErrand, UnknownErrand, Unknown, NoValue}
use Rattle.rpki_requests.specs.declared.words.Misuse.TheVariants.{Unsuited, UnsuitedSwitch, Missing, Repeated}
use Rattle.rpki_requests.specs.declared.words.Misuse.TheVariants.{Files, Memory}

-- what is told of an option that stands so often is a reason
pub reason_of : (misuse : Misuse) (asked : AskedFields) → HasWrongCount misuse asked → IsErrandReason misuse asked
reason_of NoErrand asked h = h
reason_of (UnknownErrand word) asked h = h
reason_of (Unknown word) asked h = h
reason_of (NoValue setting) asked h = h
reason_of (Unsuited setting) asked h = h
reason_of (UnsuitedSwitch given) asked h = absurd h.1
reason_of (Missing setting) asked h = h
reason_of (Repeated setting) asked h = h
reason_of Files asked h = absurd h.1
reason_of Memory asked h = h
