-- Lemmas of the proofs about texts for a person.

-- ---- certificates and lists as text
mod CountedValues
mod DigitPlaces
mod KindAnswers
pub mod OneMoment
-- ---- notes and facts
mod LongSerials
mod OneValues
mod Walks
mod AnyValues
mod TwiceThere
mod Gathered
mod Written
mod Told
-- ---- the command line
mod AddedParts
mod AroundDashes
mod CommandParts
pub mod JoinedNames
mod OneRequest
pub mod PartsOfWords
mod UnsuitedRequests
pub mod WordByWord
mod WrongWords
