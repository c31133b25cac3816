-- What a caller is told of a certificate or a revocation list that is prepared or completed (own).
use Rattle.std.specs.Prelude.{◌≡◌, ℕ, List, length, Result, Ok, Err}
use Rattle.rpki_c.specs.Choices.{uri_number}
use Rattle.rpki_c.specs.FaultNumbers.{unissued_number}
use Rattle.rpki_c.specs.Telling.{refusal_place, told_place}
use Rattle.rpki_c.specs.Writing.{written_over}
use Rattle.rpki_c.specs.declared.issuing.RpkiIssued.{RpkiIssued}
use Rattle.rpki_c.specs.declared.question.RpkiQuestion.{RpkiQuestion}
use Rattle.rpki_c.specs.declared.unissued.Unissued.{Unissued}
use Rattle.rpki_c.specs.declared.unissued.Unissued.TheVariants as why

-- the place of what is wrong, below so many members: that of the path's; the number of a URI; and
-- else that of the certificate or the list, behind them all
abbrev pub unissued_place : ℕ → Unissued → ℕ
unissued_place members (why.Issuer r) = refusal_place members r
unissued_place members (why.BadUri which) = uri_number which
unissued_place members why.BadCall = 0
unissued_place members why.Memory = 0
unissued_place members _ = members

-- what is told of an answer below so many members: how many octets there are, or why there are none
abbrev pub issued_of : ℕ → Result (List ℕ) Unissued → RpkiIssued
issued_of members (Ok octets) = record { fault = 0; index = 0; count = length octets }
issued_of members (Err e) =
    record { fault = unissued_number e; index = told_place (unissued_place members e); count = 0 }

-- the octets of the answer stand in the caller's memory, as many as there is room for
abbrev pub AreOctetsPut : Result (List ℕ) Unissued → List ℕ → List ℕ → Type 0
AreOctetsPut (Ok octets) old new = new ≡ written_over octets old
AreOctetsPut (Err e) old new = new ≡ old

-- what is told of an answer below this path, and what then stands in the caller's memory
pub record IsToldIssued (Answers : Result (List ℕ) Unissued → Type 0) (q : RpkiQuestion)
    (old new : List ℕ) (told : RpkiIssued) : Type 0 where
  pub answer : Result (List ℕ) Unissued
  pub answers : Answers answer
  pub told_is : told ≡ issued_of (length q.members.lengths.now) answer
  pub put : AreOctetsPut answer old new
