use Rattle.std.specs.Prelude.{slice_get, Some}
use Rattle.std.specs.Option.{option_copied}
use Rattle.std.proofs.Common.{◌≡◌, ◌-◌, ◌∙◌, ℕ, zero, suc, List, [], ◌∷◌, length, ap, sym, arith}
use Rattle.rpki_folder.specs.LimitTables.{ca_at}
use Rattle.rpki_folder.proofs.limits.LimitTable.ca_at.Goals as goal

-- the last of several places
last_at : (start p : ℕ) (above : List ℕ) (i n : ℕ) → i ≡ length above → slice_get (p ∷ above) i ≡ Some n →
    ca_at start (p ∷ above) ≡ n
last_at start p [] zero n at got = cc
last_at start p [] (suc i) n at got = absurd (omega (arith, at))
last_at start p (q ∷ above) zero n at got = absurd (omega (arith, at))
last_at start p (q ∷ above) (suc i) n at got = last_at p q above i n (omega (arith, at)) got

last_is : (start : ℕ) (above : List ℕ) (n : ℕ) → slice_get above (length above - 1) ≡ Some n → ca_at start above ≡ n
last_is start [] n got = absurd cc
last_is start (p ∷ above) n got = last_at start p above (length (p ∷ above) - 1) n (omega arith) got

pub returns-in-Some : goal.returns-in-Some
returns-in-Some c =
    let place = c.in-Some.place.now in
    sym (last_is c.args.self.now.start c.args.above.now place
    (sym c.last.ensures.value ∙ ap (λ o. option_copied o) c.in-Some.is))
