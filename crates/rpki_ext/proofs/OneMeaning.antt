-- What is read in one way means one value.
use Rattle.std.proofs.Common.{ℕ, List, ◌++◌, Option, refl, sym, ap, ◌∙◌}
use Rattle.std.proofs.lemmas.List.{append_cancel_right}
use Rattle.rpki_der.specs.Values.{IsUnambiguous}
use Rattle.rpki_der.specs.Reading.{Reads}
use Rattle.rpki_der.proofs.Readings.{one_reading}
use Rattle.rpki_ext.specs.Kinds.{HasOneMeaning}

-- a content that is read lawfully means one value
pub one_meaning : {V : Type 0} (read : List ℕ → Option (V × List ℕ)) (encodes : V → List ℕ → Type 0) →
    Reads read encodes → HasOneMeaning encodes
one_meaning read encodes law content v w p q =
    (one_reading read encodes law content v w p.0 q.0 p.1 q.1).0

-- a format that is read lawfully is unambiguous
pub unambiguous : {V : Type 0} (read : List ℕ → Option (V × List ℕ)) (encodes : V → List ℕ → Type 0) →
    Reads read encodes → IsUnambiguous encodes
unambiguous read encodes law v w a b x y p q e =
    let one = one_reading read encodes law (a ++ x) v w x y (record { text = a; encoded = p; parts = refl })
    (record { text = b; encoded = q; parts = e }) in
    (one.0, append_cancel_right a b x (e ∙ ap (λ (t : List ℕ). b ++ t) (sym one.1)))
