-- What was appended, made the content of a value where it stands.
use Rattle.std.proofs.Common.{◌≡◌, ◌≢◌, ◌^◌, ◌≤◌, ◌++◌, ℕ, List, true, length, take, drop, Result, refl, sym, ap, ◌∙◌, arith}
use Rattle.std.specs.Prelude.{IsErrOf}
use Rattle.std.proofs.lemmas.List.{take_at, drop_at}
use Rattle.rpki_der.specs.Extensions.{extension_part}
use Rattle.rpki_der.specs.Tags.{CONTEXT_CONSTRUCTED, SEQUENCE}
use Rattle.rpki_der.specs.Values.{enc, sequence}
use Rattle.rpki_der.specs.Writers.{SaysLong}
use Rattle.rpki_der.specs.declared.error.EncodeError.{EncodeError}
use Rattle.rpki_der.specs.declared.error.EncodeError.TheVariants.{TooLong}
use Rattle.rpki_der.proofs.ValueWritten.{enc_longer}
use Rattle.rpki_blocks.specs.Addresses.{family, ip_addr_blocks}
use Rattle.rpki_blocks.specs.ResourceExtensions.{critical}
use Rattle.rpki_blocks.specs.Resources.{Resources, missing, inherit, blocks}
use Rattle.rpki_blocks.specs.Systems.{as_block, written_as}
use Rattle.rpki_blocks.specs.Unions.{text_of, written_choice}

-- what was appended stands behind the start
behind : (start : ℕ) (old c out : List ℕ) → start ≡ length old → out ≡ old ++ c → drop start out ≡ c
behind start old c out here is = rw is (drop_at old c start (sym here))

-- what stood there stands before the start
before : (start : ℕ) (old c out : List ℕ) → start ≡ length old → out ≡ old ++ c → take start out ≡ old
before start old c out here is = rw is (take_at old c start (sym here))

-- once it is enclosed, a value was appended
pub enclosed : (t start : ℕ) (old c out new : List ℕ) → start ≡ length old → out ≡ old ++ c →
    new ≡ take start out ++ enc t (drop start out) → new ≡ old ++ enc t c
enclosed t start old c out new here is e = e ∙ rw (before start old c out here is, behind start old c out here is) refl

-- what was too long to be enclosed makes a value that is too long
pub enclosed_long : {T : Type 0} (r : Result T EncodeError) (t start : ℕ) (old c out : List ℕ) →
    (IsErrOf r TooLong → 2 ^ 32 ≤ length (drop start out)) → start ≡ length old → out ≡ old ++ c →
    SaysLong r (enc t c)
enclosed_long r t start old c out says here is = λ e.
    let long : 2 ^ 32 ≤ length (drop start out) = says e in
    omega (arith, long, ap length (behind start old c out here is), enc_longer t c)

-- ---- extensions

-- the extension of AS numbers that are there
pub as_there : (id : List ℕ) (r : Resources) → r ≢ missing →
    critical id (written_as r) ≡
    extension_part id true (enc SEQUENCE (enc (CONTEXT_CONSTRUCTED 0) (text_of (written_choice as_block r))))
as_there id missing there = absurd (there refl)
as_there id inherit there = refl
as_there id (blocks bs) there = refl

-- the extension of addresses of which some are there
pub ip_there : (id : List ℕ) (v4 v6 : Resources) → (v4 ≡ missing → v6 ≢ missing) →
    critical id (ip_addr_blocks v4 v6) ≡ extension_part id true (sequence (family 1 v4 ++ family 2 v6))
ip_there id missing missing there = absurd (there refl refl)
ip_there id missing inherit there = refl
ip_there id missing (blocks bs) there = refl
ip_there id inherit v6 there = refl
ip_there id (blocks bs) v6 there = refl
