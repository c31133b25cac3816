-- Signatures, and what a verifier or a signer says of them.
use Rattle.std.specs.Prelude.{◌≡◌, ℕ, List, ◌++◌}
use Rattle.rpki_parts.specs.Algorithms.{Algorithm}
use Rattle.rpki_parts.specs.Keys.{KeyFields}

-- what a contract sees of a Signature
pub record SignatureFields : Type 0 where
  pub algorithm : Algorithm
  pub value : List ℕ

-- a relation of key, algorithm, message and the octets of a signature
abbrev pub Verifies : Type 1
Verifies = KeyFields → Algorithm → List ℕ → List ℕ → Type 0

-- the stand-in's relation (own): the key's bits, then the message. It protects nothing.
abbrev pub IsStandInSignature : Verifies
IsStandInSignature key algorithm message signature = signature ≡ key.bits ++ message
