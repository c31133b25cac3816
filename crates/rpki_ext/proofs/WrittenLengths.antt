-- How long what is written of extensions is.
use Rattle.std.proofs.Common.{◌≤◌, ℕ, ◌+◌, ◌-◌, List, [], ◌∷◌, ◌++◌, length, take, drop, arith}
use Rattle.std.proofs.lemmas.List.{length-append, take_rest}
use Rattle.rpki_der.specs.Tags.{SEQUENCE, OBJECT_IDENTIFIER}
use Rattle.rpki_der.specs.Values.{enc, nested}
use Rattle.rpki_ext.specs.GeneralNames.{uri_format}
use Rattle.rpki_ext.specs.ExtensionKinds.{description}
use Rattle.rpki_der.proofs.ValueWritten.{enc_longer}

-- a content isn't longer than inside tags
pub nested_longer : (tags b : List ℕ) → length b ≤ length (nested tags b)
nested_longer [] b = omega arith
nested_longer (t ∷ tags) b = omega (arith, nested_longer tags b, enc_longer t (nested tags b))

-- the octets behind the first
pub inner_longer : (tags b : List ℕ) → length (nested (take (length tags - 1) (drop 1 tags)) b) ≤ length (nested tags b)
inner_longer [] b = omega arith
inner_longer (t ∷ tags) b = rw (take_rest (t ∷ tags) 1) (enc_longer t (nested tags b))

-- both parts of a description
pub description_longer : (method uri : List ℕ) →
    length (enc OBJECT_IDENTIFIER method) + length (uri_format.written uri) ≤ length (description method uri)
description_longer method uri =
    omega (
      arith,
      enc_longer SEQUENCE (enc OBJECT_IDENTIFIER method ++ uri_format.written uri),
      length-append (enc OBJECT_IDENTIFIER method) (uri_format.written uri),
    )
