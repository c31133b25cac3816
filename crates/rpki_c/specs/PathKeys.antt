-- The keys of a path, as they are gathered: each certificate's own, and the one that it names as its
-- issuer's.
use Rattle.std.specs.Prelude.{◌↔◌, ℕ, List, [], ◌∷◌, Contains, Option, Some, None}
use Rattle.rpki_cert.specs.Certificates.{CertFields}
use Rattle.rpki_c.specs.Verdicts.{IsKeyOf}

-- these are the keys of the certificates that the strings begin with
abbrev pub AreKeysOf : List (List ℕ) → List (List ℕ) → Type 0
AreKeysOf strings keys = (key : List ℕ) → Contains keys key ↔ IsKeyOf strings key

-- what is there, as a list
abbrev pub key_named : Option (List ℕ) → List (List ℕ)
key_named (Some key) = key ∷ []
key_named None = []

-- those of one certificate
abbrev pub keys_in : CertFields → List (List ℕ)
keys_in c =
    c.fields.extensions.subject_key_identifier
    ∷ key_named c.fields.extensions.authority_key_identifier
