-- Validity periods (RFC 5280 4.1.2.5).
use Rattle.std.specs.Prelude.{ℕ, List}
use Rattle.rpki_der.specs.BasicFormats.{time_format}
use Rattle.rpki_der.specs.Formats.{Format, SEQUENCE_WITH, ◌∶◌, ◌⨟◌}
use Rattle.rpki_der.specs.Times.{Moment}

-- what a contract sees of a Validity; the order of the two isn't tested (own)
pub record ValidityFields : Type 0 where
  pub not_before : Moment
  pub not_after : Moment

-- Validity ::= SEQUENCE { notBefore Time, notAfter Time }   (RFC 5280 4.1)
unfoldable pub validity_format : Format ValidityFields
validity_format = SEQUENCE_WITH (λ x. record { not_before = x.0; not_after = x.1 })
    ((λ v. v.not_before) ∶ time_format
    ⨟ (λ v. v.not_after) ∶ time_format)

-- it is encoded so
abbrev pub IsValidity : ValidityFields → List ℕ → Type 0
IsValidity = validity_format.encodes

-- the encoding of a Validity
abbrev pub validity : ValidityFields → List ℕ
validity = validity_format.written
