use Rattle.std.specs.Prelude.{All}
use Rattle.std.proofs.Common.{take}
use Rattle.rpki_issuing.specs.IssuingRules.{CertifiesKey}
use Rattle.rpki_issuing.proofs.wanted.rules.is_no_key_of.Given as goal

-- none of the strings so far begins with a certificate of the key
abbrev pub invariant-loop-octets : goal.invariant-loop-octets
invariant-loop-octets l = All (λ octets. CertifiesKey l.key octets → ⊥) (take l.octets-index l.path)
