-- The qualifiers of Certificate Policies.
use Rattle.std.specs.Prelude.{ℕ, List}
use Rattle.rpki_der.specs.Identifiers.{pkix}

-- id-qt-cps: 1.3.6.1.5.5.7.2.1 (RFC 5280 4.2.1.4)
abbrev pub id_qt_cps : List ℕ
id_qt_cps = pkix 0x02 0x01
