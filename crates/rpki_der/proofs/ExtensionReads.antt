-- An extension is read as it is encoded.
use Rattle.std.proofs.Common.{ℕ, List, refl, arith}
use Rattle.rpki_der.specs.Values.{AreOctets}
use Rattle.rpki_der.specs.Reading.{Reads}
use Rattle.rpki_der.specs.Extensions.{Extension, IsExtension, extension_format}
use Rattle.rpki_der.specs.Sequences.Reading.{Shrinks}
use Rattle.rpki_der.proofs.FormatAnswers.{IsAlone, alone_reads, format_laws}

-- anything may follow an Extension
pub extension_alone : IsAlone extension_format
unfolding extension_format
extension_alone = record { law = search format_laws; none = refl }

-- an Extension is read as it is encoded
pub extension_reads : Reads extension_format.read IsExtension
extension_reads = alone_reads extension_format extension_alone

-- reading an Extension uses octets up
pub extension_shrinks : Shrinks extension_format.read
unfolding extension_format
extension_shrinks octets x rest e = omega (arith, extension_alone.law.shorter octets x rest e)

-- the content of an extension is octets
abbrev pub HasOctets : Extension → Type 0
HasOctets x = AreOctets x.content

-- an encoded Extension consists of octets
pub extension_octets : (x : Extension) (text : List ℕ) → IsExtension x text → HasOctets x
unfolding extension_format
extension_octets x text (content, (identifier, more, is, (flag, octets, flag_is, octets_are, e), whole), enc) = octets_are.octets
