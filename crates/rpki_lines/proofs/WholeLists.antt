-- A list of entries that is all of the octets is read, and one that is read is all of them.
use Rattle.std.specs.Prelude.{IsErr}
use Rattle.std.proofs.Common.{◌≡◌, List, [], Result, Ok, Err, sym, ℕ}
use Rattle.std.proofs.lemmas.List.{append-nil}
use Rattle.rpki_der.specs.Tags.{SEQUENCE}
use Rattle.rpki_der.specs.declared.error.DecodeError.{DecodeError}
use Rattle.rpki_der.specs.Place.{Rejects, MeansOrMemory}
use Rattle.rpki_der.specs.Encoding.{BeginsOrAbsent}
use Rattle.rpki_der.proofs.Answering.{rejects, certainly}
use Rattle.rpki_crl.specs.RevokedEntries.{IsRevokedCertificates, Revoked}

abbrev Begins : List ℕ → Revoked → List ℕ → Type 0
Begins = BeginsOrAbsent SEQUENCE IsRevokedCertificates

whole_begins : (octets : List ℕ) (r : Revoked) → IsRevokedCertificates r octets → Begins octets r []
whole_begins octets r is = record { text = octets; encoded = is; parts = sym (append-nil octets); absent = λ none. rw none tt }

-- an error where no list begins the octets is a true answer on the whole of them
pub list_rejected : (octets : List ℕ) (result : Result Revoked DecodeError) (d : DecodeError) → result ≡ Err d
    → Rejects d ((r : Revoked) (rest : List ℕ) → Begins octets r rest → ⊥) → MeansOrMemory IsRevokedCertificates result octets
list_rejected octets (Ok x) d e none = absurd cc
list_rejected octets (Err f) d e none =
    let same : f ≡ d = cc in
    rw same (rejects d (λ h r is. h r [] (whole_begins octets r is)) none)

-- no more than one list, with what follows it, begins these octets
abbrev pub IsOneList : Type 0
IsOneList = (r s : Revoked) (b rest tail : List ℕ) → Begins b r rest → Begins b s tail → (r ≡ s) × (rest ≡ tail)

-- an error where octets follow a list is a true answer on the whole of them
pub list_left : (octets : List ℕ) (result : Result Revoked DecodeError) (r : Revoked) (rest : List ℕ) → IsOneList → IsErr result
    → Begins octets r rest → (rest ≡ [] → ⊥) → MeansOrMemory IsRevokedCertificates result octets
list_left octets (Ok x) r rest one err begins some = absurd cc
list_left octets (Err f) r rest one err begins some =
    certainly f (λ s is. some (one r s octets rest [] begins (whole_begins octets s is)).1)
