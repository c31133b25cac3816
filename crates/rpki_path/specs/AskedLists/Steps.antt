-- What is found among the lists that were gone over.
use Rattle.std.specs.Prelude.{List, Option, Some, None, Contains}
use Rattle.rpki_cert.specs.Certificates.{CertFields}
use Rattle.rpki_crl.specs.Lists.{CrlState}
use Rattle.rpki_path.specs.AskedLists.{HaveNone, IsLatest}

-- a latest list with P, or that none has it
abbrev pub IsLatestIfAny : (CrlState → Type 0) → CertFields → List CrlState → Option CrlState
    → Type 0
IsLatestIfAny P c lists (Some l) = IsLatest P c lists l
IsLatestIfAny P c lists None = HaveNone P lists

-- a list with P, or that none has it
abbrev pub IsOneIfAny : (CrlState → Type 0) → List CrlState → Option CrlState → Type 0
IsOneIfAny P lists (Some l) = Contains lists l × P l
IsOneIfAny P lists None = HaveNone P lists

-- each of the lists that are such has P
abbrev pub EachHas : (CrlState → Type 0) → (CrlState → Type 0) → List CrlState → Type 0
EachHas IsSuch P lists = (l : CrlState) → Contains lists l → IsSuch l → P l
