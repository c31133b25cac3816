-- What is answered of a path, from what is accepted and what is wrong.
use Rattle.std.proofs.Common.{Result, Ok, Err, IfOk, IfErr, ℕ, List}
use Rattle.rpki_der.specs.Values.{IsUnambiguous}
use Rattle.rpki_cert.specs.Certificates.{IsCertificate}
use Rattle.rpki_cert.specs.Verification.{Context, ResourceFields}
use Rattle.rpki_path.specs.Asking.{RevocationChecks, nobody}
use Rattle.rpki_path.specs.Paths.{Candidate, IsAccepted, IsFault, IsUnasked, Validates}
use Rattle.rpki_path.specs.declared.path_fault.PathError.{PathError}
use Rattle.rpki_path.proofs.Rejections.{no_valid_path, unasked}

-- what an accepted or rejected path means, in terms of the headline
pub headline : (x : Context) (asked : RevocationChecks) → IsUnambiguous IsCertificate →
    (anchor : List ℕ) (below : List Candidate) (tal : List ℕ) (r : Result ResourceFields PathError) →
    IfOk r (IsAccepted x asked anchor below tal) → IfErr r (IsFault x asked anchor below) →
    Validates x asked anchor below tal r
headline x asked law anchor below tal (Ok r) ok named = ok
headline x asked law anchor below tal (Err e) ok named = no_valid_path x asked law anchor below e named

-- where nobody is asked, no fault is one of revocation
pub never_asked : (x : Context) (anchor : List ℕ) (below : List Candidate) (r : Result ResourceFields PathError) →
    IfErr r (IsFault x nobody anchor below) → IfErr r (λ e. IsUnasked e.fault)
never_asked x anchor below (Ok r) named = tt
never_asked x anchor below (Err e) named = unasked x anchor below e named
