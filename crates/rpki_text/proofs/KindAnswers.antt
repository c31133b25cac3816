-- What inspection answers, of its results.
use Rattle.std.specs.Prelude.{Bool, OnOk, IfErr}
use Rattle.std.proofs.Common.{Result, Ok, Err}
use Rattle.std.specs.Result.{result_err}
use Rattle.rpki_ext.specs.declared.inspection.InspectionError.{InspectionError}
use Rattle.rpki_cert.specs.Certificates.{CertFields}
use Rattle.rpki_cert.specs.Profiles.{MeetsProfile, IsFirstFault}
use Rattle.rpki_cert.specs.declared.inspect.Kind.{Kind}
use Rattle.rpki_text.specs.CertificateTexts.{IsProfileAnswer}

-- the fault of a result, or nothing
pub answer_is : {X : Type 0} (kind : Kind) (strict : Bool) (c : CertFields) (r : Result X InspectionError)
    → OnOk r (MeetsProfile kind strict c) → IfErr r (IsFirstFault kind strict c) → IsProfileAnswer kind strict c (result_err r)
answer_is kind strict c (Ok x) meets fault = meets
answer_is kind strict c (Err e) meets fault = fault
