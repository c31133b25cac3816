-- What is found of a certificate beyond its fields.
use Rattle.std.specs.Prelude.{Bool, Option, Some, None}
use Rattle.rpki_cert.specs.Certificates.{CertFields}
use Rattle.rpki_ext.specs.declared.inspection.InspectionError.{InspectionError}
use Rattle.rpki_cert.specs.declared.inspect.Kind.{Kind}
use Rattle.rpki_cert.specs.declared.inspect.Kind.TheVariants.{Anchor, Authority, EndEntity, Detached, Router}
use Rattle.rpki_cert.specs.Profiles.{MeetsProfile, IsFirstFault}
use Rattle.rpki_cert.specs.SaidKinds.{IsKindOf}
use Rattle.rpki_text.specs.KeyTexts.{IsKeyAnswer}
use Rattle.rpki_text.specs.declared.certificate.Answers.{Answers}
use Rattle.rpki_text.specs.declared.certificate.Findings.{Findings}

-- ---- what inspection answers

-- nothing where the profile of the kind is met, else the first fault
abbrev pub IsProfileAnswer : Kind → Bool → CertFields → Option InspectionError → Type 0
IsProfileAnswer kind strict c None = MeetsProfile kind strict c
IsProfileAnswer kind strict c (Some fault) = IsFirstFault kind strict c fault

-- the answers for the five kinds
pub record AreAnswers (strict : Bool) (c : CertFields) (a : Answers) : Type 0 where
  pub anchor : IsProfileAnswer Anchor strict c a.anchor
  pub authority : IsProfileAnswer Authority strict c a.authority
  pub end_entity : IsProfileAnswer EndEntity strict c a.end_entity
  pub detached : IsProfileAnswer Detached strict c a.detached
  pub router : IsProfileAnswer Router strict c a.router

-- the answer of a kind's profile
abbrev pub answer_for : Kind → Answers → Option InspectionError
answer_for Anchor a = a.anchor
answer_for Authority a = a.authority
answer_for EndEntity a = a.end_entity
answer_for Detached a = a.detached
answer_for Router a = a.router

-- what is found of a certificate beyond its fields: what it is, what inspection answers, and what
-- its key is
pub record AreFindings (strict : Bool) (c : CertFields) (found : Findings) : Type 0 where
  pub kind_is : IsKindOf found.kind strict c
  pub answers_are : AreAnswers strict c found.answers
  pub key_is : IsKeyAnswer c.fields.key found.key
