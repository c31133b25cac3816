-- Refusals by cases: what is known of one says more of it.
use Rattle.std.specs.Prelude.{Result, Ok, Err}
use Rattle.std.proofs.Common.{◌≡◌, ◌≢◌, ◌⊎◌, inl, inr, ℕ, List, refl, sym, subst, ◌∙◌}
use Rattle.rpki_cert.specs.Certificates.{TbsFields}
use Rattle.rpki_cert.specs.declared.inspect.Kind.{Kind}
use Rattle.rpki_der.specs.Times.{Moment}
use Rattle.rpki_issuing.specs.declared.wanted.preparing.WantedError.{WantedError}
use Rattle.rpki_requests.specs.RefusedErrands.{IsAskedListFault, IsFieldsFault, IsSoAs, MayNotFollow}
use Rattle.rpki_requests.specs.Refusals.{AnswersOnly, AnswersOnlyBy, IsPathless}
use Rattle.rpki_requests.specs.RequestFiles.{InputFields}
use Rattle.rpki_requests.specs.RequestWords.{AskedFields, OptionFields}
use Rattle.rpki_requests.specs.ToldRefusals.{IsDataFault, IsKeyFault, IsUnfit, IsUnsaid, IsValueOf, HasListValue}
use Rattle.rpki_requests.specs.ToldRefusals.{HasOptionValue}
use Rattle.rpki_requests.specs.declared.refusals.Refusal.{Refusal}
use Rattle.rpki_requests.specs.declared.refusals.Refusal.TheVariants.{Value, NoKey, UnusedKey, Rejected}
use Rattle.rpki_requests.specs.declared.refusals.Refusal.TheVariants.{NoAuthority, OtherCrl, NoIssuer, OtherList}
use Rattle.rpki_requests.specs.declared.refusals.Refusal.TheVariants.{OtherCertificate, NoName, Files, NotToSign}
use Rattle.rpki_requests.specs.declared.refusals.Refusal.TheVariants.{OtherName, Unfit, Memory}
use Rattle.rpki_requests.specs.declared.words.Errand.{Errand}
use Rattle.rpki_requests.specs.declared.words.Errand.TheVariants as errand
use Rattle.rpki_requests.specs.declared.words.Setting.{Setting}

-- unless memory ran out, it is that
pub value_is : (setting : Setting) (why : Refusal) → why ≢ Memory → IsValueOf setting why → why ≡ Value setting
value_is setting (Value other) not of = λ i. Value (of i)
value_is setting Memory not of = absurd (not refl)
value_is setting NoKey not of = absurd of
value_is setting (UnusedKey format) not of = absurd of
value_is setting (Rejected fault) not of = absurd of
value_is setting NoAuthority not of = absurd of
value_is setting (OtherCrl place) not of = absurd of
value_is setting NoIssuer not of = absurd of
value_is setting OtherList not of = absurd of
value_is setting (OtherCertificate place) not of = absurd of
value_is setting NoName not of = absurd of
value_is setting Files not of = absurd of
value_is setting NotToSign not of = absurd of
value_is setting (OtherName place) not of = absurd of
value_is setting (Unfit e) not of = absurd of

-- the options of an errand
module _ (Has : Setting → Type 0) where
  -- an option that says nothing has no value that it takes
  pub value_told : {V : Type 0} (setting : Setting) (Is : V → Type 0) (why : Refusal) →
      (Has setting → (v : V) × Is v) → IsValueOf setting why → (why ≢ Memory → (v : V) → Is v → ⊥) →
      IsUnsaid Has why
  value_told setting Is (Value other) has of none = λ such.
      let found = has (subst (λ (t : Setting). Has t) of such) in
      let known : Value other ≢ Memory = λ is. cc in
      none known found.0 found.1
  value_told setting Is Memory has of none = tt
  value_told setting Is NoKey has of none = absurd of
  value_told setting Is (UnusedKey format) has of none = absurd of
  value_told setting Is (Rejected fault) has of none = absurd of
  value_told setting Is NoAuthority has of none = absurd of
  value_told setting Is (OtherCrl place) has of none = absurd of
  value_told setting Is NoIssuer has of none = absurd of
  value_told setting Is OtherList has of none = absurd of
  value_told setting Is (OtherCertificate place) has of none = absurd of
  value_told setting Is NoName has of none = absurd of
  value_told setting Is Files has of none = absurd of
  value_told setting Is NotToSign has of none = absurd of
  value_told setting Is (OtherName place) has of none = absurd of
  value_told setting Is (Unfit e) has of none = absurd of

  pub told : {V : Type 0} (setting : Setting) (Is : V → Type 0) (r : Result V Refusal) →
      (Has setting → (v : V) × Is v) → AnswersOnly (IsValueOf setting) Is r → AnswersOnly (IsUnsaid Has) Is r
  told setting Is (Ok v) has answers = answers
  told setting Is (Err why) has answers = (value_told setting Is why has answers.0 answers.1, answers.1)

  -- the same of an answer that is seen by view
  pub told_by : {X V : Type 0} (setting : Setting) (view : X → V) (Is : V → Type 0) (r : Result X Refusal) →
      (Has setting → (v : V) × Is v) → AnswersOnlyBy (IsValueOf setting) view Is r →
      AnswersOnlyBy (IsUnsaid Has) view Is r
  told_by setting view Is (Ok x) has answers = answers
  told_by setting view Is (Err why) has answers = (value_told setting Is why has answers.0 answers.1, answers.1)

  -- it says nothing of the issuer's path
  unsaid_pathless : (why : Refusal) → IsUnsaid Has why → IsPathless why
  unsaid_pathless (Value setting) h = tt
  unsaid_pathless Memory h = tt
  unsaid_pathless NoKey h = absurd h
  unsaid_pathless (UnusedKey format) h = absurd h
  unsaid_pathless (Rejected fault) h = absurd h
  unsaid_pathless NoAuthority h = absurd h
  unsaid_pathless (OtherCrl place) h = absurd h
  unsaid_pathless NoIssuer h = absurd h
  unsaid_pathless OtherList h = absurd h
  unsaid_pathless (OtherCertificate place) h = absurd h
  unsaid_pathless NoName h = absurd h
  unsaid_pathless Files h = absurd h
  unsaid_pathless NotToSign h = absurd h
  unsaid_pathless (OtherName place) h = absurd h
  unsaid_pathless (Unfit e) h = absurd h

-- ---- nothing of the issuer's path

-- what one is that says nothing of it
is_pathless : (why other : Refusal) → why ≡ other → IsPathless other → IsPathless why
is_pathless why other is pathless = subst IsPathless (sym is) pathless

key_pathless : (keys : List (List ℕ)) (why : Refusal) → IsKeyFault keys why → IsPathless why
key_pathless keys NoKey h = tt
key_pathless keys (UnusedKey format) h = tt
key_pathless keys Memory h = tt
key_pathless keys (Value setting) h = absurd h
key_pathless keys (Rejected fault) h = absurd h
key_pathless keys NoAuthority h = absurd h
key_pathless keys (OtherCrl place) h = absurd h
key_pathless keys NoIssuer h = absurd h
key_pathless keys OtherList h = absurd h
key_pathless keys (OtherCertificate place) h = absurd h
key_pathless keys NoName h = absurd h
key_pathless keys Files h = absurd h
key_pathless keys NotToSign h = absurd h
key_pathless keys (OtherName place) h = absurd h
key_pathless keys (Unfit e) h = absurd h

pub data_pathless : (octets : List ℕ) (why : Refusal) → IsDataFault octets why → IsPathless why
data_pathless octets NotToSign h = tt
data_pathless octets (UnusedKey format) h = tt
data_pathless octets Memory h = tt
data_pathless octets (Value setting) h = absurd h
data_pathless octets NoKey h = absurd h
data_pathless octets (Rejected fault) h = absurd h
data_pathless octets NoAuthority h = absurd h
data_pathless octets (OtherCrl place) h = absurd h
data_pathless octets NoIssuer h = absurd h
data_pathless octets OtherList h = absurd h
data_pathless octets (OtherCertificate place) h = absurd h
data_pathless octets NoName h = absurd h
data_pathless octets Files h = absurd h
data_pathless octets (OtherName place) h = absurd h
data_pathless octets (Unfit e) h = absurd h

pub fields_pathless : (kind : Kind) (given : List OptionFields) (keys : List (List ℕ)) (why : Refusal) →
    IsFieldsFault kind given keys why → IsPathless why
fields_pathless kind given keys why (inl option) = unsaid_pathless (HasOptionValue given) why option
fields_pathless kind given keys why (inr (inl key)) = key_pathless keys why key
fields_pathless kind given keys why (inr (inr name)) = is_pathless why NoName name.0 tt

unfit_pathless : (Is : WantedError → Type 0) (why : Refusal) → IsUnfit Is why → IsPathless why
unfit_pathless Is why (inl memory) = is_pathless why Memory memory tt
unfit_pathless Is why (inr unfit) = is_pathless why (Unfit unfit.0) unfit.1 tt

pub list_pathless : (given : List OptionFields) (inputs : InputFields) (at : Moment) (issuer : TbsFields)
    (why : Refusal) → IsAskedListFault given inputs at issuer why → IsPathless why
list_pathless given inputs at issuer why (inl other) = is_pathless why OtherList other.0 tt
list_pathless given inputs at issuer why (inr (inl (inl option))) = unsaid_pathless (HasListValue given) why option
list_pathless given inputs at issuer why (inr (inl (inr (inl memory)))) = is_pathless why Memory memory tt
list_pathless given inputs at issuer why (inr (inl (inr (inr other)))) =
    is_pathless why (OtherCertificate other.0) other.1 tt
list_pathless given inputs at issuer why (inr (inr unfit)) = unfit_pathless (MayNotFollow given inputs at issuer)
    why unfit

-- ---- what isn't ready

-- what is said of an error is said of the refusal that it gives
pub unfit_so : (Is : WantedError → Type 0) (error : WantedError) (why : Refusal) →
    (why ≡ Memory) ⊎ (why ≡ Unfit error) → (why ≢ Memory → Is error) → IsUnfit Is why
unfit_so Is error why (inl memory) is = inl memory
unfit_so Is error why (inr unfit) is =
    let known : why ≢ Memory = λ memory. let both : Unfit error ≡ Memory = sym unfit ∙ memory in cc in
    inr (error, unfit, is known)

-- that memory ran out is so whatever is asked
pub memory_so : (e : Errand) (asked : AskedFields) (inputs : InputFields) (at : Moment) →
    IsSoAs e asked inputs at Memory
memory_so errand.Authority asked inputs at = inl tt
memory_so errand.EndEntity asked inputs at = inl tt
memory_so errand.Detached asked inputs at = inl tt
memory_so errand.Router asked inputs at = inl tt
memory_so errand.Anchor asked inputs at = inl tt
memory_so errand.RevocationList asked inputs at = inl tt
memory_so errand.Completion asked inputs at = inr (inl tt)
