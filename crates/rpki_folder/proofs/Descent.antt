-- What is told below an issuer, and that it is sound: each verdict right, on what is let in, and few.
use Rattle.std.specs.List.{AllByRecursion}
use Rattle.std.specs.Prelude.{Option, None, Some, IsOk, IsErr, Contains, IfOk, Result, Ok, Err}
use Rattle.std.proofs.Common.{◌≡◌, ◌⊎◌, ◌+◌, ◌-◌, ◌<◌, ◌≤◌, ℕ, zero, suc, List, [], ◌∷◌, ◌++◌, length, refl, sym}
use Rattle.std.proofs.Common.{subst, ap, ◌∙◌, inl, inr, append_assoc, arith}
use Rattle.std.proofs.lemmas.List.{append-nil, get_or_past}
use Rattle.std.proofs.lemmas.List.Elements.{Contains-append_left, Contains-append_right}
use Rattle.rpki_der.specs.Values.{IsUnambiguous, enc}
use Rattle.rpki_ext.specs.Kinds.{Means}
use Rattle.rpki_parts.specs.Signatures.{Verifies}
use Rattle.rpki_parts.specs.SignedDatas.{signed_data}
use Rattle.rpki_cert.specs.Certificates.{CertFields, IsCertificate}
use Rattle.rpki_cert.specs.Verification.{Context, ResourceFields}
use Rattle.rpki_cert.specs.declared.inspect.Kind.{Kind}
use Rattle.rpki_cert.specs.declared.inspect.Kind.TheVariants.{Authority}
use Rattle.rpki_cert.proofs.CertificateFormats.{certificate_is}
use Rattle.rpki_path.specs.Asking.{RevocationChecks}
use Rattle.rpki_path.specs.declared.judging.Judged.{Judged}
use Rattle.rpki_path.specs.declared.path_fault.PathFault.{PathFault}
use Rattle.rpki_path.specs.Paths.{Candidate}
use Rattle.rpki_path.specs.Paths.Steps.{IsIssuedBy}
use Rattle.rpki_folder.specs.declared.bounds.Ended.{Ended}
use Rattle.rpki_folder.specs.declared.bounds.Ended.TheVariants.{Whole, TooDeep, OutOfSteps}
use Rattle.rpki_folder.specs.Folders.{string_at, NamesSigner}
use Rattle.rpki_folder.specs.IssuerLists.{ArePicked}
use Rattle.rpki_folder.specs.Walks.{Root, members_at, LeadsTo, Told, told_at, IsRight, IsTold, IsVerdictTold, StandsAt}
use Rattle.rpki_folder.specs.Walks.{worse, Covers, AreAdmitted, IsLetIn, IsChildOf, TakesStep, AreFew}
use Rattle.rpki_folder.specs.Walks.Steps.{IsAnswer, IsOutcome, IsToldOf}
use Rattle.rpki_folder.proofs.PathsDown.{members_next, leads_further, one_holder}
use Rattle.rpki_folder.proofs.Outcomes.{right_answer}

-- ---- lists

-- what is told stays told
pub told_more : (ts more : List Told) (above : List ℕ) (place : ℕ) → IsTold ts above place →
    IsTold (ts ++ more) above place
told_more ts more above place h = let c = Contains-append_left ts more h.1 (h.0, h.2, h.3) in (c.0, h.1, c.1, c.2, h.4)

pub told_behind : (ts more : List Told) (above : List ℕ) (place : ℕ) → IsTold more above place →
    IsTold (ts ++ more) above place
told_behind ts more above place h = let c = Contains-append_right ts more h.1 (h.0, h.2, h.3) in
    (c.0, h.1, c.1, c.2, h.4)

-- a verdict that is among these, and accepts
pub told_here : (ts : List Told) (above : List ℕ) (place : ℕ) (verdict : Result Judged PathFault) →
    Contains ts (told_at above place verdict) → IsOk verdict → IsTold ts above place
told_here ts above place verdict at ok = (at.0, told_at above place verdict, at.1, at.2, (refl, refl, ok))

-- so does a verdict
pub has_more : (ts more : List Told) (above : List ℕ) (place : ℕ) → IsVerdictTold ts above place →
    IsVerdictTold (ts ++ more) above place
has_more ts more above place h = let c = Contains-append_left ts more h.1 (h.0, h.2, h.3) in (c.0, h.1, c.1, c.2, h.4)

pub has_behind : (ts more : List Told) (above : List ℕ) (place : ℕ) → IsVerdictTold more above place →
    IsVerdictTold (ts ++ more) above place
has_behind ts more above place h = let c = Contains-append_right ts more h.1 (h.0, h.2, h.3) in
    (c.0, h.1, c.1, c.2, h.4)

pub has_here : (ts : List Told) (above : List ℕ) (place : ℕ) (verdict : Result Judged PathFault) →
    Contains ts (told_at above place verdict) → IsVerdictTold ts above place
has_here ts above place verdict at = (at.0, told_at above place verdict, at.1, at.2, (refl, refl))

pub all_append : {X : Type 0} (P : X → Type 0) (xs ys : List X) → AllByRecursion P xs → AllByRecursion P ys →
    AllByRecursion P (xs ++ ys)
all_append P [] ys p q = q
all_append P (x ∷ xs) ys p q = (p.0, all_append P xs ys p.1 q)

pub all_weaker : {X : Type 0} (P Q : X → Type 0) → ((x : X) → P x → Q x) → (xs : List X) → AllByRecursion P xs →
    AllByRecursion Q xs
all_weaker P Q weaker [] h = tt
all_weaker P Q weaker (x ∷ xs) h = (weaker x h.0, all_weaker P Q weaker xs h.1)

-- what is said of an answer, of an error
pub if_err : {T E : Type 0} (P : T → Type 0) (r : Result T E) → IsErr r → IfOk r P
if_err P (Ok x) err = absurd cc
if_err P (Err e) err = tt

-- of an answer that is this, what is said of it
pub if_ok : {T E : Type 0} (P : T → Type 0) (r : Result T E) (t : T) → r ≡ Ok t → IfOk r P → P t
if_ok {T} {E} P r t is h = subst (λ (q : Result T E). IfOk q P) is h

-- and what is said of each answer, of this one
pub ok_if : {T E : Type 0} (P : T → Type 0) (r : Result T E) → ((t : T) → r ≡ Ok t → P t) → IfOk r P
ok_if P (Ok t) h = h t refl
ok_if P (Err e) h = tt

-- ---- ends

pub covers_first : (a b : Ended) (depth n : ℕ) → Covers (worse a b) depth n → Covers a depth n
covers_first Whole b depth n h = tt
covers_first TooDeep Whole depth n h = h
covers_first TooDeep TooDeep depth n h = h
covers_first TooDeep OutOfSteps depth n h = absurd h
covers_first OutOfSteps b depth n h = h

pub covers_second : (a b : Ended) (depth n : ℕ) → Covers (worse a b) depth n → Covers b depth n
covers_second a Whole depth n h = tt
covers_second Whole TooDeep depth n h = h
covers_second TooDeep TooDeep depth n h = h
covers_second OutOfSteps TooDeep depth n h = absurd h
covers_second Whole OutOfSteps depth n h = h
covers_second TooDeep OutOfSteps depth n h = h
covers_second OutOfSteps OutOfSteps depth n h = h

-- one place further down
pub covers_below : (e : Ended) (depth n : ℕ) → Covers e depth (n + 1) → Covers e (depth - 1) n
covers_below Whole depth n h = tt
covers_below TooDeep depth n h = omega (arith, h)
covers_below OutOfSteps depth n h = h

-- a walk that ended as two did says that its steps are used up where one of these did
pub worse_out : (a b : Ended) → worse a b ≡ OutOfSteps → (a ≡ OutOfSteps) ⊎ (b ≡ OutOfSteps)
worse_out OutOfSteps b is = inl refl
worse_out TooDeep OutOfSteps is = inr refl
worse_out TooDeep Whole is = absurd (cc is)
worse_out TooDeep TooDeep is = absurd (cc is)
worse_out Whole b is = inr is

-- and that it is too deep where one of these did
pub worse_deep : (a b : Ended) → worse a b ≡ TooDeep → (a ≡ TooDeep) ⊎ (b ≡ TooDeep)
worse_deep OutOfSteps b is = absurd (cc is)
worse_deep TooDeep b is = inl refl
worse_deep Whole b is = inr is

-- ---- certificates have octets

pub no_certificate : (c : CertFields) (octets : List ℕ) → Means IsCertificate c octets → octets ≡ [] → ⊥
unfolding enc
no_certificate c octets m is =
    let begins = m.1 in
    let text : begins.text ≡ signed_data c.signed_data = certificate_is c begins.text begins.encoded in
    let whole : [] ≡ signed_data c.signed_data ++ m.0 = sym is ∙ begins.parts ∙ ap (λ (l : List ℕ). l ++ m.0) text in
    absurd (cc whole)

pub less-or-not : (a b : ℕ) → (a < b) ⊎ (b ≤ a)
less-or-not zero zero = inr (omega arith)
less-or-not zero (suc b) = inl (omega arith)
less-or-not (suc a) zero = inr (omega arith)
less-or-not (suc a) (suc b) = elim (less-or-not a b) [ inl h ↦ inl (omega arith) | inr h ↦ inr (omega arith) ]

-- a place at which a certificate stands is one of the folder
pub there : (certs : List (List ℕ)) (c : CertFields) (place : ℕ) → StandsAt certs place c → place < length certs
there certs c place stands = elim (less-or-not place (length certs)) [
  | inl h ↦ h
  | inr h ↦ absurd (no_certificate c (string_at certs place) stands (get_or_past certs place [] h))
]

-- a child names its issuer's key
pub child_names : (verifies : Verifies) (issuer : CertFields) (certs : List (List ℕ)) (place : ℕ) →
    IsChildOf verifies issuer certs place →
    NamesSigner issuer.fields.extensions.subject_key_identifier (string_at certs place)
child_names verifies issuer certs place child =
    record { cert = child.cert; begins = child.stands; names = child.names_key }

-- ---- few

module _ {X : Type 0} (P : X → Type 0) where
  -- no more than n of the elements have P
  abbrev pub AtMost : ℕ → List X → Type 0
  AtMost n xs = (those : List X) → ArePicked P xs those → length those ≤ n

  picked_split : (xs ys those : List X) → ArePicked P (xs ++ ys) those →
      (ones : List X) × (bs : List X) × ArePicked P xs ones × ArePicked P ys bs ×
      (length those ≡ length ones + length bs)
  picked_split [] ys those h = let count : length those ≡ length {A = X} [] + length those = omega arith in
      ([], those, refl, h, count)
  picked_split (x ∷ xs) ys those (inl (rest, p, is, h)) =
      let r = picked_split xs ys rest h in
      let count : length those ≡ length (x ∷ r.0) + length r.1 = omega (arith, ap length is, r.4) in
      (x ∷ r.0, r.1, inl (r.0, p, refl, r.2), r.3, count)
  picked_split (x ∷ xs) ys those (inr (not, h)) =
      let r = picked_split xs ys those h in
      (r.0, r.1, inr (not, r.2), r.3, r.4)

  pub most_append : (m n : ℕ) (xs ys : List X) → AtMost m xs → AtMost n ys → AtMost (m + n) (xs ++ ys)
  most_append m n xs ys few fewer those h =
      let r = picked_split xs ys those h in
      let a = few r.0 r.2 in
      let b = fewer r.1 r.3 in
      omega (arith, a, b, r.4)

  picked_length : (xs those : List X) → ArePicked P xs those → length those ≤ length xs
  picked_length [] those is = omega (arith, ap length is)
  picked_length (x ∷ xs) those (inl (rest, p, is, h)) = let r = picked_length xs rest h in
      omega (arith, ap length is, r)
  picked_length (x ∷ xs) those (inr (not, h)) = let r = picked_length xs those h in omega (arith, r)

  pub most_all : (n : ℕ) (xs : List X) → length xs ≤ n → AtMost n xs
  most_all n xs few those h = let r = picked_length xs those h in omega (arith, few, r)

  pub most_none : (xs : List X) → AllByRecursion (λ x. P x → ⊥) xs → AtMost 0 xs
  most_none [] none those is = omega (arith, ap length is)
  most_none (x ∷ xs) none those (inl (rest, p, is, h)) = absurd (none.0 p)
  most_none (x ∷ xs) none those (inr (not, h)) = most_none xs none.1 those h

  pub most_more : (m n : ℕ) (xs : List X) → m ≤ n → AtMost m xs → AtMost n xs
  most_more m n xs low few those h = let r = few those h in omega (arith, low, r)

-- ---- below an issuer

module _ (x : Context) (asked : RevocationChecks) (issuer : ResourceFields) where
  issued : (kind : Kind) (octets : List ℕ) (verdict : Result Judged PathFault) (ca : ResourceFields) →
      IsAnswer x asked issuer octets kind verdict → kind ≡ Authority →
      verdict ≡ Ok (record { holder = ca; router = None }) → IsIssuedBy x asked issuer Authority octets ca
  issued kind octets verdict ca answer is ok =
      let there : IsAnswer x asked issuer octets Authority (Ok (record { holder = ca; router = None })) =
      subst (λ (k : Kind). IsAnswer x asked issuer octets k (Ok (record { holder = ca; router = None }))) is
      (subst (λ (v : Result Judged PathFault). IsAnswer x asked issuer octets kind v) ok answer) in
      there.0

  -- an accepted CA stands at its place
  pub ca_stands : (certs : List (List ℕ)) (place : ℕ) (verdict : Result Judged PathFault) (ca : ResourceFields) →
      IsOutcome x asked issuer (string_at certs place) verdict (Some ca) → StandsAt certs place ca.cert
  ca_stands certs place verdict ca o =
      (issued o.kind (string_at certs place) verdict ca o.answer o.goes_on.0 o.goes_on.1).begins

module _ (x : Context) (asked : RevocationChecks) (admits : List ℕ → ℕ → Type 0) (root : Root)
    (certs : List (List ℕ)) (above : List ℕ) where
  -- what was told is right, on what is let in, and no more of it takes a step
  pub record IsSound (n : ℕ) (ts : List Told) : Type 0 where
    pub right : AllByRecursion (IsRight x asked root certs) ts
    pub let_in : AllByRecursion (IsLetIn admits above) ts
    pub few : AreFew x asked root certs n ts

  pub sound_none : IsSound 0 []
  sound_none = record { right = tt; let_in = tt; few = most_none (TakesStep x asked root certs) [] tt }

  pub sound_append : (m n : ℕ) (ts us : List Told) → IsSound m ts → IsSound n us → IsSound (m + n) (ts ++ us)
  sound_append m n ts us h i = record {
    right = all_append (IsRight x asked root certs) ts us h.right i.right;
    let_in = all_append (IsLetIn admits above) ts us h.let_in i.let_in;
    few = most_append (TakesStep x asked root certs) m n ts us h.few i.few;
  }

  pub sound_more : (m n : ℕ) (ts : List Told) → m ≤ n → IsSound m ts → IsSound n ts
  sound_more m n ts low h =
      record {
        right = h.right;
        let_in = h.let_in;
        few = most_more (TakesStep x asked root certs) m n ts low h.few;
      }

  -- where nothing was told
  pub no_sound : (n : ℕ) → IsSound n []
  no_sound n = sound_more 0 n [] (omega arith) sound_none

  pub head_admitted : (place : ℕ) (between : List ℕ) → AreAdmitted admits above (place ∷ between) → admits above place
  head_admitted place between h = h.0

  -- what is let in below a CA that is
  pub let_in_above : (place : ℕ) → admits above place → (t : Told) → IsLetIn admits (above ++ place ∷ []) t →
      IsLetIn admits above t
  let_in_above place admitted t h = (place ∷ h.0, h.1 ∙ append_assoc above (place ∷ []) h.0, (admitted, h.2))

  module _ (law : IsUnambiguous IsCertificate) (issuer : ResourceFields)
      (a : LeadsTo x asked root (members_at root certs above) issuer) where
    -- a valid path leads to a CA that is accepted
    pub ca_leads : (place : ℕ) (verdict : Result Judged PathFault) (ca : ResourceFields) →
        IsOutcome x asked issuer (string_at certs place) verdict (Some ca) →
        LeadsTo x asked root (members_at root certs (above ++ place ∷ [])) ca
    ca_leads place verdict ca o =
        subst (λ (l : List Candidate). LeadsTo x asked root l ca) (sym (members_next root certs above place))
        (leads_further x asked root law (members_at root certs above) issuer a Authority (string_at certs place) ca
        (issued x asked issuer o.kind (string_at certs place) verdict ca o.answer o.goes_on.0 o.goes_on.1))

    -- what was told of a place that is let in is right
    one_right : (t : Told) →
        (t.above ≡ above) ×
        ((next : Option ResourceFields) × IsOutcome x asked issuer (string_at certs t.place) t.verdict next) →
        IsRight x asked root certs t
    one_right t h =
        let o = h.1.1 in
        subst (λ (l : List ℕ). IsRight x asked root certs (told_at l t.place t.verdict)) (sym h.0)
        (right_answer x asked root law (members_at root certs above) issuer a (string_at certs t.place) o.kind
        o.says t.verdict o.answer)

    one_let_in : (t : Told) → t.above ≡ above → admits above t.place → IsLetIn admits above t
    one_let_in t is admitted = ([], is ∙ sym (append-nil above), (admitted, tt))

    module _ (P : ℕ → Type 0) (ts : List Told) (all : AllByRecursion (IsToldOf x asked issuer certs above P) ts) where
      told_right : AllByRecursion (IsRight x asked root certs) ts
      told_right = all_weaker (IsToldOf x asked issuer certs above P) (IsRight x asked root certs)
          (λ t h. one_right t (h.0, h.2)) ts all

      told_let_in : ((place : ℕ) → P place → admits above place) → AllByRecursion (IsLetIn admits above) ts
      told_let_in weaker = all_weaker (IsToldOf x asked issuer certs above P) (IsLetIn admits above)
          (λ t h. one_let_in t h.0 (weaker t.place h.1)) ts all

      -- at most as many as there are
      pub sound_told : ((place : ℕ) → P place → admits above place) → (n : ℕ) → length ts ≤ n → IsSound n ts
      sound_told weaker n few =
          record {
            right = told_right;
            let_in = told_let_in weaker;
            few =
                most_all (TakesStep x asked root certs) n ts few;
          }

      no_step : ((place : ℕ) → P place → IsChildOf x.verifies issuer.cert certs place → ⊥) → (t : Told) →
          IsToldOf x asked issuer certs above P t → TakesStep x asked root certs t → ⊥
      no_step never t h step =
          let leads : LeadsTo x asked root (members_at root certs above) step.0 =
          subst (λ (l : List ℕ). LeadsTo x asked root (members_at root certs l) step.0) h.0 step.1 in
          let one : step.0.cert ≡ issuer.cert = one_holder x asked root law (members_at root certs above) step.0
          issuer leads a in
          never t.place h.1 (subst (λ (c : CertFields). IsChildOf x.verifies c certs t.place) one step.2)

      -- none, where they are on no children
      pub sound_others : ((place : ℕ) → P place → admits above place) →
          ((place : ℕ) → P place → IsChildOf x.verifies issuer.cert certs place → ⊥) → IsSound 0 ts
      sound_others weaker never = record {
        right = told_right;
        let_in = told_let_in weaker;
        few = most_none (TakesStep x asked root certs) ts
            (all_weaker (IsToldOf x asked issuer certs above P) (λ t. TakesStep x asked root certs t → ⊥)
            (no_step never) ts all);
      }
