-- Where no certificate names the key, where the issuer ends a circle, and else: its children and the others.
use Rattle.std.specs.Prelude.{Bool, true, false, ◌==◌, Contains}
use Rattle.std.proofs.Common.{◌≡◌, ◌<◌, ℕ, List, [], ◌∷◌, length, refl, sym, ap, subst, ◌∙◌, arith}
use Rattle.std.proofs.lemmas.Bool.{eqb-true}
use Rattle.std.proofs.lemmas.List.{append-nil}
use Rattle.rpki_cert.specs.Certificates.{TbsFields, CertFields}
use Rattle.rpki_cert.specs.Verification.{context}
use Rattle.rpki_path.specs.AskedLists.{by_named_lists}
use Rattle.rpki_folder.specs.Folders.{ArePlacesOf}
use Rattle.rpki_folder.specs.IssuerTables.{IsKeptOf}
use Rattle.rpki_folder.specs.Walks.{Told, IsLookedAt}
use Rattle.rpki_folder.specs.Walks.Steps.{AreLookedAt}
use Rattle.rpki_folder.specs.declared.issuers.Issuer.{Issuer}
use Rattle.rpki_folder.proofs.BelowIssuer.{looked_none, are_looked_at, others_looked}
use Rattle.rpki_folder.proofs.Descent.{there as low_of, child_names}
use Rattle.rpki_folder.proofs.KeptIssuers.{kept_at, kids_here}
use Rattle.rpki_folder.proofs.PickedLists.{in_none}
use Rattle.rpki_folder.proofs.walk.Walk.look_below.Goals as goal

-- the places of the issuer's key
there : (certs : List (List ℕ)) (key own : List ℕ) (places : List ℕ) → key ≡ own → ArePlacesOf certs key places →
    ArePlacesOf certs own places
there certs key own places is are = subst (λ (k : List ℕ). ArePlacesOf certs k places) is are

none_there : {X : Type 0} (places : List X) (b : Bool) → b ≡ (length places == 0) → b ≡ true → places ≡ []
none_there [] b is test = refl
none_there (p ∷ places) b is test = let zero : length (p ∷ places) ≡ 0 =
    eqb-true (length (p ∷ places)) 0 (sym is ∙ test) in absurd (omega (arith, zero))

-- of so many, there are none, or some
none_of : {X : Type 0} (xs : List X) (n : ℕ) (b : Bool) → n ≡ length xs → b ≡ (n == 0) → b ≡ true → xs ≡ []
none_of [] n b count is test = refl
none_of (y ∷ xs) n b count is test = let zero : n ≡ 0 = eqb-true n 0 (sym is ∙ test) in
    absurd (omega (arith, zero, count))

some_of : {X : Type 0} (xs : List X) (n : ℕ) (b : Bool) → n ≡ length xs → b ≡ (n == 0) → b ≡ false → 0 < length xs
some_of [] n b count is test = let none : n ≡ 0 = count in absurd (cc (sym test ∙ is ∙ ap (λ (m : ℕ). m == 0) none))
some_of (y ∷ xs) n b count is test = omega arith

-- ---- where there is none

pub returns-then-is_empty-clause-told : goal.returns-then-is_empty-clause-told
returns-then-is_empty-clause-told g c =
    λ v ts heard.
    ([], subst (λ (l : List Told). g.W.Visitor.became v l c.args.visitor.now) (sym (append-nil ts)) heard, tt)

pub returns-then-is_empty-clause-found : goal.returns-then-is_empty-clause-found
returns-then-is_empty-clause-found g c =
    let w = c.args.self.now in
    let verifies = g.V.Verifier.verifies w.verifier.now in
    let certs = w.folder.now.certs in
    let issuer = c.args.issuer.now.cert in
    let own = c.args.issuer.now.cert.fields.extensions.subject_key_identifier in
    let key = c.subject_key_identifier-key.ensures ∙ ap (λ (f : TbsFields). f.extensions.subject_key_identifier)
    c.as_tbs.ensures ∙ ap (λ (d : CertFields). d.fields.extensions.subject_key_identifier)
    c.as_cert.ensures in
    let places = c.signed_by-places.result.now in
    let are = there certs c.subject_key_identifier-key.result own places key c.signed_by-places.ensures in
    let none : places ≡ [] = none_there places c.is_empty.result c.is_empty.ensures c.if-is_empty.true in
    looked_none verifies (IsLookedAt w.names (g.A.Admission.admits w.admission.now) c.args.top.now.cert certs
    c.args.above.now)
    issuer certs
    (λ place looked child. let at = are.all place (low_of certs child.cert place child.stands)
    (child_names verifies issuer certs place child) in
    in_none place (subst (λ (l : List ℕ). Contains l place) none at))

pub returns-in_err-is_in_circle-clause-told : goal.returns-in_err-is_in_circle-clause-told
returns-in_err-is_in_circle-clause-told g c =
    λ v ts heard.
    ([], subst (λ (l : List Told). g.W.Visitor.became v l c.args.visitor.now) (sym (append-nil ts)) heard, tt)

pub returns-then-is_in_circle-clause-told : goal.returns-then-is_in_circle-clause-told
returns-then-is_in_circle-clause-told g c =
    λ v ts heard.
    ([], subst (λ (l : List Told). g.W.Visitor.became v l c.args.visitor.now) (sym (append-nil ts)) heard, tt)

pub returns-then-is_in_circle-clause-found : goal.returns-then-is_in_circle-clause-found
returns-then-is_in_circle-clause-found g c =
    let w = c.args.self.now in
    let certs = w.folder.now.certs in
    looked_none (g.V.Verifier.verifies w.verifier.now)
    (IsLookedAt w.names (g.A.Admission.admits w.admission.now) c.args.top.now.cert certs c.args.above.now)
    c.args.issuer.now.cert certs
    (λ place looked child. c.in_ok-is_in_circle.ensures.circle c.if-is_in_circle.true looked.no_circle)

-- ---- the others

pub enter-requires : goal.enter-requires
enter-requires g c =
    let certs = c.args.self.now.folder.now.certs in
    let own = c.args.issuer.now.cert.fields.extensions.subject_key_identifier in
    let key = c.subject_key_identifier-key.ensures ∙ ap (λ (f : TbsFields). f.extensions.subject_key_identifier)
    c.as_tbs.ensures ∙ ap (λ (d : CertFields). d.fields.extensions.subject_key_identifier)
    c.as_cert.ensures in
    let places = c.signed_by-places.result.now in
    let are = there certs c.subject_key_identifier-key.result own places key c.signed_by-places.ensures in
    record { kept = c.requires.kept; places = are }

pub returns-in_err-at-clause-told : goal.returns-in_err-at-clause-told
returns-in_err-at-clause-told g c = λ v ts heard.
    let w = c.args.self.now in
    let x = context (g.V.Verifier.verifies w.verifier.now) w.at w.strict in
    let asked = by_named_lists w.names x w.folder.now.lists in
    let admits = g.A.Admission.admits w.admission.now in
    let o = c.enter.ensures.told v ts heard in (
      o.0,
      o.1,
      others_looked w.names admits c.args.top.now.cert w.folder.now.certs c.args.above.now
          c.unambiguous.ensures.certificate c.args.issuer.now.cert c.requires.last
          (c.in_ok-is_in_circle.ensures.none c.if-is_in_circle.false) x asked c.args.issuer.now o.0 o.2,
    )

pub returns-in_err-children-clause-told : goal.returns-in_err-children-clause-told
returns-in_err-children-clause-told g c = λ v ts heard.
    let w = c.args.self.now in
    let x = context (g.V.Verifier.verifies w.verifier.now) w.at w.strict in
    let asked = by_named_lists w.names x w.folder.now.lists in
    let admits = g.A.Admission.admits w.admission.now in
    let o = c.enter.ensures.told v ts heard in (
      o.0,
      o.1,
      others_looked w.names admits c.args.top.now.cert w.folder.now.certs c.args.above.now
          c.unambiguous.ensures.certificate c.args.issuer.now.cert c.requires.last
          (c.in_ok-is_in_circle.ensures.none c.if-is_in_circle.false) x asked c.args.issuer.now o.0 o.2,
    )

pub returns-then-is_empty-2-clause-told : goal.returns-then-is_empty-2-clause-told
returns-then-is_empty-2-clause-told g c = λ v ts heard.
    let w = c.args.self.now in
    let x = context (g.V.Verifier.verifies w.verifier.now) w.at w.strict in
    let asked = by_named_lists w.names x w.folder.now.lists in
    let admits = g.A.Admission.admits w.admission.now in
    let o = c.enter.ensures.told v ts heard in (
      o.0,
      o.1,
      others_looked w.names admits c.args.top.now.cert w.folder.now.certs c.args.above.now
          c.unambiguous.ensures.certificate c.args.issuer.now.cert c.requires.last
          (c.in_ok-is_in_circle.ensures.none c.if-is_in_circle.false) x asked c.args.issuer.now o.0 o.2,
    )

pub returns-clause-told : goal.returns-clause-told
returns-clause-told g c = λ v ts heard.
    let w = c.args.self.now in
    let x = context (g.V.Verifier.verifies w.verifier.now) w.at w.strict in
    let asked = by_named_lists w.names x w.folder.now.lists in
    let admits = g.A.Admission.admits w.admission.now in
    let o = c.enter.ensures.told v ts heard in (
      o.0,
      o.1,
      others_looked w.names admits c.args.top.now.cert w.folder.now.certs c.args.above.now
          c.unambiguous.ensures.certificate c.args.issuer.now.cert c.requires.last
          (c.in_ok-is_in_circle.ensures.none c.if-is_in_circle.false) x asked c.args.issuer.now o.0 o.2,
    )

-- ---- the children

pub returns-then-is_empty-2-clause-found : goal.returns-then-is_empty-2-clause-found
returns-then-is_empty-2-clause-found g c =
    let w = c.args.self.now in
    let x = context (g.V.Verifier.verifies w.verifier.now) w.at w.strict in
    let certs = w.folder.now.certs in
    let admits = g.A.Admission.admits w.admission.now in
    let top = c.args.top.now.cert in
    let issuer = c.args.issuer.now.cert in
    let above = c.args.above.now in
    let own = issuer.fields.extensions.subject_key_identifier in
    let key = c.subject_key_identifier-key.ensures ∙ ap (λ (f : TbsFields). f.extensions.subject_key_identifier)
    c.as_tbs.ensures ∙ ap (λ (d : CertFields). d.fields.extensions.subject_key_identifier)
    c.as_cert.ensures in
    let places = c.signed_by-places.result.now in
    let are = there certs c.subject_key_identifier-key.result own places key c.signed_by-places.ensures in
    let children = c.in_ok-children.children.items in
    let kids = kids_here x w.names admits issuer w.folder.now above c.index-kept.result.now above
    c.deref.result.now children refl c.deref.ensures.value
    (kept_at (λ (k : Issuer). IsKeptOf w.names x w.folder.now issuer k) c.enter.new.issuers.kept.items
    c.in_ok-at.at c.index-kept.result.now c.index-kept.ensures c.in_ok-at.ensures.found.1)
    c.in_ok-children.ensures places are in
    let looked = are_looked_at w.names admits top certs above c.unambiguous.ensures.certificate issuer
    c.requires.last (c.in_ok-is_in_circle.ensures.none c.if-is_in_circle.false) x.verifies places children are
    kids in
    subst (λ (l : List ℕ). AreLookedAt x.verifies (IsLookedAt w.names admits top certs above) issuer certs l)
    (none_of children c.in_ok-children.children.len c.is_empty-2.result
    (omega (arith, c.in_ok-children.children.ok.0)) c.is_empty-2.ensures c.if-is_empty-2.true) looked

pub returns-clause-found : goal.returns-clause-found
returns-clause-found g c =
    let w = c.args.self.now in
    let x = context (g.V.Verifier.verifies w.verifier.now) w.at w.strict in
    let certs = w.folder.now.certs in
    let admits = g.A.Admission.admits w.admission.now in
    let top = c.args.top.now.cert in
    let issuer = c.args.issuer.now.cert in
    let above = c.args.above.now in
    let own = issuer.fields.extensions.subject_key_identifier in
    let key = c.subject_key_identifier-key.ensures ∙ ap (λ (f : TbsFields). f.extensions.subject_key_identifier)
    c.as_tbs.ensures ∙ ap (λ (d : CertFields). d.fields.extensions.subject_key_identifier)
    c.as_cert.ensures in
    let places = c.signed_by-places.result.now in
    let are = there certs c.subject_key_identifier-key.result own places key c.signed_by-places.ensures in
    let children = c.in_ok-children.children.items in
    let kids = kids_here x w.names admits issuer w.folder.now above c.index-kept.result.now above
    c.deref.result.now children refl c.deref.ensures.value
    (kept_at (λ (k : Issuer). IsKeptOf w.names x w.folder.now issuer k) c.enter.new.issuers.kept.items
    c.in_ok-at.at c.index-kept.result.now c.index-kept.ensures c.in_ok-at.ensures.found.1)
    c.in_ok-children.ensures places are in
    let looked = are_looked_at w.names admits top certs above c.unambiguous.ensures.certificate issuer
    c.requires.last (c.in_ok-is_in_circle.ensures.none c.if-is_in_circle.false) x.verifies places children are
    kids in (
      some_of children c.in_ok-children.children.len c.is_empty-2.result
          (omega (arith, c.in_ok-children.children.ok.0)) c.is_empty-2.ensures c.if-is_empty-2.false,
      looked,
    )
