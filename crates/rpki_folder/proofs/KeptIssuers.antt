-- What is kept of an issuer serves each certificate of its key and name.
use Rattle.std.specs.Prelude.{Bool, true, false, IsTrue, Contains, Some}
use Rattle.std.proofs.Common.{◌≡◌, ◌<◌, ℕ, List, [], ◌∷◌, ◌++◌, length, get_or, refl, sym, ap, subst, ◌∙◌, inl, inr}
use Rattle.std.proofs.Common.{arith}
use Rattle.std.proofs.Math.Seq.{get_or-append_seam}
use Rattle.std.proofs.lemmas.List.{length-append}
use Rattle.std.proofs.lemmas.List.Elements.{Contains-push_cases}
use Rattle.rpki_parts.specs.Conditions.{IsFirstFalse}
use Rattle.rpki_parts.specs.Keys.{KeyFields}
use Rattle.rpki_parts.specs.Signatures.{Verifies}
use Rattle.rpki_cert.specs.Certificates.{TbsFields, CertFields}
use Rattle.rpki_cert.specs.Verification.{Context, IsSignedBy}
use Rattle.rpki_crl.specs.Lists.{CrlState}
use Rattle.rpki_crl.specs.Revocation.{revocation_checks}
use Rattle.rpki_crl.specs.declared.revocation_error.RevocationError.{RevocationError}
use Rattle.rpki_path.specs.AskedLists.{IsForBelow, IsEligibleNamed, by_named_lists}
use Rattle.rpki_path.specs.Repeats.{AreAlike}
use Rattle.rpki_path.proofs.AskedByEntity.{named_lists_by_entity}
use Rattle.rpki_folder.specs.Folders.{FolderFields, ArePlacesOf, IsOnce}
use Rattle.rpki_folder.specs.IssuerLists.{ArePicked, CanBeAsked, FailsWithout, IssuerFields, AreIssuerLists}
use Rattle.rpki_folder.specs.IssuerTables.{AreAllChildren, IsKeptOf, AreIssuersKept}
use Rattle.rpki_folder.specs.NameTables.{IsOfKey}
use Rattle.rpki_folder.specs.Walks.{IsChildOf, IsNamedUnder}
use Rattle.rpki_folder.specs.Walks.Steps.{AreChildrenAmong}
use Rattle.rpki_folder.specs.declared.issuers.Issuer.{Issuer}
use Rattle.rpki_folder.specs.declared.issuers.Issuers.{Issuers}
use Rattle.rpki_folder.specs.declared.issuers.NamedKey.{NamedKey}
use Rattle.rpki_folder.proofs.Descent.{child_names}
use Rattle.rpki_folder.proofs.PickedLists.{in_none, one_of_all, one_of_picked}

-- ---- lists

picked_alike : {X : Type 0} (P Q : X → Type 0) → ((x : X) → P x → Q x) → ((x : X) → Q x → P x) →
    (xs those : List X) → ArePicked P xs those → ArePicked Q xs those
picked_alike P Q there back [] those h = h
picked_alike P Q there back (x ∷ xs) those (inl (rest, p, is, h)) =
    inl (rest, there x p, is, picked_alike P Q there back xs rest h)
picked_alike P Q there back (x ∷ xs) those (inr (not, h)) =
    inr ((λ q. not (back x q)), picked_alike P Q there back xs those h)

first_alike : {X : Type 0} (P Q : X → Type 0) → ((x : X) → P x → Q x) → ((x : X) → Q x → P x) →
    (xs : List X) (x : X) → IsFirstFalse P xs x → IsFirstFalse Q xs x
first_alike P Q there back [] x h = h
first_alike P Q there back (y ∷ ys) x (inl (is, not)) = inl (is, λ q. not (back y q))
first_alike P Q there back (y ∷ ys) x (inr (p, h)) = inr (there y p, first_alike P Q there back ys x h)

pub turned : (names : Bool) (f g : TbsFields) → AreAlike names f g → AreAlike names g f
turned names f g alike = record {
  key_is = sym alike.key_is;
  identifier_is = sym alike.identifier_is;
  subject_is = λ asks. sym (alike.subject_is asks);
}

module _ (names : Bool) (x : Context) where
  can_be_asked : (f g : TbsFields) → AreAlike names f g → (l : CrlState) → CanBeAsked names x.verifies x.now f l →
      CanBeAsked names x.verifies x.now g l
  can_be_asked f g alike l h = (
    (h.0.0 ∙ alike.identifier_is, λ asks. h.0.1 asks ∙ alike.subject_is asks),
    (subst (λ (key : KeyFields). IsSignedBy x.verifies key l.list.signed_data) alike.key_is h.1.0, h.1.1),
  )

  for_below : (named : Bool) (f g : TbsFields) → (IsTrue named → f.subject ≡ g.subject) →
      (c : CertFields) (l : CrlState) → IsForBelow named f c l → IsForBelow named g c l
  for_below false f g same c l h = h
  for_below true f g same c l h = (h.0, h.1 ∙ same refl)

  eligible : (f g : TbsFields) → AreAlike names f g → (c : CertFields) (l : CrlState) →
      IsEligibleNamed names x.verifies x.now f c l → IsEligibleNamed names x.verifies x.now g c l
  eligible f g alike c l h = (
    for_below names f g alike.subject_is c l h.0,
    subst (λ (key : KeyFields). IsSignedBy x.verifies key l.list.signed_data) alike.key_is h.1,
    h.2,
  )

  module _ (lists : List CrlState) (f g : TbsFields) (alike : AreAlike names f g) where
    back : AreAlike names g f
    back = turned names f g alike

    fails_alike : (e : RevocationError) → FailsWithout names x lists f e → FailsWithout names x lists g e
    fails_alike e fails = λ c below none.
        first_alike (by_named_lists names x lists f c) (by_named_lists names x lists g c)
        (λ k h. named_lists_by_entity x names lists f g c k alike h)
        (λ k h. named_lists_by_entity x names lists g f c k back h)
        revocation_checks e
        (fails c (below ∙ ap (λ (k : List ℕ). Some k) (sym alike.identifier_is))
        (λ l at is. none l at (eligible f g alike c l is)))

    issuers_alike : (kept : IssuerFields) → AreIssuerLists names x lists f kept → AreIssuerLists names x lists g kept
    issuers_alike kept are = record {
      eligible = picked_alike (CanBeAsked names x.verifies x.now f) (CanBeAsked names x.verifies x.now g)
          (can_be_asked f g alike) (can_be_asked g f back) lists kept.eligible are.eligible;
      otherwise = fails_alike kept.otherwise are.otherwise;
    }

-- ---- children

module _ (names : Bool) (verifies : Verifies) (certs : List (List ℕ)) where
  named_alike : (c d : CertFields) → AreAlike names c.fields d.fields → (place : ℕ) →
      IsNamedUnder names c certs place → IsNamedUnder names d certs place
  named_alike c d alike place h = λ asks e stands. h asks e stands ∙ alike.subject_is asks

  child_alike : (c d : CertFields) → AreAlike names c.fields d.fields → (place : ℕ) →
      IsChildOf verifies c certs place → IsChildOf verifies d certs place
  child_alike c d alike place h = record {
    cert = h.cert;
    stands = h.stands;
    names_key = h.names_key ∙ ap (λ (k : List ℕ). Some k) alike.identifier_is;
    signed = subst (λ (key : KeyFields). IsSignedBy verifies key h.cert.signed_data) alike.key_is h.signed;
    one_algorithm = h.one_algorithm;
  }

  children_alike : (c d : CertFields) → AreAlike names c.fields d.fields → (places : List ℕ) →
      AreAllChildren names verifies c certs places → AreAllChildren names verifies d certs places
  children_alike c d alike places h =
      let back = turned names c.fields d.fields alike in
      record {
        inside = h.inside;
        named = λ p at. named_alike c d alike p (h.named p at);
        child = λ p at. child_alike c d alike p (h.child p at);
        all = λ p named child. h.all p (named_alike d c back p named) (child_alike d c back p child);
        once = h.once;
      }

-- ---- what is kept

module _ (names : Bool) (x : Context) (folder : FolderFields) where
  pub kept_alike : (c d : CertFields) → AreAlike names c.fields d.fields → (kept : Issuer) →
      IsKeptOf names x folder c kept → IsKeptOf names x folder d kept
  kept_alike c d alike kept h = record {
    children = children_alike names x.verifies folder.certs c d alike kept.children.items h.children;
    lists = issuers_alike names x folder.lists c.fields d.fields alike kept.lists h.lists;
  }

-- ---- those of the children that are let in

pub once_picked : {X : Type 0} (P : X → Type 0) (xs those : List X) → ArePicked P xs those → IsOnce xs → IsOnce those
once_picked P [] those is once = subst (λ (l : List _). IsOnce l) (sym is) tt
once_picked {X} P (x ∷ xs) those (inl (rest, p, is, h)) once =
    subst (λ (l : List X). IsOnce l) (sym is)
    ((λ at. once.0 (one_of_all P xs rest h x at).0), once_picked P xs rest h once.1)
once_picked P (x ∷ xs) those (inr (not, h)) once = once_picked P xs those h once.1

module _ (names : Bool) (verifies : Verifies) (issuer : CertFields) (certs : List (List ℕ)) (lets_in : ℕ → Type 0)
    (children those : List ℕ)
    (all : AreAllChildren names verifies issuer certs children) (picked : ArePicked lets_in children those) where
  pub kids_picked : (places : List ℕ) → ArePlacesOf certs issuer.fields.extensions.subject_key_identifier places
      → AreChildrenAmong verifies (λ p. lets_in p × IsNamedUnder names issuer certs p) issuer certs places those
  kids_picked places are = record {
    from = λ p at. let o = (one_of_all lets_in children those picked p at).0 in
        are.all p (all.inside p o) (child_names verifies issuer certs p (all.child p o));
    only = λ p at. let o = one_of_all lets_in children those picked p at in ((o.1, all.named p o.0), all.child p o.0);
    all = λ p at here child. one_of_picked lets_in children those picked p (all.all p here.1 child) here.0;
    once = once_picked lets_in children those picked all.once;
  }

-- ---- what was found of the issuer

-- what holds of the element at an index
pub kept_at : (P : Issuer → Type 0) (items : List Issuer) (at : ℕ) (kept : Issuer) → kept ≡ get_or items at kept →
    ((d : Issuer) → P (get_or items at d)) → P kept
kept_at P items at kept is h = subst P (sym is) (h kept)

-- those of the children that are let in below the CAs at the places above
pub kids_here : (x : Context) (names : Bool) (admits : List ℕ → ℕ → Type 0) (issuer : CertFields)
    (folder : FolderFields) (above : List ℕ) (kept : Issuer) (trail all those : List ℕ) → trail ≡ above →
    all ≡ kept.children.items
    → IsKeptOf names x folder issuer kept → ArePicked (admits trail) all those
    → (places : List ℕ) → ArePlacesOf folder.certs issuer.fields.extensions.subject_key_identifier places
    → AreChildrenAmong x.verifies (λ p. admits above p × IsNamedUnder names issuer folder.certs p) issuer
    folder.certs places those
kids_here x names admits issuer folder above kept trail all those same whole h picked places are =
    let here : ArePicked (admits above) kept.children.items those =
    subst (λ (l : List ℕ). ArePicked (admits above) l those) whole
    (subst (λ (l : List ℕ). ArePicked (admits l) all those) same picked) in
    kids_picked names x.verifies issuer folder.certs (admits above) kept.children.items those h.children here places are

-- nothing is kept at first
pub kept_none : (names : Bool) (x : Context) (folder : FolderFields) (table : Issuers) → table.kept.items ≡ [] →
    table.keys.items ≡ [] → AreIssuersKept names x folder table
kept_none names x folder table no_issuers no_keys = record {
  issuers = λ k at. absurd (in_none k (subst (λ (l : List Issuer). Contains l k) no_issuers at));
  keys = λ k at. absurd (in_none k (subst (λ (l : List NamedKey). Contains l k) no_keys at));
}

module _ (names : Bool) (x : Context) (folder : FolderFields) (old new : Issuers) where
  -- one key more
  pub key_more : (key : NamedKey) → new.keys.items ≡ old.keys.items ++ key ∷ [] → new.kept.items ≡ old.kept.items →
      AreIssuersKept names x folder old → IsOfKey x.verifies folder key.cert key → AreIssuersKept names x folder new
  key_more key items same olds is = record {
    issuers = λ k at. olds.issuers k (subst (λ (l : List Issuer). Contains l k) same at);
    keys = λ k at. elim (Contains-push_cases old.keys.items key k
        (subst (λ (l : List NamedKey). Contains l k) items at)) [
          | inl h ↦ olds.keys k h
          | inr one ↦ subst (λ (j : NamedKey). IsOfKey x.verifies folder j.cert j) one is
        ];
  }

module _ (names : Bool) (x : Context) (folder : FolderFields) (old new : Issuers) (one : Issuer)
    (items : new.kept.items ≡ old.kept.items ++ one ∷ []) where
  -- one issuer more
  pub kept_more : new.keys.items ≡ old.keys.items → AreIssuersKept names x folder old →
      IsKeptOf names x folder one.cert one → AreIssuersKept names x folder new
  kept_more same olds is = record {
    issuers = λ k at. elim
        (Contains-push_cases old.kept.items one k (subst (λ (l : List Issuer). Contains l k) items at)) [
          | inl h ↦ olds.issuers k h
          | inr last ↦ subst (λ (j : Issuer). IsKeptOf names x folder j.cert j) last is
        ];
    keys = λ k at. olds.keys k (subst (λ (l : List NamedKey). Contains l k) same at);
  }

  -- which is the last
  pub found_last : (at : ℕ) → at ≡ length old.kept.items → (issuer : CertFields) →
      IsKeptOf names x folder issuer one →
      (at < length new.kept.items) × ((d : Issuer) → IsKeptOf names x folder issuer (get_or new.kept.items at d))
  found_last at is issuer kept =
      let count = length-append old.kept.items (one ∷ []) in
      let low : at < length new.kept.items = omega (arith, is, ap length items, count) in (
        low,
        (λ d.
            let last : get_or new.kept.items at d ≡ one =
            ap (λ (l : List Issuer). get_or l at d) items ∙ ap (λ (n : ℕ). get_or (old.kept.items ++ one ∷ []) n d)
            is ∙ get_or-append_seam old.kept.items one [] d in
            subst (λ (j : Issuer). IsKeptOf names x folder issuer j) (sym last) kept),
      )
