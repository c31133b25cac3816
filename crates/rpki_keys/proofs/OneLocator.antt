-- A file is at most one locator.
use Rattle.std.proofs.Common.{◌≡◌, ℕ, Bool, List, ap, subst, ◌∙◌}
use Rattle.rpki_parts.specs.Keys.{KeyFields}
use Rattle.rpki_keys.specs.Locators.{HasKey, IsLocator, TalFields}
use Rattle.rpki_keys.proofs.KeysRead.{one_key}
use Rattle.rpki_keys.proofs.SectionsRead.{same_sections}

-- what locators say is told by its two parts
same_fields : (t u : TalFields) → t.uris ≡ u.uris → t.key ≡ u.key → t ≡ u
same_fields t u uris key =
    let first : t ≡ record t { uris = u.uris } = ap (λ (us : List (List ℕ)). record t { uris = us }) uris in
    let second : record t { uris = u.uris } ≡ u = ap (λ (k : KeyFields). record u { key = k }) key in
    first ∙ second

pub one_locator : (strict other : Bool) (t u : TalFields) (file : List ℕ) → IsLocator strict t file → IsLocator other u file → t ≡ u
one_locator strict other t u file h o =
    let same = same_sections t.uris u.uris h.digits o.digits h.sections o.sections in
    same_fields t u same.0 (one_key t.key u.key o.digits (subst (HasKey t.key) same.1 h.key_is) o.key_is)
