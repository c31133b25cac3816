-- The comparisons of URIs are equivalences, and a parent is one.
use Rattle.std.proofs.Common.{◌≡◌, ℕ, List, [], ◌∷◌, length, codes, refl, sym, ◌∙◌, subst}
use Rattle.std.specs.List.{concat}
use Rattle.std.specs.Str.{str_to_ascii_lowercase}
use Rattle.rpki_parts.specs.Uris.{IsUri, IsHttps, IsRsync, AreEqual, AreIdentical, IsParent, IsTrimmed}
use Rattle.rpki_parts.specs.UriLaws.{IsEquivalence}
use Rattle.rpki_parts.specs.Uris.Tests.{trimmed}
use Rattle.rpki_parts.proofs.Slashes.{trimmed_is, trimmed_again}
use Rattle.rpki_parts.proofs.UriTests.{authority_again, rest_again}
use Rattle.rpki_parts.proofs.UriParents.{trimmed_top, parent_again, parent_rsync, path_found}

same : (scheme a r uri : List ℕ) → IsUri scheme a r uri → AreEqual scheme uri uri
same scheme a r uri u = record { authority = a; other_authority = a; rest = r; is = u; other_is = u; authorities = refl }

turned : (scheme x y : List ℕ) → AreEqual scheme x y → AreEqual scheme y x
turned scheme x y e =
    record {
      authority = e.other_authority;
      other_authority = e.authority;
      rest = e.rest;
      is =
          e.other_is;
      other_is = e.is;
      authorities = sym e.authorities;
    }

through : (scheme x y z : List ℕ) → length scheme ≡ 8 → AreEqual scheme x y → AreEqual scheme y z → AreEqual scheme x z
through scheme x y z eight e f =
    let rests : f.rest ≡ e.rest = sym (rest_again scheme f.authority f.rest y eight f.is) ∙
    rest_again scheme e.other_authority e.rest y eight e.other_is in
    let between : str_to_ascii_lowercase e.other_authority ≡ str_to_ascii_lowercase f.authority =
    rw (
      ← authority_again scheme e.other_authority e.rest y eight e.other_is,
      authority_again scheme f.authority f.rest y eight f.is,
    ) refl in
    record {
      authority = e.authority;
      other_authority = f.other_authority;
      rest = e.rest;
      is = e.is;
      other_is = subst (λ t. IsUri scheme f.other_authority t z) rests f.other_is;
      authorities = e.authorities ∙ (between ∙ f.authorities);
    }

-- equality of rsync URIs is an equivalence
pub rsync_equivalence : IsEquivalence IsRsync (AreEqual (codes "rsync://"))
rsync_equivalence = record {
  reflexive = λ x u. same (codes "rsync://") u.authority (concat (codes "/" ∷ u.top ∷ u.tail ∷ [])) x u.is;
  symmetric = turned (codes "rsync://");
  transitive = λ x y z. through (codes "rsync://") x y z refl;
}

-- equality of https URIs is an equivalence
pub https_equivalence : IsEquivalence IsHttps (AreEqual (codes "https://"))
https_equivalence = record {
  reflexive = λ x u. same (codes "https://") u.authority u.rest x u.is;
  symmetric = turned (codes "https://");
  transitive = λ x y z. through (codes "https://") x y z refl;
}

one_trimmed : (x t u : List ℕ) → IsTrimmed x t → IsTrimmed x u → t ≡ u
one_trimmed x t u h g = sym (trimmed_again x t h) ∙ trimmed_again x u g

-- identity of rsync URIs is an equivalence
pub identical_equivalence : IsEquivalence IsRsync AreIdentical
identical_equivalence = record {
  reflexive = λ x r.
      let u = trimmed_top r.authority r.top r.tail x r.top_is.0 r.is in
      record {
        trimmed = trimmed x;
        other_trimmed = trimmed x;
        is = trimmed_is x;
        other_is = trimmed_is x;
        equal =
            same (codes "rsync://") r.authority u.0 (trimmed x) u.1;
      };
  symmetric = λ x y i. record {
    trimmed = i.other_trimmed;
    other_trimmed = i.trimmed;
    is = i.other_is;
    other_is =
        i.is;
    equal = turned (codes "rsync://") i.trimmed i.other_trimmed i.equal;
  };
  transitive = λ x y z i j.
      let between = one_trimmed y j.trimmed i.other_trimmed j.is i.other_is in
      record {
        trimmed = i.trimmed;
        other_trimmed = j.other_trimmed;
        is = i.is;
        other_is = j.other_is;
        equal = through (codes "rsync://") i.trimmed i.other_trimmed j.other_trimmed refl i.equal
            (subst (λ t. AreEqual (codes "rsync://") t j.other_trimmed) between j.equal);
      };
}

-- the parent of an rsync URI is one
pub parent_is_rsync : (uri p : List ℕ) → IsRsync uri → IsParent uri p → IsRsync p
parent_is_rsync uri p r h =
    subst IsRsync (parent_again uri p h)
    (parent_rsync uri r (λ e. h.path_is (sym (path_found h.front h.path uri h.is) ∙ e)))
