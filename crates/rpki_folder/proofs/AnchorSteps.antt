-- The trust anchor of a walk is the certificate with which its octets begin.
use Rattle.std.specs.List.{AllZip}
use Rattle.std.proofs.Common.{◌≡◌, ℕ, List, [], ◌∷◌, length, map, get_or, refl, ap, ◌∙◌}
use Rattle.rpki_der.specs.Values.{IsUnambiguous}
use Rattle.rpki_der.proofs.Formats.{one_meant}
use Rattle.rpki_ext.specs.Kinds.{Means}
use Rattle.rpki_cert.specs.Certificates.{CertFields, IsCertificate}
use Rattle.rpki_cert.specs.Verification.{Context, ResourceFields}
use Rattle.rpki_keys.specs.Locators.{NamedTal}
use Rattle.rpki_path.specs.Asking.{RevocationChecks}
use Rattle.rpki_path.specs.Paths.{Member, IsMember}
use Rattle.rpki_folder.specs.Walks.{at_anchor, LeadsTo}

no_members : (ms : List Member) → AllZip IsMember ms [] → ms ≡ []
no_members [] h = refl
no_members (m ∷ ms) h = absurd h

module _ (x : Context) (asked : RevocationChecks) (t : NamedTal) (anchor : List ℕ) (r : ResourceFields)
    (leads : LeadsTo x asked (at_anchor t anchor) [] r) where
  abbrev pub top : CertFields
  top = leads.path.anchor

  -- the octets begin with it
  pub top_begins : Means IsCertificate top anchor
  top_begins = leads.path_of.anchor_begins

  -- it is what was validated
  pub anchor_top : r.cert ≡ top
  anchor_top =
      let none = no_members leads.path.below leads.path_of.members in
      leads.held.cert_is ∙ ap (λ (ms : List Member). get_or (top ∷ map (λ (m : Member). m.cert) ms) (length ms) top)
      none

  -- there is no other
  pub anchor_is : IsUnambiguous IsCertificate → (c : CertFields) → Means IsCertificate c anchor → r.cert ≡ c
  anchor_is law c begins = anchor_top ∙ one_meant IsCertificate law top c anchor top_begins begins
