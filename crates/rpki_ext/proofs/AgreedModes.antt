-- Resources under the policy's mode.
use Rattle.std.proofs.Common.{◌≡◌, Bool, true, false, is_some, Option, Some, None, refl, sym, ap, ◌∙◌}
use Rattle.std.specs.Prelude.{◌||◌, if◌then◌else◌, unwrap_or}
use Rattle.rpki_blocks.specs.Addresses.{Ip}
use Rattle.rpki_blocks.specs.Resources.{Resources, missing}
use Rattle.rpki_blocks.specs.declared.overclaim.Overclaim.{Overclaim}
use Rattle.rpki_ext.specs.CertificateExtensions.{agreed, listed_under, no_addresses, same_mode, under}
use Rattle.rpki_ext.specs.CertificateExtensions.Views.{ip_of, ip_in}

-- both stand under the mode
agreed_of : (mode : Overclaim) (ip : Option (Overclaim × Ip)) (numbers : Option (Overclaim × Resources))
    (i : Option Ip) (n : Option Resources) → (is_some ip || is_some numbers) ≡ true → under mode ip ≡ Some i →
    under mode numbers ≡ Some n → agreed (Some mode) ip numbers ≡ Some (listed_under mode i n)
agreed_of mode ip numbers i n some ip_is numbers_is = rw (some, ip_is, numbers_is) refl

-- families under a mode are addresses under it
seen_so : (mode shown : Overclaim) (b : Bool) (families : Option (Option Resources × Option Resources))
    (f : Option Resources × Option Resources) → Some families ≡ (if b then Some (Some f) else None) →
    (b ≡ true) × (families ≡ Some f)
seen_so mode shown true families f e = (refl, cc)
seen_so mode shown false families f e = absurd cc

addresses_under : (mode : Overclaim) (ip : Option (Overclaim × (Option Resources × Option Resources)))
    (families : Option (Option Resources × Option Resources)) → Some families ≡ under mode ip →
    under mode (ip_of ip) ≡ Some (ip_in families)
addresses_under mode None families e = let none : families ≡ None = cc in rw none refl
addresses_under mode (Some v) families e =
    let so = seen_so mode v.0 (same_mode v.0 mode) families v.1 e in
    rw (so.0, so.1) refl

same_presence : (ip : Option (Overclaim × (Option Resources × Option Resources))) → is_some (ip_of ip) ≡ is_some ip
same_presence None = refl
same_presence (Some v) = refl

-- what is listed, once both were found under the mode
pub listed_so : (mode : Overclaim) (ip : Option (Overclaim × (Option Resources × Option Resources)))
    (numbers : Option (Overclaim × Resources)) (families : Option (Option Resources × Option Resources))
    (n : Option Resources) (v4 v6 systems : Resources) → (is_some ip || is_some numbers) ≡ true →
    Some families ≡ under mode ip → Some n ≡ under mode numbers
    → v4 ≡ (unwrap_or (ip_in families) no_addresses).v4 → v6 ≡ (unwrap_or (ip_in families) no_addresses).v6 → systems ≡ unwrap_or n missing
    → agreed (Some mode) (ip_of ip) numbers ≡
    Some (record { overclaim = mode; v4_resources = v4; v6_resources = v6; as_resources = systems })
listed_so mode ip numbers families n v4 v6 systems some ip_is numbers_is v4_is v6_is as_is =
    agreed_of mode (ip_of ip) numbers (ip_in families) n (ap (λ b. b || is_some numbers) (same_presence ip) ∙ some)
    (addresses_under mode ip families ip_is) (sym numbers_is) ∙ rw (v4_is, v6_is, as_is) refl
