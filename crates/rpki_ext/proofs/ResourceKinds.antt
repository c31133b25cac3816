-- The extensions of resources are read as they are encoded, and what is written of them encodes
-- them.
use Rattle.std.specs.Prelude.{◌||◌, option_map, false, ◌⊎◌}
use Rattle.std.proofs.Common.{◌≡◌, Bool, inl, inr, ℕ, ◌<◌, ◌^◌, List, [], Option, refl, subst, Some, None, ap, arith, true, length}
use Rattle.rpki_der.specs.Reading.{map_value, Reads}
use Rattle.rpki_der.specs.Encoding.{Begins}
use Rattle.rpki_der.specs.Formats.{Follows}
use Rattle.rpki_der.proofs.FormatAnswers.{IsAlone, alone_reads}
use Rattle.rpki_der.specs.Values.{AreOctets}
use Rattle.rpki_der.proofs.Octets.{bind_some, both_are, some, some_is}
use Rattle.rpki_der.proofs.Readings.{before}
use Rattle.rpki_blocks.specs.Addresses.{Ip, addresses, Families, ip, ip_addr_blocks_format}
use Rattle.rpki_blocks.specs.Resources.{Resources, missing, inherit, blocks}
use Rattle.rpki_blocks.specs.Systems.{as_identifiers_format, written_as}
use Rattle.rpki_blocks.specs.Unions.{text_of}
use Rattle.rpki_blocks.specs.declared.overclaim.Overclaim.TheVariants.{Refuse, Trim}
use Rattle.rpki_blocks.proofs.ResourcesWritten.{present_is, written_families, ip_made, as_resources_made, no_as_resources, no_ip}
use Rattle.rpki_blocks.proofs.AddressReads.{ip_alone}
use Rattle.rpki_blocks.proofs.SystemReads.{as_alone}
use Rattle.rpki_ext.specs.Kinds.{kept_if}
use Rattle.rpki_ext.specs.ResourceKinds.{addresses_format, are_there, as_resources, has_addresses, ip_resources, numbers_format}
use Rattle.rpki_ext.proofs.KindsRead.{ShowsMode}

-- what a function makes of each value
image_reads : {X Y : Type 0} (f : X → Y) (read : List ℕ → Option (X × List ℕ)) (S : X → List ℕ → Type 0) →
    Reads read S → Reads (map_value f read) (λ y text. (x : X) × S x text × (f x ≡ y))
image_reads {X} {Y} f read S law = record {
  takes = λ octets y rest fits e.
      let a = bind_some (read octets) (λ x. some {A = Y × List ℕ} (f x.0, x.1)) (y, rest) e in
      let one = law.takes octets a.0.0 a.0.1 fits a.1 in
      let made : Y × List ℕ = (f a.0.0, a.0.1) in
      subst (λ (q : Y × List ℕ). Begins (λ z text. (x : X) × S x text × (f x ≡ z)) octets q.0 q.1)
      (some_is made (y, rest) a.2)
      (record { text = one.text; encoded = (a.0.0, one.encoded, refl); parts = one.parts });
  again = λ y text rest s. rw (law.again s.0 text rest s.1, s.2) refl;
}

same_ip : (i : Ip) → addresses (Some (written_families i)) ≡ i
same_ip i = λ j. record { v4 = (present_is i.v4) j; v6 = (present_is i.v6) j }

-- what is written of what is there encodes it and consists of octets, if it is proved so
text_made : (P : List ℕ → Type 0) (o : Option (List ℕ)) → (o ≡ None → ⊥) →
    ((c : List ℕ) → o ≡ Some c → length c < 2 ^ 32 → P c × AreOctets c) → length (text_of o) < 2 ^ 32 →
    P (text_of o) × AreOctets (text_of o)
text_made P None there h l = absurd (there refl)
text_made P (Some c) there h l = h c refl l

-- ---- addresses

there : (i : Ip) → has_addresses i ≡ true → ip i ≡ None → ⊥
there i h none = let e : has_addresses i ≡ false = ap has_addresses (no_ip i none) in cc

abbrev AreAddresses : Ip → List ℕ → Type 0
AreAddresses i text = (f : Families) × ip_addr_blocks_format.encodes f text × (addresses (Some f) ≡ i)

-- anything may follow the addresses
pub addresses_alone : IsAlone addresses_format
unfolding addresses_format ip_addr_blocks_format
addresses_alone = record {
  law = record {
    reads = before (Follows []) (map_value (λ f. addresses (Some f)) ip_addr_blocks_format.read) AreAddresses
        (image_reads (λ (f : Families). addresses (Some f)) ip_addr_blocks_format.read ip_addr_blocks_format.encodes
        (alone_reads ip_addr_blocks_format ip_alone));
    starts = λ i text s. ip_alone.law.starts s.0 text s.1;
    shorter = λ octets i rest e.
        let a = bind_some (ip_addr_blocks_format.read octets) (λ f. some {A = Ip × List ℕ} (addresses (Some f.0), f.1)) (i, rest) e in
        omega (arith, ip_alone.law.shorter octets a.0.0 a.0.1 a.1, ap length (both_are (addresses (Some a.0.0), a.0.1) (i, rest) a.2).1);
    octets = λ i fits short. (all i fits short).1;
    made = λ i fits short. (all i fits short).0;
  };
  none = refl;
}
  where
    all : (i : Ip) → addresses_format.fits i → length (text_of (ip i)) < 2 ^ 32 →
        AreAddresses i (text_of (ip i)) × AreOctets (text_of (ip i))
    all i fits = text_made (AreAddresses i) (ip i) (there i fits.3)
        (λ c e l. let m = ip_made i c e fits.0 fits.1 fits.2 l in ((written_families i, m.0, same_ip i), m.1))

families_written : (v4 v6 : Resources) →
    option_map (λ i. text_of (ip i)) (kept_if has_addresses (record { v4 = v4; v6 = v6 })) ≡
    ip (record { v4 = v4; v6 = v6 })
families_written missing missing = refl
families_written missing inherit = refl
families_written missing (blocks bs) = refl
families_written inherit v6 = refl
families_written (blocks bs) v6 = refl

-- what is written of addresses, where there are some
pub addresses_written : (i : Ip) → option_map addresses_format.written (kept_if has_addresses i) ≡ ip i
unfolding addresses_format
addresses_written i = families_written i.v4 i.v6

-- addresses of which there are none
pub no_addresses_there : (i : Ip) → has_addresses i ≡ false → i ≡ record { v4 = missing; v6 = missing }
no_addresses_there i h = none_there i.v4 i.v6 h
  where
    none_there : (v4 v6 : Resources) → (are_there v4 || are_there v6) ≡ false →
        ◌≡◌ {A = Ip} (record { v4 = v4; v6 = v6 }) (record { v4 = missing; v6 = missing })
    none_there missing missing h = refl
    none_there missing inherit h = absurd cc
    none_there missing (blocks bs) h = absurd cc
    none_there inherit v6 h = absurd cc
    none_there (blocks bs) v6 h = absurd cc

-- ---- AS numbers

-- resources that are missing aren't there
pub not_there : (r : Resources) → are_there r ≡ false → r ≡ missing
not_there missing h = refl
not_there inherit h = absurd cc
not_there (blocks bs) h = absurd cc

-- and others are
pub is_there : (r : Resources) → (r ≡ missing → ⊥) → are_there r ≡ true
is_there missing h = absurd (h refl)
is_there inherit h = refl
is_there (blocks bs) h = refl

-- anything may follow the AS numbers
pub numbers_alone : IsAlone numbers_format
unfolding numbers_format as_identifiers_format
numbers_alone = record {
  law = record {
    reads = as_alone.law.reads;
    starts = as_alone.law.starts;
    shorter = as_alone.law.shorter;
    octets = λ r fits short. (all r fits short).1;
    made = λ r fits short. (all r fits short).0;
  };
  none = refl;
}
  where
    all : (r : Resources) → numbers_format.fits r → length (text_of (written_as r)) < 2 ^ 32 →
        as_identifiers_format.encodes r (text_of (written_as r)) × AreOctets (text_of (written_as r))
    all r fits = text_made (as_identifiers_format.encodes r) (written_as r)
        (λ none. let e : are_there r ≡ false = ap are_there (no_as_resources r none) in cc)
        (λ c e l. as_resources_made r c e fits.0 l)

-- what is written of AS numbers, where there are some
pub numbers_written : (r : Resources) → option_map numbers_format.written (kept_if are_there r) ≡ written_as r
unfolding numbers_format
numbers_written missing = refl
numbers_written inherit = refl
numbers_written (blocks bs) = refl

-- addresses of one family are there
pub some_addresses : {i : Ip} → (i.v4 ≡ missing → ⊥) ⊎ (i.v6 ≡ missing → ⊥) → has_addresses i ≡ true
some_addresses {i} h = elim h [
  | inl four ↦ rw (is_there i.v4 four) refl
  | inr six ↦ rw (is_there i.v6 six) (or_true (are_there i.v4))
]
  where
    or_true : (b : Bool) → (b || true) ≡ true
    or_true true = refl
    or_true false = refl

-- ---- modes

-- the identifier of addresses shows the mode
pub ip_shows : ShowsMode ip_resources
ip_shows Refuse = refl
ip_shows Trim = refl

-- the identifier of AS numbers shows the mode
pub as_shows : ShowsMode as_resources
as_shows Refuse = refl
as_shows Trim = refl
