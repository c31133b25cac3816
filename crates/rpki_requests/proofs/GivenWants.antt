-- What options say: of one option, and of all of them.
use Rattle.std.specs.Prelude.{Option, Some, None}
use Rattle.std.proofs.Common.{◌≡◌, ℕ, List}
use Rattle.rpki_blocks.specs.Resources.{Resources}
use Rattle.rpki_der.specs.Times.{Moment}
use Rattle.rpki_issuing.specs.BlockTexts.{AreListed, IsAddressesText, IsAsText}
use Rattle.rpki_issuing.specs.OnlyValues.{IsOnly}
use Rattle.rpki_issuing.specs.ValueTexts.{IsSerialText, IsRsyncText, IsHttpsText}
use Rattle.rpki_issuing.specs.declared.values.families.Family.TheVariants.{V4, V6}
use Rattle.rpki_issuing.specs.declared.wanted.wanted.Numbers.{Numbers}
use Rattle.rpki_issuing.specs.declared.wanted.wanted.Places.{Places}
use Rattle.rpki_requests.specs.OptionValues.{GivesNumbers, GivesPlaces, GivesWanted, IsMomentSaid, SaysAtMostOnce}
use Rattle.rpki_requests.specs.OptionValues.{SaysOnce}
use Rattle.rpki_requests.specs.RequestWords.{OptionFields, given_values}
use Rattle.rpki_requests.specs.declared.words.Setting.TheVariants.{Serial, From, Until, Ipv4, Ipv6, AsNumbers}
use Rattle.rpki_requests.specs.declared.words.Setting.TheVariants.{Repository, Manifest, Notify, Object, IssuerUri}
use Rattle.rpki_requests.specs.declared.words.Setting.TheVariants.{CrlUri}

-- ---- one option

some_same : {V : Type 0} (v w : V) → Some v ≡ Some w → v ≡ w
some_same v w e = cc

module _ {V : Type 0} (IsText : V → List ℕ → Type 0) (texts : List (List ℕ)) where
  -- the one value that is said, where at most one is, is the one
  pub once_ok : (v : V) → IsOnly (SaysAtMostOnce IsText texts) (Some v) → IsOnly (SaysOnce IsText texts) v
  once_ok v only = (only.0, λ w h. some_same w v (only.1 (Some w) h))

  pub once_none : IsOnly (SaysAtMostOnce IsText texts) None → (w : V) → SaysOnce IsText texts w → ⊥
  once_none only w h = let is = only.1 (Some w) h in absurd cc

-- ---- all of them

module _ (given : List OptionFields) where
  abbrev pub IsV4 : Resources → Type 0
  IsV4 r = AreListed (IsAddressesText V4) r (given_values Ipv4 given)

  abbrev pub IsV6 : Resources → Type 0
  IsV6 r = AreListed (IsAddressesText V6) r (given_values Ipv6 given)

  abbrev pub IsSystems : Resources → Type 0
  IsSystems r = AreListed IsAsText r (given_values AsNumbers given)

  abbrev pub IsRepository : Option (List ℕ) → Type 0
  IsRepository o = SaysAtMostOnce IsRsyncText (given_values Repository given) o

  abbrev pub IsManifest : Option (List ℕ) → Type 0
  IsManifest o = SaysAtMostOnce IsRsyncText (given_values Manifest given) o

  abbrev pub IsObject : Option (List ℕ) → Type 0
  IsObject o = SaysAtMostOnce IsRsyncText (given_values Object given) o

  abbrev pub IsNotify : Option (List ℕ) → Type 0
  IsNotify o = SaysAtMostOnce IsHttpsText (given_values Notify given) o

  abbrev pub IsIssuerUri : Option (List ℕ) → Type 0
  IsIssuerUri o = SaysAtMostOnce IsRsyncText (given_values IssuerUri given) o

  abbrev pub IsList : Option (List ℕ) → Type 0
  IsList o = SaysAtMostOnce IsRsyncText (given_values CrlUri given) o

  abbrev pub IsSerialGiven : ℕ → Type 0
  IsSerialGiven n = SaysOnce IsSerialText (given_values Serial given) n

  abbrev pub IsFrom : Moment → Type 0
  IsFrom m = SaysOnce IsMomentSaid (given_values From given) m

  abbrev pub IsUntil : Moment → Type 0
  IsUntil m = SaysOnce IsMomentSaid (given_values Until given) m

  -- two by two
  abbrev pub Both : {A B : Type 0} → (A → Type 0) → (B → Type 0) → A × B → Type 0
  Both IsA IsB p = IsA p.0 × IsB p.1

  abbrev pub AreNumbers : (Resources × Resources) × Resources → Type 0
  AreNumbers p = Both (Both IsV4 IsV6) IsSystems p

  pub numbers_ok : (t : (Resources × Resources) × Resources) → IsOnly AreNumbers t →
      IsOnly (GivesNumbers given) (record { v4 = t.0.0; v6 = t.0.1; systems = t.1 })
  numbers_ok t only = (
    record { v4_is = only.0.0.0; v6_is = only.0.0.1; systems_is = only.0.1 },
    λ n h.
        let e = only.1 ((n.v4, n.v6), n.systems) ((h.v4_is, h.v6_is), h.systems_is) in
        λ i. record { v4 = (e i).0.0; v6 = (e i).0.1; systems = (e i).1 },
  )

  pub numbers_none : ((p : (Resources × Resources) × Resources) → AreNumbers p → ⊥) → (n : Numbers) →
      GivesNumbers given n → ⊥
  numbers_none none n h = none ((n.v4, n.v6), n.systems) ((h.v4_is, h.v6_is), h.systems_is)

  abbrev pub Uri : Type 0
  Uri = Option (List ℕ)

  abbrev pub ArePlaces : ((Uri × Uri) × (Uri × Uri)) × (Uri × Uri) → Type 0
  ArePlaces p = Both (Both (Both IsRepository IsManifest) (Both IsObject IsNotify)) (Both IsIssuerUri IsList) p

  pub places_ok : (t : ((Uri × Uri) × (Uri × Uri)) × (Uri × Uri)) → IsOnly ArePlaces t →
      IsOnly (GivesPlaces given)
      (record {
        repository = t.0.0.0;
        manifest = t.0.0.1;
        object = t.0.1.0;
        notify = t.0.1.1;
        issuer =
            t.1.0;
        list = t.1.1;
      })
  places_ok t only = (
    record {
      repository_is = only.0.0.0.0;
      manifest_is = only.0.0.0.1;
      object_is = only.0.0.1.0;
      notify_is =
          only.0.0.1.1;
      issuer_is = only.0.1.0;
      list_is = only.0.1.1;
    },
    λ p h.
        let e = only.1 (((p.repository, p.manifest), (p.object, p.notify)), (p.issuer, p.list))
        (((h.repository_is, h.manifest_is), (h.object_is, h.notify_is)), (h.issuer_is, h.list_is)) in
        λ i. record {
          repository = (e i).0.0.0;
          manifest = (e i).0.0.1;
          object = (e i).0.1.0;
          notify =
              (e i).0.1.1;
          issuer = (e i).1.0;
          list = (e i).1.1;
        },
  )

  pub places_none : ((p : ((Uri × Uri) × (Uri × Uri)) × (Uri × Uri)) → ArePlaces p → ⊥) → (p : Places) →
      GivesPlaces given p → ⊥
  places_none none p h = none (((p.repository, p.manifest), (p.object, p.notify)), (p.issuer, p.list))
      (((h.repository_is, h.manifest_is), (h.object_is, h.notify_is)), (h.issuer_is, h.list_is))

  abbrev pub AreParts : Numbers × Places → Type 0
  AreParts p = Both (GivesNumbers given) (GivesPlaces given) p

  pub wanted_ok : (serial : ℕ) (from until : Moment) (numbers : Numbers) (places : Places) →
      IsOnly IsSerialGiven serial → IsOnly IsFrom from → IsOnly IsUntil until →
      IsOnly AreParts (numbers, places) →
      IsOnly (GivesWanted given)
      (record { serial = serial; not_before = from; not_after = until; numbers = numbers; places = places })
  wanted_ok serial from until numbers places one first last parts = (
    record { serial_is = one.0; from_is = first.0; until_is = last.0; numbers_are = parts.0.0; places_are = parts.0.1 },
    λ w h.
        let s = one.1 w.serial h.serial_is in
        let f = first.1 w.not_before h.from_is in
        let u = last.1 w.not_after h.until_is in
        let e = parts.1 (w.numbers, w.places) (h.numbers_are, h.places_are) in
        λ i. record { serial = s i; not_before = f i; not_after = u i; numbers = (e i).0; places = (e i).1 },
  )
