-- How many serial numbers a search of a sorted table looks at (own).
use Rattle.std.specs.Prelude.{◌≡◌, ℕ, ◌+◌, ◌-◌, ◌*◌, ◌/◌, ◌^◌, ◌<◌, ◌≤◌, ◌⊎◌, List, length, get_or}
use Rattle.std.specs.List.Sorted.{IsPermutation}
use Rattle.rpki_crl.specs.RevokedEntries.{Entry}
use Rattle.rpki_crl.specs.SerialBuckets.{bucket_of, last_bucket, IsScale, IsStart}
use Rattle.rpki_crl.specs.SerialTables.{AreAscending, serials_of}

-- the place in the middle
abbrev pub middle : ℕ → ℕ → ℕ
middle low high = low + (high - low) / 2

-- a search by halving, from the place low up to high, looks at so many numbers: at the one in the
-- middle, and, where that is another one, at those of the half where the serial can stand
pub data Halving (xs : List ℕ) (serial : ℕ) : ℕ → ℕ → ℕ → Type 0 where
  nothing : (low high : ℕ) → high ≤ low → Halving xs serial low high 0
  found : (low high : ℕ) → low < high → get_or xs (middle low high) 0 ≡ serial → Halving xs serial low high 1
  above : (low high looks : ℕ) → low < high → get_or xs (middle low high) 0 < serial →
      Halving xs serial (middle low high + 1) high looks → Halving xs serial low high (looks + 1)
  below : (low high looks : ℕ) → low < high → serial < get_or xs (middle low high) 0 →
      Halving xs serial low (middle low high) looks → Halving xs serial low high (looks + 1)

-- from low to high the serial's bucket stands, where a later bucket has a number
pub record IsBucket (base shift : ℕ) (xs : List ℕ) (serial low high : ℕ) : Type 0 where
  pub earlier : bucket_of base shift serial < last_bucket base shift xs
  pub begins : IsStart base shift xs (bucket_of base shift serial) low
  pub ends : IsStart base shift xs (bucket_of base shift serial + 1) high

-- all places, for a serial that lies below the base, in the last bucket or beyond
pub record IsWhole (base shift : ℕ) (xs : List ℕ) (serial low high : ℕ) : Type 0 where
  pub outside : (serial < base * 2 ^ 32) ⊎ (last_bucket base shift xs ≤ bucket_of base shift serial)
  pub from : low ≡ 0
  pub to : high ≡ length xs

-- a serial is searched for from low to high: in its bucket, or in the whole table
pub record IsRange (xs : List ℕ) (serial low high : ℕ) : Type 0 where
  pub base : ℕ
  pub shift : ℕ
  pub scale : IsScale base shift xs
  pub places : IsBucket base shift xs serial low high ⊎ IsWhole base shift xs serial low high

-- a search of ascending numbers looks at so many of them: it halves the serial's range
pub record IsSearch (xs : List ℕ) (serial looks : ℕ) : Type 0 where
  pub low : ℕ
  pub high : ℕ
  pub range : IsRange xs serial low high
  pub halves : Halving xs serial low high looks

-- so many of the serials of these entries are looked at in a sorted table
pub record IsTableSearch (entries : List Entry) (serial looks : ℕ) : Type 0 where
  pub table : List ℕ
  pub has_all : IsPermutation (serials_of entries) table
  pub ascending : AreAscending table
  pub search : IsSearch table serial looks
