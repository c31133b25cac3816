-- Buckets of ascending serial numbers: those that lie equally far above a base, but for their last
-- binary digits (own).
use Rattle.std.specs.Prelude.{◌≡◌, ℕ, ◌+◌, ◌-◌, ◌*◌, ◌/◌, ◌^◌, ◌<◌, ◌≤◌, ◌⊎◌, List, length, get_or}

-- the bucket of a serial number: how far it lies above the base, without so many binary digits
abbrev pub bucket_of : ℕ → ℕ → ℕ → ℕ
bucket_of base shift serial = (serial - base * 2 ^ 32) / 2 ^ shift

-- the last bucket of ascending numbers: that of the greatest one
abbrev pub last_bucket : ℕ → ℕ → List ℕ → ℕ
last_bucket base shift xs = bucket_of base shift (get_or xs (length xs - 1) 0)

-- the base is the least number without its last 32 binary digits; there are about half as many
-- buckets as numbers, or fewer, but no fewer than an eighth where a bucket has several numbers
pub record IsScale (base shift : ℕ) (xs : List ℕ) : Type 0 where
  pub base_is : base ≡ get_or xs 0 0 / 2 ^ 32
  pub few : 2 * last_bucket base shift xs ≤ length xs + 1
  pub many : (shift ≡ 0) ⊎ (length xs ≤ 8 * (last_bucket base shift xs + 1))

-- in this place the first number stands that is in no earlier bucket, if there is one
pub record IsStart (base shift : ℕ) (xs : List ℕ) (bucket start : ℕ) : Type 0 where
  pub inside : start ≤ length xs
  pub before : (i : ℕ) → i < start → bucket_of base shift (get_or xs i 0) < bucket
  pub after : (i : ℕ) → start ≤ i → i < length xs → bucket ≤ bucket_of base shift (get_or xs i 0)

-- where each bucket begins, from the first on
abbrev pub AreStarts : ℕ → ℕ → List ℕ → List ℕ → Type 0
AreStarts base shift starts xs = (k : ℕ) → k < length starts → IsStart base shift xs k (get_or starts k 0)

-- where the buckets of ascending numbers begin, up to the last one
pub record AreBuckets (base shift : ℕ) (starts xs : List ℕ) : Type 0 where
  pub scale : IsScale base shift xs
  pub starts_are : AreStarts base shift starts xs
  pub all : length starts - 1 ≡ last_bucket base shift xs
