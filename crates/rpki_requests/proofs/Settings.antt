-- The options that take a value: each is listed, and a name is one option's at most.
use Rattle.std.specs.Prelude.{Option, Some, None, cond}
use Rattle.std.specs.Str.{bytes_eq}
use Rattle.std.proofs.Common.{◌≡◌, ◌<◌, ℕ, Bool, true, false, List, [], ◌∷◌, ◌++◌, get_or, refl, lit<, arith}
use Rattle.std.proofs.lemmas.Slice.Eq.{bytes_eq-Decides}
use Rattle.rpki_text.specs.WordParts.{IsOption}
use Rattle.rpki_requests.specs.declared.words.Setting.{Setting}
use Rattle.rpki_requests.specs.declared.words.Setting.TheVariants.{Issuer, Key, Serial, From, Until, Ipv4, Ipv6}
use Rattle.rpki_requests.specs.declared.words.Setting.TheVariants.{AsNumbers, Repository, Manifest, Notify, Object}
use Rattle.rpki_requests.specs.declared.words.Setting.TheVariants.{IssuerUri, CrlUri, Crl, Previous, Number, Revoke}
use Rattle.rpki_requests.specs.declared.words.Setting.TheVariants.{NextUpdate, At, Out}
use Rattle.rpki_requests.specs.RequestWords.{asked_option_name}

-- all of them
abbrev pub settings : List Setting
settings =
    Issuer ∷ Key ∷ Serial ∷ From ∷ Until ∷ Ipv4 ∷ Ipv6 ∷ AsNumbers ∷ Repository ∷ Manifest ∷ Notify ∷ Object ∷
    IssuerUri ∷ CrlUri
    ∷ Crl ∷ Previous ∷ Number ∷ Revoke ∷ NextUpdate ∷ At ∷ Out ∷ []

-- what holds of each that is listed holds of each
pub of_each : (P : Setting → Type 0) → ((k : ℕ) → k < 21 → P (get_or settings k Issuer)) → (setting : Setting) →
    P setting
of_each P each Issuer = each 0 (lit< tt)
of_each P each Key = each 1 (lit< tt)
of_each P each Serial = each 2 (lit< tt)
of_each P each From = each 3 (lit< tt)
of_each P each Until = each 4 (lit< tt)
of_each P each Ipv4 = each 5 (lit< tt)
of_each P each Ipv6 = each 6 (lit< tt)
of_each P each AsNumbers = each 7 (lit< tt)
of_each P each Repository = each 8 (lit< tt)
of_each P each Manifest = each 9 (lit< tt)
of_each P each Notify = each 10 (lit< tt)
of_each P each Object = each 11 (lit< tt)
of_each P each IssuerUri = each 12 (lit< tt)
of_each P each CrlUri = each 13 (lit< tt)
of_each P each Crl = each 14 (lit< tt)
of_each P each Previous = each 15 (lit< tt)
of_each P each Number = each 16 (lit< tt)
of_each P each Revoke = each 17 (lit< tt)
of_each P each NextUpdate = each 18 (lit< tt)
of_each P each At = each 19 (lit< tt)
of_each P each Out = each 20 (lit< tt)

-- the first of these that has this name
unfoldable pub first_named : List Setting → List ℕ → Option Setting
first_named [] word = None
first_named (s ∷ rest) word = cond (bytes_eq word (asked_option_name s)) (Some s) (first_named rest word)

-- the option that has this name
abbrev pub setting_of : List ℕ → Option Setting
setting_of word = first_named settings word

-- a name is its option's
pub found : (setting : Setting) → setting_of (asked_option_name setting) ≡ Some setting
unfolding first_named
found Issuer = refl
found Key = refl
found Serial = refl
found From = refl
found Until = refl
found Ipv4 = refl
found Ipv6 = refl
found AsNumbers = refl
found Repository = refl
found Manifest = refl
found Notify = refl
found Object = refl
found IssuerUri = refl
found CrlUri = refl
found Crl = refl
found Previous = refl
found Number = refl
found Revoke = refl
found NextUpdate = refl
found At = refl
found Out = refl

either : (b : Bool) (here : Option Setting) (later : Option Setting) → (b ≡ true → ⊥) → later ≡ None →
    cond b here later ≡ None
either true here later never is = absurd (never refl)
either false here later never is = is

-- a word that is no option's name
pub none_found : (some : List Setting) (word : List ℕ) → ((setting : Setting) → word ≡ asked_option_name setting → ⊥) →
    first_named some word ≡ None
unfolding first_named
none_found [] word none = refl
none_found (s ∷ rest) word none =
    either (bytes_eq word (asked_option_name s)) (Some s) (first_named rest word)
    (λ same. none s ((bytes_eq-Decides word (asked_option_name s)).0 same)) (none_found rest word none)

-- a name begins with two hyphens
pub dashed : (setting : Setting) (rest : List ℕ) → IsOption (asked_option_name setting ++ rest)
dashed Issuer rest = (refl, omega arith)
dashed Key rest = (refl, omega arith)
dashed Serial rest = (refl, omega arith)
dashed From rest = (refl, omega arith)
dashed Until rest = (refl, omega arith)
dashed Ipv4 rest = (refl, omega arith)
dashed Ipv6 rest = (refl, omega arith)
dashed AsNumbers rest = (refl, omega arith)
dashed Repository rest = (refl, omega arith)
dashed Manifest rest = (refl, omega arith)
dashed Notify rest = (refl, omega arith)
dashed Object rest = (refl, omega arith)
dashed IssuerUri rest = (refl, omega arith)
dashed CrlUri rest = (refl, omega arith)
dashed Crl rest = (refl, omega arith)
dashed Previous rest = (refl, omega arith)
dashed Number rest = (refl, omega arith)
dashed Revoke rest = (refl, omega arith)
dashed NextUpdate rest = (refl, omega arith)
dashed At rest = (refl, omega arith)
dashed Out rest = (refl, omega arith)
