-- The next list of an issuer (RFC 5280 5.1.2.6, 5.2.3, RFC 6487 5).
use Rattle.std.specs.Int.Digits.{digits_of}
use Rattle.std.specs.Prelude.{◌≡◌, ◌⊎◌, ◌<◌, ◌≤◌, ℕ, List, [], ◌∷◌, Contains, length, codes}
use Rattle.rpki_der.specs.Primitives.{unsigned}
use Rattle.rpki_der.specs.Times.{Moment}
use Rattle.rpki_parts.specs.Conditions.{IsFirstFalse}
use Rattle.rpki_parts.specs.ValidAt.{IsNotAfter}
use Rattle.rpki_crl.specs.Lists.{ListFields}
use Rattle.rpki_crl.specs.RevokedEntries.{Entry, Revoked, IsRevoked}
use Rattle.rpki_issuing.specs.declared.next.NextListError.{NextListError}
use Rattle.rpki_issuing.specs.declared.next.NextListError.TheVariants.{Number, LongNumber, UpdateOrder, Memory}
pub mod Steps

-- the entry stood on the list, and its certificate isn't gone: it hasn't expired
pub record IsKept (old : ListFields Revoked) (gone : List ℕ) (e : Entry) : Type 0 where
  pub stood : Contains old.revoked.entries e
  pub not_gone : Contains gone e.serial → ⊥

-- which entries the next list has: those of the old one whose certificates aren't gone, and those
-- that are added, and no others. A serial number that is kept isn't added a second time (own).
pub record HasNextEntries (old : ListFields Revoked) (added : List Entry) (gone : List ℕ) (es : List Entry) : Type
    0 where
  pub kept : (e : Entry) → IsKept old gone e → Contains es e
  pub revoked : (e : Entry) → Contains added e → IsRevoked e.serial es
  pub only : (e : Entry) → Contains es e → IsKept old gone e ⊎ Contains added e

-- as an INTEGER the number has at most 20 octets (RFC 5280 5.2.3)
abbrev pub HasAtMostTwentyOctets : ℕ → Type 0
HasAtMostTwentyOctets number = length (unsigned (digits_of 256 number)) ≤ 20

-- the next list: a greater number that isn't too long, moments in order, these entries, and else
-- what the old one has
pub record IsNext (old : ListFields Revoked) (added : List Entry) (gone : List ℕ) (f : ListFields Revoked) : Type
    0 where
  pub number_is_greater : old.extensions.crl_number < f.extensions.crl_number
  pub number_is_short : HasAtMostTwentyOctets f.extensions.crl_number
  pub updates_are_in_order : IsNotAfter f.this_update f.next_update
  pub entries : HasNextEntries old added gone f.revoked.entries
  pub algorithm_is : f.algorithm ≡ old.algorithm
  pub issuer_is : f.issuer ≡ old.issuer
  pub identifier_is : f.extensions.authority_key_identifier ≡ old.extensions.authority_key_identifier

-- ---- why there is none

-- what is asked of the number and the moments, named by the error where it isn't so (RFC 5280
-- 5.2.3; own: the next update isn't before this one)
abbrev pub NextCheck : ListFields Revoked → ℕ → Moment → Moment → NextListError → Type 0
NextCheck old number this_update next_update Number = old.extensions.crl_number < number
NextCheck old number this_update next_update LongNumber = HasAtMostTwentyOctets number
NextCheck old number this_update next_update UpdateOrder = IsNotAfter this_update next_update
NextCheck old number this_update next_update Memory = Unit {0}

-- in the order in which they are tested
abbrev pub next_checks : List NextListError
next_checks = Number ∷ LongNumber ∷ UpdateOrder ∷ []

-- the first of them that isn't so; or memory was wanted
abbrev pub IsNoNext : ListFields Revoked → ℕ → Moment → Moment → NextListError → Type 0
IsNoNext old number this_update next_update e = (e ≡ Memory) ⊎
    IsFirstFalse (NextCheck old number this_update next_update) next_checks e

-- ---- names

-- the name of the error
abbrev pub next_list_error_name : NextListError → List ℕ
next_list_error_name Number = codes "Number"
next_list_error_name LongNumber = codes "LongNumber"
next_list_error_name UpdateOrder = codes "UpdateOrder"
next_list_error_name Memory = codes "Memory"
