-- A sequence of entries, gone over one entry at a time.
use Rattle.std.specs.Prelude.{nat_eq, not, map}
use Rattle.std.proofs.Common.{◌≡◌, ℕ, zero, suc, ◌<◌, Bool, List, [], ◌∷◌, length, get_or, Option, Some, None, refl}
use Rattle.std.proofs.Common.{sym, ap, subst, ◌∙◌, inl, inr, arith}
use Rattle.std.proofs.lemmas.Bool.{cases_Bool, eqb-true, eqb-false, eq-eqb, ne_eqb}
use Rattle.rpki_der.specs.Folding.{each, over, pass, steps}
use Rattle.rpki_der.specs.Sequences.Reading.{sequence_of}
use Rattle.rpki_der.specs.Values.{AreOctets}
use Rattle.rpki_der.proofs.Octets.{bind_some, nothing, some}
use Rattle.rpki_der.proofs.Sequences.{elements_are, sequence_steps}
use Rattle.rpki_der.proofs.SequenceWalks.{passed, ends, goes_on}
use Rattle.rpki_crl.specs.RevokedEntries.{Entry, Revoked, IsEntry, AreEntries, IsRevoked, entry_format, or_none, entries_in, entries_pass}
use Rattle.rpki_crl.specs.SerialTables.{looks}
use Rattle.rpki_crl.proofs.EntryReads.{entry_reads, entry_shrinks}

-- no octets are read as no entries
pub all_read : sequence_of entry_format.read [] ≡ Some []
unfolding sequence_of
all_read = refl

-- octets that pass are their entries
pub entries_are : (octets : List ℕ) → entries_pass octets ≡ Some tt → sequence_of entry_format.read octets ≡ Some (entries_in octets)
unfolding entries_pass
entries_are octets whole =
    let elements = bind_some (sequence_of entry_format.read octets) (λ entries. Some tt) tt
    (sym (passed entry_format.read octets) ∙ whole) in
    rw elements.1 refl

-- and they are encoded so
pub kept_entries : (octets : List ℕ) (r : Revoked) → record { entries = entries_in octets; octets = octets } ≡ r →
    entries_pass octets ≡ Some tt → AreOctets octets → AreEntries r.entries r.octets
kept_entries octets r view whole fits =
    subst (λ (s : Revoked). AreEntries s.entries s.octets) view
    (elements_are entry_format.read IsEntry entry_reads octets (entries_in octets) fits
    (entries_are octets whole))

-- ---- one entry after the other

-- no octets have no entries
pub no_entries_in : entries_in [] ≡ []
no_entries_in = rw all_read refl

module _ (octets : List ℕ) (whole : entries_pass octets ≡ Some tt) where
  -- at the end there is none
  pub none_left : octets ≡ [] → entries_in octets ≡ []
  none_left e = rw e no_entries_in

  -- before the end one stands
  pub one_stands : 0 < length octets → entry_format.read octets ≡ None → ⊥
  unfolding entries_pass
  one_stands p none = nothing tt (sym (ends entry_format.read pass entry_shrinks tt octets p none) ∙ whole)

  module _ (e : Entry) (rest : List ℕ) (was : entry_format.read octets ≡ some {A = Entry × List ℕ} (e, rest)) where
    -- and the others follow it
    pub others_pass : entries_pass rest ≡ Some tt
    unfolding entries_pass
    others_pass = sym (goes_on entry_format.read pass entry_shrinks tt octets e rest was tt refl) ∙ whole

    -- the first entry that is read is the first of the octets
    pub first_entry : entries_in octets ≡ e ∷ entries_in rest
    first_entry =
        let less : length rest < length octets = entry_shrinks octets e rest was in
        let elements : sequence_of entry_format.read octets ≡ Some (e ∷ entries_in rest) =
        sequence_steps entry_format.read entry_shrinks octets (omega (arith, less)) ∙
        rw (was, entries_are rest others_pass) refl in
        ap or_none elements

-- ---- a serial among those of entries

module _ (serial : ℕ) where
  -- an entry has another serial
  abbrev pub differs : Entry → Bool
  differs entry = not (nat_eq entry.serial serial)

  -- no entry has it
  unfoldable pub spares : List ℕ → Option (Unit {0})
  spares = over entry_format.read (each differs) tt

  found_among : (entries : List Entry) → steps (each differs) tt entries ≡ None → IsRevoked serial entries
  found_among [] e = absurd cc
  found_among (entry ∷ entries) e =
      elim (cases_Bool (nat_eq entry.serial serial)) [
        | inl y ↦ (0, omega arith, eqb-true entry.serial serial y)
        | inr n ↦
            let later = found_among entries (rw n at e) in
            let less : later.0 < length (map (λ (other : Entry). other.serial) entries) = later.1 in
            (suc later.0, omega arith, later.2)
      ]

  spared_by : (entries : List Entry) (k : ℕ) → steps (each differs) tt entries ≡ Some tt →
      k < length (map (λ (entry : Entry). entry.serial) entries)
      → get_or (map (λ (entry : Entry). entry.serial) entries) k serial ≡ serial → ⊥
  spared_by [] k e less same = omega (arith, less)
  spared_by (entry ∷ entries) k e less same =
      elim (cases_Bool (nat_eq entry.serial serial)) [
        | inl y ↦ nothing {B = ⊥} tt (rw y at e)
        | inr n ↦ behind k (eqb-false entry.serial serial n) (spared_by entries) (rw n at e) less same
      ]
    where
      behind : (k : ℕ) → (entry.serial ≡ serial → ⊥) →
          ((j : ℕ) → steps (each differs) tt entries ≡ Some tt →
          j < length (map (λ (entry : Entry). entry.serial) entries)
          → get_or (map (λ (entry : Entry). entry.serial) entries) j serial ≡ serial → ⊥) → steps (each differs) tt entries ≡ Some tt
          → k < length (map (λ (entry : Entry). entry.serial) (entry ∷ entries)) →
          get_or (map (λ (entry : Entry). entry.serial) (entry ∷ entries)) k serial ≡ serial → ⊥
      behind zero other later e less same = other same
      behind (suc j) other later e less same = later j e (omega (arith, less)) same

  -- what a kept list is seen as
  module _ (octets : List ℕ) (r : Revoked) (view : record { entries = entries_in octets; octets = octets } ≡ r)
      (whole : entries_pass octets ≡ Some tt) where
    -- where the walk over entries is ended by the serial, it is revoked
    pub found : spares r.octets ≡ None → IsRevoked serial r.entries
    unfolding spares over
    found = subst (λ (s : Revoked). spares s.octets ≡ None → IsRevoked serial s.entries) view
        (λ e. found_among (entries_in octets) (rw (entries_are octets whole) at e))

    -- where the walk over entries isn't ended by the serial, it isn't revoked
    pub spared : spares r.octets ≡ Some tt → IsRevoked serial r.entries → ⊥
    unfolding spares over
    spared =
        subst (λ (s : Revoked). spares s.octets ≡ Some tt → IsRevoked serial s.entries → ⊥) view
        (λ e among. spared_by (entries_in octets) among.0 (rw (entries_are octets whole) at e) among.1 among.2)

-- ---- how many entries are looked at

module _ (serial : ℕ) (octets : List ℕ) (whole : entries_pass octets ≡ Some tt) where
  -- at the end of the octets no entry is looked at
  pub no_more_looks : octets ≡ [] → looks serial (entries_in octets) ≡ 0
  no_more_looks e = rw (none_left octets whole e) refl

  module _ (e : Entry) (rest : List ℕ) (was : entry_format.read octets ≡ some {A = Entry × List ℕ} (e, rest)) where
    -- an entry with the serial is the last that is looked at
    pub last_look : e.serial ≡ serial → looks serial (entries_in octets) ≡ 1
    last_look same = rw (first_entry octets whole e rest was, eq-eqb e.serial serial same) refl

    -- an entry with another serial is one look more
    pub one_look_more : (e.serial ≡ serial → ⊥) → looks serial (entries_in octets) ≡ suc (looks serial (entries_in rest))
    one_look_more other = rw (first_entry octets whole e rest was, ne_eqb e.serial serial other) refl
