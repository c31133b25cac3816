-- What a certificate gets, by what it lists.
use Rattle.std.proofs.Common.{◌≡◌, ℕ, Bool, true, false, ◌&&◌, List, [], Result, Ok, Err, refl, sym, ◌∙◌}
use Rattle.std.specs.Prelude.{◌↔◌, IfOk, OnOk}
use Rattle.rpki_blocks.specs.IssuedSets.{IsIssued, IsListed, IsOverclaim}
use Rattle.rpki_blocks.specs.Resources.{Resources, missing, inherit, blocks}
use Rattle.rpki_blocks.specs.Sets.{Block, Has, IsSet, AreIn, Escapes, IsIntersection, is_in}
use Rattle.rpki_blocks.specs.declared.overclaim.Overclaim.{Overclaim}
use Rattle.rpki_blocks.specs.declared.overclaim.Overclaim.TheVariants.{Refuse, Trim}
use Rattle.rpki_blocks.specs.declared.resources.IssueError.{IssueError}
use Rattle.rpki_blocks.specs.declared.resources.IssueError.TheVariants.{Overclaimed}

-- the answer to a certificate's list, under the set that its issuer holds
pub record IsAnswer (greatest : ℕ) (held : List Block) (listed : Resources) (mode : Overclaim)
    (result : Result (List Block) IssueError) : Type 0 where
  pub issued : IfOk result (IsIssued held listed)
  pub set : IfOk result (IsSet greatest)
  pub held_is : OnOk result (mode ≡ Refuse → (n : ℕ) → IsListed n listed → Has held n)
  pub overclaimed : (result ≡ Err Overclaimed) ↔ ((mode ≡ Refuse) × IsOverclaim greatest (Has held) listed)

-- a number is in both sets
in_both : (a b c : Bool) → c ≡ (a && b) → (c ≡ true → (a ≡ true) × (b ≡ true)) × ((a ≡ true) × (b ≡ true) → c ≡ true)
in_both true b c is = (λ h. (refl, sym is ∙ h), λ h. is ∙ h.1)
in_both false b c is = (λ h. absurd cc, λ h. absurd cc)

-- nothing is got where nothing is listed
pub gets_none : (greatest : ℕ) (held : List Block) (mode : Overclaim) (set : List Block) → set ≡ [] →
    IsSet greatest [] → IsAnswer greatest held missing mode (Ok set)
gets_none greatest held mode set none empty = record {
  issued = λ n. rw none (λ has. absurd cc, λ gets. absurd gets);
  set = rw none empty;
  held_is = λ refuses n listed. absurd listed;
  overclaimed = (λ wrong. absurd cc, λ x. absurd x.1.listed);
}

-- all that the issuer holds is got where it is inherited
pub gets_all : (greatest : ℕ) (held : List Block) (mode : Overclaim) (set : List Block) → set ≡ held →
    IsSet greatest set → IsAnswer greatest held inherit mode (Ok set)
gets_all greatest held mode set same is_set = record {
  issued = λ n. rw same (λ has. has, λ gets. gets);
  set = is_set;
  held_is = λ refuses n listed. absurd listed;
  overclaimed = (λ wrong. absurd cc, λ x. absurd x.1.listed);
}

-- what is listed is got where the issuer holds it
pub gets_listed : (greatest : ℕ) (held chain set : List Block) (mode : Overclaim) → AreIn chain held → set ≡ chain →
    IsSet greatest set → IsAnswer greatest held (blocks chain) mode (Ok set)
gets_listed greatest held chain set mode inside same is_set = record {
  issued = λ n. rw same (λ has. (has, inside n has), λ gets. gets.0);
  set = is_set;
  held_is = λ refuses n listed. inside n listed;
  overclaimed = (λ wrong. absurd cc, λ x. absurd (x.1.not_held (inside x.1.number x.1.listed)));
}

-- nothing is got where the issuer doesn't hold it and may not trim it
pub is_refused : (greatest : ℕ) (held chain : List Block) → Escapes greatest chain held →
    IsAnswer greatest held (blocks chain) Refuse (Err Overclaimed)
is_refused greatest held chain escapes = record {
  issued = tt;
  set = tt;
  held_is = tt;
  overclaimed = (
    λ is. (
      refl,
      record {
        number = escapes.number;
        small = escapes.small;
        listed = escapes.inside;
        not_held =
            λ has. absurd cc;
      },
    ),
    λ x. refl,
  );
}

-- else what is listed is trimmed to what the issuer holds
pub gets_both : (greatest : ℕ) (held chain set : List Block) → IsIntersection chain held set → IsSet greatest set →
    IsAnswer greatest held (blocks chain) Trim (Ok set)
gets_both greatest held chain set both is_set = record {
  issued = λ n. in_both (is_in n chain) (is_in n held) (is_in n set) (both n);
  set = is_set;
  held_is = λ refuses. absurd cc;
  overclaimed = (λ wrong. absurd cc, λ x. absurd cc);
}
