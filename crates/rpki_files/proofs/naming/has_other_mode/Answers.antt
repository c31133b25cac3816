use Rattle.std.specs.Prelude.{◌↔◌, Bool, false, IsTrue}
use Rattle.std.proofs.Common.{◌≡◌, ℕ, List, sym, ◌∙◌}
use Rattle.std.proofs.lemmas.Bool.{false≢true}
use Rattle.rpki_blocks.specs.declared.overclaim.Overclaim.TheVariants.{Refuse, Trim}
use Rattle.rpki_der.specs.declared.error.Field.{Field}
use Rattle.rpki_der.specs.Place.{remaining}
use Rattle.rpki_files.specs.NamedFaults.{HasOtherMode}
use Rattle.rpki_files.specs.PolicyPresence.{BeginsWithOne, Lack}
use Rattle.rpki_files.specs.declared.policies.Wanted.TheVariants.{Policy, Resources}
use Rattle.rpki_files.proofs.naming.has_other_mode.Goals as goal

module _ (f : Field) (elements : List ℕ) (first second : Bool)
    (of_refuse : IsTrue first ↔ (BeginsWithOne (Resources f Refuse) elements × Lack (Policy Refuse) elements))
    (of_trim : IsTrue second ↔ (BeginsWithOne (Resources f Trim) elements × Lack (Policy Trim) elements)) where
  one_of_both : first ≡ false → HasOtherMode f elements → IsTrue second
  one_of_both none (Refuse, has, lacks) = absurd (false≢true (sym none ∙ of_refuse.1 (has, lacks)))
  one_of_both none (Trim, has, lacks) = of_trim.1 (has, lacks)

pub returns : goal.returns
returns c = (
  (λ yes. let both = c.is_of_other_mode-2.ensures.0 yes in (Trim, both.0, both.1)),
  one_of_both c.args.field (remaining c.args.elements.now) c.is_of_other_mode.result c.is_of_other_mode-2.result
      c.is_of_other_mode.ensures c.is_of_other_mode-2.ensures c.if-is_of_other_mode.false,
)
