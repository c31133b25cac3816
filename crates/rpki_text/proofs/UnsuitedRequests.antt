-- A request that doesn't suit its task, by the reason that is told.
use Rattle.std.proofs.Common.{◌≡◌, ◌≢◌, ℕ, true, false, inl, inr, List, [], ◌∷◌, refl, sym, ◌∙◌, subst}
use Rattle.std.proofs.lemmas.Bool.{false≢true}
use Rattle.rpki_text.specs.declared.command_line.arguments.Misuse.{Misuse}
use Rattle.rpki_text.specs.declared.command_line.arguments.Misuse.TheVariants.{Unknown, NoFile, OneFile, ListsIn}
use Rattle.rpki_text.specs.declared.command_line.arguments.Misuse.TheVariants.{NoLocator, NoLocatorIn, BoundsIn}
use Rattle.rpki_text.specs.declared.command_line.arguments.Misuse.TheVariants.{InputIn, NoAnchor, BothAnchors}
use Rattle.rpki_text.specs.declared.command_line.arguments.Misuse.TheVariants.{NoLists, BothLists}
use Rattle.rpki_text.specs.declared.command_line.arguments.Task.{Task}
use Rattle.rpki_text.specs.declared.command_line.arguments.Task.TheVariants.{Show, Validate, Tree, Help, Version}
use Rattle.rpki_text.specs.CommandLines.{RequestFields, AsksNoBounds, AsksNoTree, AsksSearch, GivesLists}
use Rattle.rpki_text.specs.CommandLines.{LeavesNothingOut, SaysAnchor, SaysLists, Suits, SuitsFolders}
use Rattle.rpki_text.specs.Misuses.{IsExtra, IsLeftOutBy, IsOfTree, IsReason, SeeksPath}

-- the task wants files
some_files : (task : Task) (r : RequestFields) → task ≢ Help → task ≢ Version → Suits task r → r.files ≢ []
some_files Show r no_help no_version suits = suits.0
some_files Validate r no_help no_version suits = suits.0
some_files Tree r no_help no_version suits = suits.0
some_files Help r no_help no_version suits = absurd (no_help refl)
some_files Version r no_help no_version suits = absurd (no_version refl)

-- a path that is sought wants more
asks_search : (folders : List (List ℕ)) (r : RequestFields) → folders ≢ [] → SuitsFolders folders r → AsksSearch r
asks_search [] r some suits = absurd (some refl)
asks_search (folder ∷ folders) r some suits = suits

sought : (task : Task) (r : RequestFields) → SeeksPath task r → Suits task r → AsksSearch r
sought task r seeks suits = asks_search r.folders r seeks.1 (subst (λ (t : Task). Suits t r) seeks.0 suits).2

-- one that isn't has no bounds
asks_no_bounds : (folders : List (List ℕ)) (r : RequestFields) → folders ≡ [] → SuitsFolders folders r → AsksNoBounds r
asks_no_bounds [] r none suits = suits
asks_no_bounds (folder ∷ folders) r none suits = absurd cc

-- an option is given by which something is left out
left_out : (name : List ℕ) (r : RequestFields) → IsLeftOutBy name r → LeavesNothingOut r → ⊥
left_out name r (inl given) nothing = false≢true (sym nothing.0 ∙ given.1)
left_out name r (inr given) nothing = false≢true (sym nothing.1 ∙ given.1)

-- it isn't said, or said twice, what the trust anchor is compared with
no_anchor : (r : RequestFields) → r.locators ≡ [] → r.trust_first ≡ false → SaysAnchor r → ⊥
no_anchor r none trusts (inl says) = says.0 none
no_anchor r none trusts (inr says) = false≢true (sym trusts ∙ says.1)

both_anchors : (r : RequestFields) → r.locators ≢ [] → r.trust_first ≡ true → SaysAnchor r → ⊥
both_anchors r some trusts (inl says) = false≢true (sym says.1 ∙ trusts)
both_anchors r some trusts (inr says) = some says.0

-- or which CRLs are checked
no_lists : (r : RequestFields) → (GivesLists r → ⊥) → r.no_crl ≡ false → SaysLists r → ⊥
no_lists r none left (inl says) = none says.0
no_lists r none left (inr says) = false≢true (sym left ∙ says.2)

both_lists : (r : RequestFields) → GivesLists r → r.no_crl ≡ true → SaysLists r → ⊥
both_lists r some left (inl says) = false≢true (sym says.1 ∙ left)
both_lists r (inl some) left (inr says) = some says.0
both_lists r (inr some) left (inr says) = some says.1

-- an option is given that only a tree takes
of_tree : (name : List ℕ) (r : RequestFields) → IsOfTree name r → AsksNoTree r → ⊥
of_tree name r (inl given) nothing = false≢true (sym nothing.0 ∙ given.1)
of_tree name r (inr given) nothing = false≢true (sym nothing.1 ∙ given.1)

-- an option is given that the task doesn't take
extra_unsuited : (task : Task) (name : List ℕ) (r : RequestFields) → IsExtra task name r → Suits task r → ⊥
extra_unsuited Show name r (inl given) suits = given.1 suits.1.0
extra_unsuited Show name r (inr (inl given)) suits = given.1 suits.1.1
extra_unsuited Show name r (inr (inr (inl given))) suits = given.1 suits.1.2
extra_unsuited Show name r (inr (inr (inr (inl given)))) suits = false≢true (sym given.1 ∙ suits.1.3)
extra_unsuited Show name r (inr (inr (inr (inr (inl given))))) suits = left_out name r given suits.1.4
extra_unsuited Show name r (inr (inr (inr (inr (inr (inl given)))))) suits = given.1 suits.1.5.0
extra_unsuited Show name r (inr (inr (inr (inr (inr (inr (inl given))))))) suits = given.1 suits.1.5.1
extra_unsuited Show name r (inr (inr (inr (inr (inr (inr (inr given))))))) suits = of_tree name r given suits.2
extra_unsuited Validate name r (inl given) suits = false≢true (sym suits.1 ∙ given.1)
extra_unsuited Validate name r (inr given) suits = of_tree name r given suits.5
extra_unsuited Tree name r (inl given) suits = given.1 suits.1.0
extra_unsuited Tree name r (inr (inl given)) suits = given.1 suits.1.1
extra_unsuited Tree name r (inr (inr (inl given))) suits = false≢true (sym suits.1.2 ∙ given.1)
extra_unsuited Tree name r (inr (inr (inr given))) suits = left_out name r given suits.1.3
extra_unsuited Help name r given suits = given
extra_unsuited Version name r given suits = given

-- the reason that is told
pub reason_unsuited : (misuse : Misuse) (task : Task) (r : RequestFields) → IsReason misuse task r → Suits task r → ⊥
reason_unsuited (Unknown name) task r extra suits = extra_unsuited task name.now r extra suits
reason_unsuited NoFile task r (no_help, no_version, none) suits = some_files task r no_help no_version suits none
reason_unsuited OneFile task r (seeks, not_one) suits = not_one (sought task r seeks suits).0
reason_unsuited ListsIn task r (seeks, some) suits = some (sought task r seeks suits).1
reason_unsuited NoLocator task r (is, none) suits = (subst (λ (t : Task). Suits t r) is suits).1.4 none
reason_unsuited NoLocatorIn task r (seeks, none) suits = (sought task r seeks suits).2 none
reason_unsuited BoundsIn task r (is, none, bounds) suits =
    bounds (asks_no_bounds r.folders r none (subst (λ (t : Task). Suits t r) is suits).2)
reason_unsuited InputIn task r (seeks, reads) suits = (sought task r seeks suits).3 reads
reason_unsuited NoAnchor task r (is, none, trusts) suits =
    no_anchor r none trusts (subst (λ (t : Task). Suits t r) is suits).3
reason_unsuited BothAnchors task r (is, some, trusts) suits =
    both_anchors r some trusts (subst (λ (t : Task). Suits t r) is suits).3
reason_unsuited NoLists task r (is, none, left) suits =
    no_lists r none left (subst (λ (t : Task). Suits t r) is suits).4
reason_unsuited BothLists task r (is, some, left) suits =
    both_lists r some left (subst (λ (t : Task). Suits t r) is suits).4
reason_unsuited _ task r reason suits = absurd reason
