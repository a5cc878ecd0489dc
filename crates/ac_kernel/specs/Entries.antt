-- When an entry of a certificate shows a condition, and when it is refused.
use Rattle.std.specs.Prelude.{◌≡◌, ◌≢◌, ◌⊎◌, ℕ, ◌<◌, List, [], Option, Some, None, slice_get}
use Rattle.ac_logic.specs.declared.condition.Condition.{Condition}
use Rattle.ac_logic.specs.declared.formula.Formula.{Formula}
use Rattle.ac_proof.specs.declared.certificate.ProvedCondition.{ProvedCondition}
use Rattle.ac_proof.specs.declared.tree.ProofTree.{ProofTree}
use Rattle.ac_proof.specs.Checked.{Checked, IsFirstFault, goal_of}
use Rattle.ac_kernel.specs.declared.refused.Refused.{Refused}
use Rattle.ac_kernel.specs.declared.refused.Refused.TheVariants.{Missing, Differs, Step, OutOfMemory}

-- the entry is of the same policy and pair
pub record IsEntryOf (c : Condition) (e : ProvedCondition) : Type 0 where
  pub policy : e.condition.policy ≡ c.policy
  pub pair : e.condition.pair ≡ c.pair

-- The entry is of the condition, has its formula, and has a proof without hypotheses that shows this formula and is checked.
pub record Shows (c : Condition) (e : ProvedCondition) : Type 0 where
  pub of : IsEntryOf c e
  pub formula : e.condition.formula ≡ c.formula
  pub goal : goal_of e.proof ≡ c.formula
  pub checked : Checked [] e.proof

-- The path leads to the step that is refused: the last one, where the proof shows another formula, and else the first in
-- preorder that is none.
abbrev pub IsRefusedStep : Formula → ProofTree → List ℕ → Type 0
IsRefusedStep f proof path = ((goal_of proof ≢ f) × (path ≡ [])) ⊎ ((goal_of proof ≡ f) × IsFirstFault [] proof path)

module _ (c : Condition) where
  abbrev pub IsShown : Option ProvedCondition → Type 0
  IsShown None = ⊥
  IsShown (Some e) = Shows c e

  -- it is absent, or of another policy or pair
  abbrev pub IsMissing : Option ProvedCondition → Type 0
  IsMissing None = Unit {0}
  IsMissing (Some e) = ¬ IsEntryOf c e

  -- it is of the condition, and has another formula
  abbrev pub HasOtherFormula : Option ProvedCondition → Type 0
  HasOtherFormula None = ⊥
  HasOtherFormula (Some e) = IsEntryOf c e × (e.condition.formula ≢ c.formula)

  -- it has the formula of the condition, and a step of its proof is refused
  abbrev pub HasRefusedStep : Option ProvedCondition → List ℕ → Type 0
  HasRefusedStep None path = ⊥
  HasRefusedStep (Some e) path = IsEntryOf c e × (e.condition.formula ≡ c.formula) × IsRefusedStep c.formula e.proof path

  -- why the entry of the condition is refused
  abbrev pub IsEntryRefusal : Option ProvedCondition → Refused → Type 0
  IsEntryRefusal entry (Missing policy pair) = (policy ≡ c.policy) × (pair ≡ c.pair) × IsMissing entry
  IsEntryRefusal entry (Differs policy pair) = (policy ≡ c.policy) × (pair ≡ c.pair) × HasOtherFormula entry
  IsEntryRefusal entry (Step policy pair path) = (policy ≡ c.policy) × (pair ≡ c.pair) × HasRefusedStep entry path
  IsEntryRefusal entry OutOfMemory = Unit {0}
  IsEntryRefusal entry _ = ⊥

-- The conditions are gone through in order, each with the entry at its place.
module _ (conditions : List Condition) (entries : List ProvedCondition) where
  -- each of the first conditions is shown by its entry
  abbrev pub AreShown : ℕ → Type 0
  AreShown count = (i : ℕ) (c : Condition) → i < count → slice_get conditions i ≡ Some c → IsShown c (slice_get entries i)

  -- the entry of a condition is refused, and the conditions before it are shown
  abbrev pub IsFirstRefused : Refused → Type 0
  IsFirstRefused r = (i : ℕ) × (c : Condition) × AreShown i × (slice_get conditions i ≡ Some c) × IsEntryRefusal c (slice_get entries i) r
