-- When a tree is a proof of a formula that the checker takes.
use Rattle.std.specs.Prelude.{◌≡◌, ℕ, List, [], ◌∷◌, ◌++◌, length, Some, slice_get}
use Rattle.ac_logic.specs.declared.formula.Formula.{Formula}
use Rattle.ac_proof.specs.declared.rule.Rule.{Rule}
use Rattle.ac_proof.specs.declared.tree.ProofTree.{ProofTree, out-ProofTree}
use Rattle.ac_proof.specs.Checked.{goal_of, Checked, HasFewPremises, under, later}
use Rattle.ac_steps.specs.declared.plan.Way.{Way}
use Rattle.ac_steps.specs.declared.plan.Plan.{Plan, out-Plan}
use Rattle.ac_steps.specs.Ways.{contexts_of}
use Rattle.ac_steps.specs.Plans.{IsPlanStep, shown_by, context_at}

pub record IsProof (hs : List Formula) (f : Formula) (t : ProofTree) : Type 0 where
  pub goal : goal_of t ≡ f
  pub checked : Checked hs t
  pub few : HasFewPremises t

-- the last step of a tree, and its premises
pub record IsMadeOf (t : ProofTree) (r : Rule) (g : Formula) (ts : List ProofTree) : Type 0 where
  pub rule : (out-ProofTree t).rule ≡ r
  pub goal : (out-ProofTree t).goal ≡ g
  pub premises : (out-ProofTree t).premises ≡ ts

-- The trees are proofs of the formulas, one by one, each under the hypotheses and its own context.
abbrev pub AreProofs : List Formula → List (List Formula) → List Formula → List ProofTree → Type 0
AreProofs hs cs [] [] = Unit {0}
AreProofs hs cs (f ∷ fs) (t ∷ ts) = IsProof (under hs cs) f t × AreProofs hs (later cs) fs ts
AreProofs hs cs fs ts = ⊥

-- A tree that is built from proofs of premises in this way: in every context that has so many hypotheses, it is a proof of
-- the goal where the step is one there and the trees are proofs of its premises.
abbrev pub IsBuilt : ℕ → Way → Formula → List ProofTree → ProofTree → Type 0
IsBuilt place way g ts tree = (hs ps : List Formula) → length hs ≡ place → IsPlanStep hs way g ps → AreProofs hs (contexts_of way g ps) ps ts → IsProof hs g tree

-- A proof of premise number i of a plan.
abbrev pub IsPremiseProof : List Formula → Plan → ℕ → ProofTree → Type 0
IsPremiseProof hs p i t = (q : Plan) → slice_get (out-Plan p).premises i ≡ Some q → IsProof (hs ++ context_at p i) (shown_by q) t
