-- What the walk over a proof answers, and what it leaves in the path and the hypotheses.
-- No promise rests on this file: it says what the code keeps on the way.
use Rattle.std.specs.Prelude.{◌≡◌, ℕ, List, [], ◌∷◌, ◌++◌, Bool, true, false, IsTrue, Some, All, slice_get, slice_index_or, map}
use Rattle.ac_logic.specs.declared.formula.Formula.{Formula}
use Rattle.ac_logic.specs.Readable.{IsReadable}
use Rattle.ac_proof.specs.declared.rule.Rule.{Rule}
use Rattle.ac_proof.specs.declared.known.Known.{Known}
use Rattle.ac_proof.specs.declared.tree.ProofTree.{ProofTree, out-ProofTree}
use Rattle.ac_proof.specs.Rules.{contexts}
use Rattle.ac_proof.specs.Checked.{IsStep, goal_of, Checked, IsFirstFault}

abbrev pub Walked : List Formula → ProofTree → List ℕ → List ℕ → Bool → Type 0
Walked hs t old new true = Checked hs t × (new ≡ old)
Walked hs t old new false = (fault : List ℕ) × IsFirstFault hs t fault × (new ≡ old ++ fault)

-- what premise number i has besides the hypotheses of the goal
abbrev pub added : Rule → Formula → List Formula → ℕ → List Formula
added r g ps i = slice_index_or (contexts r g ps) i []

-- the last step of a proof is one
abbrev pub IsStepOf : List Formula → ProofTree → Type 0
IsStepOf hs t = IsStep hs (out-ProofTree t).rule (out-ProofTree t).goal (map goal_of (out-ProofTree t).premises)

-- Q holds of premise number i and its hypotheses
abbrev pub PremiseIs : List Formula → ProofTree → ℕ → (List Formula → ProofTree → Type 0) → Type 0
PremiseIs hs t i Q = (p : ProofTree) → slice_get (out-ProofTree t).premises i ≡ Some p → Q (hs ++ added (out-ProofTree t).rule (out-ProofTree t).goal (map goal_of (out-ProofTree t).premises) i) p

-- the same of premise number i of a proof
abbrev pub WalkedInto : List Formula → List Formula → List ℕ → List ℕ → ProofTree → ℕ → Bool → Type 0
WalkedInto hs hs2 old new t i true = (hs2 ≡ hs) × (new ≡ old) × PremiseIs hs t i Checked
WalkedInto hs hs2 old new t i false = (fault : List ℕ) × (new ≡ old ++ i ∷ fault) × PremiseIs hs t i (λ gs p. IsFirstFault gs p fault)

-- What counts as known to be readable is.
pub record KnowsWell (known : Known) (hs : List Formula) (g : Formula) : Type 0 where
  pub goal : IsTrue known.goal → IsReadable g
  pub hyps : IsTrue known.hyps → All IsReadable hs
