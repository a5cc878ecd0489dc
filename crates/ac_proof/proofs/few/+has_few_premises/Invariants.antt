use Rattle.std.proofs.Common.{◌≡◌, ℕ, ◌<◌, Some, slice_get}
use Rattle.ac_proof.specs.declared.tree.ProofTree.{ProofTree}
use Rattle.ac_proof.specs.Checked.{HasFewPremises}
use Rattle.ac_proof.proofs.few.+has_few_premises.Given as goal

abbrev pub invariant-loop-p : goal.invariant-loop-p
invariant-loop-p l = (k : ℕ) (u : ProofTree) → k < l.p-index → slice_get l.premises k ≡ Some u → HasFewPremises u
