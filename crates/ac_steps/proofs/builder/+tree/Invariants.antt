use Rattle.std.proofs.Common.{◌≡◌, ℕ, length, Some, slice_get}
use Rattle.ac_proof.specs.declared.tree.ProofTree.{ProofTree}
use Rattle.ac_steps.specs.Proofs.{IsPremiseProof}
use Rattle.ac_steps.proofs.builder.+tree.Given as goal

abbrev pub invariant-tree_of-loop-i : goal.invariant-tree_of-loop-i
invariant-tree_of-loop-i l = record {
  same_hyps : l.hyps.items ≡ l.initial.hyps.items;
  count : length l.trees ≡ l.i;
  proofs : (k : ℕ) (t : ProofTree) → slice_get l.trees k ≡ Some t → IsPremiseProof l.initial.hyps.items l.plan k t;
}
