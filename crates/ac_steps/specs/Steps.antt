-- What the steps of rules give in every context, from proofs that they take.
-- No promise rests on this file: it says what the code keeps on the way.
use Rattle.std.specs.Prelude.{◌≡◌, ℕ, List, [], ◌∷◌, ◌++◌, Some, slice_get}
use Rattle.ac_logic.specs.declared.formula.Term.{Term}
use Rattle.ac_logic.specs.declared.formula.Formula.{Formula, False}
use Rattle.ac_logic.specs.declared.formula.Formula.TheVariants.{Not, Or, Implies}
use Rattle.ac_logic.specs.Readable.{IsReadable, IsReadableTerm}
use Rattle.ac_proof.specs.declared.tree.ProofTree.{ProofTree}
use Rattle.ac_steps.specs.Proofs.{IsProof}

abbrev pub IsHypothesisAt : ℕ → Formula → ProofTree → Type 0
IsHypothesisAt place f t = (hs : List Formula) → slice_get hs place ≡ Some f → IsReadable f → IsProof hs f t

-- a formula that speaks of two terms and is proved without premises
abbrev pub IsSplit : Term → Term → Formula → ProofTree → Type 0
IsSplit u v f t = (hs : List Formula) → IsReadableTerm u → IsReadableTerm v → IsProof hs f t

-- anything, from a contradiction
abbrev pub IsAbsurdity : Formula → ProofTree → ProofTree → Type 0
IsAbsurdity g p t = (hs : List Formula) → IsReadable g → IsProof hs False p → IsProof hs g t

abbrev pub IsClash : ProofTree → ProofTree → ProofTree → Type 0
IsClash p q t = (hs : List Formula) (a : Formula) → IsProof hs (Not a) p → IsProof hs a q → IsProof hs False t

abbrev pub IsByCases : Formula → ProofTree → ProofTree → ProofTree → ProofTree → Type 0
IsByCases g p q r t = (hs : List Formula) (a b : Formula) → IsProof hs (Or a b) p → IsProof (hs ++ a ∷ []) g q → IsProof (hs ++ b ∷ []) g r → IsProof hs g t

abbrev pub IsSupposing : Formula → ProofTree → ProofTree → Type 0
IsSupposing f p t = (hs : List Formula) (a b : Formula) → f ≡ Implies a b → IsReadable a → IsProof (hs ++ a ∷ []) b p → IsProof hs f t

abbrev pub IsApplied : Formula → ProofTree → ProofTree → ProofTree → Type 0
IsApplied g p q t = (hs : List Formula) (a : Formula) → IsProof hs (Implies a g) p → IsProof hs a q → IsProof hs g t
