-- What a disjunction lends to the premises behind it, and where a hypothesis is not.
use Rattle.std.proofs.Common.{◌≡◌, ℕ, ◌+◌, ◌<◌, ◌≤◌, List, [], ◌∷◌, map, length, get_or, sym, ap, ◌∙◌, arith}
use Rattle.std.specs.Prelude.{slice_index_or}
use Rattle.std.proofs.lemmas.List.{get_or_default}
use borrow.Author.Count.{below_more}
use Rattle.ac_logic.specs.declared.formula.Formula.{Formula}
use Rattle.ac_proof.specs.Rules.{sides}
use Rattle.ac_proof.proofs.Contexts.{sides_of_first}
use Rattle.ac_steps.specs.declared.plan.Plan.{Plan}
use Rattle.ac_steps.specs.Plans.{shown_by}

pub sides_of_shown : (ps : List Plan) (p : Plan) → 1 ≤ length ps → p ≡ get_or ps 0 p → sides (shown_by p ∷ []) ≡ sides (map shown_by ps)
sides_of_shown [] p lt e = absurd (omega arith)
sides_of_shown (q ∷ ps) p lt e = ap (λ x. sides (shown_by x ∷ [])) e ∙ sym (sides_of_first (shown_by q) (map shown_by ps))

-- one place more where the formula is not
pub not_more : (hs : List Formula) (f x : Formula) (i : ℕ) → i < length hs → x ≡ get_or hs i x → (x ≡ f → ⊥) → ((k : ℕ) → k < i → slice_index_or hs k f ≡ f → ⊥) → (k : ℕ) → k < i + 1 → slice_index_or hs k f ≡ f → ⊥
not_more hs f x i lt e n below = below_more (λ k. slice_index_or hs k f ≡ f → ⊥) i below (λ h. n (e ∙ (get_or_default hs i x f lt ∙ h)))
