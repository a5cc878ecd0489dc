use Rattle.std.proofs.Common.{◌≡◌, ℕ, ◌<◌, Some, slice_get}
use Rattle.ac_steps.specs.declared.plan.Plan.{Plan}
use Rattle.ac_steps.specs.Contexts.{Uses}
use Rattle.ac_steps.proofs.usage.+uses.Given as goal

abbrev pub invariant-loop-premise : goal.invariant-loop-premise
invariant-loop-premise l = (k : ℕ) (q : Plan) → k < l.premise-index → slice_get l.premises k ≡ Some q → Uses l.formula q → ⊥
