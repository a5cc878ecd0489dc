-- No promise rests on this file: it says what is known of conditions before they are made.
use Rattle.std.specs.Prelude.{◌≡◌, Bool, true, false, List, [], ◌∷◌, ◌++◌, map, length}
use Rattle.ac_tree.specs.declared.limit.LimitKind.TheVariants as kind
use Rattle.ac_tree.specs.declared.path.Pair.{Pair}
use Rattle.ac_tree.specs.declared.path.Target.{Target}
use Rattle.ac_logic.specs.declared.condition.Condition.{Condition}
use Rattle.ac_conditions.specs.AllConditions.{at_each}
use Rattle.ac_vcg.specs.declared.plan.Plan.{Plan}
use Rattle.ac_vcg.specs.Refusals.{is_above}

-- whether there are more conditions than the limit, and targets that have them all
pub record IsPlan (plan : Plan) (at : Target → List Condition) (all : List Condition) : Type 0 where
  pub count : is_above kind.Conditions plan.count ≡ is_above kind.Conditions (length all)
  pub targets : at_each at plan.targets.items ≡ all

abbrev pub AllAt : Target → List Condition → Type 0
AllAt t [] = Unit {0}
AllAt t (c ∷ cs) = (c.pair.target ≡ t) × AllAt t cs

-- these are the pairs of the conditions of some targets, each of which has its own alone
pub record AreReached (at : Target → List Condition) (targets : List Target) (pairs : List Pair) : Type 0 where
  pub own : (t : Target) → AllAt t (at t)
  pub paired : map (λ c. c.pair) (at_each at targets) ≡ pairs

-- one target more, or none
abbrev pub IsKept : Bool → Target → List Target → List Target → Type 0
IsKept true t kept more = more ≡ kept ++ t ∷ []
IsKept false t kept more = more ≡ kept
