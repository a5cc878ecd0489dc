-- The three policies by their cases: what each forbids, and its formulas.
use Rattle.std.specs.Prelude.{List, [], Option}
use Rattle.ac_tree.specs.declared.policy.PolicyName.{PolicyName}
use Rattle.ac_tree.specs.declared.policy.PolicyName.TheVariants as name
use Rattle.ac_tree.specs.declared.program.Program.{Program}
use Rattle.ac_run.specs.declared.event.Event.{Event}
use Rattle.ac_run.specs.declared.start.Start.{Start}
use Rattle.ac_run.specs.Declarations.{NameBytes}
use Rattle.ac_run.specs.Violation.{Bad}
use Rattle.ac_logic.specs.declared.formula.Change.{Change}
use Rattle.ac_logic.specs.declared.formula.Formula.{Formula}
use Rattle.ac_policy.specs.declared.any_policy.AnyPolicy.{AnyPolicy}
use Rattle.ac_policy.specs.declared.any_policy.AnyPolicy.TheVariants.{Init, Bounds, Symm}
use Rattle.ac_policy.specs.declared.site.Site.{Site}
use Rattle.ac_policy.specs.Bounds.{bounds_need}
use Rattle.ac_policy.specs.Init.{marks, init_need, init_effect, init_known}
use Rattle.ac_policy.specs.State.{Shadow}
use Rattle.ac_policy.specs.Symm.{symm_need}
use Rattle.ac_policy.specs.WithoutShadow.{no_shadow, no_effect, nothing_known}

abbrev pub name_of : AnyPolicy → PolicyName
name_of Init = name.Init
name_of Bounds = name.Bounds
name_of (Symm roles) = name.Symm

abbrev pub roles_of : AnyPolicy → List NameBytes
roles_of Init = []
roles_of Bounds = []
roles_of (Symm roles) = roles

-- the events that violate the policy of this name
abbrev pub Forbids : AnyPolicy → Program → Start → List Event → Event → Type 0
Forbids q p start = Bad p start (roles_of q) (name_of q)

abbrev pub shadow_of : AnyPolicy → List Event → Shadow
shadow_of Init = marks
shadow_of Bounds = no_shadow
shadow_of (Symm roles) = no_shadow

abbrev pub need_at : AnyPolicy → Program → Site → Option Formula
need_at Init = init_need
need_at Bounds = bounds_need
need_at (Symm roles) = symm_need roles

abbrev pub effect_at : AnyPolicy → Program → Site → List Change
effect_at Init = init_effect
effect_at Bounds = no_effect
effect_at (Symm roles) = no_effect

abbrev pub known_at : AnyPolicy → NameBytes → Option Formula
known_at Init = init_known
known_at Bounds = nothing_known
known_at (Symm roles) = nothing_known
