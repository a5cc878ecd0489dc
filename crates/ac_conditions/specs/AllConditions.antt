-- The verification conditions of a program under a policy and annotations, by target and then by cut.
use Rattle.std.specs.Prelude.{List, [], ◌∷◌, ◌++◌, Option}
use Rattle.ac_tree.specs.declared.path.Target.{Target}
use Rattle.ac_tree.specs.declared.policy.PolicyName.{PolicyName}
use Rattle.ac_tree.specs.declared.program.Program.{Program}
use Rattle.ac_run.specs.Declarations.{NameBytes}
use Rattle.ac_logic.specs.declared.condition.Annotation.{Annotation}
use Rattle.ac_logic.specs.declared.condition.Condition.{Condition}
use Rattle.ac_logic.specs.declared.formula.Change.{Change}
use Rattle.ac_logic.specs.declared.formula.Formula.{Formula}
use Rattle.ac_policy.specs.declared.site.Site.{Site}
use Rattle.ac_conditions.specs.Conditions.{conditions_at}
use Rattle.ac_conditions.specs.Part.{Part, part_of}
use Rattle.ac_conditions.specs.Targets.{list_targets}

-- the conditions of one target after those of the other
abbrev pub at_each : (Target → List Condition) → List Target → List Condition
at_each conditions [] = []
at_each conditions (t ∷ rest) = conditions t ++ at_each conditions rest

abbrev pub part_conditions : Program → PolicyName → Part → List Condition
part_conditions p policy part = at_each (conditions_at p policy part) (list_targets p p.body)

-- by the formulas of a policy, and by annotations
abbrev pub all_conditions : Program → PolicyName → (Site → Option Formula) → (Site → List Change) → (NameBytes → Option Formula) → List Annotation → List Condition
all_conditions p policy need effect known annotations = part_conditions p policy (part_of need effect known annotations)
