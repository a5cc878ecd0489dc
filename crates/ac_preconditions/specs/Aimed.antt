-- What the conditions of a target are made of, by a policy and annotations.
use Rattle.std.specs.Prelude.{List, Option}
use Rattle.ac_tree.specs.declared.program.Program.{Program}
use Rattle.ac_run.specs.Declarations.{NameBytes}
use Rattle.ac_logic.specs.declared.formula.Change.{Change}
use Rattle.ac_logic.specs.declared.formula.Formula.{Formula}
use Rattle.ac_policy.specs.declared.site.Site.{Site}
use Rattle.ac_conditions.specs.Part.{Part, part_of}
use Rattle.ac_preconditions.specs.declared.aim.Aim.{Aim}

abbrev pub part_at : {P : Type 0} → (P → Program → Site → Option Formula) → (P → Program → Site → List Change) → (P → NameBytes → Option Formula) → Aim P → Part
part_at need effect known aim = part_of (need aim.policy.now aim.program.now) (effect aim.policy.now aim.program.now) (known aim.policy.now) aim.annotations.now
