-- A policy without shadow variables: each is 0, no write changes one, and nothing is known of a written scalar.
use Rattle.std.specs.Prelude.{List, [], Option, None, pos}
use Rattle.ac_tree.specs.declared.program.Program.{Program}
use Rattle.ac_run.specs.declared.event.Event.{Event}
use Rattle.ac_run.specs.Declarations.{NameBytes}
use Rattle.ac_logic.specs.declared.formula.Change.{Change}
use Rattle.ac_logic.specs.declared.formula.Formula.{Formula}
use Rattle.ac_policy.specs.declared.site.Site.{Site}
use Rattle.ac_policy.specs.State.{Shadow}

abbrev pub no_shadow : List Event → Shadow
no_shadow trace x i j = pos 0

abbrev pub no_effect : Program → Site → List Change
no_effect p s = []

abbrev pub nothing_known : NameBytes → Option Formula
nothing_known x = None
