-- No promise rests on this file: it says of what the conditions of every target are made.
use Rattle.std.specs.Prelude.{◌≡◌, true}
use Rattle.ac_tree.specs.declared.program.Program.{Program}
use Rattle.ac_logic.specs.declared.formula.Formula.{Formula}
use Rattle.ac_conditions.specs.Ranges.{ranges}
use Rattle.ac_vcg.specs.declared.one_target.Ground.{Ground}
use Rattle.ac_profile.specs.declared.precondition.Made.{Made}
use Rattle.ac_targets.specs.Numbered.{IsInOrder}

-- the ranges of the inputs of a program, and whether its nodes are known to be in order
pub record IsGround (p : Program) (g : Ground) : Type 0 where
  pub ranges : g.ranges.items ≡ ranges p p.items
  pub ordered : g.is_ordered ≡ true → IsInOrder p

abbrev pub IsMade : Made → Formula → Type 0
IsMade made f = made.formula ≡ f
