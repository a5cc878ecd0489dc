-- When a ground form has a term whose normal form is too wide.
use Rattle.std.specs.Prelude.{◌≡◌, Bool, true, not, ◌||◌}
use Rattle.std.specs.Option.{is_some}
use Rattle.ac_logic.specs.declared.formula.Term.{Term}
use Rattle.ac_logic.specs.declared.formula.Formula.{Formula}
use Rattle.ac_logic.specs.Patterns.{Difference}
use Rattle.ac_linear.specs.NormalForm.{normal_of}
use Rattle.ac_ground.specs.Compared.{IsCompared}
use Rattle.ac_ground.specs.Boxes.{next}
use Rattle.ac_ground.specs.Opened.{hidden, term_shape, term_child, array_shape, array_child}

abbrev pub is_wide : Term → Bool
is_wide t = not (is_some (normal_of t))

-- Both differences of a pair, and those with 1 added to the one side or the other. The terms themselves stand in these.
abbrev pub is_wide_pair : Term → Term → Bool
unfolding hidden term_shape term_child array_shape array_child
is_wide_pair s t = is_wide (Difference s t) || is_wide (Difference t s) || is_wide (Difference (next s) t) || is_wide (Difference (next t) s)

-- Some compared pair is too wide. Each term of the ground form stands in one.
pub record IsWide (g : Formula) : Type 0 where
  pub left : Term
  pub right : Term
  pub compared : IsCompared g left right
  pub wide : is_wide_pair left right ≡ true
