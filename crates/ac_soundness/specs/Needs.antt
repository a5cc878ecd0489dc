-- The needs of the sites of an expression or a test hold in a state.
use Rattle.std.specs.Prelude.{List, [], ◌∷◌, ◌++◌, Option}
use Rattle.ac_tree.specs.declared.program.CondKind.{CondKind}
use Rattle.ac_tree.specs.declared.program.CondKind.TheVariants.{True, False, Rel}
use Rattle.ac_tree.specs.declared.program.Program.{Program}
use Rattle.ac_tree.specs.Patterns.{Negation, Conjunction, Disjunction}
use Rattle.ac_logic.specs.declared.formula.Formula.{Formula}
use Rattle.ac_logic.specs.Meaning.{Valuation, Holds}
use Rattle.ac_policy.specs.declared.site.Site.{Site}
use Rattle.ac_policy.specs.Laws.{HoldsIf}
use Rattle.ac_policy.specs.Sites.{expr_sites}
use Rattle.ac_conditions.specs.Tests.{formula_of}
use Rattle.ac_soundness.specs.Opened.{hidden, cond_shape, cond_child}

module _ (need : Site → Option Formula) (w : Valuation) where
  abbrev pub NeedsHold : List Site → Type 0
  NeedsHold [] = Unit {0}
  NeedsHold (s ∷ rest) = HoldsIf w (need s) × NeedsHold rest

  -- the right side of `and` and `or` counts only where it is read
  abbrev pub CondNeedsHold : Program → CondKind → Type 0
  unfolding hidden cond_shape cond_child
  CondNeedsHold p True = Unit {0}
  CondNeedsHold p False = Unit {0}
  CondNeedsHold p (Rel op a b) = NeedsHold (expr_sites p a.node.id a.kind ++ expr_sites p b.node.id b.kind)
  CondNeedsHold p (Negation n c) = CondNeedsHold p c
  CondNeedsHold p (Conjunction n c m d) = CondNeedsHold p c × (Holds w (formula_of p c) → CondNeedsHold p d)
  CondNeedsHold p (Disjunction n c m d) = CondNeedsHold p c × (¬ Holds w (formula_of p c) → CondNeedsHold p d)
