-- The hypotheses at a cut, beside the ranges of inputs: what the `for` loops around it say, the exit of a loop, and annotations.
use Rattle.std.specs.Prelude.{List, map, Option, Some, None}
use Rattle.ac_tree.specs.declared.node.NodeId.{NodeId}
use Rattle.ac_tree.specs.declared.program.Cond.{Cond}
use Rattle.ac_tree.specs.declared.program.Expr.{Expr}
use Rattle.ac_tree.specs.declared.program.Program.{Program}
use Rattle.ac_run.specs.Declarations.{NameBytes}
use Rattle.ac_logic.specs.declared.formula.Formula.{Formula, Le, Eq}
use Rattle.ac_logic.specs.declared.label.LabelKind.TheVariants as label
use Rattle.ac_logic.specs.Patterns.{Negation, Conjunction, Disjunction}
use Rattle.ac_policy.specs.Terms.{term_of}
use Rattle.ac_conditions.specs.Opened.{hidden, formula_shape, formula_child}
use Rattle.ac_conditions.specs.Part.{Part}
use Rattle.ac_conditions.specs.Preconditions.{variable}
use Rattle.ac_conditions.specs.Tests.{labelled, one_more, formula_of}

abbrev pub and_known : Formula → Option Formula → Formula
unfolding hidden formula_shape formula_child
and_known f None = f
and_known f (Some known) = Conjunction f known

module _ (p : Program) (part : Part) where
  -- inside a `for` its variable lies between its ends
  abbrev pub in_body : NodeId → NameBytes → Expr → Expr → Formula
  unfolding hidden formula_shape formula_child
  in_body n x lo hi = labelled label.Header n (and_known (Conjunction (Le (term_of p lo.kind) (variable x)) (Le (variable x) (term_of p hi.kind))) (part.known x))

  -- at its test the variable is not below the first end
  abbrev pub at_for_test : NodeId → NameBytes → Expr → Formula
  at_for_test n x lo = labelled label.Header n (and_known (Le (term_of p lo.kind) (variable x)) (part.known x))

  -- behind the last test it is past the last end, and had no turn or is next behind it
  abbrev pub at_for_exit : NodeId → NameBytes → Expr → Expr → Formula
  unfolding hidden formula_shape formula_child
  at_for_exit n x lo hi =
      labelled label.Exit n (and_known (Conjunction (Le (one_more (term_of p hi.kind)) (variable x)) (Disjunction (Eq (variable x) (term_of p lo.kind)) (Eq (variable x) (one_more (term_of p hi.kind))))) (part.known x))

  -- behind the last test of a `while` its test fails
  abbrev pub at_while_exit : NodeId → Cond → Formula
  unfolding hidden formula_shape formula_child
  at_while_exit n test = labelled label.Exit n (Negation (formula_of p test.kind))

  abbrev pub invariants : NodeId → List Formula
  invariants n = map (labelled label.Invariant n) (part.invariant n)

abbrev pub assumed : NodeId → List Formula → List Formula
assumed n facts = map (labelled label.Assumed n) facts
