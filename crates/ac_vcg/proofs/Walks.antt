-- What a walk from the end finds: the conditions of a block, and those of statements with blocks.
use Rattle.std.proofs.Common.{◌≡◌, ℕ, ◌+◌, ◌<◌, List, [], ◌∷◌, ◌++◌, Option, Some, None, rules, arith, ap, refl, sym, subst, ◌∙◌, append_assoc, drop, length, get_or}
use Rattle.std.proofs.lemmas.List.{drop_more}
use mathlib.Core.Former.{Count}
use Rattle.ac_tree.specs.declared.node.NodeId.{NodeId}
use Rattle.ac_tree.specs.declared.path.Cut.{Cut}
use Rattle.ac_tree.specs.declared.path.Cut.TheVariants.{Start, Head, Exit, After}
use Rattle.ac_tree.specs.declared.path.Target.{Target}
use Rattle.ac_tree.specs.declared.policy.PolicyName.{PolicyName}
use Rattle.ac_tree.specs.declared.program.Cond.{Cond}
use Rattle.ac_tree.specs.declared.program.Expr.{Expr}
use Rattle.ac_tree.specs.declared.program.Program.{Program}
use Rattle.ac_tree.specs.declared.program.Stmt.{Stmt}
use Rattle.ac_tree.specs.declared.program.StmtKind.{the_lemmas as stmt_lemmas, Row_of-Stmt, end_of-Stmt, more_of-Stmt, items-the_row-Stmt}
use Rattle.ac_tree.specs.declared.program.StmtKind.TheVariants as stmt
use Rattle.ac_run.specs.Declarations.{NameBytes}
use Rattle.ac_logic.specs.declared.condition.Condition.{Condition}
use Rattle.ac_logic.specs.declared.formula.Formula.{Formula, Le}
use Rattle.ac_logic.specs.declared.label.LabelKind.TheVariants as label
use Rattle.ac_logic.specs.Patterns.{Negation as Not}
use Rattle.ac_policy.specs.Terms.{term_of}
use Rattle.ac_conditions.specs.Conditions.{implied_by, condition, barrier_condition, conditions, block_conditions, list_conditions}
use Rattle.ac_conditions.specs.Goals.{conjoined, under, cond_goal}
use Rattle.ac_conditions.specs.Hypotheses.{in_body, at_for_test, at_for_exit, at_while_exit, invariants}
use Rattle.ac_conditions.specs.Part.{Part}
use Rattle.ac_conditions.specs.Preconditions.{past_barrier, before, before_block, before_list, ends_goal, while_entry, for_entry, for_keep, while_keep, variable}
use Rattle.ac_conditions.specs.Tests.{formula_of}
use Rattle.ac_vcg.specs.Opened.{hidden, expr_shape, expr_child, cond_shape, cond_child, term_shape, term_child, array_shape, array_child, formula_shape, formula_child, stmt_shape, stmt_child}

gone : (xs : List Stmt) → drop (length xs) xs ≡ []
gone [] = refl
gone (x ∷ xs) = gone xs

module _ (p : Program) (name : PolicyName) (part : Part) (t : Target) where
  pub before_rows : (n : Count) (row : Row_of-Stmt n) (Q : Option Formula) → before_block p part t row Q ≡ before_list p part t (items-the_row-Stmt n row) Q
  before_rows _ end_of-Stmt Q = refl
  before_rows _ (more_of-Stmt {n = n} at s rest) Q = ap (λ R. before p part t at.id s (past_barrier t at.id (part.behind at.id) R)) (before_rows n rest Q)

  pub condition_rows : (hs : List Formula) (n : Count) (row : Row_of-Stmt n) (Q : Option Formula) → block_conditions p name part t hs row Q ≡ list_conditions p name part t hs (items-the_row-Stmt n row) Q
  condition_rows hs _ end_of-Stmt Q = refl
  condition_rows hs _ (more_of-Stmt {n = n} at s rest) Q =
      ap (λ R. conditions p name part t hs at.id s (past_barrier t at.id (part.behind at.id) R) (barrier_condition p name part t at.id hs (part.behind at.id) R) ++ block_conditions p name part t hs rest Q) (before_rows n rest Q)
      ∙ ap (λ cs. conditions p name part t hs at.id s (past_barrier t at.id (part.behind at.id) (before_list p part t (items-the_row-Stmt n rest) Q)) (barrier_condition p name part t at.id hs (part.behind at.id) (before_list p part t (items-the_row-Stmt n rest) Q)) ++ cs)
      (condition_rows hs n rest Q)

  pub before_if : (n : NodeId) (test : Cond) (ys zs : List Stmt) (Q : Option Formula) →
      before p part t n (stmt.If test ys zs) Q ≡
      conjoined (cond_goal part.need t p test.kind) (conjoined (under label.Test n (formula_of p test.kind) (before_list p part t ys Q)) (under label.Denied n (Not (formula_of p test.kind)) (before_list p part t zs Q)))
  before_if n test ys zs Q = first_of (search (rules, stmt_lemmas, before_rows), grind (arith, stmt_lemmas, before_rows))

  pub before_for : (n : NodeId) (x : NameBytes) (lo hi : Expr) (body : List Stmt) (Q : Option Formula) → before p part t n (stmt.For x lo hi body) Q ≡ conjoined (ends_goal p part t lo hi) (for_entry p part t n x lo)
  unfolding hidden stmt_shape stmt_child
  before_for n x lo hi body Q = refl

  pub before_while : (n : NodeId) (test : Cond) (body : List Stmt) (Q : Option Formula) → before p part t n (stmt.While test body) Q ≡ while_entry p part t n
  unfolding hidden stmt_shape stmt_child
  before_while n test body Q = refl

  pub conditions_if : (hs : List Formula) (n : NodeId) (test : Cond) (ys zs : List Stmt) (Q : Option Formula) (bs : List Condition) →
      conditions p name part t hs n (stmt.If test ys zs) Q bs ≡ bs ++ (list_conditions p name part t hs ys Q ++ list_conditions p name part t hs zs Q)
  conditions_if hs n test ys zs Q bs = first_of (search (rules, stmt_lemmas, condition_rows), grind (arith, stmt_lemmas, condition_rows))

  pub conditions_for : (hs : List Formula) (n : NodeId) (x : NameBytes) (lo hi : Expr) (body : List Stmt) (Q : Option Formula) (bs : List Condition) →
      conditions p name part t hs n (stmt.For x lo hi body) Q bs ≡
      condition p name part t (Head n) (hs ++ (at_for_test p part n x lo ∷ invariants p part n)) (under label.Test n (Le (variable x) (term_of p hi.kind)) (before_list p part t body (for_keep p part t n x)))
      ++ (condition p name part t (Exit n) (hs ++ (at_for_exit p part n x lo hi ∷ invariants p part n)) Q
      ++ (bs ++ list_conditions p name part t (hs ++ in_body p part n x lo hi ∷ []) body (for_keep p part t n x)))
  conditions_for hs n x lo hi body Q bs = first_of (search (rules, stmt_lemmas, before_rows, condition_rows), grind (arith, stmt_lemmas, before_rows, condition_rows))

  pub conditions_while : (hs : List Formula) (n : NodeId) (test : Cond) (body : List Stmt) (Q : Option Formula) (bs : List Condition) →
      conditions p name part t hs n (stmt.While test body) Q bs ≡
      condition p name part t (Head n) (hs ++ invariants p part n) (conjoined (cond_goal part.need t p test.kind) (under label.Test n (formula_of p test.kind) (before_list p part t body (while_keep p part t n))))
      ++ (condition p name part t (Exit n) (hs ++ (at_while_exit p part n test ∷ invariants p part n)) Q
      ++ (bs ++ list_conditions p name part t hs body (while_keep p part t n)))
  conditions_while hs n test body Q bs = first_of (search (rules, stmt_lemmas, before_rows, condition_rows), grind (arith, stmt_lemmas, before_rows, condition_rows))
