-- A worked condition: a search whose test reads an element in the right side of `and`.
--   input n : 0 .. 100; input a[n] : -9 .. 9; var i; begin i := 0; while i < n and a[i] <> 0 do i := i + 1; end end
use Rattle.std.specs.Prelude.{ℕ, List, [], ◌∷◌, codes, pos, negsuc}
use Rattle.ac_tree.specs.declared.path.Cut.TheVariants.{Head}
use Rattle.ac_tree.specs.declared.path.Target.TheVariants.{Site}
use Rattle.ac_tree.specs.declared.policy.PolicyName.TheVariants as name
use Rattle.ac_tree.specs.declared.program.Cond.{Cond}
use Rattle.ac_tree.specs.declared.program.CondKind.{CondKind}
use Rattle.ac_tree.specs.declared.program.CondKind.TheVariants as test
use Rattle.ac_tree.specs.declared.program.ExprKind.TheVariants as value
use Rattle.ac_tree.specs.declared.program.Extent.TheVariants.{Named}
use Rattle.ac_tree.specs.declared.program.Extents.TheVariants as extents
use Rattle.ac_tree.specs.declared.program.Index.TheVariants as index
use Rattle.ac_tree.specs.declared.program.ItemKind.TheVariants.{InputScalar, InputArray, VarScalar}
use Rattle.ac_tree.specs.declared.program.Program.{Program}
use Rattle.ac_tree.specs.declared.program.RelOp.TheVariants as relation
use Rattle.ac_tree.specs.declared.program.Stmt.{Stmt}
use Rattle.ac_tree.specs.declared.program.StmtKind.TheVariants as stmt
use Rattle.ac_flow.specs.Examples.{id, node, expr, statement, item, pair}
use Rattle.ac_logic.specs.declared.condition.Condition.{Condition}
use Rattle.ac_logic.specs.declared.formula.Formula.{Formula, Le}
use Rattle.ac_logic.specs.declared.formula.Sym.TheVariants.{Value}
use Rattle.ac_logic.specs.declared.formula.Term.{Term, Num, Bound}
use Rattle.ac_logic.specs.declared.label.LabelKind.TheVariants as label
use Rattle.ac_logic.specs.Patterns.{Scalar, Array, ReadOf, Sum, Conjunction, Implication, Every}
use Rattle.ac_policy.specs.AnyPolicy.{need_at, effect_at, known_at}
use Rattle.ac_policy.specs.declared.any_policy.AnyPolicy.TheVariants as policy
use Rattle.ac_conditions.specs.AllConditions.{all_conditions}
use Rattle.ac_conditions.specs.Opened.{hidden, term_shape, term_child, array_shape, array_child, formula_shape, formula_child}
use Rattle.ac_conditions.specs.Tests.{labelled}

abbrev pub condition_at : ℕ → CondKind → Cond
condition_at k c = record { node = node k; kind = c }

-- i < n and a[i] <> 0
abbrev pub searching : Cond
searching = condition_at 7 (test.And
    (condition_at 8 (test.Rel relation.Lt (expr 9 (value.Get (codes "i"))) (expr 10 (value.Get (codes "n")))))
    (condition_at 11 (test.Rel relation.Ne (expr 12 (value.Read (codes "a") (index.One (expr 13 (value.Get (codes "i")))))) (expr 14 (value.Num 0)))))

-- i := i + 1;
abbrev pub advance : Stmt
advance = statement 15 (stmt.Set (codes "i") (expr 16 (value.Add (expr 17 (value.Get (codes "i"))) (expr 18 (value.Num 1)))))

abbrev pub search_program : Program
search_program = record {
  node = node 0;
  items = item 1 (codes "n") (InputScalar (pos 0) (pos 100)) ∷ item 2 (codes "a") (InputArray (extents.One (Named (codes "n"))) (negsuc 8) (pos 9)) ∷ item 3 (codes "i") VarScalar ∷ [];
  body = statement 4 (stmt.Set (codes "i") (expr 5 (value.Num 0))) ∷ statement 6 (stmt.While searching (advance ∷ [])) ∷ [];
}

abbrev pub search_conditions : List Condition
search_conditions = all_conditions search_program name.Bounds (need_at policy.Bounds search_program) (effect_at policy.Bounds search_program) (known_at policy.Bounds) []

abbrev pub number : ℕ → Term
number k = Num (pos k)

abbrev pub scalar_n : Term
scalar_n = Scalar (Value (codes "n"))

abbrev pub scalar_i : Term
scalar_i = Scalar (Value (codes "i"))

-- 0 <= t and t + 1 <= n
abbrev pub below_n : Term → Formula
unfolding hidden term_shape term_child formula_shape formula_child
below_n t = Conjunction (Le (number 0) t) (Le (Sum t (number 1)) scalar_n)

-- a[_0]
abbrev pub cell : Term
unfolding hidden term_shape term_child array_shape array_child
cell = ReadOf (Array (Value (codes "a"))) (Bound 0) (number 0)

-- @range 1 { 0 <= n and n <= 100 } implies (@range 2 { all _0 { { 0 <= _0 and _0 + 1 <= n } implies { -9 <= a[_0] and a[_0] <= 9 } } }
-- implies (@guard 8 { i + 1 <= n } implies @use 12 { 0 <= i and i + 1 <= n }))
abbrev pub guarded_condition : Condition
unfolding hidden term_shape term_child formula_shape formula_child
guarded_condition = record {
  policy = name.Bounds;
  pair = pair (Head (id 6)) (Site (id 12));
  formula = Implication (labelled label.Range (id 1) (Conjunction (Le (number 0) scalar_n) (Le scalar_n (number 100))))
      (Implication (labelled label.Range (id 2) (Every (Implication (below_n (Bound 0)) (Conjunction (Le (Num (negsuc 8)) cell) (Le cell (number 9))))))
      (Implication (labelled label.Guard (id 8) (Le (Sum scalar_i (number 1)) scalar_n)) (labelled label.Need (id 12) (below_n scalar_i))));
}
