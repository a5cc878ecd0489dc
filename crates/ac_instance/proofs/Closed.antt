-- No change has a loose `Bound`.
use Rattle.std.proofs.Common.{List, [], ◌∷◌, ◌++◌}
use Rattle.ac_tree.specs.declared.program.ExprKind.{ExprKind}
use Rattle.ac_tree.specs.declared.program.ExprKind.TheVariants.{Num, Get, Read}
use Rattle.ac_tree.specs.declared.program.Index.{Index}
use Rattle.ac_tree.specs.declared.program.Item.{Item}
use Rattle.ac_tree.specs.declared.program.ItemKind.{ItemKind}
use Rattle.ac_tree.specs.declared.program.ItemKind.TheVariants.{Const, InputScalar, InputArray, VarScalar, VarArray}
use Rattle.ac_tree.specs.declared.program.Program.{Program}
use Rattle.ac_tree.specs.Names.{NameBytes}
use Rattle.ac_tree.specs.Patterns.{Negative, Plus, Minus, Times, OneIndex, TwoIndexes}
use Rattle.ac_logic.specs.declared.formula.Change.{Change}
use Rattle.ac_logic.specs.Bounds.{IsTermClosed}
use Rattle.ac_logic.specs.Substitution.{AreClosedChanges}
use Rattle.ac_policy.specs.PlainLaws.{literal_ground, scalar_ground}
use Rattle.ac_policy.specs.Terms.{term_of, first_index, second_index}
use Rattle.ac_codes.specs.declared.pattern.MatchValue.{MatchValue}
use Rattle.ac_codes.specs.declared.pattern.MatchValue.TheVariants as value
use Rattle.ac_codes.specs.Values.{Values}
use Rattle.ac_instance.specs.Instances.{value_changes, values_changes, constant_change, constant_changes, changes_of}
use Rattle.ac_instance.specs.Opened.{hidden, expr_shape, expr_child, term_shape, term_child, array_shape, array_child}

closed_both : (cs ds : List Change) → AreClosedChanges cs → AreClosedChanges ds → AreClosedChanges (cs ++ ds)
closed_both [] ds h k = k
closed_both (c ∷ cs) ds h k = (h.0, closed_both cs ds h.1 k)

module _ (p : Program) where
  mutual
    unfolding hidden expr_shape expr_child term_shape term_child array_shape array_child

    closed_term : (e : ExprKind) → IsTermClosed (term_of p e)
    closed_term (Num n) = (literal_ground n).0 0
    closed_term (Get x) = (scalar_ground p x).0 0
    closed_term (Read x i) = (tt, closed_first i, closed_second i)
    closed_term (Negative n a) = closed_term a
    closed_term (Plus n a k b) = (closed_term a, closed_term b)
    closed_term (Minus n a k b) = (closed_term a, closed_term b)
    closed_term (Times n a k b) = (closed_term a, closed_term b)

    closed_first : (i : Index) → IsTermClosed (first_index p i)
    closed_first (OneIndex n a) = closed_term a
    closed_first (TwoIndexes n a k b) = closed_term a

    closed_second : (i : Index) → IsTermClosed (second_index p i)
    closed_second (OneIndex n a) = tt
    closed_second (TwoIndexes n a k b) = closed_term b

  closed_value : (x : NameBytes) (v : MatchValue) → AreClosedChanges (value_changes p x v)
  unfolding hidden term_shape term_child array_shape array_child
  closed_value x (value.Name y) = ((scalar_ground p y).0 0, (tt, (tt, (tt, tt))))
  closed_value x (value.Expr e) = (closed_term e.kind, tt)
  closed_value x (value.Cond c) = tt
  closed_value x (value.Run xs) = tt

  closed_values : (m : Values) → AreClosedChanges (values_changes p m)
  closed_values [] = tt
  closed_values ((x, v) ∷ m) = closed_both (value_changes p x v) (values_changes p m) (closed_value x v) (closed_values m)

closed_constant : (x : NameBytes) (k : ItemKind) → AreClosedChanges (constant_change x k)
unfolding hidden term_shape term_child array_shape array_child
closed_constant x (Const v) = (tt, tt)
closed_constant x (InputScalar lo hi) = tt
closed_constant x (InputArray e lo hi) = tt
closed_constant x VarScalar = tt
closed_constant x (VarArray e) = tt

closed_constants : (ds : List Item) → AreClosedChanges (constant_changes ds)
closed_constants [] = tt
closed_constants (d ∷ ds) = closed_both (constant_change d.name d.kind) (constant_changes ds) (closed_constant d.name d.kind) (closed_constants ds)

pub closed_changes : (p : Program) (m : Values) → AreClosedChanges (changes_of p m)
closed_changes p m = closed_both (values_changes p m) (constant_changes p.items) (closed_values p m) (closed_constants p.items)
