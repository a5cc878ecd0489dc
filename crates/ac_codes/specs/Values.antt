-- What metavariables stand for, and when that is a tree of a program, up to nodes.
use Rattle.std.specs.Prelude.{◌≡◌, List, [], ◌∷◌, Option, Some, None, true, if◌then◌else◌, bytes_eq, not, filter}
use Rattle.ac_tree.specs.declared.program.CondKind.{CondKind}
use Rattle.ac_tree.specs.declared.program.ExprKind.{ExprKind}
use Rattle.ac_tree.specs.declared.program.Stmt.{Stmt}
use Rattle.ac_tree.specs.Names.{NameBytes}
use Rattle.ac_codes.specs.declared.pattern.MatchValue.{MatchValue}
use Rattle.ac_codes.specs.declared.pattern.MatchValue.TheVariants as value
use Rattle.ac_codes.specs.Sameness.{same_expr, same_cond, same_run}

-- a metavariable and a value for it
abbrev pub Binding : Type 0
Binding = NameBytes × MatchValue

abbrev pub Values : Type 0
Values = List Binding

-- the first value for a metavariable
abbrev pub value_of : Values → NameBytes → Option MatchValue
value_of [] x = None
value_of ((y, v) ∷ bound) x = if bytes_eq y x then Some v else value_of bound x

-- the first value for each metavariable, in the order in which they come first
abbrev pub first_values : Values → Values
first_values [] = []
first_values ((x, v) ∷ bound) = (x, v) ∷ filter (λ b. not (bytes_eq x b.0)) (first_values bound)

abbrev pub IsNameValue : Option MatchValue → NameBytes → Type 0
IsNameValue (Some (value.Name x)) y = x ≡ y
IsNameValue _ y = ⊥

abbrev pub IsExprValue : Option MatchValue → ExprKind → Type 0
IsExprValue (Some (value.Expr e)) f = same_expr e.kind f ≡ true
IsExprValue _ f = ⊥

abbrev pub IsCondValue : Option MatchValue → CondKind → Type 0
IsCondValue (Some (value.Cond c)) d = same_cond c.kind d ≡ true
IsCondValue _ d = ⊥

abbrev pub IsRunValue : Option MatchValue → List Stmt → Type 0
IsRunValue (Some (value.Run xs)) ys = same_run xs ys ≡ true
IsRunValue _ ys = ⊥
