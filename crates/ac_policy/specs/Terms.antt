-- The terms of expressions: a constant is its number, and all else is kept.
use Rattle.std.specs.Prelude.{ℕ, ◌^◌, Option, Some, None, ℤ, pos, nat_lt, ◌/◌, ◌%◌, if◌then◌else◌}
use Rattle.ac_tree.specs.declared.program.ExprKind.{ExprKind}
use Rattle.ac_tree.specs.declared.program.ExprKind.TheVariants as expr
use Rattle.ac_tree.specs.declared.program.Index.{Index}
use Rattle.ac_tree.specs.declared.program.Program.{Program}
use Rattle.ac_tree.specs.Patterns.{Negative, Plus, Minus, Times, OneIndex, TwoIndexes}
use Rattle.ac_run.specs.Declarations.{NameBytes, constant_of}
use Rattle.ac_logic.specs.declared.formula.Sym.TheVariants.{Value}
use Rattle.ac_logic.specs.declared.formula.Term.{Term, Num}
use Rattle.ac_logic.specs.Patterns.{Scalar, Array, ReadOf, Sum, Difference, Product}
use Rattle.ac_logic.specs.Patterns.{Negative as Negated}
use Rattle.ac_policy.specs.Opened.{hidden, expr_shape, expr_child, term_shape, term_child, array_shape, array_child}

-- a missing index
abbrev pub zero_term : Term
zero_term = Num (pos 0)

-- The number of a literal. A number of a term has 63 bits and a sign; a literal beyond stands as a sum of its halves.
abbrev pub literal_term : ℕ → Term
unfolding hidden term_shape term_child
literal_term n =
    if nat_lt n (2 ^ 63) then Num (pos n)
    else Sum (Sum (Num (pos (n / 2))) (Num (pos (n / 2)))) (Num (pos (n % 2)))

abbrev pub constant_term_or : Option ℤ → Term → Term
constant_term_or (Some value) t = Num value
constant_term_or None t = t

module _ (p : Program) where
  -- the number of a constant, or the value of a scalar
  abbrev pub scalar_term : NameBytes → Term
  scalar_term x = constant_term_or (constant_of p x) (Scalar (Value x))

  abbrev mutual
    unfolding hidden expr_shape expr_child term_shape term_child array_shape array_child

    pub term_of : ExprKind → Term
    term_of (expr.Num n) = literal_term n
    term_of (expr.Get x) = scalar_term x
    term_of (expr.Read x at) = ReadOf (Array (Value x)) (first_index at) (second_index at)
    term_of (Negative n a) = Negated (term_of a)
    term_of (Plus n a k b) = Sum (term_of a) (term_of b)
    term_of (Minus n a k b) = Difference (term_of a) (term_of b)
    term_of (Times n a k b) = Product (term_of a) (term_of b)

    pub first_index : Index → Term
    first_index (OneIndex n a) = term_of a
    first_index (TwoIndexes n a k b) = term_of a

    pub second_index : Index → Term
    second_index (OneIndex n a) = zero_term
    second_index (TwoIndexes n a k b) = term_of b
