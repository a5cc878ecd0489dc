-- The numbers of a formula are within their types, as those of every formula that a program has in hand.
-- No promise rests on this file: it says what the code keeps on the way.
use Rattle.std.specs.Prelude.{ℕ, ℤ, ◌+◌, ◌^◌, ◌<◌, FitsSigned}
use Rattle.std.specs.Int.{w64}
use Rattle.ac_logic.specs.declared.formula.Sym.{Sym}
use Rattle.ac_logic.specs.declared.formula.Sym.TheVariants.{Value, Init, Fresh}
use Rattle.ac_logic.specs.declared.formula.Term.{Term, Num, Bound}
use Rattle.ac_logic.specs.declared.formula.ArrayTerm.{ArrayTerm}
use Rattle.ac_logic.specs.declared.formula.Formula.{Formula, True, False, Le, Eq}
use Rattle.ac_logic.specs.Patterns.{Scalar, Array, ReadOf, Sum, Difference, Product, Negative, PutOf, Negation, Conjunction, Disjunction, Implication, Every, Labelled}
use Rattle.ac_formula_printer.specs.Opened.{hidden, formula_shape, formula_child, term_shape, term_child, array_shape, array_child}

-- 64 bits with a sign
abbrev pub IsNumberInRange : ℤ → Type 0
IsNumberInRange n = FitsSigned w64 n

-- 32 bits
abbrev pub IsSymInRange : Sym → Type 0
IsSymInRange (Value x) = Unit {0}
IsSymInRange (Init x) = Unit {0}
IsSymInRange (Fresh k) = k < 2 ^ 32

abbrev mutual
  unfolding hidden term_shape term_child array_shape array_child

  pub IsTermInRange : Term → Type 0
  IsTermInRange (Num n) = IsNumberInRange n
  IsTermInRange (Scalar s) = IsSymInRange s
  IsTermInRange (Bound k) = Unit {0}
  IsTermInRange (ReadOf a i j) = IsArrayInRange a × IsTermInRange i × IsTermInRange j
  IsTermInRange (Sum s t) = IsTermInRange s × IsTermInRange t
  IsTermInRange (Difference s t) = IsTermInRange s × IsTermInRange t
  IsTermInRange (Product s t) = IsTermInRange s × IsTermInRange t
  IsTermInRange (Negative t) = IsTermInRange t

  pub IsArrayInRange : ArrayTerm → Type 0
  IsArrayInRange (Array s) = Unit {0}
  IsArrayInRange (PutOf a i j v) = IsArrayInRange a × IsTermInRange i × IsTermInRange j × IsTermInRange v

-- inside d `all`, of which there are less than 2^64
abbrev pub IsInRange : ℕ → Formula → Type 0
unfolding hidden formula_shape formula_child
IsInRange d True = Unit {0}
IsInRange d False = Unit {0}
IsInRange d (Le s t) = IsTermInRange s × IsTermInRange t
IsInRange d (Eq s t) = IsTermInRange s × IsTermInRange t
IsInRange d (Negation f) = IsInRange d f
IsInRange d (Conjunction f g) = IsInRange d f × IsInRange d g
IsInRange d (Disjunction f g) = IsInRange d f × IsInRange d g
IsInRange d (Implication f g) = IsInRange d f × IsInRange d g
IsInRange d (Every f) = (d < 2 ^ 64) × IsInRange (d + 1) f
IsInRange d (Labelled l f) = (l.node.0 < 2 ^ 32) × IsInRange d f
