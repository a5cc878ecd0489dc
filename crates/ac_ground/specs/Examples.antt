-- Worked examples: formulas like the conditions of programs that are not safe, with valuations that falsify them.
--   write_outside    @use 2 { 0 <= 4 and 4 + 1 <= 4 }
--   partly_filled    @assumed 4 { all _0 { { 0 <= _0 and _0 + 1 <= n } implies init(a)[_0,m] = 1 } } implies @use 11 { init(a)[n,m] = 1 }
--   no_square        @use 2 { 3 = 4 and r[n,m] = r[m,n] }
--   read_before_test @range 1 { 0 <= n and n <= 100 } implies { @invariant 6 { 0 <= i } implies @use 9 { 0 <= i and i + 1 <= n } }
--   set_if_zero      @range 1 { 0 <= c and c <= 1 } implies { @denied 4 { not c = 0 } implies @use 14 { init(x) = 1 } }
--   left_loop        @exit 4 { { 8 + 1 <= i and { i = 0 or i = 8 + 1 } } and init(i) = 1 } implies @barrier 4 { false }
--   twice            x + 1 <= 2 * x, where 2 * x is a unit of its own
--   one_cell         i = k implies { a[i] = 1 implies a[k] = 1 }, refused where a[i] is 1 and a[k] is 0
--   written_cell     put(a, i, m, x)[k,m] = x, refused where i and k are 1, x is 5 and the read is 0
--   two_sums         x = z implies { x + y <= 3 implies z + y <= 3 }, refused where y + z alone is 4
--   write_inside     @use 2 { 0 <= 3 and 3 + 1 <= 4 }, which is true under every valuation
use Rattle.std.specs.Prelude.{ℕ, pos, List, [], ◌∷◌, codes}
use Rattle.ac_logic.specs.declared.label.LabelKind.TheVariants as kind
use Rattle.ac_logic.specs.declared.formula.Sym.TheVariants.{Value, Init}
use Rattle.ac_logic.specs.declared.formula.Term.{Term, Bound}
use Rattle.ac_logic.specs.declared.formula.Formula.{Formula, False, Le, Eq}
use Rattle.ac_logic.specs.Patterns.{Scalar, Array, ReadOf, PutOf, Sum, Product, Negation, Conjunction, Disjunction, Implication, Every, Labelled}
use Rattle.ac_expand.specs.Examples.{label, number}
use Rattle.ac_ground.specs.declared.valuation.Valuation.{Valuation}
use Rattle.ac_ground.specs.Boxes.{next}
use Rattle.ac_ground.specs.Opened.{hidden, formula_shape, formula_child, term_shape, term_child, array_shape, array_child}

abbrev pub no_entry : Valuation
no_entry = record { entries = [] }

abbrev pub within : Term → Term → Formula
unfolding hidden formula_shape formula_child
within t e = Conjunction (Le (number 0) t) (Le (next t) e)

abbrev pub init_a : Term → Term → Term
unfolding hidden term_shape term_child array_shape array_child
init_a i j = ReadOf (Array (Init (codes "a"))) i j

abbrev pub scalar : List ℕ → Term
scalar x = Scalar (Value x)

abbrev pub n : Term
n = scalar (codes "n")

abbrev pub m : Term
m = scalar (codes "m")

abbrev pub write_outside : Formula
unfolding hidden formula_shape formula_child
write_outside = Labelled (label kind.Need 2) (within (number 4) (number 4))

abbrev pub write_inside : Formula
unfolding hidden formula_shape formula_child
write_inside = Labelled (label kind.Need 2) (within (number 3) (number 4))

abbrev pub partly_filled : Formula
unfolding hidden formula_shape formula_child
partly_filled = Implication (Labelled (label kind.Assumed 4) (Every (Implication (within (Bound 0) n) (Eq (init_a (Bound 0) m) (number 1))))) (Labelled (label kind.Need 11) (Eq (init_a n m) (number 1)))

abbrev pub first_written : Valuation
first_written = record { entries = record { unit = n; value = pos 9 } ∷ record { unit = init_a m m; value = pos 1 } ∷ [] }

abbrev pub entry_of_r : Term → Term → Term
unfolding hidden term_shape term_child array_shape array_child
entry_of_r i j = ReadOf (Array (Value (codes "r"))) i j

abbrev pub no_square : Formula
unfolding hidden formula_shape formula_child
no_square = Labelled (label kind.Need 2) (Conjunction (Eq (number 3) (number 4)) (Eq (entry_of_r n m) (entry_of_r m n)))

abbrev pub read_before_test : Formula
unfolding hidden formula_shape formula_child
read_before_test = Implication (Labelled (label kind.Range 1) (Conjunction (Le (number 0) n) (Le n (number 100)))) (Implication (Labelled (label kind.Invariant 6) (Le (number 0) (scalar (codes "i")))) (Labelled (label kind.Need 9) (within (scalar (codes "i")) n)))

abbrev pub set_if_zero : Formula
unfolding hidden formula_shape formula_child
set_if_zero = Implication (Labelled (label kind.Range 1) (Conjunction (Le (number 0) (scalar (codes "c"))) (Le (scalar (codes "c")) (number 1)))) (Implication (Labelled (label kind.Denied 4) (Negation (Eq (scalar (codes "c")) (number 0)))) (Labelled (label kind.Need 14) (Eq (Scalar (Init (codes "x"))) (number 1))))

abbrev pub one_c : Valuation
one_c = record { entries = record { unit = scalar (codes "c"); value = pos 1 } ∷ [] }

abbrev pub left_loop : Formula
unfolding hidden formula_shape formula_child
left_loop = Implication (Labelled (label kind.Exit 4) (Conjunction (Conjunction (Le (next (number 8)) (scalar (codes "i"))) (Disjunction (Eq (scalar (codes "i")) (number 0)) (Eq (scalar (codes "i")) (next (number 8))))) (Eq (Scalar (Init (codes "i"))) (number 1)))) (Labelled (label kind.Barrier 4) False)

abbrev pub nine_i : Valuation
nine_i = record { entries = record { unit = scalar (codes "i"); value = pos 9 } ∷ record { unit = Scalar (Init (codes "i")); value = pos 1 } ∷ [] }

abbrev pub twice : Formula
unfolding hidden term_shape term_child array_shape array_child
twice = Le (next (scalar (codes "x"))) (Product (number 2) (scalar (codes "x")))

abbrev pub a_at : Term → Term
unfolding hidden term_shape term_child array_shape array_child
a_at t = ReadOf (Array (Value (codes "a"))) t (number 0)

abbrev pub one_cell : Formula
unfolding hidden formula_shape formula_child
one_cell = Implication (Eq (scalar (codes "i")) (scalar (codes "k"))) (Implication (Eq (a_at (scalar (codes "i"))) (number 1)) (Eq (a_at (scalar (codes "k"))) (number 1)))

abbrev pub one_at_i : Valuation
one_at_i = record { entries = record { unit = a_at (scalar (codes "i")); value = pos 1 } ∷ [] }

abbrev pub written_cell : Formula
unfolding hidden term_shape term_child array_shape array_child
written_cell = Eq (ReadOf (PutOf (Array (Value (codes "a"))) (scalar (codes "i")) m (scalar (codes "x"))) (scalar (codes "k")) m) (scalar (codes "x"))

abbrev pub both_one : Valuation
both_one = record { entries = record { unit = scalar (codes "i"); value = pos 1 } ∷ record { unit = scalar (codes "k"); value = pos 1 } ∷ record { unit = scalar (codes "x"); value = pos 5 } ∷ [] }

abbrev pub two_sums : Formula
unfolding hidden formula_shape formula_child term_shape term_child array_shape array_child
two_sums = Implication (Eq (scalar (codes "x")) (scalar (codes "z"))) (Implication (Le (Sum (scalar (codes "x")) (scalar (codes "y"))) (number 3)) (Le (Sum (scalar (codes "z")) (scalar (codes "y"))) (number 3)))

abbrev pub four_alone : Valuation
unfolding hidden term_shape term_child array_shape array_child
four_alone = record { entries = record { unit = Sum (scalar (codes "y")) (scalar (codes "z")); value = pos 4 } ∷ [] }
