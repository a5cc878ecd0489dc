-- The numbers of a node whose parts were written.
use Rattle.std.proofs.Common.{◌≡◌, pos, true, sym, ◌∙◌, ap, subst, lit<}
use Rattle.ac_logic.specs.declared.formula.Term.{Term, Num}
use Rattle.ac_logic.specs.declared.formula.ArrayTerm.{ArrayTerm}
use Rattle.ac_logic.specs.Patterns.{PutOf, ReadOf}
use Rattle.ac_formula_printer.specs.Opened.{hidden, term_shape, term_child, array_shape, array_child}
use Rattle.ac_formula_printer.specs.Printing.{is_zero}
use Rattle.ac_formula_printer.specs.Range.{IsNumberInRange, IsTermInRange, IsArrayInRange}
use Rattle.ac_formula_printer.proofs.RoundTerm.{zero_is}

pub put_range : (t a b : ArrayTerm) (i j v x y z : Term) → t ≡ PutOf a i j v → b ≡ a → z ≡ v → x ≡ i → y ≡ j → IsArrayInRange b → IsTermInRange x → IsTermInRange y → IsTermInRange z → IsArrayInRange t
unfolding hidden term_shape term_child array_shape array_child
put_range t a b i j v x y z is l m n p ra ri rj rv = rw is (rw l at ra, rw n at ri, rw p at rj, rw m at rv)

zero_in_range : IsNumberInRange (pos 0)
zero_in_range = record { sfits = lit< tt }

number_in_range : IsTermInRange (Num (pos 0))
unfolding hidden term_shape term_child array_shape array_child
number_in_range = zero_in_range

-- a second index that isn't written is 0
pub vector_range : (t : Term) (a b : ArrayTerm) (i j x y : Term) → t ≡ ReadOf a i j → b ≡ a → x ≡ i → y ≡ j → is_zero y ≡ true → IsArrayInRange b → IsTermInRange x → IsTermInRange t
unfolding hidden term_shape term_child array_shape array_child
vector_range t a b i j x y is l m n z ra ri =
    let zero_ : j ≡ Num (pos 0) = sym n ∙ zero_is y z in
    rw is (rw l at ra, rw m at ri, subst (λ k. IsTermInRange k) (sym zero_) number_in_range)
