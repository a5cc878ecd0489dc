-- The text of terms and formulas, as bytes: one line for each form. The number d counts the enclosing `all`.
use Rattle.std.specs.Prelude.{ℕ, ℤ, pos, negsuc, ◌+◌, ◌-◌, List, [], ◌++◌, Bool, true, false, if◌then◌else◌, codes, decimal}
use Rattle.std.specs.Fmt.{signed_decimal}
use Rattle.std.specs.Ordering.{int_eq}
use Rattle.ac_logic.specs.Labels.{kind_text}
use Rattle.ac_logic.specs.declared.formula.Sym.{Sym}
use Rattle.ac_logic.specs.declared.formula.Sym.TheVariants.{Value, Init, Fresh}
use Rattle.ac_logic.specs.declared.formula.Term.{Term, Num, Bound}
use Rattle.ac_logic.specs.declared.formula.ArrayTerm.{ArrayTerm}
use Rattle.ac_logic.specs.declared.formula.Formula.{Formula, True, False, Le, Eq}
use Rattle.ac_logic.specs.Patterns.{Scalar, Array, ReadOf, Sum, Difference, Product, Negative, PutOf, Negation, Conjunction, Disjunction, Implication, Every, Labelled}
use Rattle.ac_formula_printer.specs.Opened.{hidden, formula_shape, formula_child, term_shape, term_child, array_shape, array_child}

abbrev pub text_of_sym : Sym → List ℕ
text_of_sym (Value x) = x
text_of_sym (Init x) = codes "init(" ++ x ++ codes ")"
text_of_sym (Fresh k) = codes "#" ++ decimal k

abbrev pub is_negative : ℤ → Bool
is_negative (pos n) = false
is_negative (negsuc n) = true

-- as an operand of + - * these stand in parentheses
abbrev pub is_grouped : Term → Bool
unfolding hidden term_shape term_child array_shape array_child
is_grouped (Num n) = is_negative n
is_grouped (Scalar s) = false
is_grouped (Bound k) = false
is_grouped (ReadOf a i j) = false
is_grouped (Sum s t) = true
is_grouped (Difference s t) = true
is_grouped (Product s t) = true
is_grouped (Negative t) = true

abbrev pub is_zero : Term → Bool
unfolding hidden term_shape term_child array_shape array_child
is_zero (Num n) = int_eq n (pos 0)
is_zero (Scalar s) = false
is_zero (Bound k) = false
is_zero (ReadOf a i j) = false
is_zero (Sum s t) = false
is_zero (Difference s t) = false
is_zero (Product s t) = false
is_zero (Negative t) = false

abbrev pub when : Bool → List ℕ → List ℕ
when holds text = if holds then text else []

abbrev pub in_parens : Bool → List ℕ → List ℕ
in_parens grouped text = when grouped (codes "(") ++ text ++ when grouped (codes ")")

-- a second index that is the number 0 isn't written
abbrev pub second_index : Bool → List ℕ → List ℕ
second_index zero_ text = if zero_ then [] else codes "," ++ text

abbrev mutual
  unfolding hidden term_shape term_child array_shape array_child

  pub text_of_term : ℕ → Term → List ℕ
  text_of_term d (Num n) = signed_decimal n
  text_of_term d (Scalar s) = text_of_sym s
  text_of_term d (Bound k) = codes "_" ++ decimal (d - 1 - k)
  text_of_term d (ReadOf a i j) = text_of_array d a ++ codes "[" ++ text_of_term d i ++ second_index (is_zero j) (text_of_term d j) ++ codes "]"
  text_of_term d (Sum s t) = in_parens (is_grouped s) (text_of_term d s) ++ codes " + " ++ in_parens (is_grouped t) (text_of_term d t)
  text_of_term d (Difference s t) = in_parens (is_grouped s) (text_of_term d s) ++ codes " - " ++ in_parens (is_grouped t) (text_of_term d t)
  text_of_term d (Product s t) = in_parens (is_grouped s) (text_of_term d s) ++ codes " * " ++ in_parens (is_grouped t) (text_of_term d t)
  text_of_term d (Negative t) = codes "-(" ++ text_of_term d t ++ codes ")"

  pub text_of_array : ℕ → ArrayTerm → List ℕ
  text_of_array d (Array s) = text_of_sym s
  text_of_array d (PutOf a i j v) = codes "put(" ++ text_of_array d a ++ codes ", " ++ text_of_term d i ++ codes ", " ++ text_of_term d j ++ codes ", " ++ text_of_term d v ++ codes ")"

-- as an operand of and, or, implies, not these stand in braces
abbrev pub is_braced : Formula → Bool
unfolding hidden formula_shape formula_child
is_braced True = false
is_braced False = false
is_braced (Le s t) = false
is_braced (Eq s t) = false
is_braced (Negation f) = true
is_braced (Conjunction f g) = true
is_braced (Disjunction f g) = true
is_braced (Implication f g) = true
is_braced (Every f) = true
is_braced (Labelled l f) = false

abbrev pub in_braces : Bool → List ℕ → List ℕ
in_braces braced text = when braced (codes "{ ") ++ text ++ when braced (codes " }")

abbrev pub text_of_formula : ℕ → Formula → List ℕ
unfolding hidden formula_shape formula_child
text_of_formula d True = codes "true"
text_of_formula d False = codes "false"
text_of_formula d (Le s t) = text_of_term d s ++ codes " <= " ++ text_of_term d t
text_of_formula d (Eq s t) = text_of_term d s ++ codes " = " ++ text_of_term d t
text_of_formula d (Negation f) = codes "not " ++ in_braces (is_braced f) (text_of_formula d f)
text_of_formula d (Conjunction f g) = in_braces (is_braced f) (text_of_formula d f) ++ codes " and " ++ in_braces (is_braced g) (text_of_formula d g)
text_of_formula d (Disjunction f g) = in_braces (is_braced f) (text_of_formula d f) ++ codes " or " ++ in_braces (is_braced g) (text_of_formula d g)
text_of_formula d (Implication f g) = in_braces (is_braced f) (text_of_formula d f) ++ codes " implies " ++ in_braces (is_braced g) (text_of_formula d g)
text_of_formula d (Every f) = codes "all _" ++ decimal d ++ codes " { " ++ text_of_formula (d + 1) f ++ codes " }"
text_of_formula d (Labelled l f) = codes "@" ++ kind_text l.kind ++ codes " " ++ decimal l.node.0 ++ codes " { " ++ text_of_formula d f ++ codes " }"
