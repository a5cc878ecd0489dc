-- What a proof needs beside the instances: that each new name is a witness of its `all`.
use Rattle.std.specs.Prelude.{List, [], ◌∷◌, map, ℤ, Bool, true, false, not}
use Rattle.ac_logic.specs.declared.formula.Sym.TheVariants.{Fresh}
use Rattle.ac_logic.specs.declared.formula.Term.{Term}
use Rattle.ac_logic.specs.declared.formula.Formula.{Formula, True, False, Le, Eq}
use Rattle.ac_logic.specs.Patterns.{Scalar, Negation, Conjunction, Disjunction, Implication, Every, Labelled}
use Rattle.ac_logic.specs.Meaning.{Valuation, value, HoldsIn}
use Rattle.ac_expand.specs.declared.names.Names.{Names}
use Rattle.ac_expand.specs.Index.{index_terms, shown_count}
use Rattle.ac_expand.specs.Ground.{Made, made, next_name, named}
use Rattle.ac_expand.specs.Opened.{hidden, formula_shape, formula_child}

-- the numbers of the terms that stand for bound names
abbrev pub numbers : Valuation → List Term → List ℤ
numbers w e = map (value w []) e

-- the implication `A(t) implies all A` for the body A
abbrev pub IsWitness : Valuation → List Term → Formula → Term → Type 0
IsWitness w e a t = HoldsIn w (numbers w (t ∷ e)) a → HoldsIn w (numbers w e) (Every a)

-- the first fact where the formula is shown, the second one elsewhere
abbrev pub WhereShown : Bool → Type 0 → Type 0 → Type 0
WhereShown true A B = A
WhereShown false A B = B

-- a fact of each term and of the next names at its turn
abbrev pub AtEach : (Term → Names → Type 0) → (Term → Names → Made) → List Term → Names → Type 0
AtEach P make [] n = Unit {0}
AtEach P make (t ∷ ts) n = P t n × AtEach P make ts (make t n).1

-- each new name of the ground form is a witness of the `all` that is opened at it
abbrev pub AreWitnesses : Valuation → List Term → Bool → Bool → List Term → Formula → Names → Type 0
unfolding hidden formula_shape formula_child
AreWitnesses w ts shown inside e True n = Unit {0}
AreWitnesses w ts shown inside e False n = Unit {0}
AreWitnesses w ts shown inside e (Le s t) n = Unit {0}
AreWitnesses w ts shown inside e (Eq s t) n = Unit {0}
AreWitnesses w ts shown inside e (Negation f) n = AreWitnesses w ts (not shown) inside e f n
AreWitnesses w ts shown inside e (Conjunction f g) n = AreWitnesses w ts shown inside e f n × AreWitnesses w ts shown inside e g (made ts shown inside e f n).1
AreWitnesses w ts shown inside e (Disjunction f g) n = AreWitnesses w ts shown inside e f n × AreWitnesses w ts shown inside e g (made ts shown inside e f n).1
AreWitnesses w ts shown inside e (Implication f g) n = AreWitnesses w ts (not shown) inside e f n × AreWitnesses w ts shown inside e g (made ts (not shown) inside e f n).1
AreWitnesses w ts shown inside e (Every f) n = WhereShown shown (IsWitness w e f (Scalar (Fresh (next_name inside n))) × AreWitnesses w ts true inside (Scalar (Fresh (next_name inside n)) ∷ e) f (named inside n)) (AtEach (λ t. AreWitnesses w ts false true (t ∷ e) f) (λ t. made ts false true (t ∷ e) f) ts n)
AreWitnesses w ts shown inside e (Labelled l f) n = AreWitnesses w ts shown inside e f n

-- the same of the new names of a whole formula
abbrev pub HasWitnesses : Valuation → Formula → Type 0
HasWitnesses w f = AreWitnesses w (index_terms f) true false [] f (record { outer = 0; inner = shown_count true f })
