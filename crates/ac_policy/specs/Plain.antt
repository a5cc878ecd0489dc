-- Formulas without a label, without a new name of a proof, and without a loose `Bound`.
use Rattle.std.specs.Prelude.{◌≡◌, []}
use Rattle.ac_logic.specs.declared.formula.Sym.{Sym}
use Rattle.ac_logic.specs.declared.formula.Sym.TheVariants.{Value, Init, Fresh}
use Rattle.ac_logic.specs.declared.formula.Term.{Term, Num, Bound}
use Rattle.ac_logic.specs.declared.formula.ArrayTerm.{ArrayTerm}
use Rattle.ac_logic.specs.declared.formula.Formula.{Formula, True, False, Le, Eq}
use Rattle.ac_logic.specs.Bounds.{IsClosed, IsTermClosed, IsArrayClosed}
use Rattle.ac_logic.specs.Labels.{labels_of}
use Rattle.ac_logic.specs.Patterns.{Scalar, Array, ReadOf, Sum, Difference, Product, Negative, PutOf, Negation, Conjunction, Disjunction, Implication, Every, Labelled}
use Rattle.ac_policy.specs.Opened.{hidden, formula_shape, formula_child, term_shape, term_child, array_shape, array_child}

-- a symbol of the program, and no new name
abbrev pub IsOfProgram : Sym → Type 0
IsOfProgram (Value x) = Unit {0}
IsOfProgram (Init x) = Unit {0}
IsOfProgram (Fresh k) = ⊥

abbrev mutual
  unfolding hidden term_shape term_child array_shape array_child

  pub HasNoFreshInTerm : Term → Type 0
  HasNoFreshInTerm (Num n) = Unit {0}
  HasNoFreshInTerm (Scalar s) = IsOfProgram s
  HasNoFreshInTerm (Bound k) = Unit {0}
  HasNoFreshInTerm (ReadOf a i j) = HasNoFreshInArray a × HasNoFreshInTerm i × HasNoFreshInTerm j
  HasNoFreshInTerm (Sum s t) = HasNoFreshInTerm s × HasNoFreshInTerm t
  HasNoFreshInTerm (Difference s t) = HasNoFreshInTerm s × HasNoFreshInTerm t
  HasNoFreshInTerm (Product s t) = HasNoFreshInTerm s × HasNoFreshInTerm t
  HasNoFreshInTerm (Negative t) = HasNoFreshInTerm t

  pub HasNoFreshInArray : ArrayTerm → Type 0
  HasNoFreshInArray (Array s) = IsOfProgram s
  HasNoFreshInArray (PutOf a i j v) = HasNoFreshInArray a × HasNoFreshInTerm i × HasNoFreshInTerm j × HasNoFreshInTerm v

abbrev pub HasNoFresh : Formula → Type 0
unfolding hidden formula_shape formula_child
HasNoFresh True = Unit {0}
HasNoFresh False = Unit {0}
HasNoFresh (Le s t) = HasNoFreshInTerm s × HasNoFreshInTerm t
HasNoFresh (Eq s t) = HasNoFreshInTerm s × HasNoFreshInTerm t
HasNoFresh (Negation f) = HasNoFresh f
HasNoFresh (Conjunction f g) = HasNoFresh f × HasNoFresh g
HasNoFresh (Disjunction f g) = HasNoFresh f × HasNoFresh g
HasNoFresh (Implication f g) = HasNoFresh f × HasNoFresh g
HasNoFresh (Every f) = HasNoFresh f
HasNoFresh (Labelled l f) = HasNoFresh f

pub record IsPlain (f : Formula) : Type 0 where
  pub closed : IsClosed f
  pub unlabelled : labels_of f ≡ []
  pub no_fresh : HasNoFresh f

pub record IsPlainTerm (t : Term) : Type 0 where
  pub closed : IsTermClosed t
  pub no_fresh : HasNoFreshInTerm t

pub record IsPlainArray (a : ArrayTerm) : Type 0 where
  pub closed : IsArrayClosed a
  pub no_fresh : HasNoFreshInArray a
