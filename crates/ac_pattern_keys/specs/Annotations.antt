-- Which formulas a pattern may give: those whose symbols are names of the program or metavariables of the code, `%` only as a
-- scalar value; no new name, no label; and a shadow variable only where it is allowed.
use Rattle.std.specs.Prelude.{◌≡◌, List, Bool, true, not, ◌&&◌, ◌||◌}
use Rattle.ac_logic.specs.declared.formula.Sym.{Sym}
use Rattle.ac_logic.specs.declared.formula.Sym.TheVariants.{Value, Init, Fresh}
use Rattle.ac_logic.specs.declared.formula.Term.{Term, Num, Bound}
use Rattle.ac_logic.specs.declared.formula.ArrayTerm.{ArrayTerm}
use Rattle.ac_logic.specs.declared.formula.Formula.{Formula, True, False, Le, Eq}
use Rattle.ac_logic.specs.Patterns.{Scalar, Array, ReadOf, Sum, Difference, Product, Negative, PutOf, Negation, Conjunction, Disjunction, Implication, Every, Labelled}
use Rattle.ac_tree.specs.Names.{NameBytes}
use Rattle.ac_codes.specs.Listed.{has_text}
use Rattle.ac_pattern_tokens.specs.Signs.{dollar, percent, has_sign, is_signed}
use Rattle.ac_pattern_keys.specs.Opened.{hidden, formula_shape, formula_child, term_shape, term_child, array_shape, array_child}

-- a name of the program, or a $ of the code
abbrev pub is_named : List NameBytes → NameBytes → Bool
is_named metas x = not (is_signed x) || (has_sign dollar x && has_text metas x)

-- the same, or a % of the code
abbrev pub is_scalar_named : List NameBytes → NameBytes → Bool
is_scalar_named metas x = is_named metas x || (has_sign percent x && has_text metas x)

-- metas: the metavariables of the code; shadows: whether shadow variables are allowed
module _ (metas : List NameBytes) (shadows : Bool) where
  abbrev pub IsAllowedScalar : Sym → Type 0
  IsAllowedScalar (Value x) = is_scalar_named metas x ≡ true
  IsAllowedScalar (Init x) = (shadows && is_named metas x) ≡ true
  IsAllowedScalar (Fresh k) = ⊥

  abbrev pub IsAllowedArray : Sym → Type 0
  IsAllowedArray (Value x) = is_named metas x ≡ true
  IsAllowedArray (Init x) = (shadows && is_named metas x) ≡ true
  IsAllowedArray (Fresh k) = ⊥

  abbrev mutual
    unfolding hidden term_shape term_child array_shape array_child

    pub HasAllowedSymbolsInTerm : Term → Type 0
    HasAllowedSymbolsInTerm (Num n) = Unit {0}
    HasAllowedSymbolsInTerm (Scalar s) = IsAllowedScalar s
    HasAllowedSymbolsInTerm (Bound k) = Unit {0}
    HasAllowedSymbolsInTerm (ReadOf a i j) = HasAllowedSymbolsInArray a × HasAllowedSymbolsInTerm i × HasAllowedSymbolsInTerm j
    HasAllowedSymbolsInTerm (Sum s t) = HasAllowedSymbolsInTerm s × HasAllowedSymbolsInTerm t
    HasAllowedSymbolsInTerm (Difference s t) = HasAllowedSymbolsInTerm s × HasAllowedSymbolsInTerm t
    HasAllowedSymbolsInTerm (Product s t) = HasAllowedSymbolsInTerm s × HasAllowedSymbolsInTerm t
    HasAllowedSymbolsInTerm (Negative t) = HasAllowedSymbolsInTerm t

    pub HasAllowedSymbolsInArray : ArrayTerm → Type 0
    HasAllowedSymbolsInArray (Array s) = IsAllowedArray s
    HasAllowedSymbolsInArray (PutOf a i j v) = HasAllowedSymbolsInArray a × HasAllowedSymbolsInTerm i × HasAllowedSymbolsInTerm j × HasAllowedSymbolsInTerm v

  abbrev pub IsAnnotation : Formula → Type 0
  unfolding hidden formula_shape formula_child
  IsAnnotation True = Unit {0}
  IsAnnotation False = Unit {0}
  IsAnnotation (Le s t) = HasAllowedSymbolsInTerm s × HasAllowedSymbolsInTerm t
  IsAnnotation (Eq s t) = HasAllowedSymbolsInTerm s × HasAllowedSymbolsInTerm t
  IsAnnotation (Negation f) = IsAnnotation f
  IsAnnotation (Conjunction f g) = IsAnnotation f × IsAnnotation g
  IsAnnotation (Disjunction f g) = IsAnnotation f × IsAnnotation g
  IsAnnotation (Implication f g) = IsAnnotation f × IsAnnotation g
  IsAnnotation (Every f) = IsAnnotation f
  IsAnnotation (Labelled l f) = ⊥
