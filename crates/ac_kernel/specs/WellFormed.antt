-- Well-formed annotations: what may stand in a certificate as a fact at a place.
use Rattle.std.specs.Prelude.{◌≡◌, ℕ, Bool, true, false, IsTrue, List, Option, Some, slice_get}
use Rattle.std.specs.List.{AllWithin}
use Rattle.ac_tree.specs.declared.path.Place.{Place}
use Rattle.ac_tree.specs.declared.program.Item.{Item}
use Rattle.ac_tree.specs.declared.program.ItemKind.{ItemKind}
use Rattle.ac_tree.specs.declared.program.ItemKind.TheVariants.{InputScalar, InputArray, VarScalar, VarArray}
use Rattle.ac_tree.specs.declared.program.Program.{Program}
use Rattle.ac_tree.specs.StaticRules.{kind_in}
use Rattle.ac_logic.specs.declared.condition.Annotation.{Annotation}
use Rattle.ac_logic.specs.declared.formula.Sym.{Sym}
use Rattle.ac_logic.specs.declared.formula.Sym.TheVariants.{Value, Init, Fresh}
use Rattle.ac_logic.specs.declared.formula.Term.{Term, Num, Bound}
use Rattle.ac_logic.specs.declared.formula.ArrayTerm.{ArrayTerm}
use Rattle.ac_logic.specs.declared.formula.Formula.{Formula, True, False, Le, Eq}
use Rattle.ac_logic.specs.Bounds.{IsClosed}
use Rattle.ac_logic.specs.Patterns.{Scalar, Array, ReadOf, Sum, Difference, Product, Negative, PutOf, Negation, Conjunction, Disjunction, Implication, Every, Labelled}
use Rattle.ac_kernel.specs.Opened.{hidden, formula_shape, formula_child, term_shape, term_child, array_shape, array_child}
use Rattle.ac_kernel.specs.Places.{places_of, is_place}

-- an input or a variable without extents, and one with extents

abbrev pub is_scalar : Option ItemKind → Bool
is_scalar (Some (InputScalar lo hi)) = true
is_scalar (Some VarScalar) = true
is_scalar _ = false

abbrev pub is_array : Option ItemKind → Bool
is_array (Some (InputArray extents lo hi)) = true
is_array (Some (VarArray extents)) = true
is_array _ = false

-- a variable, which alone has a shadow

abbrev pub is_scalar_variable : Option ItemKind → Bool
is_scalar_variable (Some VarScalar) = true
is_scalar_variable _ = false

abbrev pub is_array_variable : Option ItemKind → Bool
is_array_variable (Some (VarArray extents)) = true
is_array_variable _ = false

module _ (declared : List Item) where
  -- A symbol is used with the rank of its name: as a scalar where the name has no extents, as an array where it has some.

  abbrev pub is_used_as_scalar : Sym → Bool
  is_used_as_scalar (Value x) = is_scalar (kind_in declared x)
  is_used_as_scalar (Init x) = is_scalar_variable (kind_in declared x)
  is_used_as_scalar (Fresh k) = false

  abbrev pub is_used_as_array : Sym → Bool
  is_used_as_array (Value x) = is_array (kind_in declared x)
  is_used_as_array (Init x) = is_array_variable (kind_in declared x)
  is_used_as_array (Fresh k) = false

  -- There is no label and no new name of a proof, and each symbol is used with its rank.

  abbrev mutual
    unfolding hidden term_shape term_child array_shape array_child

    pub TermKeepsRanks : Term → Type 0
    TermKeepsRanks (Num n) = Unit {0}
    TermKeepsRanks (Scalar s) = IsTrue (is_used_as_scalar s)
    TermKeepsRanks (Bound k) = Unit {0}
    TermKeepsRanks (ReadOf a i j) = ArrayKeepsRanks a × TermKeepsRanks i × TermKeepsRanks j
    TermKeepsRanks (Sum s t) = TermKeepsRanks s × TermKeepsRanks t
    TermKeepsRanks (Difference s t) = TermKeepsRanks s × TermKeepsRanks t
    TermKeepsRanks (Product s t) = TermKeepsRanks s × TermKeepsRanks t
    TermKeepsRanks (Negative t) = TermKeepsRanks t

    pub ArrayKeepsRanks : ArrayTerm → Type 0
    ArrayKeepsRanks (Array s) = IsTrue (is_used_as_array s)
    ArrayKeepsRanks (PutOf a i j v) = ArrayKeepsRanks a × TermKeepsRanks i × TermKeepsRanks j × TermKeepsRanks v

  abbrev pub KeepsRanks : Formula → Type 0
  unfolding hidden formula_shape formula_child
  KeepsRanks True = Unit {0}
  KeepsRanks False = Unit {0}
  KeepsRanks (Le s t) = TermKeepsRanks s × TermKeepsRanks t
  KeepsRanks (Eq s t) = TermKeepsRanks s × TermKeepsRanks t
  KeepsRanks (Negation f) = KeepsRanks f
  KeepsRanks (Conjunction f g) = KeepsRanks f × KeepsRanks g
  KeepsRanks (Disjunction f g) = KeepsRanks f × KeepsRanks g
  KeepsRanks (Implication f g) = KeepsRanks f × KeepsRanks g
  KeepsRanks (Every f) = KeepsRanks f
  KeepsRanks (Labelled l f) = ⊥

-- The place is a loop or behind a statement, no `Bound` is loose, there is no label and no new name of a proof, and each
-- symbol is used with the rank of its name: a value that of an input or a variable, a shadow that of a variable.
pub record IsWellFormedFor (declared : List Item) (places : List Place) (a : Annotation) : Type 0 where
  pub place : IsTrue (is_place places a.place)
  pub closed : IsClosed a.formula
  pub ranks : KeepsRanks declared a.formula

abbrev pub IsWellFormed : Program → Annotation → Type 0
IsWellFormed p a = IsWellFormedFor p.items (places_of p) a

-- the annotation at this place of the list is not well formed, and those before it are
pub record IsFirstIllFormed (p : Program) (annotations : List Annotation) (index : ℕ) : Type 0 where
  pub before : AllWithin (IsWellFormed p) annotations 0 index
  pub here : (a : Annotation) × (slice_get annotations index ≡ Some a) × ¬ IsWellFormed p a
