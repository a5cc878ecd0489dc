-- Whether a formula speaks of a program: each name is declared and is used with its rank, and each shadow variable is that of
-- a variable. Places are in preorder, and a read names its array before its indexes.
-- The openers `hidden`, `formula_shape`, `formula_child` and the like let a definition look at the children of a formula.
use Rattle.std.specs.Prelude.{List, [], ◌∷◌, ◌++◌, Option, Some, None, Bool, not, ◌||◌, nat_eq, if◌then◌else◌}
use Rattle.ac_tree.specs.declared.program.ItemKind.{ItemKind}
use Rattle.ac_tree.specs.declared.program.Program.{Program}
use Rattle.ac_tree.specs.Names.{NameBytes}
use Rattle.ac_tree.specs.StaticRules.{kind_in, rank, is_constant, is_input}
use Rattle.ac_logic.specs.declared.formula.ArrayTerm.{ArrayTerm}
use Rattle.ac_logic.specs.declared.formula.Formula.{Formula, True, False, Le, Eq}
use Rattle.ac_logic.specs.declared.formula.Sym.{Sym}
use Rattle.ac_logic.specs.declared.formula.Sym.TheVariants.{Value, Init, Fresh}
use Rattle.ac_logic.specs.declared.formula.Term.{Term, Num, Bound}
use Rattle.ac_logic.specs.Patterns.{Scalar, Array, ReadOf, Sum, Difference, Product, Negative, PutOf, Negation, Conjunction, Disjunction, Implication, Every, Labelled}
use Rattle.ac_instance.specs.declared.fault.Reason.{Reason}
use Rattle.ac_instance.specs.declared.fault.Reason.TheVariants as reason
use Rattle.ac_instance.specs.Opened.{hidden, formula_shape, formula_child, term_shape, term_child, array_shape, array_child}

-- a symbol where it stands: as a scalar, or as an array
pub data Use : Type 0 where
  as_scalar : Sym → Use
  as_array : Sym → Use

abbrev mutual
  unfolding hidden term_shape term_child array_shape array_child

  pub term_uses : Term → List Use
  term_uses (Num n) = []
  term_uses (Scalar s) = as_scalar s ∷ []
  term_uses (Bound k) = []
  term_uses (ReadOf a i j) = array_uses a ++ (term_uses i ++ term_uses j)
  term_uses (Sum s t) = term_uses s ++ term_uses t
  term_uses (Difference s t) = term_uses s ++ term_uses t
  term_uses (Product s t) = term_uses s ++ term_uses t
  term_uses (Negative t) = term_uses t

  pub array_uses : ArrayTerm → List Use
  array_uses (Array s) = as_array s ∷ []
  array_uses (PutOf a i j v) = array_uses a ++ (term_uses i ++ (term_uses j ++ term_uses v))

abbrev pub formula_uses : Formula → List Use
unfolding hidden formula_shape formula_child
formula_uses True = []
formula_uses False = []
formula_uses (Le s t) = term_uses s ++ term_uses t
formula_uses (Eq s t) = term_uses s ++ term_uses t
formula_uses (Negation f) = formula_uses f
formula_uses (Conjunction f g) = formula_uses f ++ formula_uses g
formula_uses (Disjunction f g) = formula_uses f ++ formula_uses g
formula_uses (Implication f g) = formula_uses f ++ formula_uses g
formula_uses (Every f) = formula_uses f
formula_uses (Labelled l f) = formula_uses f

-- a name, and what is wrong with it
abbrev pub Wrong : Type 0
Wrong = NameBytes × Reason

abbrev pub has_extents : ItemKind → Bool
has_extents k = not (nat_eq (rank k) 0)

-- a name with this declaration that is used with the wrong rank, or not
abbrev pub value_reason : Option ItemKind → (ItemKind → Bool) → Option Reason
value_reason None wrong_rank = Some reason.Undeclared
value_reason (Some k) wrong_rank = if wrong_rank k then Some reason.Rank else None

-- the same of its shadow variable; constants and inputs have none
abbrev pub shadow_reason : Option ItemKind → (ItemKind → Bool) → Option Reason
shadow_reason None wrong_rank = Some reason.Undeclared
shadow_reason (Some k) wrong_rank =
    if wrong_rank k then Some reason.Rank else
    if is_constant k || is_input k then Some reason.NoShadow else None

abbrev pub named : NameBytes → Option Reason → Option Wrong
named x None = None
named x (Some r) = Some (x, r)

abbrev pub or_else : Option Wrong → Option Wrong → Option Wrong
or_else (Some w) other = Some w
or_else None other = other

module _ (p : Program) where
  abbrev pub symbol_wrong : (ItemKind → Bool) → Sym → Option Wrong
  symbol_wrong wrong_rank (Value x) = named x (value_reason (kind_in p.items x) wrong_rank)
  symbol_wrong wrong_rank (Init x) = named x (shadow_reason (kind_in p.items x) wrong_rank)
  symbol_wrong wrong_rank (Fresh n) = None

  abbrev pub use_wrong : Use → Option Wrong
  use_wrong (as_scalar s) = symbol_wrong (λ k. has_extents k) s
  use_wrong (as_array s) = symbol_wrong (λ k. not (has_extents k)) s

  -- the first that is wrong
  abbrev pub first_wrong : List Use → Option Wrong
  first_wrong [] = None
  first_wrong (u ∷ us) = or_else (use_wrong u) (first_wrong us)

  abbrev pub formula_wrong : Formula → Option Wrong
  formula_wrong f = first_wrong (formula_uses f)
