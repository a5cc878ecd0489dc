-- What a pattern's formula becomes at a match: each metavariable becomes what stands for it, and the name of a constant its
-- number, all at once.
use Rattle.std.specs.Prelude.{List, [], ◌∷◌, ◌++◌, Option, slice_get}
use Rattle.ac_tree.specs.declared.program.Item.{Item}
use Rattle.ac_tree.specs.declared.program.ItemKind.TheVariants.{Const}
use Rattle.ac_tree.specs.declared.program.ItemKind.{ItemKind}
use Rattle.ac_tree.specs.declared.program.Program.{Program}
use Rattle.ac_tree.specs.Names.{NameBytes}
use Rattle.ac_logic.specs.declared.formula.Change.{Change}
use Rattle.ac_logic.specs.declared.formula.Change.TheVariants as change
use Rattle.ac_logic.specs.declared.formula.Formula.{Formula}
use Rattle.ac_logic.specs.declared.formula.Sym.TheVariants.{Value, Init}
use Rattle.ac_logic.specs.declared.formula.Term.{Num}
use Rattle.ac_logic.specs.Patterns.{Scalar, Array}
use Rattle.ac_logic.specs.Substitution.{formula_after}
use Rattle.ac_policy.specs.Terms.{term_of, scalar_term}
use Rattle.ac_codes.specs.declared.pattern.Match.{Match}
use Rattle.ac_codes.specs.declared.pattern.MatchValue.{MatchValue}
use Rattle.ac_codes.specs.declared.pattern.MatchValue.TheVariants as value
use Rattle.ac_codes.specs.declared.pattern.Pattern.{Pattern}
use Rattle.ac_codes.specs.Matching.{values_of}
use Rattle.ac_codes.specs.Values.{Values}
use Rattle.ac_instance.specs.declared.which.Which.{Which}
use Rattle.ac_instance.specs.declared.which.Which.TheVariants as which

-- the formula of a pattern that is asked for
abbrev pub formula_in : Pattern → Which → Option Formula
formula_in pattern which.Gives = pattern.gives
formula_in pattern (which.Loop n) = slice_get pattern.loops n

-- A name stands for a symbol, be it a scalar or an array, and be it a value or a shadow variable; as a scalar the name of a
-- constant is its number. An expression stands for a scalar.
abbrev pub name_changes : Program → NameBytes → NameBytes → List Change
name_changes p x y =
    change.Scalar (Value x) (scalar_term p y)
    ∷ change.Array (Value x) (Array (Value y))
    ∷ change.Scalar (Init x) (Scalar (Init y))
    ∷ change.Array (Init x) (Array (Init y))
    ∷ []

abbrev pub value_changes : Program → NameBytes → MatchValue → List Change
value_changes p x (value.Name y) = name_changes p x y
value_changes p x (value.Expr e) = change.Scalar (Value x) (term_of p e.kind) ∷ []
value_changes p x (value.Cond c) = []
value_changes p x (value.Run xs) = []

abbrev pub values_changes : Program → Values → List Change
values_changes p [] = []
values_changes p ((x, v) ∷ m) = value_changes p x v ++ values_changes p m

-- the constants that the program declares
abbrev pub constant_change : NameBytes → ItemKind → List Change
constant_change x (Const v) = change.Scalar (Value x) (Num v) ∷ []
constant_change x _ = []

abbrev pub constant_changes : List Item → List Change
constant_changes [] = []
constant_changes (d ∷ ds) = constant_change d.name d.kind ++ constant_changes ds

abbrev pub changes_of : Program → Values → List Change
changes_of p m = values_changes p m ++ constant_changes p.items

-- the formula with the values of a match
abbrev pub instance_of : Program → Pattern → Match → Formula → Formula
instance_of p pattern m f = formula_after (changes_of p (values_of pattern m)) f
