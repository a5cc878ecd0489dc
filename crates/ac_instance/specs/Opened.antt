-- What opens a child of a tree or of a formula, under plain names.
unfoldable pub use denote.Hole.Carrier.{hidden}
unfoldable pub use Rattle.ac_tree.specs.declared.program.ExprKind.TheBlock.{shape-the_row-Expr-0 as expr_shape, hidden-the_row-Expr-0 as expr_child}
unfoldable pub use Rattle.ac_logic.specs.declared.formula.Formula.TheBlock.{shape-the_row-Formula-0 as formula_shape, hidden-the_row-Formula-0 as formula_child}
unfoldable pub use Rattle.ac_logic.specs.declared.formula.ArrayTerm.TheBlock.{shape-the_row-Term-1 as term_shape, hidden-the_row-Term-1 as term_child, shape-the_row-ArrayTerm-0 as array_shape, hidden-the_row-ArrayTerm-0 as array_child}
