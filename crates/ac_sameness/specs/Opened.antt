-- What opens a child of a tree, under plain names.
unfoldable pub use denote.Hole.Carrier.{hidden}
unfoldable pub use Rattle.ac_tree.specs.declared.program.ExprKind.TheBlock.{shape-the_row-Expr-0 as expr_shape, hidden-the_row-Expr-0 as expr_child}
unfoldable pub use Rattle.ac_tree.specs.declared.program.CondKind.TheBlock.{shape-the_row-Cond-0 as cond_shape, hidden-the_row-Cond-0 as cond_child}
