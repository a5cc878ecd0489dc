-- What opens a child of a tree, under plain names.
unfoldable pub use denote.Hole.Carrier.{hidden}
unfoldable pub use Rattle.ac_tree.specs.declared.program.StmtKind.TheBlock.{shape-the_row-Stmt-0 as stmt_shape, hidden-the_row-Stmt-0 as stmt_child}
