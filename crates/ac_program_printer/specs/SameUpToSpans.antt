-- Programs that are the same up to spans.
use Rattle.std.specs.Prelude.{◌≡◌, ℕ, List, [], ◌∷◌}
use Rattle.ac_tree.specs.declared.node.Node.{Node}
use Rattle.ac_tree.specs.declared.program.Cond.{Cond}
use Rattle.ac_tree.specs.declared.program.CondKind.{CondKind}
use Rattle.ac_tree.specs.declared.program.CondKind.TheVariants.{True, False, Rel}
use Rattle.ac_tree.specs.declared.program.Expr.{Expr}
use Rattle.ac_tree.specs.declared.program.ExprKind.{ExprKind}
use Rattle.ac_tree.specs.declared.program.ExprKind.TheVariants.{Num, Get, Read}
use Rattle.ac_tree.specs.declared.program.Index.{Index}
use Rattle.ac_tree.specs.declared.program.Item.{Item}
use Rattle.ac_tree.specs.declared.program.Program.{Program}
use Rattle.ac_tree.specs.declared.program.Stmt.{Stmt}
use Rattle.ac_tree.specs.declared.program.StmtKind.{StmtKind, Row_of-Stmt, end_of-Stmt, more_of-Stmt}
use Rattle.ac_tree.specs.declared.program.StmtKind.TheVariants.{Set, Put, If', For', While', Hand, Skip}
use Rattle.ac_tree.specs.declared.program.StmtKind.TheVariants as stmt
use Rattle.ac_tree.specs.Numbering.{numbered_program}
use Rattle.ac_tree.specs.Patterns.{Negative, Plus, Minus, Times, OneIndex, TwoIndexes, Negation, Conjunction, Disjunction}
use Rattle.ac_tree.specs.Spelling.{Spells}
use Rattle.ac_program_printer.specs.Opened.{hidden, expr_shape, expr_child, cond_shape, cond_child}

-- the tree with each node changed by f

module _ (f : Node → Node) where
  abbrev mutual
    unfolding hidden expr_shape expr_child

    pub changed_expr : ExprKind → ExprKind
    changed_expr (Num k) = Num k
    changed_expr (Get x) = Get x
    changed_expr (Read x i) = Read x (changed_index i)
    changed_expr (Negative n a) = Negative (f n) (changed_expr a)
    changed_expr (Plus n a m b) = Plus (f n) (changed_expr a) (f m) (changed_expr b)
    changed_expr (Minus n a m b) = Minus (f n) (changed_expr a) (f m) (changed_expr b)
    changed_expr (Times n a m b) = Times (f n) (changed_expr a) (f m) (changed_expr b)

    pub changed_index : Index → Index
    changed_index (OneIndex n a) = OneIndex (f n) (changed_expr a)
    changed_index (TwoIndexes n a m b) = TwoIndexes (f n) (changed_expr a) (f m) (changed_expr b)

  abbrev pub whole_expr : Expr → Expr
  whole_expr e = record { node = f e.node; kind = changed_expr e.kind }

  abbrev pub changed_cond : CondKind → CondKind
  unfolding hidden cond_shape cond_child
  changed_cond True = True
  changed_cond False = False
  changed_cond (Rel r a b) = Rel r (whole_expr a) (whole_expr b)
  changed_cond (Negation n c) = Negation (f n) (changed_cond c)
  changed_cond (Conjunction n c m d) = Conjunction (f n) (changed_cond c) (f m) (changed_cond d)
  changed_cond (Disjunction n c m d) = Disjunction (f n) (changed_cond c) (f m) (changed_cond d)

  abbrev pub whole_cond : Cond → Cond
  whole_cond c = record { node = f c.node; kind = changed_cond c.kind }

  abbrev mutual
    pub changed_stmt : StmtKind → StmtKind
    changed_stmt (Set x a) = Set x (whole_expr a)
    changed_stmt (Put x i a) = Put x (changed_index i) (whole_expr a)
    changed_stmt (If' c _ xs _ ys) = stmt.If (whole_cond c) (changed_block xs) (changed_block ys)
    changed_stmt (For' x a b _ xs) = stmt.For x (whole_expr a) (whole_expr b) (changed_block xs)
    changed_stmt (While' c _ xs) = stmt.While (whole_cond c) (changed_block xs)
    changed_stmt (Hand x y) = Hand x y
    changed_stmt Skip = Skip

    pub changed_block : {n : _} → Row_of-Stmt n → List Stmt
    changed_block end_of-Stmt = []
    changed_block (more_of-Stmt n s rest) = record { node = f n; kind = changed_stmt s } ∷ changed_block rest

  abbrev pub changed_list : List Stmt → List Stmt
  changed_list [] = []
  changed_list (s ∷ rest) = record { node = f s.node; kind = changed_stmt s.kind } ∷ changed_list rest

  abbrev pub changed_items : List Item → List Item
  changed_items [] = []
  changed_items (d ∷ rest) = record d { node = f d.node } ∷ changed_items rest

  abbrev pub changed_program : Program → Program
  changed_program p = record { node = f p.node; items = changed_items p.items; body = changed_list p.body }

-- each node keeps its number alone
abbrev pub spanless : Node → Node
spanless n = record { id = n.id; span = record { start = 0; end = 0 } }

abbrev pub IsSameUpToSpans : Program → Program → Type 0
IsSameUpToSpans p q = changed_program spanless p ≡ changed_program spanless q

-- the nodes have the numbers that their places in the tree give
abbrev pub IsNumbered : Program → Type 0
IsNumbered p = p ≡ numbered_program p

-- the bytes spell a program that is the same up to spans
pub record SpellsUpToSpans (bytes : List ℕ) (program : Program) : Type 0 where
  pub spelled : Program
  pub spells : Spells bytes spelled
  pub same : IsSameUpToSpans spelled program
