-- Where each node stands, in preorder: entry n is that of the node with the number n.
-- The openers `hidden`, `expr_shape`, `expr_child` and the like let a definition look at the children of a tree. A
-- statement with blocks is matched with its blocks as rows; the blanks before them are their lengths.
use Rattle.std.specs.Prelude.{ℕ, ◌+◌, List, [], ◌∷◌, ◌++◌, length}
use Rattle.ac_tree.specs.declared.node_positions.Position.{Position}
use Rattle.ac_tree.specs.declared.program.CondKind.{CondKind}
use Rattle.ac_tree.specs.declared.program.CondKind.TheVariants.{True, False, Rel}
use Rattle.ac_tree.specs.declared.program.ExprKind.{ExprKind}
use Rattle.ac_tree.specs.declared.program.ExprKind.TheVariants.{Num, Get, Read}
use Rattle.ac_tree.specs.declared.program.Index.{Index}
use Rattle.ac_tree.specs.declared.program.Item.{Item}
use Rattle.ac_tree.specs.declared.program.Program.{Program}
use Rattle.ac_tree.specs.declared.program.Stmt.{Stmt}
use Rattle.ac_tree.specs.declared.program.StmtKind.{StmtKind, Row_of-Stmt, end_of-Stmt, more_of-Stmt}
use Rattle.ac_tree.specs.declared.program.StmtKind.TheVariants.{Set, Put, If', For', While', Hand, Skip}
use Rattle.ac_tree.specs.Opened.{hidden, expr_shape, expr_child, cond_shape, cond_child}
use Rattle.ac_tree.specs.Patterns.{Negative, Plus, Minus, Times, OneIndex, TwoIndexes, Negation, Conjunction, Disjunction}
use Rattle.ac_tree.specs.StaticRules.{index_count}

-- the positions of some nodes, by the number of the first
abbrev pub Positions : Type 0
Positions = ℕ → List Position

abbrev pub no_node : Positions
no_node i = []

-- some nodes, and others behind them
unfoldable pub followed : Positions → Positions → Positions
followed a b i = a i ++ b (i + length (a i))

abbrev pub position : (parent block place last : ℕ) → Position
position parent block place last = record { parent = record { 0 = parent }; block = block; place = place; last = record { 0 = last } }

-- a node, and behind it what stands below it, which knows the node's number
unfoldable pub node_at : (parent block place : ℕ) → (ℕ → Positions) → Positions
node_at parent block place below i = position parent block place (i + length (below i (i + 1))) ∷ below i (i + 1)

-- expressions, conditions and declarations stand in list 0 of their parent
abbrev pub part_at : (parent place : ℕ) → (ℕ → Positions) → Positions
part_at parent place below = node_at parent 0 place below

-- what stands below a node with the number `own`

unfoldable mutual
  unfolding hidden expr_shape expr_child

  pub below_expr : ExprKind → ℕ → Positions
  below_expr (Num k) own = no_node
  below_expr (Get x) own = no_node
  below_expr (Read x a) own = below_index a own
  below_expr (Negative n a) own = part_at own 0 (below_expr a)
  below_expr (Plus n a m b) own = followed (part_at own 0 (below_expr a)) (part_at own 1 (below_expr b))
  below_expr (Minus n a m b) own = followed (part_at own 0 (below_expr a)) (part_at own 1 (below_expr b))
  below_expr (Times n a m b) own = followed (part_at own 0 (below_expr a)) (part_at own 1 (below_expr b))

  -- an index is no node: its expressions stand below the node that has it
  pub below_index : Index → ℕ → Positions
  below_index (OneIndex n a) own = part_at own 0 (below_expr a)
  below_index (TwoIndexes n a m b) own = followed (part_at own 0 (below_expr a)) (part_at own 1 (below_expr b))

unfoldable pub below_cond : CondKind → ℕ → Positions
unfolding hidden cond_shape cond_child
below_cond True own = no_node
below_cond False own = no_node
below_cond (Rel r a b) own = followed (part_at own 0 (below_expr a.kind)) (part_at own 1 (below_expr b.kind))
below_cond (Negation n c) own = part_at own 0 (below_cond c)
below_cond (Conjunction n c m d) own = followed (part_at own 0 (below_cond c)) (part_at own 1 (below_cond d))
below_cond (Disjunction n c m d) own = followed (part_at own 0 (below_cond c)) (part_at own 1 (below_cond d))

unfoldable mutual
  pub below_stmt : StmtKind → ℕ → Positions
  below_stmt (Set x a) own = part_at own 0 (below_expr a.kind)
  below_stmt (Put x i a) own = followed (below_index i own) (part_at own (index_count i) (below_expr a.kind))
  below_stmt (If' c _ xs _ ys) own = followed (part_at own 0 (below_cond c.kind)) (followed (block_positions xs own 1 0) (block_positions ys own 2 0))
  below_stmt (For' x a b _ xs) own =
      followed (part_at own 0 (below_expr a.kind)) (followed (part_at own 1 (below_expr b.kind)) (block_positions xs own 1 0))
  below_stmt (While' c _ xs) own = followed (part_at own 0 (below_cond c.kind)) (block_positions xs own 1 0)
  below_stmt (Hand x role) own = no_node
  below_stmt Skip own = no_node

  -- the statements of a list of their parent, from a place on
  pub block_positions : {n : _} → Row_of-Stmt n → (parent block place : ℕ) → Positions
  block_positions end_of-Stmt parent block place = no_node
  block_positions (more_of-Stmt n x rest) parent block place = followed (node_at parent block place (below_stmt x)) (block_positions rest parent block (place + 1))

-- the same of a list of statements
unfoldable pub list_positions : List Stmt → (parent block place : ℕ) → Positions
list_positions [] parent block place = no_node
list_positions (x ∷ rest) parent block place = followed (node_at parent block place (below_stmt x.kind)) (list_positions rest parent block (place + 1))

unfoldable pub items_positions : List Item → (parent place : ℕ) → Positions
items_positions [] parent place = no_node
items_positions (d ∷ rest) parent place = followed (part_at parent place (λ own. no_node)) (items_positions rest parent (place + 1))

-- the program is node 0, its declarations stand in list 0 and its body in list 1
abbrev pub positions_of : Program → List Position
positions_of p = node_at 0 0 0 (λ own. followed (items_positions p.items own 0) (list_positions p.body own 1 0)) 0
