-- The points of a program: control comes behind each of its statements, and into each of its blocks.
use Rattle.std.proofs.Common.{ℕ, Bool, false, List, [], ◌∷◌, ◌++◌, map, Option, Some, None, refl, inl, inr}
use Rattle.ac_tree.specs.declared.node.Node.{Node}
use Rattle.ac_tree.specs.declared.node.NodeId.{NodeId}
use Rattle.ac_tree.specs.declared.program.Cond.{Cond}
use Rattle.ac_tree.specs.declared.program.Expr.{Expr}
use Rattle.ac_tree.specs.declared.program.Program.{Program}
use Rattle.ac_tree.specs.declared.program.Stmt.{Stmt}
use Rattle.ac_tree.specs.declared.program.StmtKind.{StmtKind, Row_of-Stmt, end_of-Stmt, more_of-Stmt, Set, Put, If', For', While', Hand, Skip}
use Rattle.ac_flow.specs.Paths.{IsPointOf, next}
use Rattle.ac_flow.specs.Points.{Do, Behind, Enter, Test, Turn, Exit, See, Point, reads_of, index_reads, block}
use Rattle.ac_labels.proofs.Ways.{seen_way, judge_way, point_on}

no_barrier : ℕ → Bool
no_barrier n = false

module _ (p : Program) where
  -- from the test of a loop into its body, and behind its last test

  pub turn_point : (n : NodeId) (test : Option Cond) (body : List Stmt) (rest : Point) → IsPointOf p (Test n test body ∷ rest) → IsPointOf p ((map Do body ++ Turn n test body ∷ []) ++ rest)
  turn_point n None body rest a = next a (inl refl)
  turn_point n (Some c) body rest a = point_on no_barrier p (judge_way no_barrier c ((map Do body ++ Turn n (Some c) body ∷ []) ++ rest)) (next a (inl refl))

  pub exit_point : (n : NodeId) (test : Option Cond) (body : List Stmt) (rest : Point) → IsPointOf p (Test n test body ∷ rest) → IsPointOf p (Exit n ∷ rest)
  exit_point n None body rest a = next a (inr (inl refl))
  exit_point n (Some c) body rest a = point_on no_barrier p (judge_way no_barrier c (Exit n ∷ rest)) (next a (inr (inl refl)))

  -- from before a statement into its blocks, or to its test

  pub yes_point : (at : Node) (test : Cond) (i : _) (j : _) (yes_ : _) (no_ : _) (rest : Point) → IsPointOf p (Do (record { node = at; kind = If' test i yes_ j no_ }) ∷ rest) →
      IsPointOf p ((map Do (block yes_) ++ Behind at.id ∷ []) ++ rest)
  yes_point at test i j yes_ no_ rest a = point_on no_barrier p (judge_way no_barrier test ((map Do (block yes_) ++ Behind at.id ∷ []) ++ rest)) (next a (inl refl))

  pub no_point : (at : Node) (test : Cond) (i : _) (j : _) (yes_ : _) (no_ : _) (rest : Point) → IsPointOf p (Do (record { node = at; kind = If' test i yes_ j no_ }) ∷ rest) →
      IsPointOf p ((map Do (block no_) ++ Behind at.id ∷ []) ++ rest)
  no_point at test i j yes_ no_ rest a = point_on no_barrier p (judge_way no_barrier test ((map Do (block no_) ++ Behind at.id ∷ []) ++ rest)) (next a (inr (inl refl)))

  pub for_point : (at : Node) (x : List ℕ) (lo hi : Expr) (i : _) (body : _) (rest : Point) → IsPointOf p (Do (record { node = at; kind = For' x lo hi i body }) ∷ rest) → IsPointOf p (Test at.id None (block body) ∷ rest)
  for_point at x lo hi i body rest a =
      next (point_on no_barrier p (seen_way no_barrier (reads_of lo.node lo.kind ++ reads_of hi.node hi.kind) (Enter at.id None (block body) ∷ []) rest) (next a (inl refl))) (inl refl)

  pub while_point : (at : Node) (test : Cond) (i : _) (body : _) (rest : Point) → IsPointOf p (Do (record { node = at; kind = While' test i body }) ∷ rest) → IsPointOf p (Test at.id (Some test) (block body) ∷ rest)
  while_point at test i body rest a = next (next a (inl refl)) (inl refl)

  mutual
    pub past_stmt : (at : Node) (st : StmtKind) (rest : Point) → IsPointOf p (Do (record { node = at; kind = st }) ∷ rest) → IsPointOf p (Behind at.id ∷ rest)
    past_stmt at (Set x e) rest a = next (point_on no_barrier p (seen_way no_barrier (reads_of e.node e.kind) (See at.id ∷ Behind at.id ∷ []) rest) (next a (inl refl))) (inl refl)
    past_stmt at (Put x i e) rest a = next (point_on no_barrier p (seen_way no_barrier (index_reads i ++ reads_of e.node e.kind) (See at.id ∷ Behind at.id ∷ []) rest) (next a (inl refl))) (inl refl)
    past_stmt at (If' test i yes_ j no_) rest a = past_block yes_ (Behind at.id ∷ []) rest (yes_point at test i j yes_ no_ rest a)
    past_stmt at (For' x lo hi i body) rest a = next (exit_point at.id None (block body) rest (for_point at x lo hi i body rest a)) (inl refl)
    past_stmt at (While' test i body) rest a = next (exit_point at.id (Some test) (block body) rest (while_point at test i body rest a)) (inl refl)
    past_stmt at (Hand x role) rest a = next (next a (inl refl)) (inl refl)
    past_stmt at Skip rest a = next a (inl refl)

    pub past_block : {k : _} (row : Row_of-Stmt k) (after rest : Point) → IsPointOf p ((map Do (block row) ++ after) ++ rest) → IsPointOf p (after ++ rest)
    past_block end_of-Stmt after rest a = a
    past_block (more_of-Stmt at st more) after rest a = past_block more after rest (next (past_stmt at st ((map Do (block more) ++ after) ++ rest) a) (inl refl))
