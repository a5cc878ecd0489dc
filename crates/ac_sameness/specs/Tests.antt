-- What is read and written, as tests. No promise rests on this file.
use Rattle.std.specs.Prelude.{◌≡◌, ℕ, List, Bool, true, not, is_some, ◌&&◌, bytes_eq}
use Rattle.std.specs.Map.{lookup}
use denote.Ref.{Bor}
use Rattle.ac_tree.specs.declared.program.CondKind.{CondKind}
use Rattle.ac_tree.specs.declared.program.CondKind.TheVariants.{True, False, Rel}
use Rattle.ac_tree.specs.declared.program.ExprKind.{ExprKind}
use Rattle.ac_tree.specs.declared.program.ExprKind.TheVariants.{Num, Get, Read}
use Rattle.ac_tree.specs.declared.program.Index.{Index}
use Rattle.ac_tree.specs.declared.program.Stmt.{Stmt}
use Rattle.ac_tree.specs.Names.{NameBytes}
use Rattle.ac_tree.specs.Patterns.{Negative, Plus, Minus, Times, OneIndex, TwoIndexes, Negation, Conjunction, Disjunction}
use Rattle.ac_codes.specs.SideConditions.{run_writes}
use Rattle.ac_sameness.specs.Opened.{hidden, expr_shape, expr_child, cond_shape, cond_child}

-- the entries of a map by names
abbrev pub Entries : Type 0
Entries = List (Bor (List ℕ) × Unit {0})

abbrev pub has_name : Entries → NameBytes → Bool
has_name entries x = is_some (lookup (λ k. bytes_eq x k.now) entries)

-- the map has the names that a run writes
abbrev pub AreWritten : List Stmt → Entries → Type 0
AreWritten run entries = (x : NameBytes) → has_name entries x ≡ run_writes x run

-- an expression or a condition reads none of the names that a run writes
module _ (run : List Stmt) where
  abbrev mutual
    unfolding hidden expr_shape expr_child

    pub reads_none : ExprKind → Bool
    reads_none (Num k) = true
    reads_none (Get x) = not (run_writes x run)
    reads_none (Read x i) = not (run_writes x run) && reads_none_index i
    reads_none (Negative n a) = reads_none a
    reads_none (Plus n a m b) = reads_none a && reads_none b
    reads_none (Minus n a m b) = reads_none a && reads_none b
    reads_none (Times n a m b) = reads_none a && reads_none b

    pub reads_none_index : Index → Bool
    reads_none_index (OneIndex n a) = reads_none a
    reads_none_index (TwoIndexes n a m b) = reads_none a && reads_none b

  abbrev pub cond_reads_none : CondKind → Bool
  unfolding hidden cond_shape cond_child
  cond_reads_none True = true
  cond_reads_none False = true
  cond_reads_none (Rel r a b) = reads_none a.kind && reads_none b.kind
  cond_reads_none (Negation n c) = cond_reads_none c
  cond_reads_none (Conjunction n c m d) = cond_reads_none c && cond_reads_none d
  cond_reads_none (Disjunction n c m d) = cond_reads_none c && cond_reads_none d
