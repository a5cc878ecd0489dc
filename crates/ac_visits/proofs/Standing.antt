-- Where control points stand: what is left to do at a point of a program is what a statement has left to do, and then what
-- stands behind that statement.
use Rattle.std.proofs.Common.{◌≡◌, ℕ, List, [], ◌∷◌, ◌++◌, map, Option, Some, None, refl, sym, ◌∙◌, subst, append_assoc, append-nil}
use mathlib.Core.Logic.{inl, inr}
use Rattle.ac_tree.specs.declared.node.Node.{Node}
use Rattle.ac_tree.specs.declared.node.NodeId.{NodeId}
use Rattle.ac_tree.specs.declared.program.Cond.{Cond}
use Rattle.ac_tree.specs.declared.program.CondKind.{CondKind}
use Rattle.ac_tree.specs.declared.program.CondKind.TheVariants.{True, False, Rel}
use Rattle.ac_tree.specs.declared.program.Expr.{Expr}
use Rattle.ac_tree.specs.declared.program.Program.{Program}
use Rattle.ac_tree.specs.declared.program.Stmt.{Stmt}
use Rattle.ac_tree.specs.declared.program.StmtKind.{StmtKind, Row_of-Stmt, end_of-Stmt, more_of-Stmt, Set, Put, If', For', While', Hand, Skip}
use Rattle.ac_tree.specs.Patterns.{Negation, Conjunction, Disjunction}
use Rattle.ac_flow.specs.Points.{Do, Behind, Enter, Test, Turn, Exit, Judge, Decide, See, Begin, Point, reads_of, index_reads, block, IsOneWay, Next, ways_through}
use Rattle.ac_flow.specs.Paths.{IsPointOf, first, next}
use Rattle.ac_visits.specs.Opened.{hidden, expr_shape, expr_child, cond_shape, cond_child}
use Rattle.ac_visits.specs.Visits.{Has, BlockHas}

-- the last statements of a block of a program, with what is left to do behind the block
pub data Stands (p : Program) : List Stmt → Point → Type 0 where
  whole : Stands p p.body []
  later : (st : Stmt) (sts : List Stmt) (after : Point) → Stands p (st ∷ sts) after → Stands p sts after
  in_yes : (at : Node) (test : Cond) (a : _) (b : _) (yes_ : _) (no_ : _) (sts : List Stmt) (after : Point) →
      Stands p (record { node = at; kind = If' test a yes_ b no_ } ∷ sts) after → Stands p (block yes_) (Behind at.id ∷ (map Do sts ++ after))
  in_no : (at : Node) (test : Cond) (a : _) (b : _) (yes_ : _) (no_ : _) (sts : List Stmt) (after : Point) →
      Stands p (record { node = at; kind = If' test a yes_ b no_ } ∷ sts) after → Stands p (block no_) (Behind at.id ∷ (map Do sts ++ after))
  in_for : (at : Node) (x : List ℕ) (lo hi : Expr) (a : _) (body : _) (sts : List Stmt) (after : Point) →
      Stands p (record { node = at; kind = For' x lo hi a body } ∷ sts) after → Stands p (block body) (Turn at.id None (block body) ∷ (map Do sts ++ after))
  in_while : (at : Node) (test : Cond) (a : _) (body : _) (sts : List Stmt) (after : Point) →
      Stands p (record { node = at; kind = While' test a body } ∷ sts) after → Stands p (block body) (Turn at.id (Some test) (block body) ∷ (map Do sts ++ after))

-- what is left to do behind a statement, and behind a loop with its test and body
pub data Follows (p : Program) : Stmt → Point → Type 0 where
  follows : (st : Stmt) (sts : List Stmt) (after : Point) → Stands p (st ∷ sts) after → Follows p st (map Do sts ++ after)

pub data Leaves (p : Program) : NodeId → Point → Type 0 where
  leaves_off : (st : Stmt) (rest : Point) → Follows p st rest → Leaves p st.node.id rest

pub data Loops (p : Program) : NodeId → Option Cond → List Stmt → Point → Type 0 where
  a_for : (at : Node) (x : List ℕ) (lo hi : Expr) (a : _) (body : _) (sts : List Stmt) (after : Point) →
      Stands p (record { node = at; kind = For' x lo hi a body } ∷ sts) after → Loops p at.id None (block body) (map Do sts ++ after)
  a_while : (at : Node) (test : Cond) (a : _) (body : _) (sts : List Stmt) (after : Point) →
      Stands p (record { node = at; kind = While' test a body } ∷ sts) after → Loops p at.id (Some test) (block body) (map Do sts ++ after)

module _ (p : Program) where
  abbrev pub Lies : Point → Type 0
  Lies [] = Unit {0}
  Lies (Begin ∷ rest) = rest ≡ map Do p.body
  Lies (Do st ∷ rest) = Follows p st rest
  Lies (Behind n ∷ rest) = Leaves p n rest
  Lies (Enter n test body ∷ rest) = Loops p n test body rest
  Lies (Test n test body ∷ rest) = Loops p n test body rest
  Lies (Turn n test body ∷ rest) = Loops p n test body rest
  Lies (Exit n ∷ rest) = Leaves p n rest
  Lies (Judge c ∷ rest) = Lies rest
  Lies (Decide c ∷ rest) = Lies rest
  Lies (See n ∷ rest) = Lies rest

  lies_behind : {sts : List Stmt} {after : Point} → Stands p sts after → Lies after
  lies_behind whole = tt
  lies_behind (later st sts after d) = lies_behind d
  lies_behind (in_yes at test a b yes_ no_ sts after d) = leaves_off _ _ (follows (record { node = at; kind = If' test a yes_ b no_ }) sts after d)
  lies_behind (in_no at test a b yes_ no_ sts after d) = leaves_off _ _ (follows (record { node = at; kind = If' test a yes_ b no_ }) sts after d)
  lies_behind (in_for at x lo hi a body sts after d) = a_for at x lo hi a body sts after d
  lies_behind (in_while at test a body sts after d) = a_while at test a body sts after d

  lies_at : (sts : List Stmt) (after : Point) → Stands p sts after → Lies (map Do sts ++ after)
  lies_at [] after d = lies_behind d
  lies_at (st ∷ sts) after d = follows st sts after d

  -- a block before what stands behind it, as steps have it
  lies_block : (sts : List Stmt) (after : Point) (rest : Point) → Lies (map Do sts ++ (after ++ rest)) → Lies ((map Do sts ++ after) ++ rest)
  lies_block sts after rest h = subst (λ (q : Point). Lies q) (sym (append_assoc (map Do sts) after rest)) h

  lies_seen : (ns : List NodeId) (after rest : Point) → Lies (after ++ rest) → Lies ((map See ns ++ after) ++ rest)
  lies_seen [] after rest h = h
  lies_seen (n ∷ ns) after rest h = lies_seen ns after rest h

  lies_all_seen : (ns : List NodeId) (rest : Point) → Lies rest → Lies (map See ns ++ rest)
  lies_all_seen [] rest h = h
  lies_all_seen (n ∷ ns) rest h = lies_all_seen ns rest h

  moved : (r q : Point) → r ≡ q → Lies q → Lies r
  moved r q e h = subst (λ (u : Point). Lies u) (sym e) h

  stmt_lies : (at : Node) (k : StmtKind) (sts : List Stmt) (after r : Point) → Stands p (record { node = at; kind = k } ∷ sts) after → Next (Do (record { node = at; kind = k }) ∷ (map Do sts ++ after)) r → Lies r
  stmt_lies at (Set x e) sts after r d (inl h) =
      moved r _ h (lies_seen (reads_of e.node e.kind) (See at.id ∷ Behind at.id ∷ []) (map Do sts ++ after) (leaves_off _ _ (follows _ sts after d)))
  stmt_lies at (Put x i e) sts after r d (inl h) =
      moved r _ h (lies_seen (index_reads i ++ reads_of e.node e.kind) (See at.id ∷ Behind at.id ∷ []) (map Do sts ++ after) (leaves_off _ _ (follows _ sts after d)))
  stmt_lies at (If' test a yes_ b no_) sts after r d (inl h) =
      moved r _ h (lies_block (block yes_) (Behind at.id ∷ []) (map Do sts ++ after) (lies_at (block yes_) _ (in_yes at test a b yes_ no_ sts after d)))
  stmt_lies at (If' test a yes_ b no_) sts after r d (inr (inl h)) =
      moved r _ h (lies_block (block no_) (Behind at.id ∷ []) (map Do sts ++ after) (lies_at (block no_) _ (in_no at test a b yes_ no_ sts after d)))
  stmt_lies at (If' test a yes_ b no_) sts after r d (inr (inr h)) = absurd h
  stmt_lies at (For' x lo hi a body) sts after r d (inl h) =
      moved r _ h (lies_seen (reads_of lo.node lo.kind ++ reads_of hi.node hi.kind) (Enter at.id None (block body) ∷ []) (map Do sts ++ after) (a_for at x lo hi a body sts after d))
  stmt_lies at (While' test a body) sts after r d (inl h) = moved r _ h (a_while at test a body sts after d)
  stmt_lies at (Hand x role) sts after r d (inl h) = moved r _ h (leaves_off _ _ (follows _ sts after d))
  stmt_lies at Skip sts after r d (inl h) = moved r _ h (leaves_off _ _ (follows _ sts after d))
  stmt_lies at (Set x e) sts after r d (inr h) = absurd h
  stmt_lies at (Put x i e) sts after r d (inr h) = absurd h
  stmt_lies at (For' x lo hi a body) sts after r d (inr h) = absurd h
  stmt_lies at (While' test a body) sts after r d (inr h) = absurd h
  stmt_lies at (Hand x role) sts after r d (inr h) = absurd h
  stmt_lies at Skip sts after r d (inr h) = absurd h

  do_lies : {st : Stmt} {rest : Point} (r : Point) → Follows p st rest → Next (Do st ∷ rest) r → Lies r
  do_lies r (follows st sts after d) h = stmt_lies st.node st.kind sts after r d h

  rest_lies : {st : Stmt} {rest : Point} → Follows p st rest → Lies rest
  rest_lies (follows st sts after d) = lies_at sts after (later st sts after d)

  left_lies : {n : NodeId} {rest : Point} → Leaves p n rest → Lies rest
  left_lies (leaves_off st rest f) = rest_lies f

  test_lies : {n : NodeId} {test : Option Cond} {body : List Stmt} {rest : Point} (r : Point) → Loops p n test body rest → Next (Test n test body ∷ rest) r → Lies r
  test_lies r (a_for at x lo hi a body sts after d) (inl h) =
      moved r _ h (lies_block (block body) (Turn at.id None (block body) ∷ []) (map Do sts ++ after) (lies_at (block body) _ (in_for at x lo hi a body sts after d)))
  test_lies r (a_for at x lo hi a body sts after d) (inr (inl h)) = moved r _ h (leaves_off _ _ (follows (record { node = at; kind = For' x lo hi a body }) sts after d))
  test_lies r (a_for at x lo hi a body sts after d) (inr (inr h)) = absurd h
  test_lies r (a_while at test a body sts after d) (inl h) =
      moved r _ h (lies_block (block body) (Turn at.id (Some test) (block body) ∷ []) (map Do sts ++ after) (lies_at (block body) _ (in_while at test a body sts after d)))
  test_lies r (a_while at test a body sts after d) (inr (inl h)) = moved r _ h (leaves_off _ _ (follows (record { node = at; kind = While' test a body }) sts after d))
  test_lies r (a_while at test a body sts after d) (inr (inr h)) = absurd h

  cond_lies : (c : CondKind) (rest r : Point) → Lies rest → IsOneWay (ways_through c) rest r → Lies r
  unfolding hidden cond_shape cond_child expr_shape expr_child
  cond_lies True rest r d (inl h) = moved r rest h d
  cond_lies False rest r d (inl h) = moved r rest h d
  cond_lies (Rel op a b) rest r d (inl h) = moved r _ h (lies_all_seen (reads_of a.node a.kind ++ reads_of b.node b.kind) rest d)
  cond_lies (Negation n c) rest r d (inl h) = moved r (Decide c ∷ rest) h d
  cond_lies (Conjunction n c m e) rest r d (inl h) = moved r (Judge (record { node = n; kind = c }) ∷ rest) h d
  cond_lies (Conjunction n c m e) rest r d (inr (inl h)) = moved r (Judge (record { node = n; kind = c }) ∷ Decide e ∷ rest) h d
  cond_lies (Conjunction n c m e) rest r d (inr (inr h)) = absurd h
  cond_lies (Disjunction n c m e) rest r d (inl h) = moved r (Judge (record { node = n; kind = c }) ∷ rest) h d
  cond_lies (Disjunction n c m e) rest r d (inr (inl h)) = moved r (Judge (record { node = n; kind = c }) ∷ Decide e ∷ rest) h d
  cond_lies (Disjunction n c m e) rest r d (inr (inr h)) = absurd h
  cond_lies True rest r d (inr h) = absurd h
  cond_lies False rest r d (inr h) = absurd h
  cond_lies (Rel op a b) rest r d (inr h) = absurd h
  cond_lies (Negation n c) rest r d (inr h) = absurd h

  pub next_lies : (q r : Point) → Lies q → Next q r → Lies r
  next_lies [] r d h = absurd h
  next_lies (Begin ∷ rest) r d (inl h) = moved r _ (h ∙ (d ∙ sym (append-nil (map Do p.body)))) (lies_at p.body [] whole)
  next_lies (Begin ∷ rest) r d (inr h) = absurd h
  next_lies (Do st ∷ rest) r d h = do_lies r d h
  next_lies (Behind n ∷ rest) r d (inl h) = moved r rest h (left_lies d)
  next_lies (Behind n ∷ rest) r d (inr h) = absurd h
  next_lies (Enter n test body ∷ rest) r d (inl h) = moved r (Test n test body ∷ rest) h d
  next_lies (Enter n test body ∷ rest) r d (inr h) = absurd h
  next_lies (Test n test body ∷ rest) r d h = test_lies r d h
  next_lies (Turn n test body ∷ rest) r d (inl h) = moved r (Test n test body ∷ rest) h d
  next_lies (Turn n test body ∷ rest) r d (inr h) = absurd h
  next_lies (Exit n ∷ rest) r d (inl h) = moved r (Behind n ∷ rest) h d
  next_lies (Exit n ∷ rest) r d (inr h) = absurd h
  next_lies (Judge c ∷ rest) r d (inl h) = moved r (Decide c.kind ∷ rest) h d
  next_lies (Judge c ∷ rest) r d (inr h) = absurd h
  next_lies (Decide c ∷ rest) r d h = cond_lies c rest r d h
  next_lies (See n ∷ rest) r d (inl h) = moved r rest h (d)
  next_lies (See n ∷ rest) r d (inr h) = absurd h

  -- each point of a program lies in it
  pub point_lies : {q : Point} → IsPointOf p q → Lies q
  point_lies first = refl
  point_lies (next {from = v} {to = s} k h) = next_lies v s (point_lies k) h

  -- a statement in a block that stands in the program is one of the program

  pub row_has : {k : _} (row : Row_of-Stmt k) (s : Stmt) → Has (block row) s → BlockHas row s
  row_has end_of-Stmt s h = h
  row_has (more_of-Stmt n st rest) s (inl e) = inl e
  row_has (more_of-Stmt n st rest) s (inr (inl h)) = inr (inl h)
  row_has (more_of-Stmt n st rest) s (inr (inr h)) = inr (inr (row_has rest s h))

  pub stands_has : {sts : List Stmt} {after : Point} (s : Stmt) → Stands p sts after → Has sts s → Has p.body s
  stands_has s whole h = h
  stands_has s (later st sts after d) h = stands_has s d (inr (inr h))
  stands_has s (in_yes at test a b yes_ no_ sts after d) h = stands_has s d (inr (inl (inl (row_has yes_ s h))))
  stands_has s (in_no at test a b yes_ no_ sts after d) h = stands_has s d (inr (inl (inr (row_has no_ s h))))
  stands_has s (in_for at x lo hi a body sts after d) h = stands_has s d (inr (inl (row_has body s h)))
  stands_has s (in_while at test a body sts after d) h = stands_has s d (inr (inl (row_has body s h)))
