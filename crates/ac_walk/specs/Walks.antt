-- The walk of a pair: the nodes that the paths from its cut to its target enter, with the nodes that its condition speaks of
-- besides. Nodes have their numbers in preorder, so the statement that holds a number is the last of a list whose own number
-- isn't above it.
use Rattle.std.specs.Prelude.{ℕ, nat_eq, nat_le, Bool, true, false, ◌&&◌, ◌||◌, not, if◌then◌else◌, List, [], ◌∷◌, ◌++◌}
use Rattle.std.specs.List.{list_any}
use Rattle.ac_tree.specs.declared.node.Node.{Node}
use Rattle.ac_tree.specs.declared.node.NodeId.{NodeId}
use Rattle.ac_tree.specs.declared.path.Cut.{Cut}
use Rattle.ac_tree.specs.declared.path.Cut.TheVariants.{Start, Head, Exit, After}
use Rattle.ac_tree.specs.declared.path.Pair.{Pair}
use Rattle.ac_tree.specs.declared.path.Target.{Target}
use Rattle.ac_tree.specs.declared.path.Target.TheVariants.{Entry, Keep, Barrier, Site}
use Rattle.ac_tree.specs.declared.program.CondKind.{CondKind}
use Rattle.ac_tree.specs.declared.program.CondKind.TheVariants.{True, False, Rel}
use Rattle.ac_tree.specs.declared.program.ExprKind.{ExprKind}
use Rattle.ac_tree.specs.declared.program.ExprKind.TheVariants.{Num, Get, Read}
use Rattle.ac_tree.specs.declared.program.Index.{Index}
use Rattle.ac_tree.specs.declared.program.Item.{Item}
use Rattle.ac_tree.specs.declared.program.ItemKind.{ItemKind}
use Rattle.ac_tree.specs.declared.program.ItemKind.TheVariants.{Const, InputScalar, InputArray, VarScalar, VarArray}
use Rattle.ac_tree.specs.declared.program.Program.{Program}
use Rattle.ac_tree.specs.declared.program.Stmt.{Stmt}
use Rattle.ac_tree.specs.declared.program.StmtKind.{StmtKind, Row_of-Stmt, end_of-Stmt, more_of-Stmt, Set, Put, If', For', While', Hand, Skip}
use Rattle.ac_tree.specs.Patterns.{Negative, Plus, Minus, Times, OneIndex, TwoIndexes, Negation, Conjunction, Disjunction}
use Rattle.ac_flow.specs.Cuts.{has_barrier}
use Rattle.ac_flow.specs.Leads.{is_site, is_entry, is_barrier}
use Rattle.ac_flow.specs.Pairs.{is_node}
use Rattle.ac_flow.specs.Through.{passes, block_passes, list_passes, goes_on}
use Rattle.ac_walk.specs.Opened.{hidden, expr_shape, expr_child, cond_shape, cond_child}

abbrev pub target_node : Target → NodeId
target_node (Entry n) = n
target_node (Keep n) = n
target_node (Barrier n) = n
target_node (Site n) = n

-- whether the target is a read in an expression
abbrev mutual
  unfolding hidden expr_shape expr_child

  pub is_in_expr : Target → Node → ExprKind → Bool
  is_in_expr t n (Num k) = false
  is_in_expr t n (Get x) = is_site t n.id
  is_in_expr t n (Read x i) = is_in_index t i || is_site t n.id
  is_in_expr t n (Negative m a) = is_in_expr t m a
  is_in_expr t n (Plus k a m b) = is_in_expr t k a || is_in_expr t m b
  is_in_expr t n (Minus k a m b) = is_in_expr t k a || is_in_expr t m b
  is_in_expr t n (Times k a m b) = is_in_expr t k a || is_in_expr t m b

  pub is_in_index : Target → Index → Bool
  is_in_index t (OneIndex n a) = is_in_expr t n a
  is_in_index t (TwoIndexes k a m b) = is_in_expr t k a || is_in_expr t m b

abbrev pub is_in_cond : Target → CondKind → Bool
unfolding hidden cond_shape cond_child
is_in_cond t True = false
is_in_cond t False = false
is_in_cond t (Rel op a b) = is_in_expr t a.node a.kind || is_in_expr t b.node b.kind
is_in_cond t (Negation n c) = is_in_cond t c
is_in_cond t (Conjunction n c m d) = is_in_cond t c || is_in_cond t d
is_in_cond t (Disjunction n c m d) = is_in_cond t c || is_in_cond t d

-- the left operands in a condition that control enters, up to the target
abbrev pub lefts : Target → CondKind → List NodeId
unfolding hidden cond_shape cond_child
lefts t True = []
lefts t False = []
lefts t (Rel op a b) = []
lefts t (Negation n c) = lefts t c
lefts t (Conjunction n c m d) = n.id ∷ (lefts t c ++ (if is_in_cond t c then [] else lefts t d))
lefts t (Disjunction n c m d) = n.id ∷ (lefts t c ++ (if is_in_cond t c then [] else lefts t d))

-- of the two parts of an `if`, the one in which the target is met; where it is met in neither, those that control leaves
abbrev pub parts : Bool → Bool → Bool → Bool → List NodeId → List NodeId → List NodeId
parts yes_met no_met yes_left no_left yes_nodes no_nodes =
    if yes_met then yes_nodes else (if no_met then no_nodes else ((if yes_left then yes_nodes else []) ++ (if no_left then no_nodes else [])))

-- whether a list begins with a number that isn't above one, and what a list has from the statement on that holds a number
abbrev pub begins : {k : _} → NodeId → Row_of-Stmt k → Bool
begins at end_of-Stmt = false
begins at (more_of-Stmt n st rest) = nat_le n.id.0 at.0

abbrev pub list_begins : NodeId → List Stmt → Bool
list_begins at [] = false
list_begins at (st ∷ rest) = nat_le st.node.id.0 at.0

abbrev pub holder_of : NodeId → List Stmt → List Stmt
holder_of at [] = []
holder_of at (st ∷ rest) = if list_begins at rest then holder_of at rest else st ∷ rest

abbrev pub is_for : StmtKind → Bool
is_for (For' x lo hi _ body) = true
is_for (Set x e) = false
is_for (Put x i e) = false
is_for (If' test _ yes_ _ no_) = false
is_for (While' test _ body) = false
is_for (Hand x role) = false
is_for Skip = false

module _ (barrier : ℕ → Bool) (t : Target) where
  -- whether the target is met in a statement or behind it, and whether control goes on without having met it, where `inside`
  -- says whether it is met in the statement
  abbrev pub met_by : NodeId → StmtKind → Bool → Bool
  met_by n st inside = inside || (passes barrier st && (barrier n.0 && is_barrier t n))

  abbrev pub past_by : NodeId → StmtKind → Bool → Bool
  past_by n st inside = not inside && goes_on barrier n st

  -- whether control, from before a statement, meets the target in it
  abbrev mutual
    pub meets : NodeId → StmtKind → Bool
    meets n (Set x e) = is_in_expr t e.node e.kind || is_site t n
    meets n (Put x i e) = (is_in_index t i || is_in_expr t e.node e.kind) || is_site t n
    meets n (If' test _ yes_ _ no_) = is_in_cond t test.kind || (block_meets yes_ || block_meets no_)
    meets n (For' x lo hi _ body) = (is_in_expr t lo.node lo.kind || is_in_expr t hi.node hi.kind) || is_entry t n
    meets n (While' test _ body) = is_entry t n
    meets n (Hand x role) = is_site t n
    meets n Skip = false

    pub block_meets : {k : _} → Row_of-Stmt k → Bool
    block_meets end_of-Stmt = false
    block_meets (more_of-Stmt n st rest) = met_by n.id st (meets n.id st) || (past_by n.id st (meets n.id st) && block_meets rest)

  -- what control enters in a statement from before it, up to the target
  abbrev mutual
    pub entered : StmtKind → List NodeId
    entered (If' test _ yes_ _ no_) =
        test.node.id ∷ (lefts t test.kind ++ (if is_in_cond t test.kind then [] else parts (block_meets yes_) (block_meets no_) (block_passes barrier yes_) (block_passes barrier no_) (block_entered yes_) (block_entered no_)))
    entered (Set x e) = []
    entered (Put x i e) = []
    entered (For' x lo hi _ body) = []
    entered (While' test _ body) = []
    entered (Hand x role) = []
    entered Skip = []

    pub block_entered : {k : _} → Row_of-Stmt k → List NodeId
    block_entered end_of-Stmt = []
    block_entered (more_of-Stmt n st rest) = n.id ∷ (entered st ++ (if past_by n.id st (meets n.id st) then block_entered rest else []))

  -- the same of a list of statements
  abbrev pub list_meets : List Stmt → Bool
  list_meets [] = false
  list_meets (st ∷ rest) = met_by st.node.id st.kind (meets st.node.id st.kind) || (past_by st.node.id st.kind (meets st.node.id st.kind) && list_meets rest)

  abbrev pub list_entered : List Stmt → List NodeId
  list_entered [] = []
  list_entered (st ∷ rest) = st.node.id ∷ (entered st.kind ++ (if past_by st.node.id st.kind (meets st.node.id st.kind) then list_entered rest else []))

  -- from the test of a loop on
  abbrev pub turn : StmtKind → List NodeId
  turn (For' x lo hi _ body) = block_entered body
  turn (While' test _ body) = test.node.id ∷ (lefts t test.kind ++ (if is_in_cond t test.kind then [] else block_entered body))
  turn (Set x e) = []
  turn (Put x i e) = []
  turn (If' test _ yes_ _ no_) = []
  turn (Hand x role) = []
  turn Skip = []

  -- what control enters in the cut's own statement, and whether it goes on behind it
  abbrev pub at_cut : Cut → StmtKind → List NodeId
  at_cut Start st = []
  at_cut (Head n) st = turn st
  at_cut (Exit n) st = []
  at_cut (After n) st = []

  abbrev pub leaves_cut : Cut → NodeId → Bool
  leaves_cut Start n = false
  leaves_cut (Head m) n = false
  leaves_cut (Exit m) n = not (barrier n.0)
  leaves_cut (After m) n = true

  -- a statement that encloses the cut, where it is a `for` or the target is its own
  abbrev pub enclosing : NodeId → StmtKind → List NodeId
  enclosing n st = if is_for st || nat_eq (target_node t).0 n.0 then n ∷ [] else []

  module _ (c : Cut) (at : NodeId) where
    -- whether control comes from the cut to the end of the list that holds it, and has not met the target
    abbrev mutual
      pub comes_out : NodeId → StmtKind → Bool
      comes_out n (If' test _ yes_ _ no_) = (if begins at no_ then block_comes no_ else block_comes yes_) && not (barrier n.0)
      comes_out n (For' x lo hi _ body) = false
      comes_out n (While' test _ body) = false
      comes_out n (Set x e) = false
      comes_out n (Put x i e) = false
      comes_out n (Hand x role) = false
      comes_out n Skip = false

      pub block_comes : {k : _} → Row_of-Stmt k → Bool
      block_comes end_of-Stmt = false
      block_comes (more_of-Stmt n st rest) =
          if begins at rest then block_comes rest else ((if nat_eq n.id.0 at.0 then leaves_cut c n.id else comes_out n.id st) && (not (block_meets rest) && block_passes barrier rest))

    -- what control enters from the cut on in the list that holds it, with the statements that enclose it
    abbrev mutual
      pub deeper : StmtKind → List NodeId
      deeper (If' test _ yes_ _ no_) = if begins at no_ then block_from no_ else block_from yes_
      deeper (For' x lo hi _ body) = block_from body
      deeper (While' test _ body) = block_from body
      deeper (Set x e) = []
      deeper (Put x i e) = []
      deeper (Hand x role) = []
      deeper Skip = []

      pub block_from : {k : _} → Row_of-Stmt k → List NodeId
      block_from end_of-Stmt = []
      block_from (more_of-Stmt n st rest) =
          if begins at rest then block_from rest else
          ((if nat_eq n.id.0 at.0 then n.id ∷ at_cut c st else enclosing n.id st ++ deeper st) ++ (if (if nat_eq n.id.0 at.0 then leaves_cut c n.id else comes_out n.id st) then block_entered rest else []))

    -- the same of a list of statements
    abbrev pub leaves : Stmt → Bool
    leaves st = if nat_eq st.node.id.0 at.0 then leaves_cut c st.node.id else comes_out st.node.id st.kind

    abbrev pub from : Stmt → List NodeId
    from st = if nat_eq st.node.id.0 at.0 then st.node.id ∷ at_cut c st.kind else enclosing st.node.id st.kind ++ deeper st.kind

    abbrev pub held_comes : List Stmt → Bool
    held_comes [] = false
    held_comes (st ∷ rest) = leaves st && (not (list_meets rest) && list_passes barrier rest)

    abbrev pub held_from : List Stmt → List NodeId
    held_from [] = []
    held_from (st ∷ rest) = from st ++ (if leaves st then list_entered rest else [])

    abbrev pub list_comes : List Stmt → Bool
    list_comes sts = held_comes (holder_of at sts)

    abbrev pub list_from : List Stmt → List NodeId
    list_from sts = held_from (holder_of at sts)

  -- from a cut to the target
  abbrev pub path_nodes : Cut → List Stmt → List NodeId
  path_nodes Start body = list_entered body
  path_nodes (Head n) body = list_from (Head n) n body
  path_nodes (Exit n) body = list_from (Exit n) n body
  path_nodes (After n) body = list_from (After n) n body

abbrev pub is_input : ItemKind → Bool
is_input (Const v) = false
is_input (InputScalar lo hi) = true
is_input (InputArray x lo hi) = true
is_input VarScalar = false
is_input (VarArray x) = false

abbrev pub inputs : List Item → List NodeId
inputs [] = []
inputs (d ∷ rest) = (if is_input d.kind then d.node.id ∷ [] else []) ++ inputs rest

-- with a node, which stands at the end where it isn't there
abbrev pub with_node : NodeId → List NodeId → List NodeId
with_node n nodes = if list_any (is_node n.0) nodes then nodes else nodes ++ n ∷ []

abbrev pub walk_of : Program → List Cut → Pair → List NodeId
walk_of p cuts pair = with_node (target_node pair.target) (inputs p.items ++ path_nodes (has_barrier cuts) pair.target pair.cut p.body)
