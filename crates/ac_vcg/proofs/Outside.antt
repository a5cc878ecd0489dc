-- A statement at none of whose nodes the target stands, and behind which no path leads to it, has no path and no condition.
use Rattle.std.proofs.Common.{◌≡◌, ◌⊎◌, ℕ, ◌+◌, ◌≤◌, ◌<◌, nat_eq, nat_lt, nat_le, Bool, true, false, ◌||◌, ◌&&◌, List, [], ◌∷◌, ◌++◌, Option, Some, None, is_some, refl, ap, sym, subst, ◌∙◌, arith, rules, inl, inr, zero, suc, drop, length, get_or}
use Rattle.std.proofs.lemmas.Bool.{false≢true}
use Rattle.std.proofs.lemmas.Bool.Decides.{nat_tests}
use Rattle.std.proofs.lemmas.List.{drop_more}
use Rattle.ac_tree.specs.declared.node.NodeId.{NodeId}
use Rattle.ac_tree.specs.declared.path.Target.{Target}
use Rattle.ac_tree.specs.declared.path.Target.TheVariants.{Entry, Keep, Barrier, Site}
use Rattle.ac_tree.specs.declared.policy.PolicyName.{PolicyName}
use Rattle.ac_tree.specs.declared.program.Cond.{Cond}
use Rattle.ac_tree.specs.declared.program.Expr.{Expr}
use Rattle.ac_tree.specs.declared.program.Program.{Program}
use Rattle.ac_tree.specs.declared.program.Stmt.{Stmt}
use Rattle.ac_tree.specs.declared.program.StmtKind.{StmtKind}
use Rattle.ac_tree.specs.declared.program.StmtKind.TheVariants as stmt
use Rattle.ac_tree.specs.Preorder.{inside_expr, inside_cond, inside_stmt, nodes_of_list}
use Rattle.ac_run.specs.Declarations.{NameBytes}
use Rattle.ac_logic.specs.declared.condition.Condition.{Condition}
use Rattle.ac_logic.specs.declared.formula.Formula.{Formula}
use Rattle.ac_conditions.specs.Conditions.{barrier_condition, conditions}
use Rattle.ac_conditions.specs.Part.{Part}
use Rattle.ac_conditions.specs.Preconditions.{past_barrier, before}
use Rattle.ac_conditions.specs.Targets.{stmt_targets}
use Rattle.ac_conditions.proofs.ConditionsInOrder.{stmt_stands}
use Rattle.ac_conditions.proofs.PairsInOrder.{targets_at}
use Rattle.ac_conditions.proofs.Sublists.{IsSublist}
use Rattle.ac_conditions.proofs.TargetsCover.{is_same, Apart, apart_barrier, none_past, before_none, none_aims_in, no_barrier_condition}
use Rattle.ac_targets.proofs.Nodes.{nodes_if, nodes_for, nodes_while}
use Rattle.ac_vcg.specs.declared.found.Found.{Found}
use Rattle.ac_preconditions.specs.Outside.{Rises, node_of, IsAtNone, first_node, is_from, is_outside}
use Rattle.ac_preconditions.specs.Stands.{StandsIf}
use Rattle.ac_vcg.specs.Stands.{AreFound}

-- rising numbers

weaker : (i j : ℕ) (ns : List NodeId) → i ≤ j → Rises j ns → Rises i ns
weaker i j [] h r = tt
weaker i j (n ∷ ns) h r = (below, r.1)
  where
    below : i ≤ n.0
    below = let k = r.0 in omega arith

rises_left : (i : ℕ) (xs ys : List NodeId) → Rises i (xs ++ ys) → Rises i xs
rises_left i [] ys r = tt
rises_left i (x ∷ xs) ys r = (r.0, rises_left (x.0 + 1) xs ys r.1)

rises_right : (i : ℕ) (xs ys : List NodeId) → Rises i (xs ++ ys) → Rises i ys
rises_right i [] ys r = r
rises_right i (x ∷ xs) ys r = weaker i (x.0 + 1) ys below (rises_right (x.0 + 1) xs ys r.1)
  where
    below : i ≤ x.0 + 1
    below = let k = r.0 in omega arith

least : (i : ℕ) (xs : List NodeId) (y : NodeId) (ys : List NodeId) → Rises i (xs ++ y ∷ ys) → i ≤ y.0
least i xs y ys r = (rises_right i xs (y ∷ ys) r).0

-- the blocks of a statement

abbrev RisesIn : List Stmt → Type 0
RisesIn block = Rises 0 (nodes_of_list block)

pub rises_if : (kind : StmtKind) (test : Cond) (ys zs us vs : List Stmt) → kind ≡ stmt.If test ys zs → us ≡ ys → vs ≡ zs → Rises 0 (inside_stmt kind) → RisesIn us × RisesIn vs
rises_if kind test ys zs us vs e i j r =
    let all : Rises 0 ((test.node.id ∷ inside_cond test.kind) ++ (nodes_of_list ys ++ nodes_of_list zs)) = subst (λ (ns : List NodeId). Rises 0 ns) (ap inside_stmt e ∙ nodes_if test ys zs) r in
    let both = rises_right 0 (test.node.id ∷ inside_cond test.kind) (nodes_of_list ys ++ nodes_of_list zs) all in
    (subst RisesIn (sym i) (rises_left 0 (nodes_of_list ys) (nodes_of_list zs) both), subst RisesIn (sym j) (rises_right 0 (nodes_of_list ys) (nodes_of_list zs) both))

pub rises_for : (kind : StmtKind) (x : NameBytes) (lo hi : Expr) (body us : List Stmt) → kind ≡ stmt.For x lo hi body → us ≡ body → Rises 0 (inside_stmt kind) → RisesIn us
rises_for kind x lo hi body us e i r =
    subst RisesIn (sym i) (rises_right 0 (hi.node.id ∷ inside_expr hi.kind) (nodes_of_list body)
    (rises_right 0 (lo.node.id ∷ inside_expr lo.kind) ((hi.node.id ∷ inside_expr hi.kind) ++ nodes_of_list body)
    (subst (λ (ns : List NodeId). Rises 0 ns) (ap inside_stmt e ∙ nodes_for x lo hi body) r)))

pub rises_while : (kind : StmtKind) (test : Cond) (body us : List Stmt) → kind ≡ stmt.While test body → us ≡ body → Rises 0 (inside_stmt kind) → RisesIn us
rises_while kind test body us e i r =
    subst RisesIn (sym i) (rises_right 0 (test.node.id ∷ inside_cond test.kind) (nodes_of_list body) (subst (λ (ns : List NodeId). Rises 0 ns) (ap inside_stmt e ∙ nodes_while test body) r))

-- the first statement of a block, and the rest
first_rises : (st : Stmt) (rest : List Stmt) → RisesIn (st ∷ rest) → Rises 0 (inside_stmt st.kind)
first_rises st rest r = rises_right 0 (st.node.id ∷ []) (inside_stmt st.kind) (rises_left 0 (st.node.id ∷ inside_stmt st.kind) (nodes_of_list rest) r)

rest_rises : (st : Stmt) (rest : List Stmt) → RisesIn (st ∷ rest) → RisesIn rest
rest_rises st rest r = rises_right 0 (st.node.id ∷ inside_stmt st.kind) (nodes_of_list rest) r

rises_drop : (i : ℕ) (block : List Stmt) → RisesIn block → RisesIn (drop i block)
rises_drop zero block r = r
rises_drop (suc i) [] r = r
rises_drop (suc i) (st ∷ rest) r = rises_drop i rest (rest_rises st rest r)

-- targets elsewhere

before_it : (n m : ℕ) → n < m → nat_eq n m ≡ false
before_it n m h = grind (arith, nat_tests)

behind_it : (n m : ℕ) → m < n → nat_eq n m ≡ false
behind_it n m h = grind (arith, nat_tests)

less : (n m : ℕ) → nat_lt n m ≡ true → n < m
less n m h = grind (arith, nat_tests)

at_most : (n m : ℕ) → nat_le n m ≡ true → n ≤ m
at_most n m h = grind (arith, nat_tests)

none_below : (t : Target) (i : ℕ) (ns : List NodeId) → (node_of t).0 < i → Rises i ns → IsAtNone t ns
none_below t i [] lt r = tt
none_below t i (n ∷ ns) lt r = (before_it (node_of t).0 n.0 first, none_below t (n.0 + 1) ns next r.1)
  where
    first : (node_of t).0 < n.0
    first = let k = r.0 in omega arith

    next : (node_of t).0 < n.0 + 1
    next = let k = r.0 in omega arith

none_above : (t : Target) (i : ℕ) (xs : List NodeId) (y : NodeId) (ys : List NodeId) → y.0 ≤ (node_of t).0 → Rises i (xs ++ y ∷ ys) → IsAtNone t xs
none_above t i [] y ys le r = tt
none_above t i (x ∷ xs) y ys le r = (behind_it (node_of t).0 x.0 first, none_above t (x.0 + 1) xs y ys le r.1)
  where
    first : x.0 < (node_of t).0
    first = let k = least (x.0 + 1) xs y ys r.1 in omega arith

unlike : (t u : Target) → nat_eq (node_of t).0 (node_of u).0 ≡ false → is_same t u ≡ false
unlike (Entry m) (Entry n) h = h
unlike (Keep m) (Keep n) h = h
unlike (Barrier m) (Barrier n) h = h
unlike (Site m) (Site n) h = h
unlike _ _ h = refl

apart_nodes : (t : Target) (ns : List NodeId) → IsAtNone t ns → Apart t (targets_at ns)
apart_nodes t [] h = tt
apart_nodes t (n ∷ ns) h = (unlike t (Entry n) h.0, (unlike t (Keep n) h.0, (unlike t (Barrier n) h.0, (unlike t (Site n) h.0, apart_nodes t ns h.1))))

apart_sublist : (t : Target) (us vs : List Target) → IsSublist us vs → Apart t vs → Apart t us
apart_sublist t [] vs s h = tt
apart_sublist t (u ∷ us) [] s h = absurd s
apart_sublist t (u ∷ us) (v ∷ vs) (inl s) h = (subst (λ (w : Target). is_same t w ≡ false) (sym s.0) h.0, apart_sublist t us vs s.1 h.1)
apart_sublist t (u ∷ us) (v ∷ vs) (inr s) h = apart_sublist t (u ∷ us) vs s h.1

apart_stmt : (p : Program) (t : Target) (n : NodeId) (k : StmtKind) → IsAtNone t (n ∷ inside_stmt k) → Apart t (stmt_targets p n k)
apart_stmt p t n k h = apart_sublist t (stmt_targets p n k) (targets_at (n ∷ inside_stmt k)) (stmt_stands p n k) (apart_nodes t (n ∷ inside_stmt k) h)

either : (a b : Bool) → a || b ≡ true → (a ≡ true) ⊎ (b ≡ true)
either true b h = inl refl
either false b h = inr h

at_none : (t : Target) (st : Stmt) (rest : List Stmt) → RisesIn (st ∷ rest) → is_outside t st.node.id (first_node rest) ≡ true → IsAtNone t (st.node.id ∷ inside_stmt st.kind)
at_none t st rest r h = by rest r (either (nat_lt (node_of t).0 st.node.id.0) (is_from (node_of t) (first_node rest)) h)
  where
    by : (rest : List Stmt) → RisesIn (st ∷ rest) → (nat_lt (node_of t).0 st.node.id.0 ≡ true) ⊎ (is_from (node_of t) (first_node rest) ≡ true) → IsAtNone t (st.node.id ∷ inside_stmt st.kind)
    by rest r (inl h) =
        let own = less (node_of t).0 st.node.id.0 h in (
          before_it (node_of t).0 st.node.id.0 own,
          none_below t (st.node.id.0 + 1) (inside_stmt st.kind) (omega (arith, own)) (rises_left 0 (st.node.id ∷ inside_stmt st.kind) (nodes_of_list rest) r).1,
        )
    by [] r (inr h) = absurd (false≢true h)
    by (next ∷ rest) r (inr h) =
        none_above t 0 (st.node.id ∷ inside_stmt st.kind) next.node.id (inside_stmt next.kind ++ nodes_of_list rest) (at_most next.node.id.0 (node_of t).0 h) r

-- a statement of a block, by what is known of the one behind it
next_of : (block : List Stmt) (i j : ℕ) (s d : Stmt) → i < length block → j ≡ i + 1 → s ≡ get_or block i d → drop i block ≡ s ∷ drop j block
next_of block i j s d lt q e = drop_more block i d lt ∙ ap (λ (x : Stmt). x ∷ drop (i + 1) block) (sym e) ∙ ap (λ m. s ∷ drop m block) (sym q)

pub first_at : (block : List Stmt) (i j : ℕ) (s d : Stmt) → i < length block → j ≡ i + 1 → s ≡ get_or block i d → Some s.node.id ≡ first_node (drop i block)
first_at block i j s d lt q e = sym (ap first_node (next_of block i j s d lt q e))

pub none_first : (block : List Stmt) → None ≡ first_node (drop (length block) block)
none_first [] = refl
none_first (st ∷ rest) = none_first rest

pub rises_at : (block : List Stmt) (i j : ℕ) (s d : Stmt) → i < length block → j ≡ i + 1 → s ≡ get_or block i d → RisesIn block → RisesIn (s ∷ drop j block)
rises_at block i j s d lt q e r = subst RisesIn (next_of block i j s d lt q e) (rises_drop i block r)

pub rises_inside : (block : List Stmt) (i j : ℕ) (s d : Stmt) → i < length block → j ≡ i + 1 → s ≡ get_or block i d → RisesIn block → Rises 0 (inside_stmt s.kind)
rises_inside block i j s d lt q e r = first_rises s (drop j block) (rises_at block i j s d lt q e r)

at_none_of : (t : Target) (block : List Stmt) (i j : ℕ) (s d : Stmt) (next : Option NodeId) (passed : Bool) → i < length block → j ≡ i + 1 → s ≡ get_or block i d → next ≡ first_node (drop j block) → passed ≡ is_outside t s.node.id next → RisesIn block →
    passed ≡ true → IsAtNone t (s.node.id ∷ inside_stmt s.kind)
at_none_of t block i j s d next passed lt q e n o r h =
    at_none t s (drop j block) (rises_at block i j s d lt q e r) (ap (λ (m : Option NodeId). is_outside t s.node.id m) (sym n) ∙ sym o ∙ h)

both_hold : (a b : Bool) → (a && b) ≡ true → (a ≡ true) × (b ≡ true)
both_hold true b h = (refl, h)
both_hold false b h = cc

-- the same where the nodes are known to be in order, or nothing is said
pub none_passed : (t : Target) (block : List Stmt) (i j : ℕ) (s d : Stmt) (next : Option NodeId) (passed ordered : Bool) → i < length block → j ≡ i + 1 → s ≡ get_or block i d → next ≡ first_node (drop j block) →
    passed ≡ (ordered && is_outside t s.node.id next) → (ordered ≡ true → RisesIn block) → passed ≡ true → IsAtNone t (s.node.id ∷ inside_stmt s.kind)
none_passed t block i j s d next passed ordered lt q e n o r h =
    let both = both_hold ordered (is_outside t s.node.id next) (sym o ∙ h) in
    at_none_of t block i j s d next (is_outside t s.node.id next) lt q e n refl (r both.0) both.1

module _ {G : Type 0} (stands : G → Formula → Type 0) (p : Program) (name : PolicyName) (part : Part) (t : Target) (hs : List Formula) where
  pub passed_over : (n : NodeId) (k : StmtKind) (behind : Option G) (xs : List (Found G)) (Q : Option Formula) (cs : List Condition) → IsAtNone t (n ∷ inside_stmt k) → is_some behind ≡ false → StandsIf stands behind Q → AreFound stands name xs cs →
      StandsIf stands behind (before p part t n k (past_barrier t n (part.behind n) Q))
      × AreFound stands name xs (conditions p name part t hs n k (past_barrier t n (part.behind n) Q) (barrier_condition p name part t n hs (part.behind n) Q) ++ cs)
  passed_over n k None xs None cs o e h f =
      let a = apart_stmt p t n k o in
      let past = none_past p name part t n (part.behind n) None (apart_barrier p name part t n k a) refl in
      let path = before_none p name part t n k (past_barrier t n (part.behind n) None) a past in
      let none = none_aims_in p name part t hs n k (past_barrier t n (part.behind n) None) (barrier_condition p name part t n hs (part.behind n) None) a past (no_barrier_condition p name part t n hs (part.behind n) None refl) in
      (subst (λ (q : Option Formula). StandsIf stands None q) (sym path) tt, subst (λ (ds : List Condition). AreFound stands name xs (ds ++ cs)) (sym none) f)
  passed_over n k None xs (Some q) cs a e h f = absurd h
  passed_over n k (Some g) xs Q cs a e h f = absurd (false≢true (sym e))
