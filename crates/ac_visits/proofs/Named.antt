-- All that a walk names is visited.
use Rattle.std.proofs.Common.{◌≡◌, ℕ, Bool, true, false, ◌||◌, if◌then◌else◌, List, [], ◌∷◌, ◌++◌, map, Option, Some, None, refl, sym, ◌∙◌, ap, subst, append-nil}
use Rattle.std.specs.List.{list_any}
use mathlib.Core.Logic.{◌⊎◌, inl, inr}
use Rattle.ac_tree.specs.declared.node.NodeId.{NodeId}
use Rattle.ac_tree.specs.declared.path.Cut.{Cut}
use Rattle.ac_tree.specs.declared.path.Cut.TheVariants as cut
use Rattle.ac_tree.specs.declared.path.Target.{Target}
use Rattle.ac_tree.specs.declared.program.Cond.{Cond}
use Rattle.ac_tree.specs.declared.program.Item.{Item}
use Rattle.ac_tree.specs.declared.program.Program.{Program}
use Rattle.ac_tree.specs.declared.program.Stmt.{Stmt}
use Rattle.ac_tree.specs.declared.program.StmtKind.{Row_of-Stmt, end_of-Stmt, more_of-Stmt, For', While'}
use Rattle.ac_tree.specs.Preorder.{IsNumbered, nodes_of_list}
use Rattle.ac_flow.specs.Cuts.{has_barrier}
use Rattle.ac_flow.specs.Leads.{cond_reads, is_among, is_keep, past, leads, block_leads, list_leads, point_leads, leads_on}
use Rattle.ac_flow.specs.Listed.{IsListed}
use Rattle.ac_flow.specs.Pairs.{is_node}
use Rattle.ac_flow.specs.Paths.{IsPointOf, Reaches}
use Rattle.ac_flow.specs.Points.{Do, Behind, Enter, Test, Turn, Exit, Judge, Decide, See, Begin, Point, Next, block, cut_at}
use Rattle.ac_flow.proofs.LeadsHold.{path_leads, leads_path}
use Rattle.ac_flow.proofs.Within.{none-some, some-same}
use Rattle.ac_visits.specs.Visits.{LeadsBy, IsVisited, input, on_path, aim}
use Rattle.ac_walk.specs.Walks.{target_node, list_entered, block_entered, list_from, path_nodes, is_input, inputs, with_node, walk_of}
use Rattle.ac_visits.proofs.FromCut.{point_entered, list_point, after_barrier, point_found, at_own, not_true}
use Rattle.ac_visits.proofs.OnPaths.{in_either, in_where, Found, found_from, behind_found, tested_found, block_found, done}
use Rattle.ac_visits.proofs.Order.{Rises, program_rises}
use Rattle.ac_visits.proofs.Standing.{follows, Leaves, leaves_off, Loops, a_for, a_while, point_lies}

module _ (p : Program) (barrier : ℕ → Bool) (t : Target) where
  -- a node that control enters on its way from a cut
  visited_by : (c : Cut) (q r : Point) (m : NodeId) → IsPointOf p q → cut_at barrier q ≡ Some c → Next q r → Found barrier t r m → IsVisited p barrier c t m
  visited_by c q r m a e h k =
      let found = leads_path barrier t k.0 k.3 in
      let by : LeadsBy p barrier c t k.0 = record { from = q; to = found.0; of_program = a; is_cut = e; before = found_from barrier t q r m h k; behind = found.1; is_target = found.2 } in
      on_path k.0 m by k.2

  pub row_leads : {k : _} (row : Row_of-Stmt k) (more : Bool) → block_leads barrier t row more ≡ list_leads barrier t (block row) more
  row_leads end_of-Stmt more = refl
  row_leads (more_of-Stmt n st rest) more = ap (λ b. leads barrier t n.id st (past barrier t n.id b)) (row_leads rest more)

  begin_named : (rest : Point) (m : NodeId) → IsPointOf p (Begin ∷ rest) → rest ≡ map Do p.body → point_leads barrier t rest ≡ true → IsListed (list_entered barrier t p.body) m → IsVisited p barrier cut.Start t m
  begin_named rest m a e h i =
      let whole : IsListed (point_entered barrier t rest) m = subst (λ (q : Point). IsListed (point_entered barrier t q) m) (append-nil (map Do p.body) ∙ sym e) (list_point barrier t p.body [] m i) in
      visited_by cut.Start (Begin ∷ rest) rest m a refl (inl refl) (point_found barrier t rest m h whole)

  module _ (rises : Rises 0 (nodes_of_list p.body)) where
    exit_named : {n : NodeId} {rest : Point} (m : NodeId) → Leaves p n rest → IsPointOf p (Exit n ∷ rest) → leads_on barrier t (Exit n ∷ rest) ≡ true → IsListed (list_from barrier t (cut.Exit n) n p.body) m →
        IsVisited p barrier (cut.Exit n) t m
    exit_named m (leaves_off _ _ (follows s sts after d)) a h i =
        let n : NodeId = s.node.id in
        let rest : Point = map Do sts ++ after in
        elim (at_own p barrier t (cut.Exit n) s rises refl sts after m d i) [
          | inl v ↦ v
          | inr (inl j) ↦ absurd j
          | inr (inr (g, k)) ↦ (let b = not_true (barrier n.0) g in
              visited_by (cut.Exit n) (Exit n ∷ rest) (Behind n ∷ rest) m a refl (inl refl) (behind_found barrier t n rest m b (point_found barrier t rest m (after_barrier barrier t n (barrier n.0) rest refl h b) k)))
        ]

    after_named : {n : NodeId} {rest : Point} (m : NodeId) → Leaves p n rest → barrier n.0 ≡ true → IsPointOf p (Behind n ∷ rest) → point_leads barrier t rest ≡ true → IsListed (list_from barrier t (cut.After n) n p.body) m →
        IsVisited p barrier (cut.After n) t m
    after_named m (leaves_off _ _ (follows s sts after d)) b a h i =
        let n : NodeId = s.node.id in
        let rest : Point = map Do sts ++ after in
        elim (at_own p barrier t (cut.After n) s rises refl sts after m d i) [
          | inl v ↦ v
          | inr (inl j) ↦ absurd j
          | inr (inr (g, k)) ↦ visited_by (cut.After n) (Behind n ∷ rest) rest m a (ap (λ w. if w then Some (cut.After n) else None) b) (inl refl) (point_found barrier t rest m h k)
        ]

    head_named : {n : NodeId} {test : Option Cond} {body : List Stmt} {rest : Point} (m : NodeId) → Loops p n test body rest → IsPointOf p (Test n test body ∷ rest) → leads_on barrier t (Test n test body ∷ rest) ≡ true →
        IsListed (list_from barrier t (cut.Head n) n p.body) m → IsVisited p barrier (cut.Head n) t m
    head_named m (a_for at x lo hi k body sts after d) a h i =
        let s : Stmt = record { node = at; kind = For' x lo hi k body } in
        let n : NodeId = at.id in
        let rest : Point = map Do sts ++ after in
        elim (at_own p barrier t (cut.Head n) s rises refl sts after m d i) [
          | inl v ↦ v
          | inr (inl j) ↦ visited_by (cut.Head n) (Test n None (block body) ∷ rest) ((map Do (block body) ++ Turn n None (block body) ∷ []) ++ rest) m a refl (inl refl)
              (block_found barrier t body (Turn n None (block body) ∷ []) rest m (row_leads body (is_keep t n) ∙ h) j)
          | inr (inr (g, j)) ↦ cc
        ]
    head_named m (a_while at test k body sts after d) a h i =
        let s : Stmt = record { node = at; kind = While' test k body } in
        let n : NodeId = at.id in
        let rest : Point = map Do sts ++ after in
        let turn : Point = (map Do (block body) ++ Turn n (Some test) (block body) ∷ []) ++ rest in
        let told : point_leads barrier t turn ≡ list_leads barrier t (block body) (is_keep t n) = done barrier t body (Turn n (Some test) (block body) ∷ []) rest ∙ row_leads body (is_keep t n) in
        elim (at_own p barrier t (cut.Head n) s rises refl sts after m d i) [
          | inl v ↦ v
          | inr (inl j) ↦ visited_by (cut.Head n) (Test n (Some test) (block body) ∷ rest) (Judge test ∷ turn) m a refl (inl refl)
              (tested_found barrier t test turn (block_entered barrier t body) m (ap (λ b. is_among barrier t (cond_reads test.kind) || b) told ∙ h)
              (λ e g. block_found barrier t body (Turn n (Some test) (block body) ∷ []) rest m (sym (done barrier t body (Turn n (Some test) (block body) ∷ []) rest) ∙ e) g) j)
          | inr (inr (g, j)) ↦ cc
        ]

    of_cut : (c d : Cut) (m : NodeId) → Some d ≡ Some c → (IsListed (path_nodes barrier t d p.body) m → IsVisited p barrier d t m) → IsListed (path_nodes barrier t c p.body) m → IsVisited p barrier c t m
    of_cut c d m e f = subst (λ (k : Cut). IsListed (path_nodes barrier t k p.body) m → IsVisited p barrier k t m) (some-same e) f

    behind_named : (n : NodeId) (rest : Point) (c : Cut) (m : NodeId) (b : Bool) → barrier n.0 ≡ b → IsPointOf p (Behind n ∷ rest) → Leaves p n rest → (if b then Some (cut.After n) else None) ≡ Some c →
        point_leads barrier t rest ≡ true → IsListed (path_nodes barrier t c p.body) m → IsVisited p barrier c t m
    behind_named n rest c m true b a l e h = of_cut c (cut.After n) m e (after_named m l b a h)
    behind_named n rest c m false b a l e h = absurd (none-some e)

    pub path_named : (q : Point) (c : Cut) (m : NodeId) → IsPointOf p q → cut_at barrier q ≡ Some c → leads_on barrier t q ≡ true → IsListed (path_nodes barrier t c p.body) m → IsVisited p barrier c t m
    path_named [] c m a e h = absurd (none-some e)
    path_named (Begin ∷ rest) c m a e h = of_cut c cut.Start m e (begin_named rest m a (point_lies p a) h)
    path_named (Do st ∷ rest) c m a e h = absurd (none-some e)
    path_named (Behind n ∷ rest) c m a e h = behind_named n rest c m (barrier n.0) refl a (point_lies p a) e h
    path_named (Enter n test body ∷ rest) c m a e h = absurd (none-some e)
    path_named (Test n test body ∷ rest) c m a e h = of_cut c (cut.Head n) m e (head_named m (point_lies p a) a h)
    path_named (Turn n test body ∷ rest) c m a e h = absurd (none-some e)
    path_named (Exit n ∷ rest) c m a e h = of_cut c (cut.Exit n) m e (exit_named m (point_lies p a) a h)
    path_named (Judge d ∷ rest) c m a e h = absurd (none-some e)
    path_named (Decide d ∷ rest) c m a e h = absurd (none-some e)
    path_named (See n ∷ rest) c m a e h = absurd (none-some e)

  inputs_visited : (c : Cut) (ds : List Item) (m : NodeId) → ((d : Item) → IsListed ds d → IsListed p.items d) → IsListed (inputs ds) m → IsVisited p barrier c t m
  inputs_visited c [] m f h = absurd h
  inputs_visited c (d ∷ rest) m f h =
      elim (in_either (if is_input d.kind then d.node.id ∷ [] else []) (inputs rest) m h) [
        | inl i ↦ (let k = in_where (is_input d.kind) (d.node.id ∷ []) m i in elim k.1 [ inl e ↦ subst (λ (n : NodeId). IsVisited p barrier c t n) (sym e) (input d (f d (inl refl)) k.0) | inr e ↦ absurd e ])
        | inr i ↦ inputs_visited c rest m (λ x j. f x (inr j)) i
      ]

in_with : (n : NodeId) (nodes : List NodeId) (m : NodeId) → IsListed (with_node n nodes) m → IsListed nodes m ⊎ (m ≡ n)
in_with n nodes m h = go (list_any (is_node n.0) nodes) h
  where
    go : (b : Bool) → IsListed (if b then nodes else nodes ++ n ∷ []) m → IsListed nodes m ⊎ (m ≡ n)
    go true h = inl h
    go false h = elim (in_either nodes (n ∷ []) m h) [ inl i ↦ inl i | inr (inl e) ↦ inr e | inr (inr e) ↦ absurd e ]

pub named_visited : (p : Program) (cuts : List Cut) (c : Cut) (t : Target) (m : NodeId) → IsNumbered p → Reaches p (has_barrier cuts) c t → IsListed (walk_of p cuts (record { cut = c; target = t })) m →
    IsVisited p (has_barrier cuts) c t m
named_visited p cuts c t m n r h =
    elim (in_with (target_node t) (inputs p.items ++ path_nodes (has_barrier cuts) t c p.body) m h) [
      | inl i ↦ elim (in_either (inputs p.items) (path_nodes (has_barrier cuts) t c p.body) m i) [
        | inl j ↦ inputs_visited p (has_barrier cuts) t c p.items m (λ d k. k) j
        | inr j ↦ path_named p (has_barrier cuts) t (program_rises p n) r.from c m r.of_program r.is_cut (path_leads (has_barrier cuts) t r.path r.is_target) j
      ]
      | inr e ↦ subst (λ (k : NodeId). IsVisited p (has_barrier cuts) c t k) (sym e) aim
    ]
