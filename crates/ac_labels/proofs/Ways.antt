-- Ways of control: from a point to one that may be the same, with no cut before it.
use Rattle.std.proofs.Common.{◌≡◌, ℕ, Bool, List, [], ◌∷◌, ◌++◌, map, Some, None, refl, sym, ◌∙◌, subst, inl, inr}
use Rattle.ac_tree.specs.declared.node.NodeId.{NodeId}
use Rattle.ac_tree.specs.declared.path.Cut.{Cut}
use Rattle.ac_tree.specs.declared.path.Target.{Target}
use Rattle.ac_tree.specs.declared.program.Cond.{Cond}
use Rattle.ac_tree.specs.declared.program.CondKind.{CondKind}
use Rattle.ac_tree.specs.declared.program.CondKind.TheVariants.{True, False, Rel}
use Rattle.ac_tree.specs.declared.program.Program.{Program}
use Rattle.ac_tree.specs.Patterns.{Negation, Conjunction, Disjunction}
use Rattle.ac_flow.specs.Listed.{IsListed}
use Rattle.ac_flow.specs.Paths.{IsPointOf, next, LeadsTo, step, steps}
use Rattle.ac_flow.specs.Points.{Do, Behind, Enter, Test, Turn, Exit, Judge, Decide, See, Begin, Point, Next, reads_of, cut_at, target_at}
use Rattle.ac_flow.proofs.Within.{none-some}
use Rattle.ac_visits.specs.Visits.{EntersAt, LeadsBy, IsVisited, on_path}
use Rattle.ac_labels.specs.Opened.{hidden, cond_shape, cond_child, expr_shape, expr_child}

module _ (barrier : ℕ → Bool) where
  pub data Way : Point → Point → Type 0 where
    here : {q : Point} → Way q q
    on : {q r s : Point} → cut_at barrier q ≡ None → Next q r → Way r s → Way q s

  pub way_on : {q r s : Point} → Way q r → Way r s → Way q s
  way_on here w = w
  way_on (on c h v) w = on c h (way_on v w)

  leads_along : {q r s : Point} → Next q r → Way r s → LeadsTo barrier q s
  leads_along h here = step h
  leads_along h (on c k w) = steps h c (leads_along k w)

  -- past accesses, tests and left operands

  pub seen_way : (ns : List NodeId) (after rest : Point) → Way ((map See ns ++ after) ++ rest) (after ++ rest)
  seen_way [] after rest = here
  seen_way (n ∷ ns) after rest = on refl (inl refl) (seen_way ns after rest)

  pub all_seen_way : (ns : List NodeId) (rest : Point) → Way (map See ns ++ rest) rest
  all_seen_way [] rest = here
  all_seen_way (n ∷ ns) rest = on refl (inl refl) (all_seen_way ns rest)

  pub cond_way : (c : CondKind) (rest : Point) → Way (Decide c ∷ rest) rest
  unfolding hidden cond_shape cond_child expr_shape expr_child
  cond_way True rest = on refl (inl refl) here
  cond_way False rest = on refl (inl refl) here
  cond_way (Rel op a b) rest = on refl (inl refl) (all_seen_way (reads_of a.node a.kind ++ reads_of b.node b.kind) rest)
  cond_way (Negation n c) rest = on refl (inl refl) (cond_way c rest)
  cond_way (Conjunction n c m d) rest = on refl (inr (inl refl)) (on refl (inl refl) (way_on (cond_way c (Decide d ∷ rest)) (cond_way d rest)))
  cond_way (Disjunction n c m d) rest = on refl (inr (inl refl)) (on refl (inl refl) (way_on (cond_way c (Decide d ∷ rest)) (cond_way d rest)))

  pub judge_way : (c : Cond) (rest : Point) → Way (Judge c ∷ rest) rest
  judge_way c rest = on refl (inl refl) (cond_way c.kind rest)

  -- to one of some accesses

  pub way_to : (ns : List NodeId) (after rest : Point) (n : NodeId) → IsListed ns n → (to : Point) × Way ((map See ns ++ after) ++ rest) (See n ∷ to)
  way_to [] after rest n h = absurd h
  way_to (m ∷ ns) after rest n (inl e) = ((map See ns ++ after) ++ rest, subst (λ (k : NodeId). Way (See m ∷ ((map See ns ++ after) ++ rest)) (See k ∷ ((map See ns ++ after) ++ rest))) (sym e) here)
  way_to (m ∷ ns) after rest n (inr h) = let k = way_to ns after rest n h in (k.0, on refl (inl refl) k.1)

  pub way_among : (ns : List NodeId) (rest : Point) (n : NodeId) → IsListed ns n → (to : Point) × Way (map See ns ++ rest) (See n ∷ to)
  way_among [] rest n h = absurd h
  way_among (m ∷ ns) rest n (inl e) = (map See ns ++ rest, subst (λ (k : NodeId). Way (See m ∷ (map See ns ++ rest)) (See k ∷ (map See ns ++ rest))) (sym e) here)
  way_among (m ∷ ns) rest n (inr h) = let k = way_among ns rest n h in (k.0, on refl (inl refl) k.1)

  -- the points of a program: along a way, and past statements and blocks

  module _ (p : Program) where
    pub point_on : {q r : Point} → Way q r → IsPointOf p q → IsPointOf p r
    point_on here a = a
    point_on (on c h w) a = point_on w (next a h)

  module _ (p : Program) (t : Target) where
    -- control comes to the target
    abbrev pub Arrives : Point → Type 0
    Arrives q = (to : Point) × Way q to × (target_at barrier to ≡ Some t)

    -- on its way there it enters a node
    abbrev pub Meets : Point → NodeId → Type 0
    Meets q n = (via : Point) × Way q via × EntersAt via n × Arrives via

    entered_none : (q : Point) (n : NodeId) → EntersAt q n → target_at barrier q ≡ None
    entered_none [] n h = absurd h
    entered_none (Do st ∷ rest) n h = refl
    entered_none (Judge c ∷ rest) n h = refl
    entered_none (Begin ∷ rest) n h = absurd h
    entered_none (Behind m ∷ rest) n h = absurd h
    entered_none (Enter m test body ∷ rest) n h = absurd h
    entered_none (Test m test body ∷ rest) n h = absurd h
    entered_none (Turn m test body ∷ rest) n h = absurd h
    entered_none (Exit m ∷ rest) n h = absurd h
    entered_none (Decide c ∷ rest) n h = absurd h
    entered_none (See m ∷ rest) n h = absurd h

    leaves : {q to : Point} → Way q to → target_at barrier q ≡ None → target_at barrier to ≡ Some t → LeadsTo barrier q to
    leaves here e h = absurd (none-some (sym e ∙ h))
    leaves (on c k w) e h = leads_along k w

    -- what control enters on a way from a cut is visited
    pub met_visited : (c : Cut) (q r : Point) (n : NodeId) → IsPointOf p q → cut_at barrier q ≡ Some c → Next q r → Meets r n → IsVisited p barrier c t n
    met_visited c q r n a e h m =
        let by : LeadsBy p barrier c t m.0 = record { from = q; to = m.3.0; of_program = a; is_cut = e; before = leads_along h m.1; behind = leaves m.3.1 (entered_none m.0 n m.2) m.3.2; is_target = m.3.2 } in
        on_path m.0 n by m.2
