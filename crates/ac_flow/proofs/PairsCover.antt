-- Every pair of a cut and a target that a path joins is listed.
use Rattle.std.proofs.Common.{◌≡◌, ℕ, Bool, true, false, if◌then◌else◌, List, [], ◌∷◌, Some, None, sym, subst}
use mathlib.Core.Logic.{◌⊎◌, inl, inr}
use Rattle.ac_tree.specs.declared.node.NodeId.{NodeId}
use Rattle.ac_tree.specs.declared.path.Cut.{Cut}
use Rattle.ac_tree.specs.declared.path.Cut.TheVariants as cut
use Rattle.ac_tree.specs.declared.path.Pair.{Pair}
use Rattle.ac_tree.specs.declared.path.Target.{Target}
use Rattle.ac_tree.specs.declared.path.Target.TheVariants.{Entry, Keep, Barrier, Site}
use Rattle.ac_tree.specs.declared.program.Program.{Program}
use Rattle.ac_flow.specs.Points.{Begin, Do, Behind, Enter, Test, Turn, Exit, Judge, Decide, See, Point, cut_at, target_at}
use Rattle.ac_flow.specs.Paths.{IsPointOf, first, next, LeadsTo, step, steps, Reaches}
use Rattle.ac_flow.proofs.Within.{In, Sub, in-left, each-of, none-some, false-true, some-same}
use Rattle.ac_flow.specs.Listed.{IsListed, IsSubjectTarget}
use Rattle.ac_flow.specs.Pairs.{each, site_pairs, barrier_pairs, list_pairs}
use Rattle.ac_flow.proofs.PointPairs.{on, point_pairs, all-done}
use Rattle.ac_flow.proofs.PairsKept.{Stepped, one_step}

module _ (barrier subject : ℕ → Bool) where
  -- what is listed where control arrives
  arrives-at : (n : NodeId) (b : Bool) (F : List Cut) (c : Cut) (t : Target) → In F c → (if b then Some (Barrier n) else None) ≡ Some t → In (if b then each F (Barrier n) else []) (record { cut = c; target = t })
  arrives-at n true F c t h k = subst (λ (u : Target). IsListed (each F (Barrier n)) (record { cut = c; target = u })) (some-same k) (each-of (Barrier n) F c h)
  arrives-at n false F c t h k = absurd (none-some k)

  sees-at : (n : NodeId) (b : Bool) (F : List Cut) (c : Cut) → In F c → b ≡ true → In (if b then each F (Site n) else []) (record { cut = c; target = Site n })
  sees-at n true F c h k = each-of (Site n) F c h
  sees-at n false F c h k = absurd (false-true k)

  arrives : (p : Point) (F : List Cut) (c : Cut) (t : Target) → In F c → target_at barrier p ≡ Some t → IsSubjectTarget subject t → In (point_pairs barrier subject F p) (record { cut = c; target = t })
  arrives [] F c t h k a = absurd (none-some k)
  arrives (Begin ∷ rest) F c t h k a = absurd (none-some k)
  arrives (Do st ∷ rest) F c t h k a = absurd (none-some k)
  arrives (Behind n ∷ rest) F c t h k a = in-left (barrier_pairs barrier F n) (point_pairs barrier subject (on barrier subject n F) rest) _ (arrives-at n (barrier n.0) F c t h k)
  arrives (Enter n test body ∷ rest) F c t h k a =
      in-left (each F (Entry n)) _ _ (subst (λ (u : Target). IsListed (each F (Entry n)) (record { cut = c; target = u })) (some-same k) (each-of (Entry n) F c h))
  arrives (Test n test body ∷ rest) F c t h k a = absurd (none-some k)
  arrives (Turn n test body ∷ rest) F c t h k a =
      in-left (each F (Keep n)) _ _ (subst (λ (u : Target). IsListed (each F (Keep n)) (record { cut = c; target = u })) (some-same k) (each-of (Keep n) F c h))
  arrives (Exit n ∷ rest) F c t h k a = absurd (none-some k)
  arrives (Judge d ∷ rest) F c t h k a = absurd (none-some k)
  arrives (Decide d ∷ rest) F c t h k a = absurd (none-some k)
  arrives (See n ∷ rest) F c t h k a =
      in-left (site_pairs subject F n) (point_pairs barrier subject F rest) _
      (subst (λ (u : Target). IsListed (site_pairs subject F n) (record { cut = c; target = u })) (some-same k)
      (sees-at n (subject n.0) F c h (subst (λ (u : Target). IsSubjectTarget subject u) (sym (some-same k)) a)))

  abbrev Comes : List Cut → Point → Cut → Type 0
  Comes F p c = (cut_at barrier p ≡ Some c) ⊎ ((cut_at barrier p ≡ None) × In F c)

  comes : (F : List Cut) (p q : Point) (c : Cut) (s : Stepped barrier subject F p q) → Comes F p c → In s.0 c
  comes F p q c s (inl h) = s.3 c h
  comes F p q c s (inr h) = s.2 h.0 c h.1

  path-listed : {p q : Point} → LeadsTo barrier p q → (F : List Cut) (c : Cut) (t : Target) (all : List Pair) → Comes F p c → Sub (point_pairs barrier subject F p) all → target_at barrier q ≡ Some t → IsSubjectTarget subject t →
      In all (record { cut = c; target = t })
  path-listed (step {from = p} {to = q} h) F c t all k f e a = let s = one_step barrier subject p q h F in f _ (s.1 _ (arrives q s.0 c t (comes F p q c s k) e a))
  path-listed (steps {from = p} {via = v} {to = q} h n path) F c t all k f e a =
      let s = one_step barrier subject p v h F in path-listed path s.0 c t all (inr (n, comes F p v c s k)) (λ x y. f x (s.1 x y)) e a

  point-listed : (p : Program) (s : Point) → IsPointOf p s → (F : List Cut) × Sub (point_pairs barrier subject F s) (list_pairs barrier subject (cut.Start ∷ []) p.body)
  point-listed p _ first = ([], all-done barrier subject (cut.Start ∷ []) p.body)
  point-listed p _ (next {from = v} {to = s} k h) = let before = point-listed p v k in let st = one_step barrier subject v s h before.0 in (st.0, (λ x y. before.1 x (st.1 x y)))

  pub reached-listed : (p : Program) (c : Cut) (t : Target) → Reaches p barrier c t → IsSubjectTarget subject t → In (list_pairs barrier subject (cut.Start ∷ []) p.body) (record { cut = c; target = t })
  reached-listed p c t r a = let found = point-listed p r.from r.of_program in path-listed r.path found.0 c t _ (inl r.is_cut) found.1 r.is_target a
