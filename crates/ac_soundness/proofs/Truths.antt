-- Tests have the truth of their formulas.
use Rattle.std.proofs.Common.{◌≡◌, ℤ, pos, ◌+ℤ◌, ◌≤ℤ◌, ◌<ℤ◌, int_le, int_lt, not, List, [], Bool, true, false, Option, Some, None, refl, subst, if◌then◌else◌, rules, arith}
use Rattle.std.specs.Ordering.{int_eq}
use Rattle.std.proofs.lemmas.Bool.Decides.{Decides-int_eq, not_from_Decides}
use Rattle.std.proofs.lemmas.Int.{ints}
use Rattle.ac_tree.specs.declared.program.CondKind.{CondKind}
use Rattle.ac_tree.specs.declared.program.CondKind.TheVariants.{True, False, Rel}
use Rattle.ac_tree.specs.declared.program.Program.{Program}
use Rattle.ac_tree.specs.declared.program.RelOp.{RelOp}
use Rattle.ac_tree.specs.declared.program.RelOp.TheVariants.{Eq, Ne, Lt, Le, Gt, Ge}
use Rattle.ac_tree.specs.Patterns.{Negation, Conjunction, Disjunction}
use Rattle.ac_run.specs.declared.event.Cell.{Cell}
use Rattle.ac_run.specs.declared.event.Event.{Event}
use Rattle.ac_run.specs.declared.start.Start.{Start}
use Rattle.ac_run.specs.Evaluation.{Reading, pure, and_then, related, value_of, truth_of}
use Rattle.ac_run.specs.Memory.{Memory}
use Rattle.ac_logic.specs.declared.formula.Formula.{Formula}
use Rattle.ac_logic.specs.declared.formula.Term.{Term}
use Rattle.ac_logic.specs.Meaning.{Valuation, Holds, value}
use Rattle.ac_policy.specs.declared.site.Site.{Site}
use Rattle.ac_policy.specs.Laws.{LawNeed}
use Rattle.ac_policy.specs.Sites.{expr_sites}
use Rattle.ac_policy.specs.State.{Kept, Shadow, state}
use Rattle.ac_policy.specs.Terms.{term_of}
use Rattle.ac_conditions.specs.Tests.{relation, formula_of}
use Rattle.ac_soundness.proofs.SitesHold.{needs-append}
use Rattle.ac_soundness.proofs.Values.{none_is, some_is, fine-append, pair_gives, expr_gives}
use Rattle.ac_soundness.specs.Needs.{CondNeedsHold}
use Rattle.ac_soundness.specs.Opened.{hidden, cond_shape, cond_child, term_shape, term_child, formula_shape, formula_child}
use Rattle.ac_soundness.specs.Ranked.{RankedCond}
use Rattle.ac_soundness.specs.Readings.{Says, Gives, Tells}

not_says : (t : Bool) (P : Type 0) → Says t P → Says (not t) (¬ P)
not_says true P h = λ n. n h
not_says false P h = h

eq_says : (a b : ℤ) (t : Bool) → int_eq a b ≡ t → Says t (a ≡ b)
eq_says a b true e = (Decides-int_eq a b).0 e
eq_says a b false e = not_from_Decides (int_eq a b) (Decides-int_eq a b) e

pub le_says : (a b : ℤ) (t : Bool) → int_le a b ≡ t → Says t (a ≤ℤ b)
le_says a b true e = search rules
le_says a b false e = search rules

lt_says : (a b : ℤ) (t : Bool) → int_lt a b ≡ t → Says t ((a +ℤ pos 1) ≤ℤ b)
lt_says a b true e = let h : a <ℤ b = search rules in omega (arith, ints)
lt_says a b false e = λ k. let h : b ≤ℤ a = search rules in omega (arith, ints)

related_says : (w : Valuation) (op : RelOp) (a b : Term) → Says (related op (value w [] a) (value w [] b)) (Holds w (relation op a b))
unfolding formula_shape formula_child term_shape term_child hidden
related_says w Eq a b = eq_says (value w [] a) (value w [] b) _ refl
related_says w Ne a b = not_says (int_eq (value w [] a) (value w [] b)) _ (eq_says (value w [] a) (value w [] b) _ refl)
related_says w Lt a b = lt_says (value w [] a) (value w [] b) _ refl
related_says w Le a b = le_says (value w [] a) (value w [] b) _ refl
related_says w Gt a b = lt_says (value w [] b) (value w [] a) _ refl
related_says w Ge a b = le_says (value w [] b) (value w [] a) _ refl

and_says : (P Q : Type 0) (b : Bool) → P → Says b Q → Says b (P × Q)
and_says P Q true h k = (h, k)
and_says P Q false h k = λ c. k c.1

or_says : (P Q : Type 0) (b : Bool) → ¬ P → Says b Q → Says b (¬ P → ¬ Q → ⊥)
or_says P Q true h k = λ np nq. nq k
or_says P Q false h k = λ c. c h k

module _ (shadow : List Event → Shadow) (Bad : List Event → Event → Type 0) (s : Shadow) where
  pure_tells : (b : Bool) (P : Type 0) → Says b P → Tells shadow Bad s (pure b) P
  pure_tells b P h = (tt, λ c e. subst (λ (d : Bool). Says d P) (some_is b c e) h)

  then_tells : (reads : List Cell) (o : Option Bool) (f : Bool → Reading Bool) (P Q : Type 0) → Tells shadow Bad s (reads, o) P → ((b : Bool) → Says b P → Tells shadow Bad s (f b) Q) → Tells shadow Bad s (and_then reads o f) Q
  then_tells reads None f P Q h k = (h.0, λ b e. none_is {B = Says b Q} b e)
  then_tells reads (Some x) f P Q h k = let j = k x (h.1 x refl) in (fine-append shadow Bad s reads (f x).0 h.0 j.0, j.1)

  gives_tells : (r : Reading Bool) (b : Bool) (P : Type 0) → Gives shadow Bad s r b → Says b P → Tells shadow Bad s r P
  gives_tells r b P h k = (h.0, λ c e. subst (λ (d : Bool). Says d P) (h.1 c e) k)

module _ (p : Program) (start : Start) (shadow : List Event → Shadow) (Bad : List Event → Event → Type 0) (need : Site → Option Formula)
    (law : LawNeed p start shadow Bad need) (m : Memory) (s : Shadow) (kept : Kept p start m) where
  pub cond_tells : (c : CondKind) → RankedCond p start c → CondNeedsHold need (state p start m s) p c → Tells shadow Bad s (truth_of p start m c) (Holds (state p start m s) (formula_of p c))
  unfolding hidden term_shape term_child cond_shape cond_child formula_shape formula_child
  cond_tells True r h = pure_tells shadow Bad s true _ tt
  cond_tells False r h = pure_tells shadow Bad s false _ (λ x. x)
  cond_tells (Rel op a b) r h =
      let w = state p start m s in
      let g = needs-append need w (expr_sites p a.node.id a.kind) (expr_sites p b.node.id b.kind) h in
      gives_tells shadow Bad s _ _ _
      (pair_gives shadow Bad s (value_of p start m a.kind) (value_of p start m b.kind) (related op) _ _ (expr_gives p start shadow Bad need law m s kept a.node.id a.kind r.0 g.0) (expr_gives p start shadow Bad need law m s kept b.node.id b.kind r.1 g.1))
      (related_says w op (term_of p a.kind) (term_of p b.kind))
  cond_tells (Negation n c) r h =
      let P = Holds (state p start m s) (formula_of p c) in
      let t = cond_tells c r h in
      then_tells shadow Bad s (truth_of p start m c).0 (truth_of p start m c).1 (λ x. pure (not x)) P (¬ P) t (λ b k. pure_tells shadow Bad s (not b) (¬ P) (not_says b P k))
  cond_tells (Conjunction n c k d) r h =
      let w = state p start m s in
      let P = Holds w (formula_of p c) in
      let Q = Holds w (formula_of p d) in
      let t = cond_tells c r.0 h.0 in
      then_tells shadow Bad s (truth_of p start m c).0 (truth_of p start m c).1 (λ x. if x then truth_of p start m d else pure false) P (P × Q) t
      (elim [
        | true ↦ λ k. let u = cond_tells d r.1 (h.1 k) in (u.0, λ b e. and_says P Q b k (u.1 b e))
        | false ↦ λ k. pure_tells shadow Bad s false (P × Q) (λ pq. k pq.0)
      ])
  cond_tells (Disjunction n c k d) r h =
      let w = state p start m s in
      let P = Holds w (formula_of p c) in
      let Q = Holds w (formula_of p d) in
      let t = cond_tells c r.0 h.0 in
      then_tells shadow Bad s (truth_of p start m c).0 (truth_of p start m c).1 (λ x. if x then pure true else truth_of p start m d) P (¬ P → ¬ Q → ⊥) t
      (elim [
        | true ↦ λ k. pure_tells shadow Bad s true (¬ P → ¬ Q → ⊥) (λ np nq. np k)
        | false ↦ λ k. let u = cond_tells d r.1 (h.1 k) in (u.0, λ b e. or_says P Q b k (u.1 b e))
      ])
