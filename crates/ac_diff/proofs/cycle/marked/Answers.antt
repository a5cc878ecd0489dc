use Rattle.std.proofs.Common.{◌≡◌, ◌∙◌, ◌+◌, ◌++◌, ◌∷◌, [], List, ℕ, zero, suc, ◌≤◌, Bool, drop, get_or, true, false, length, subst, sym, ap, refl, arith}
use Rattle.std.proofs.Common.{append-nil}
use Rattle.std.proofs.lemmas.List.{append_assoc}
use Rattle.ac_diff.specs.Nodes.{numbers}
use Rattle.ac_diff.proofs.Cycles.{marked_on, unmarked_on}
use Rattle.ac_diff.proofs.cycle.marked.Goals as goal
use Rattle.ac_diff.proofs.cycle.marked.Goals.{then-used-i+in_ok-push, else-used-i}

past : (used : List Bool) (i : ℕ) → length used ≤ i → drop i used ≡ []
past [] zero h = refl
past [] (suc i) h = refl
past (x ∷ xs) zero h = absurd (omega arith)
past (x ∷ xs) (suc i) h = past xs i (omega arith)

pub loop-i-preserved : goal.loop-i-preserved
loop-i-preserved c =
    elim c.if-used-i.branch [
      | then-used-i+in_ok-push w ↦
          let m : numbers c.loop-i.i (drop c.loop-i.i c.args.used.now) ≡ c.loop-i.i ∷ numbers (c.loop-i.i + 1) (drop (c.loop-i.i + 1) c.args.used.now) = marked_on c.args.used.now c.loop-i.i c.loop-i.i c.loop-i-test.true w.if-used-i.true in
          let e : c.if-used-i.is.items ≡ c.loop-i.is.items ++ c.loop-i.i ∷ [] = ap (λ v. v.items) w.is-is ∙ w.in_ok-push.ensures.items in
          ap (λ x. x ++ numbers (c.loop-i.i + 1) (drop (c.loop-i.i + 1) c.args.used.now)) e ∙ (append_assoc c.loop-i.is.items (c.loop-i.i ∷ []) _ ∙ (ap (λ x. c.loop-i.is.items ++ x) (sym m) ∙ c.loop-i.invariant))
      | else-used-i w ↦
          let m : numbers c.loop-i.i (drop c.loop-i.i c.args.used.now) ≡ numbers (c.loop-i.i + 1) (drop (c.loop-i.i + 1) c.args.used.now) = unmarked_on c.args.used.now c.loop-i.i c.loop-i.i c.loop-i-test.true w.if-used-i.false in
          let e : c.if-used-i.is.items ≡ c.loop-i.is.items = ap (λ v. v.items) w.is-is in
          ap (λ x. x ++ numbers (c.loop-i.i + 1) (drop (c.loop-i.i + 1) c.args.used.now)) e ∙ (ap (λ x. c.loop-i.is.items ++ x) (sym m) ∙ c.loop-i.invariant)
    ]

pub returns : goal.returns
returns c =
    let p : numbers c.loop-i.i (drop c.loop-i.i c.args.used.now) ≡ [] = ap (numbers c.loop-i.i) (past c.args.used.now c.loop-i.i c.loop-i-test.false) in
    sym (append-nil c.loop-i.is.items) ∙ (ap (λ x. c.loop-i.is.items ++ x) (sym p) ∙ c.loop-i.invariant)
