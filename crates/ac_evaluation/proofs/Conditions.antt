-- The productions of conditions, and expressions side by side, as the code meets them.
use Rattle.std.proofs.Common.{◌≡◌, Bool, true, false, List, [], ◌++◌, ap, sym, ◌∙◌, subst, if◌then◌else◌}
use Rattle.std.specs.Prelude.{Some, Result, Err, IsErrAnd, ℤ}
use Rattle.ac_tree.specs.declared.program.Program.{Program}
use Rattle.ac_tree.specs.declared.program.RelOp.{RelOp}
use Rattle.ac_tree.specs.declared.program.Cond.{Cond}
use Rattle.ac_tree.specs.declared.program.CondKind.{CondKind}
use Rattle.ac_tree.specs.declared.program.CondKind.TheVariants as cond
use Rattle.ac_run.specs.declared.start.Start.{Start}
use Rattle.ac_run.specs.declared.event.Event.{Event}
use Rattle.ac_run.specs.Memory.{Memory}
use Rattle.ac_run.specs.Evaluation.{Reading, pure, ◌>>=◌, both, related, truth_of}
use Rattle.ac_evaluation.specs.declared.stop.Stop.{Stop}
use Rattle.ac_evaluation.specs.Opened.{hidden, cond_shape, cond_child}
use Rattle.ac_evaluation.specs.Numbers.{made_after, numbers_of_condition, numbers_of_both}
use Rattle.ac_evaluation.specs.Evaluates.{Answers, Evaluates}
use Rattle.ac_evaluation.specs.Parts.{comparison}
use Rattle.ac_evaluation.proofs.Evaluating.{exits, stopped, then_, both_first, both_second, both_end}

-- two readings, whose numbers are compared or kept
module _ (r s : Reading ℤ) (nr ns : List ℤ) where
  pub compared_first : (op : RelOp) (res : Result Bool Stop) (e : Stop) (t u : List Event) → IsErrAnd res (λ y. y ≡ e) → Evaluates r nr (Err e) t u →
      Evaluates (comparison op r s) (numbers_of_both nr r ns) res t u
  compared_first op res e t u err h = exits _ _ e res t u err (both_first r s nr ns (related op) e t u h)

  pub compared_second : (op : RelOp) (res : Result Bool Stop) (x : ℤ) (e : Stop) (t u v : List Event) → IsErrAnd res (λ y. y ≡ e) → Answers r nr (Some x) t u →
      Evaluates s ns (Err e) u v → Evaluates (comparison op r s) (numbers_of_both nr r ns) res t v
  compared_second op res x e t u v err h k = exits _ _ e res t v err (both_second r s nr ns (related op) x e t u v h k)

  pub compared_end : (op : RelOp) (holds : Bool) (x y x' y' : ℤ) (t u v : List Event) → Answers r nr (Some x) t u → Answers s ns (Some y) u v → x' ≡ x → y' ≡ y →
      holds ≡ related op x' y' → Answers (comparison op r s) (numbers_of_both nr r ns) (Some holds) t v
  compared_end op holds x y x' y' t u v h k first second is =
      let same : holds ≡ related op x y = is ∙ ap (λ (z : ℤ). related op z y') first ∙ ap (λ (z : ℤ). related op x z) second in
      subst (λ (q : Bool). Answers (comparison op r s) (numbers_of_both nr r ns) (Some q) t v) (sym same) (both_end r s nr ns (related op) x y t u v h k)

module _ {A : Type 0} (r : Reading A) (s : Reading ℤ) (nr ns : List ℤ) where
  pub pair_first : (res : Result (A × ℤ) Stop) (e : Stop) (t u : List Event) → IsErrAnd res (λ y. y ≡ e) → Evaluates r nr (Err e) t u → Evaluates (both r s) (numbers_of_both nr r ns) res t u
  pair_first res e t u err h = exits _ _ e res t u err (both_first r s nr ns (λ x y. (x, y)) e t u h)

  pub pair_second : (res : Result (A × ℤ) Stop) (x : A) (e : Stop) (t u v : List Event) → IsErrAnd res (λ y. y ≡ e) → Answers r nr (Some x) t u → Evaluates s ns (Err e) u v →
      Evaluates (both r s) (numbers_of_both nr r ns) res t v
  pair_second res x e t u v err h k = exits _ _ e res t v err (both_second r s nr ns (λ x y. (x, y)) x e t u v h k)

  pub pair_end : (x x' : A) (y y' : ℤ) (t u v : List Event) → Answers r nr (Some x) t u → Answers s ns (Some y) u v → x' ≡ x → y' ≡ y →
      Answers (both r s) (numbers_of_both nr r ns) (Some (x', y')) t v
  pair_end x x' y y' t u v h k first second =
      let same : (x', y') ≡ (x, y) = ap (λ (z : A). (z, y')) first ∙ ap (λ (z : ℤ). (x, z)) second in
      subst (λ (q : A × ℤ). Answers (both r s) (numbers_of_both nr r ns) (Some q) t v) (sym same) (both_end r s nr ns (λ x y. (x, y)) x y t u v h k)

module _ (p : Program) (start : Start) (m : Memory) (k : CondKind) (c d x y : Cond) (first : x ≡ c) (second : y ≡ d) (res : Result Bool Stop) where
  module _ (is : k ≡ cond.And c d) where
    conjunction : (t u : List Event) →
        Evaluates (truth_of p start m x.kind >>= λ b. if b then truth_of p start m y.kind else pure false)
        (numbers_of_condition p start m x.kind ++ made_after (truth_of p start m x.kind).1 (λ b. if b then numbers_of_condition p start m y.kind else [])) res t u →
        Evaluates (truth_of p start m k) (numbers_of_condition p start m k) res t u
    unfolding hidden cond_shape cond_child
    conjunction t u h =
        let whole : k ≡ cond.And x y = is ∙ ap (λ (e : Cond). cond.And e d) (sym first) ∙ ap (λ (e : Cond). cond.And x e) (sym second) in
        subst (λ (q : CondKind). Evaluates (truth_of p start m q) (numbers_of_condition p start m q) res t u) (sym whole) h

    pub and_stops : (e : Stop) (t u : List Event) → IsErrAnd res (λ y. y ≡ e) → Evaluates (truth_of p start m x.kind) (numbers_of_condition p start m x.kind) (Err e) t u →
        Evaluates (truth_of p start m k) (numbers_of_condition p start m k) res t u
    and_stops e t u err h =
        conjunction t u (exits _ _ e res t u err (stopped (truth_of p start m x.kind) (numbers_of_condition p start m x.kind) (λ b. if b then truth_of p start m y.kind else pure false)
        (λ b. if b then numbers_of_condition p start m y.kind else []) e t u h))

    pub and_goes_on : (b : Bool) (t u v : List Event) → Answers (truth_of p start m x.kind) (numbers_of_condition p start m x.kind) (Some b) t u → b ≡ true →
        Evaluates (truth_of p start m y.kind) (numbers_of_condition p start m y.kind) res u v → Evaluates (truth_of p start m k) (numbers_of_condition p start m k) res t v
    and_goes_on b t u v h holds l =
        conjunction t v (then_ (truth_of p start m x.kind) (numbers_of_condition p start m x.kind) (λ b. if b then truth_of p start m y.kind else pure false)
        (λ b. if b then numbers_of_condition p start m y.kind else []) true t u v res
        (subst (λ (q : Bool). Answers (truth_of p start m x.kind) (numbers_of_condition p start m x.kind) (Some q) t u) holds h) l)

  module _ (is : k ≡ cond.Or c d) where
    disjunction : (t u : List Event) →
        Evaluates (truth_of p start m x.kind >>= λ b. if b then pure true else truth_of p start m y.kind)
        (numbers_of_condition p start m x.kind ++ made_after (truth_of p start m x.kind).1 (λ b. if b then [] else numbers_of_condition p start m y.kind)) res t u →
        Evaluates (truth_of p start m k) (numbers_of_condition p start m k) res t u
    unfolding hidden cond_shape cond_child
    disjunction t u h =
        let whole : k ≡ cond.Or x y = is ∙ ap (λ (e : Cond). cond.Or e d) (sym first) ∙ ap (λ (e : Cond). cond.Or x e) (sym second) in
        subst (λ (q : CondKind). Evaluates (truth_of p start m q) (numbers_of_condition p start m q) res t u) (sym whole) h

    pub or_stops : (e : Stop) (t u : List Event) → IsErrAnd res (λ y. y ≡ e) → Evaluates (truth_of p start m x.kind) (numbers_of_condition p start m x.kind) (Err e) t u →
        Evaluates (truth_of p start m k) (numbers_of_condition p start m k) res t u
    or_stops e t u err h =
        disjunction t u (exits _ _ e res t u err (stopped (truth_of p start m x.kind) (numbers_of_condition p start m x.kind) (λ b. if b then pure true else truth_of p start m y.kind)
        (λ b. if b then [] else numbers_of_condition p start m y.kind) e t u h))

    pub or_goes_on : (b : Bool) (t u v : List Event) → Answers (truth_of p start m x.kind) (numbers_of_condition p start m x.kind) (Some b) t u → b ≡ false →
        Evaluates (truth_of p start m y.kind) (numbers_of_condition p start m y.kind) res u v → Evaluates (truth_of p start m k) (numbers_of_condition p start m k) res t v
    or_goes_on b t u v h fails l =
        disjunction t v (then_ (truth_of p start m x.kind) (numbers_of_condition p start m x.kind) (λ b. if b then pure true else truth_of p start m y.kind)
        (λ b. if b then [] else numbers_of_condition p start m y.kind) false t u v res
        (subst (λ (q : Bool). Answers (truth_of p start m x.kind) (numbers_of_condition p start m x.kind) (Some q) t u) fails h) l)
