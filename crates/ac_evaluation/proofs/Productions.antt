-- The productions of expressions, as the code meets them.
use Rattle.std.proofs.Common.{◌≡◌, List, [], ◌∷◌, ◌++◌, ap, sym, ◌∙◌, subst}
use Rattle.std.specs.Prelude.{Some, Result, Ok, Err, IsErrAnd, ℤ, ◌+ℤ◌, ◌-ℤ◌, ◌*ℤ◌, neg_ℤ}
use Rattle.ac_tree.specs.declared.program.Program.{Program}
use Rattle.ac_tree.specs.declared.program.Expr.{Expr}
use Rattle.ac_tree.specs.declared.program.ExprKind.{ExprKind}
use Rattle.ac_tree.specs.declared.program.ExprKind.TheVariants as expr
use Rattle.ac_tree.specs.declared.program.Index.{Index}
use Rattle.ac_tree.specs.declared.program.Index.TheVariants as index
use Rattle.ac_run.specs.declared.start.Start.{Start}
use Rattle.ac_run.specs.declared.event.Event.{Event}
use Rattle.ac_run.specs.Memory.{Memory}
use Rattle.ac_run.specs.Evaluation.{Reading, pure, ◌>>=◌, value_of, indexes_of}
use Rattle.ac_evaluation.specs.declared.stop.Stop.{Stop}
use Rattle.ac_evaluation.specs.Opened.{hidden, expr_shape, expr_child}
use Rattle.ac_evaluation.specs.Numbers.{made_after, numbers_of, numbers_of_index}
use Rattle.ac_evaluation.specs.Evaluates.{Answers, Evaluates}
use Rattle.ac_evaluation.specs.Parts.{Makes}
use Rattle.ac_evaluation.proofs.Evaluating.{exits, stopped, then_, made, two_first, two_second, two_end, both_first, both_second, both_end}

module _ (p : Program) (start : Start) (m : Memory) where
  -- the number is made of the numbers of two expressions
  pub record IsBinary (k a b : ExprKind) (op : ℤ → ℤ → ℤ) : Type 0 where
    pub value : value_of p start m k ≡ (value_of p start m a >>= λ x. value_of p start m b >>= λ y. pure (op x y))
    pub numbers : numbers_of p start m k ≡ numbers_of p start m a ++ made_after (value_of p start m a).1 (λ x. numbers_of p start m b ++ made_after (value_of p start m b).1 (λ y. op x y ∷ []))

  same_kind : (f : Expr → Expr → ExprKind) (k : ExprKind) (a b x y : Expr) → k ≡ f a b → x ≡ a → y ≡ b → k ≡ f x y
  same_kind f k a b x y is first second = is ∙ ap (λ (e : Expr). f e b) (sym first) ∙ ap (λ (e : Expr). f x e) (sym second)

  pub sum_is : (k : ExprKind) (a b x y : Expr) → k ≡ expr.Add a b → x ≡ a → y ≡ b → IsBinary k x.kind y.kind ◌+ℤ◌
  unfolding hidden expr_shape expr_child
  sum_is k a b x y is first second =
      let same : k ≡ expr.Add x y = same_kind expr.Add k a b x y is first second in
      record { value = ap (value_of p start m) same; numbers = ap (numbers_of p start m) same }

  pub difference_is : (k : ExprKind) (a b x y : Expr) → k ≡ expr.Sub a b → x ≡ a → y ≡ b → IsBinary k x.kind y.kind ◌-ℤ◌
  unfolding hidden expr_shape expr_child
  difference_is k a b x y is first second =
      let same : k ≡ expr.Sub x y = same_kind expr.Sub k a b x y is first second in
      record { value = ap (value_of p start m) same; numbers = ap (numbers_of p start m) same }

  pub product_is : (k : ExprKind) (a b x y : Expr) → k ≡ expr.Mul a b → x ≡ a → y ≡ b → IsBinary k x.kind y.kind ◌*ℤ◌
  unfolding hidden expr_shape expr_child
  product_is k a b x y is first second =
      let same : k ≡ expr.Mul x y = same_kind expr.Mul k a b x y is first second in
      record { value = ap (value_of p start m) same; numbers = ap (numbers_of p start m) same }

  -- the first or the second stops, or the number is made
  module _ (k a b : ExprKind) (op : ℤ → ℤ → ℤ) (is : IsBinary k a b op) (res : Result ℤ Stop) where
    whole : (t u : List Event) →
        Evaluates (value_of p start m a >>= λ x. value_of p start m b >>= λ y. pure (op x y))
        (numbers_of p start m a ++ made_after (value_of p start m a).1 (λ x. numbers_of p start m b ++ made_after (value_of p start m b).1 (λ y. op x y ∷ []))) res t u →
        Evaluates (value_of p start m k) (numbers_of p start m k) res t u
    whole t u h =
        subst (λ (r : Reading ℤ). Evaluates r (numbers_of p start m k) res t u) (sym is.value)
        (subst (λ (ns : List ℤ). Evaluates (value_of p start m a >>= λ x. value_of p start m b >>= λ y. pure (op x y)) ns res t u) (sym is.numbers) h)

    pub first_stops : (e : Stop) (t u : List Event) → IsErrAnd res (λ y. y ≡ e) → Evaluates (value_of p start m a) (numbers_of p start m a) (Err e) t u →
        Evaluates (value_of p start m k) (numbers_of p start m k) res t u
    first_stops e t u err h =
        whole t u (exits _ _ e res t u err
        (two_first (value_of p start m a) (value_of p start m b) (numbers_of p start m a) (numbers_of p start m b) (λ x y. pure (op x y)) (λ x y. op x y ∷ []) e t u h))

    pub second_stops : (x : ℤ) (e : Stop) (t u v : List Event) → IsErrAnd res (λ y. y ≡ e) → Answers (value_of p start m a) (numbers_of p start m a) (Some x) t u →
        Evaluates (value_of p start m b) (numbers_of p start m b) (Err e) u v → Evaluates (value_of p start m k) (numbers_of p start m k) res t v
    second_stops x e t u v err h l =
        whole t v (exits _ _ e res t v err
        (two_second (value_of p start m a) (value_of p start m b) (numbers_of p start m a) (numbers_of p start m b) (λ x y. pure (op x y)) (λ x y. op x y ∷ []) x e t u v h l))

    pub made_of_both : (x y x' y' : ℤ) (t u v : List Event) → Answers (value_of p start m a) (numbers_of p start m a) (Some x) t u →
        Answers (value_of p start m b) (numbers_of p start m b) (Some y) u v → x' ≡ x → y' ≡ y → Makes (op x' y') res → Evaluates (value_of p start m k) (numbers_of p start m k) res t v
    made_of_both x y x' y' t u v h l first second makes =
        let same : op x' y' ≡ op x y = ap (λ (z : ℤ). op z y') first ∙ ap (λ (z : ℤ). op x z) second in
        whole t v (two_end (value_of p start m a) (value_of p start m b) (numbers_of p start m a) (numbers_of p start m b) (λ x y. pure (op x y)) (λ x y. op x y ∷ []) x y res t u v h l
        (made (op x y) res v (subst (λ (n : ℤ). Makes n res) same makes)))

  module _ (k : ExprKind) (a x : Expr) (is : k ≡ expr.Neg a) (same : x ≡ a) (res : Result ℤ Stop) where
    negated : (t u : List Event) →
        Evaluates (value_of p start m x.kind >>= λ z. pure (neg_ℤ z)) (numbers_of p start m x.kind ++ made_after (value_of p start m x.kind).1 (λ z. neg_ℤ z ∷ [])) res t u →
        Evaluates (value_of p start m k) (numbers_of p start m k) res t u
    unfolding hidden expr_shape expr_child
    negated t u h =
        let whole : k ≡ expr.Neg x = is ∙ ap (λ (e : Expr). expr.Neg e) (sym same) in
        subst (λ (q : ExprKind). Evaluates (value_of p start m q) (numbers_of p start m q) res t u) (sym whole) h

    pub negation_stops : (e : Stop) (t u : List Event) → IsErrAnd res (λ y. y ≡ e) → Evaluates (value_of p start m x.kind) (numbers_of p start m x.kind) (Err e) t u →
        Evaluates (value_of p start m k) (numbers_of p start m k) res t u
    negation_stops e t u err h =
        negated t u (exits _ _ e res t u err (stopped (value_of p start m x.kind) (numbers_of p start m x.kind) (λ z. pure (neg_ℤ z)) (λ z. neg_ℤ z ∷ []) e t u h))

    pub negation_made : (z z' : ℤ) (t u : List Event) → Answers (value_of p start m x.kind) (numbers_of p start m x.kind) (Some z) t u → z' ≡ z → Makes (neg_ℤ z') res →
        Evaluates (value_of p start m k) (numbers_of p start m k) res t u
    negation_made z z' t u h same_number makes =
        negated t u (then_ (value_of p start m x.kind) (numbers_of p start m x.kind) (λ z. pure (neg_ℤ z)) (λ z. neg_ℤ z ∷ []) z t u u res h
        (made (neg_ℤ z) res u (subst (λ (n : ℤ). Makes (neg_ℤ n) res) same_number makes)))

  -- two indexes
  module _ (at : Index) (a b x y : Expr) (is : at ≡ index.Two a b) (first : x ≡ a) (second : y ≡ b) (res : Result (ℤ × ℤ) Stop) where
    paired : (t u : List Event) →
        Evaluates (value_of p start m x.kind >>= λ i. value_of p start m y.kind >>= λ j. pure (i, j)) (numbers_of p start m x.kind ++ made_after (value_of p start m x.kind).1 (λ i. numbers_of p start m y.kind)) res t u →
        Evaluates (indexes_of p start m at) (numbers_of_index p start m at) res t u
    unfolding hidden expr_shape expr_child
    paired t u h =
        let whole : at ≡ index.Two x y = is ∙ ap (λ (e : Expr). index.Two e b) (sym first) ∙ ap (λ (e : Expr). index.Two x e) (sym second) in
        subst (λ (q : Index). Evaluates (indexes_of p start m q) (numbers_of_index p start m q) res t u) (sym whole) h

    pub row_stops : (e : Stop) (t u : List Event) → IsErrAnd res (λ y. y ≡ e) → Evaluates (value_of p start m x.kind) (numbers_of p start m x.kind) (Err e) t u →
        Evaluates (indexes_of p start m at) (numbers_of_index p start m at) res t u
    row_stops e t u err h =
        paired t u (exits _ _ e res t u err (both_first (value_of p start m x.kind) (value_of p start m y.kind) (numbers_of p start m x.kind) (numbers_of p start m y.kind) (λ i j. (i, j)) e t u h))

    pub column_stops : (i : ℤ) (e : Stop) (t u v : List Event) → IsErrAnd res (λ y. y ≡ e) → Answers (value_of p start m x.kind) (numbers_of p start m x.kind) (Some i) t u →
        Evaluates (value_of p start m y.kind) (numbers_of p start m y.kind) (Err e) u v → Evaluates (indexes_of p start m at) (numbers_of_index p start m at) res t v
    column_stops i e t u v err h l =
        paired t v (exits _ _ e res t v err (both_second (value_of p start m x.kind) (value_of p start m y.kind) (numbers_of p start m x.kind) (numbers_of p start m y.kind) (λ i j. (i, j)) i e t u v h l))

  pub both_indexes : (at : Index) (a b x y : Expr) → at ≡ index.Two a b → x ≡ a → y ≡ b → (i j i' j' : ℤ) (t u v : List Event) → Answers (value_of p start m x.kind) (numbers_of p start m x.kind) (Some i) t u →
      Answers (value_of p start m y.kind) (numbers_of p start m y.kind) (Some j) u v → i' ≡ i → j' ≡ j → Answers (indexes_of p start m at) (numbers_of_index p start m at) (Some (i', j')) t v
  both_indexes at a b x y is first second i j i' j' t u v h l row column =
      let same : (i', j') ≡ (i, j) = ap (λ (z : ℤ). (z, j')) row ∙ ap (λ (z : ℤ). (i, z)) column in
      subst (λ (q : ℤ × ℤ). Answers (indexes_of p start m at) (numbers_of_index p start m at) (Some q) t v) (sym same)
      (paired at a b x y is first second (Ok (i, j)) t v (both_end (value_of p start m x.kind) (value_of p start m y.kind) (numbers_of p start m x.kind) (numbers_of p start m y.kind) (λ i j. (i, j)) i j t u v h l))
