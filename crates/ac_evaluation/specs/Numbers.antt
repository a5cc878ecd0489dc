-- The numbers that an evaluation makes, in its order: sums, differences, products and negations.
use Rattle.std.specs.Prelude.{if◌then◌else◌, List, [], ◌∷◌, ◌++◌, Option, Some, None, ℤ, ◌+ℤ◌, ◌-ℤ◌, ◌*ℤ◌, neg_ℤ}
use Rattle.ac_tree.specs.declared.program.Program.{Program}
use Rattle.ac_tree.specs.declared.program.ExprKind.{ExprKind}
use Rattle.ac_tree.specs.declared.program.ExprKind.TheVariants.{Num, Get, Read}
use Rattle.ac_tree.specs.declared.program.Index.{Index}
use Rattle.ac_tree.specs.declared.program.CondKind.{CondKind}
use Rattle.ac_tree.specs.declared.program.CondKind.TheVariants.{True, False, Rel}
use Rattle.ac_tree.specs.Patterns.{Negative, Plus, Minus, Times, OneIndex, TwoIndexes, Negation, Conjunction, Disjunction}
use Rattle.ac_run.specs.declared.start.Start.{Start}
use Rattle.ac_run.specs.Memory.{Memory}
use Rattle.ac_run.specs.Evaluation.{Reading, value_of, truth_of}
use Rattle.ac_evaluation.specs.Opened.{hidden, expr_shape, expr_child, cond_shape, cond_child}

-- the numbers made behind an answer; where there is none, because the last read was outside, no more are made
abbrev pub made_after : {A : Type 0} → Option A → (A → List ℤ) → List ℤ
made_after None numbers = []
made_after (Some x) numbers = numbers x

-- those of one expression, and then those of another
abbrev pub numbers_of_both : {A : Type 0} → List ℤ → Reading A → List ℤ → List ℤ
numbers_of_both first r second = first ++ made_after r.1 (λ x. second)

module _ (p : Program) (start : Start) (m : Memory) where
  abbrev mutual
    unfolding hidden expr_shape expr_child

    pub numbers_of : ExprKind → List ℤ
    numbers_of (Num n) = []
    numbers_of (Get x) = []
    numbers_of (Read x at) = numbers_of_index at
    numbers_of (Negative n a) = numbers_of a ++ made_after (value_of p start m a).1 (λ x. neg_ℤ x ∷ [])
    numbers_of (Plus n a k b) =
        numbers_of a ++ made_after (value_of p start m a).1 (λ x. numbers_of b ++ made_after (value_of p start m b).1 (λ y. (x +ℤ y) ∷ []))
    numbers_of (Minus n a k b) =
        numbers_of a ++ made_after (value_of p start m a).1 (λ x. numbers_of b ++ made_after (value_of p start m b).1 (λ y. (x -ℤ y) ∷ []))
    numbers_of (Times n a k b) =
        numbers_of a ++ made_after (value_of p start m a).1 (λ x. numbers_of b ++ made_after (value_of p start m b).1 (λ y. (x *ℤ y) ∷ []))

    pub numbers_of_index : Index → List ℤ
    numbers_of_index (OneIndex n a) = numbers_of a
    numbers_of_index (TwoIndexes n a k b) = numbers_of a ++ made_after (value_of p start m a).1 (λ x. numbers_of b)

  -- those of the right side of `and` and `or` only where it is read
  abbrev pub numbers_of_condition : CondKind → List ℤ
  unfolding hidden cond_shape cond_child
  numbers_of_condition True = []
  numbers_of_condition False = []
  numbers_of_condition (Rel op a b) = numbers_of_both (numbers_of a.kind) (value_of p start m a.kind) (numbers_of b.kind)
  numbers_of_condition (Negation n c) = numbers_of_condition c
  numbers_of_condition (Conjunction n c k d) =
      numbers_of_condition c ++ made_after (truth_of p start m c).1 (λ x. if x then numbers_of_condition d else [])
  numbers_of_condition (Disjunction n c k d) =
      numbers_of_condition c ++ made_after (truth_of p start m c).1 (λ x. if x then [] else numbers_of_condition d)
