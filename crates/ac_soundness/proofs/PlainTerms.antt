-- The terms of expressions are plain, and the changes of a write are closed.
use Rattle.std.proofs.Common.{List, [], ◌∷◌}
use Rattle.ac_tree.specs.declared.program.ExprKind.{ExprKind}
use Rattle.ac_tree.specs.declared.program.ExprKind.TheVariants.{Num, Get, Read}
use Rattle.ac_tree.specs.declared.program.Index.{Index}
use Rattle.ac_tree.specs.declared.program.Program.{Program}
use Rattle.ac_tree.specs.Patterns.{Negative, Plus, Minus, Times, OneIndex, TwoIndexes}
use Rattle.ac_logic.specs.declared.formula.Change.{Change}
use Rattle.ac_logic.specs.declared.formula.Change.TheVariants.{Scalar, Array}
use Rattle.ac_logic.specs.declared.formula.Sym.TheVariants.{Value, Init, Fresh}
use Rattle.ac_logic.specs.Substitution.{AreClosedChanges}
use Rattle.ac_policy.specs.Laws.{AreShadowChanges}
use Rattle.ac_policy.specs.Plain.{IsPlainTerm}
use Rattle.ac_policy.specs.PlainLaws.{literal_ground, scalar_ground}
use Rattle.ac_policy.specs.Terms.{zero_term, term_of, first_index, second_index}
use Rattle.ac_soundness.specs.Opened.{hidden, expr_shape, expr_child, term_shape, term_child, array_shape, array_child}

pub zero_plain : IsPlainTerm zero_term
unfolding hidden term_shape term_child
zero_plain = record { closed = tt; no_fresh = tt }

module _ (p : Program) where
  mutual
    unfolding hidden expr_shape expr_child term_shape term_child array_shape array_child

    pub term_plain : (e : ExprKind) → IsPlainTerm (term_of p e)
    term_plain (Num n) = record { closed = (literal_ground n).0 0; no_fresh = (literal_ground n).1 }
    term_plain (Get x) = record { closed = (scalar_ground p x).0 0; no_fresh = (scalar_ground p x).1 }
    term_plain (Read x at) =
        let i = first_plain at in
        let j = second_plain at in
        record { closed = (tt, i.closed, j.closed); no_fresh = (tt, i.no_fresh, j.no_fresh) }
    term_plain (Negative n a) = let f = term_plain a in record { closed = f.closed; no_fresh = f.no_fresh }
    term_plain (Plus n a k b) = let f = term_plain a in let g = term_plain b in record { closed = (f.closed, g.closed); no_fresh = (f.no_fresh, g.no_fresh) }
    term_plain (Minus n a k b) = let f = term_plain a in let g = term_plain b in record { closed = (f.closed, g.closed); no_fresh = (f.no_fresh, g.no_fresh) }
    term_plain (Times n a k b) = let f = term_plain a in let g = term_plain b in record { closed = (f.closed, g.closed); no_fresh = (f.no_fresh, g.no_fresh) }

    pub first_plain : (at : Index) → IsPlainTerm (first_index p at)
    first_plain (OneIndex n a) = term_plain a
    first_plain (TwoIndexes n a k b) = term_plain a

    pub second_plain : (at : Index) → IsPlainTerm (second_index p at)
    second_plain (OneIndex n a) = zero_plain
    second_plain (TwoIndexes n a k b) = term_plain b

pub closed_effect : (changes : List Change) → AreShadowChanges changes → AreClosedChanges changes
closed_effect [] h = tt
closed_effect (Scalar (Init x) t ∷ rest) h = (h.0.closed, closed_effect rest h.1)
closed_effect (Array (Init x) t ∷ rest) h = (h.0.closed, closed_effect rest h.1)
closed_effect (Scalar (Value x) t ∷ rest) h = absurd h.0
closed_effect (Scalar (Fresh x) t ∷ rest) h = absurd h.0
closed_effect (Array (Value x) t ∷ rest) h = absurd h.0
closed_effect (Array (Fresh x) t ∷ rest) h = absurd h.0
