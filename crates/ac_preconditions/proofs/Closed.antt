-- Terms of programs are closed, and so is what a write changes.
use Rattle.std.proofs.Common.{◌≡◌, List, [], ◌∷◌, Option, sym, subst}
use Rattle.ac_tree.specs.declared.program.ExprKind.{ExprKind}
use Rattle.ac_tree.specs.declared.program.ExprKind.TheVariants.{Num, Get, Read}
use Rattle.ac_tree.specs.declared.program.Index.{Index}
use Rattle.ac_tree.specs.declared.program.Program.{Program}
use Rattle.ac_tree.specs.declared.node.NodeId.{NodeId}
use Rattle.ac_tree.specs.Patterns.{Negative, Plus, Minus, Times, OneIndex, TwoIndexes}
use Rattle.ac_run.specs.Declarations.{NameBytes}
use Rattle.ac_logic.specs.declared.formula.Change.{Change}
use Rattle.ac_logic.specs.declared.formula.Change.TheVariants as change
use Rattle.ac_logic.specs.declared.formula.Formula.{Formula}
use Rattle.ac_logic.specs.declared.formula.Sym.TheVariants.{Value, Init, Fresh}
use Rattle.ac_logic.specs.declared.formula.Term.{Term}
use Rattle.ac_logic.specs.Bounds.{IsTermClosed, IsArrayClosed}
use Rattle.ac_logic.specs.Patterns.{Array, PutOf}
use Rattle.ac_logic.specs.Substitution.{AreClosedChanges}
use Rattle.ac_policy.specs.declared.site.Site.{Site}
use Rattle.ac_policy.specs.declared.site.SiteKind.TheVariants as kind
use Rattle.ac_policy.specs.Laws.{LawForm, AreShadowChanges, IsPlainSite}
use Rattle.ac_policy.specs.Plain.{IsPlainTerm}
use Rattle.ac_policy.specs.PlainLaws.{literal_ground, scalar_ground}
use Rattle.ac_policy.specs.Sites.{site_at, scalar_write}
use Rattle.ac_policy.specs.Terms.{zero_term, term_of, first_index, second_index}
use Rattle.ac_conditions.specs.Preconditions.{variable}
use Rattle.ac_conditions.specs.Tests.{one_more}
use Rattle.ac_preconditions.specs.Opened.{hidden, expr_shape, expr_child, term_shape, term_child, array_shape, array_child}

zero_plain : IsPlainTerm zero_term
unfolding hidden term_shape term_child
zero_plain = record { closed = tt; no_fresh = tt }

module _ (p : Program) where
  mutual
    unfolding hidden expr_shape expr_child term_shape term_child array_shape array_child

    pub term_plain : (e : ExprKind) → IsPlainTerm (term_of p e)
    term_plain (Num n) = record { closed = (literal_ground n).0 0; no_fresh = (literal_ground n).1 }
    term_plain (Get x) = record { closed = (scalar_ground p x).0 0; no_fresh = (scalar_ground p x).1 }
    term_plain (Read x at) =
        let i = first_plain at in
        let j = second_plain at in
        record { closed = (tt, i.closed, j.closed); no_fresh = (tt, i.no_fresh, j.no_fresh) }
    term_plain (Negative n a) = let s = term_plain a in record { closed = s.closed; no_fresh = s.no_fresh }
    term_plain (Plus n a k b) = let s = term_plain a in let t = term_plain b in record { closed = (s.closed, t.closed); no_fresh = (s.no_fresh, t.no_fresh) }
    term_plain (Minus n a k b) = let s = term_plain a in let t = term_plain b in record { closed = (s.closed, t.closed); no_fresh = (s.no_fresh, t.no_fresh) }
    term_plain (Times n a k b) = let s = term_plain a in let t = term_plain b in record { closed = (s.closed, t.closed); no_fresh = (s.no_fresh, t.no_fresh) }

    pub first_plain : (at : Index) → IsPlainTerm (first_index p at)
    first_plain (OneIndex n a) = term_plain a
    first_plain (TwoIndexes n a k b) = term_plain a

    pub second_plain : (at : Index) → IsPlainTerm (second_index p at)
    second_plain (OneIndex n a) = zero_plain
    second_plain (TwoIndexes n a k b) = term_plain b

shadow_closed : (cs : List Change) → AreShadowChanges cs → AreClosedChanges cs
shadow_closed [] h = tt
shadow_closed (change.Scalar (Init x) t ∷ cs) h = (h.0.closed, shadow_closed cs h.1)
shadow_closed (change.Array (Init x) a ∷ cs) h = (h.0.closed, shadow_closed cs h.1)
shadow_closed (change.Scalar (Value x) t ∷ cs) h = absurd h.0
shadow_closed (change.Scalar (Fresh k) t ∷ cs) h = absurd h.0
shadow_closed (change.Array (Value x) a ∷ cs) h = absurd h.0
shadow_closed (change.Array (Fresh k) a ∷ cs) h = absurd h.0

next_closed : (x : NameBytes) → IsTermClosed (one_more (variable x))
unfolding hidden term_shape term_child array_shape array_child
next_closed x = (tt, tt)

element_closed : (p : Program) (x : NameBytes) (at : Index) (e : ExprKind) → IsArrayClosed (PutOf (Array (Value x)) (first_index p at) (second_index p at) (term_of p e))
unfolding hidden term_shape term_child array_shape array_child
element_closed p x at e = (tt, (first_plain p at).closed, (second_plain p at).closed, (term_plain p e).closed)

module _ (p : Program) (need : Site → Option Formula) (effect : Site → List Change) (known : NameBytes → Option Formula) (law : LawForm need effect known) where
  pub scalar_effect_closed : (n : NodeId) (x : NameBytes) → AreClosedChanges (effect (scalar_write n x))
  scalar_effect_closed n x = shadow_closed (effect (scalar_write n x)) (law.changes (scalar_write n x) (record { first = zero_plain; second = zero_plain }))

  pub element_effect_closed : (n : NodeId) (x : NameBytes) (at : Index) → AreClosedChanges (effect (site_at n kind.Write x (first_index p at) (second_index p at)))
  element_effect_closed n x at =
      shadow_closed (effect (site_at n kind.Write x (first_index p at) (second_index p at)))
      (law.changes (site_at n kind.Write x (first_index p at) (second_index p at)) (record { first = first_plain p at; second = second_plain p at }))

  -- the changes of writes
  pub set_closed : (n : NodeId) (x : NameBytes) (e : ExprKind) (value : Term) (cs : List Change) → value ≡ term_of p e → cs ≡ change.Scalar (Value x) value ∷ effect (scalar_write n x) → AreClosedChanges cs
  set_closed n x e value cs k h = subst (λ l. AreClosedChanges l) (sym h) (subst (λ t. IsTermClosed t) (sym k) (term_plain p e).closed, scalar_effect_closed n x)

  pub turn_closed : (n : NodeId) (x : NameBytes) (v value : Term) (cs : List Change) → v ≡ variable x → value ≡ one_more v → cs ≡ change.Scalar (Value x) value ∷ effect (scalar_write n x) → AreClosedChanges cs
  turn_closed n x v value cs i k h = subst (λ l. AreClosedChanges l) (sym h) (subst (λ t. IsTermClosed t) (sym k) (subst (λ t. IsTermClosed (one_more t)) (sym i) (next_closed x)), scalar_effect_closed n x)

  pub put_closed : (n : NodeId) (x : NameBytes) (at : Index) (e : ExprKind) (cs : List Change) →
      cs ≡ change.Array (Value x) (PutOf (Array (Value x)) (first_index p at) (second_index p at) (term_of p e)) ∷ effect (site_at n kind.Write x (first_index p at) (second_index p at)) → AreClosedChanges cs
  put_closed n x at e cs h = subst (λ l. AreClosedChanges l) (sym h) (element_closed p x at e, element_effect_closed n x at)
