-- A changed array beside another: the last of their parts decides, where the others agree.
use Rattle.std.proofs.Common.{◌≡◌, ℕ, Bool, sym, ◌∙◌, ap}
use Rattle.std.specs.Prelude.{IsTrue, ◌↔◌}
use Rattle.ac_logic.specs.declared.formula.Term.{Term}
use Rattle.ac_logic.specs.declared.formula.ArrayTerm.{ArrayTerm}
use Rattle.ac_logic.specs.declared.formula.ArrayTerm.TheVariants.{Put}
use Rattle.ac_logic.specs.Patterns.{PutOf}
use Rattle.ac_logic.specs.Opening.{array_at, term_at}
use Rattle.ac_opening.specs.Opened.{hidden, term_shape, term_child, array_shape, array_child}

abbrev written : ArrayTerm → Term → Term
unfolding hidden term_shape term_child array_shape array_child
written (PutOf a i j v) t = v
written _ t = t

pub put_at : (d : ℕ) (by : Term) (array body a b x y : ArrayTerm) (i j v k l u i2 j2 v2 k2 l2 u2 : Term) (r : Bool) →
    body ≡ Put a i j v → array ≡ Put b k l u → x ≡ a → y ≡ b → i2 ≡ i → k2 ≡ k → j2 ≡ j → l2 ≡ l → v2 ≡ v → u2 ≡ u →
    y ≡ array_at d by x → k2 ≡ term_at d by i2 → l2 ≡ term_at d by j2 → (IsTrue r ↔ (u2 ≡ term_at d by v2)) →
    IsTrue r ↔ (array ≡ array_at d by body)
unfolding hidden term_shape term_child array_shape array_child
put_at d by array body a b x y i j v k l u i2 j2 v2 k2 l2 u2 r pb pa hx hy hi hk hj hl hv hu ey ek el m =
    let fb : b ≡ array_at d by a = sym hy ∙ (ey ∙ ap (array_at d by) hx) in
    let fk : k ≡ term_at d by i = sym hk ∙ (ek ∙ ap (term_at d by) hi) in
    let fl : l ≡ term_at d by j = sym hl ∙ (el ∙ ap (term_at d by) hj) in
    let q : array_at d by body ≡ Put (array_at d by a) (term_at d by i) (term_at d by j) (term_at d by v) = ap (array_at d by) pb in (
      λ t. let fu : u ≡ term_at d by v = sym hu ∙ (m.0 t ∙ ap (term_at d by) hv) in pa ∙ ((λ z. Put (fb z) (fk z) (fl z) (fu z)) ∙ sym q),
      λ h. let w : Put b k l u ≡ Put (array_at d by a) (term_at d by i) (term_at d by j) (term_at d by v) = sym pa ∙ (h ∙ q) in m.1 (hu ∙ (ap (λ z. written z u) w ∙ sym (ap (term_at d by) hv))),
    )
