-- Changes of shadow symbols have no loose `Bound`, as a substitution asks. They leave the values of the program and the new
-- names of a proof.
use Rattle.std.specs.Prelude.{◌≡◌, ℕ, List, [], ◌∷◌}
use Rattle.std.proofs.Common.{refl}
use Rattle.ac_run.specs.Declarations.{NameBytes}
use Rattle.ac_logic.specs.declared.formula.Change.{Change}
use Rattle.ac_logic.specs.declared.formula.Change.TheVariants.{Scalar, Array}
use Rattle.ac_logic.specs.declared.formula.Sym.TheVariants.{Value, Init, Fresh}
use Rattle.ac_logic.specs.Substitution.{IsClosedChange, AreClosedChanges, scalar_after, array_symbol_after}
use Rattle.ac_logic.specs.Patterns.{Scalar as ScalarOf, Array as ArrayOf}
use Rattle.ac_policy.specs.Laws.{IsShadowChange, AreShadowChanges}

closed_change : (c : Change) → IsShadowChange c → IsClosedChange c
closed_change (Scalar (Init x) t) h = h.closed
closed_change (Array (Init x) a) h = h.closed
closed_change (Scalar (Value x) t) h = absurd h
closed_change (Scalar (Fresh k) t) h = absurd h
closed_change (Array (Value x) a) h = absurd h
closed_change (Array (Fresh k) a) h = absurd h

pub closed_changes : (cs : List Change) → AreShadowChanges cs → AreClosedChanges cs
closed_changes [] h = tt
closed_changes (c ∷ cs) h = (closed_change c h.0, closed_changes cs h.1)

pub values_stay : (cs : List Change) (x : NameBytes) → AreShadowChanges cs → scalar_after cs (Value x) ≡ ScalarOf (Value x)
values_stay [] x h = refl
values_stay (Scalar (Init y) t ∷ cs) x h = values_stay cs x h.1
values_stay (Array (Init y) a ∷ cs) x h = values_stay cs x h.1
values_stay (Scalar (Value y) t ∷ cs) x h = absurd h.0
values_stay (Scalar (Fresh k) t ∷ cs) x h = absurd h.0
values_stay (Array (Value y) a ∷ cs) x h = absurd h.0
values_stay (Array (Fresh k) a ∷ cs) x h = absurd h.0

pub arrays_stay : (cs : List Change) (x : NameBytes) → AreShadowChanges cs → array_symbol_after cs (Value x) ≡ ArrayOf (Value x)
arrays_stay [] x h = refl
arrays_stay (Scalar (Init y) t ∷ cs) x h = arrays_stay cs x h.1
arrays_stay (Array (Init y) a ∷ cs) x h = arrays_stay cs x h.1
arrays_stay (Scalar (Value y) t ∷ cs) x h = absurd h.0
arrays_stay (Scalar (Fresh k) t ∷ cs) x h = absurd h.0
arrays_stay (Array (Value y) a ∷ cs) x h = absurd h.0
arrays_stay (Array (Fresh k) a ∷ cs) x h = absurd h.0

pub new_scalars_stay : (cs : List Change) (k : ℕ) → AreShadowChanges cs → scalar_after cs (Fresh k) ≡ ScalarOf (Fresh k)
new_scalars_stay [] k h = refl
new_scalars_stay (Scalar (Init y) t ∷ cs) k h = new_scalars_stay cs k h.1
new_scalars_stay (Array (Init y) a ∷ cs) k h = new_scalars_stay cs k h.1
new_scalars_stay (Scalar (Value y) t ∷ cs) k h = absurd h.0
new_scalars_stay (Scalar (Fresh m) t ∷ cs) k h = absurd h.0
new_scalars_stay (Array (Value y) a ∷ cs) k h = absurd h.0
new_scalars_stay (Array (Fresh m) a ∷ cs) k h = absurd h.0

pub new_arrays_stay : (cs : List Change) (k : ℕ) → AreShadowChanges cs → array_symbol_after cs (Fresh k) ≡ ArrayOf (Fresh k)
new_arrays_stay [] k h = refl
new_arrays_stay (Scalar (Init y) t ∷ cs) k h = new_arrays_stay cs k h.1
new_arrays_stay (Array (Init y) a ∷ cs) k h = new_arrays_stay cs k h.1
new_arrays_stay (Scalar (Value y) t ∷ cs) k h = absurd h.0
new_arrays_stay (Scalar (Fresh m) t ∷ cs) k h = absurd h.0
new_arrays_stay (Array (Value y) a ∷ cs) k h = absurd h.0
new_arrays_stay (Array (Fresh m) a ∷ cs) k h = absurd h.0
