-- What a path formula that holds says of its parts.
use Rattle.std.proofs.Common.{ℕ, nat_eq, List, [], ◌∷◌, ◌++◌, map, Bool, true, false, Option, Some, None, refl, subst}
use Rattle.std.proofs.lemmas.Bool.{eq-eqb}
use Rattle.ac_tree.specs.declared.node.NodeId.{NodeId}
use Rattle.ac_tree.specs.declared.path.Target.{Target}
use Rattle.ac_logic.specs.declared.formula.Change.{Change}
use Rattle.ac_logic.specs.declared.formula.Formula.{Formula}
use Rattle.ac_logic.specs.declared.label.LabelKind.{LabelKind}
use Rattle.ac_logic.specs.Meaning.{Valuation, Holds}
use Rattle.ac_logic.specs.Patterns.{Conjunction}
use Rattle.ac_logic.specs.Substitution.{AreClosedChanges, changed}
use Rattle.ac_logic.proofs.Changes.{holds_after}
use Rattle.ac_policy.specs.Laws.{HoldsIf}
use Rattle.ac_conditions.specs.Goals.{conjoined, goal_if, under}
use Rattle.ac_conditions.specs.Hypotheses.{and_known}
use Rattle.ac_conditions.specs.Preconditions.{before_changes, joined, joined_onto}
use Rattle.ac_conditions.specs.Tests.{labelled}
use Rattle.ac_soundness.specs.Opened.{hidden, term_shape, term_child, array_shape, array_child, formula_shape, formula_child}
use Rattle.ac_soundness.specs.Validity.{AllHold}

pub from_conjoined : (w : Valuation) (f g : Option Formula) → HoldsIf w (conjoined f g) → HoldsIf w f × HoldsIf w g
unfolding hidden formula_shape formula_child
from_conjoined w None g h = (tt, h)
from_conjoined w (Some f) None h = (h, tt)
from_conjoined w (Some f) (Some g) h = h

-- the same for every target
pub both_hold : (w : Valuation) (f g : Target → Option Formula) → ((t : Target) → HoldsIf w (conjoined (f t) (g t))) → ((t : Target) → HoldsIf w (f t)) × ((t : Target) → HoldsIf w (g t))
both_hold w f g h = ((λ t. (from_conjoined w (f t) (g t) (h t)).0), (λ t. (from_conjoined w (f t) (g t) (h t)).1))

pub from_under : (w : Valuation) (kind : LabelKind) (n : NodeId) (f : Formula) (g : Option Formula) → HoldsIf w (under kind n f g) → Holds w f → HoldsIf w g
unfolding hidden formula_shape formula_child
from_under w kind n f None h j = tt
from_under w kind n f (Some g) h j = h j

-- what holds after changes holds in the changed valuation
pub from_changes : (w : Valuation) (n : NodeId) (changes : List Change) (g : Option Formula) → AreClosedChanges changes → HoldsIf w (before_changes n changes g) → HoldsIf (changed w changes) g
unfolding hidden term_shape term_child array_shape array_child formula_shape formula_child
from_changes w n changes None closed h = tt
from_changes w n changes (Some f) closed h = subst (λ (X : Type 0). X) (holds_after changes closed w [] f) h

from_joined_onto : (w : Valuation) (kind : LabelKind) (n : NodeId) (f : Formula) (fs : List Formula) → Holds w (joined_onto f fs) → Holds w f × AllHold w (map (labelled kind n) fs)
unfolding hidden formula_shape formula_child
from_joined_onto w kind n f [] h = (h, tt)
from_joined_onto w kind n f (g ∷ gs) h = let j = from_joined_onto w kind n (Conjunction f g) gs h in (j.0.0, (j.0.1, j.1))

pub from_joined : (w : Valuation) (kind : LabelKind) (n : NodeId) (fs : List Formula) → Holds w (joined fs) → AllHold w (map (labelled kind n) fs)
unfolding hidden formula_shape formula_child
from_joined w kind n [] h = tt
from_joined w kind n (f ∷ fs) h = from_joined_onto w kind n f fs h

pub hypotheses-append : (w : Valuation) (fs gs : List Formula) → AllHold w fs → AllHold w gs → AllHold w (fs ++ gs)
hypotheses-append w [] gs h k = k
hypotheses-append w (f ∷ fs) gs h k = (h.0, hypotheses-append w fs gs h.1 k)

pub and_holds : (w : Valuation) (f : Formula) (known : Option Formula) → Holds w f → HoldsIf w known → Holds w (and_known f known)
unfolding hidden formula_shape formula_child
and_holds w f None h j = h
and_holds w f (Some known) h j = (h, j)

-- a goal at its own target
pub goal_here : (w : Valuation) (n : ℕ) (f : Formula) → HoldsIf w (goal_if (nat_eq n n) f) → Holds w f
goal_here w n f h = subst (λ (b : Bool). HoldsIf w (goal_if b f)) (eq-eqb n n refl) h

-- and one at any target
pub goal_anywhere : (w : Valuation) (b : Bool) (f : Formula) → Holds w f → HoldsIf w (goal_if b f)
goal_anywhere w true f h = h
goal_anywhere w false f h = tt
