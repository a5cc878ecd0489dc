-- What the conditions of a program are made of: the formulas of a policy, and the facts that annotations state at places.
use Rattle.std.specs.Prelude.{Bool, true, false, nat_eq, if◌then◌else◌, List, [], ◌∷◌, map, Option}
use Rattle.ac_tree.specs.declared.node.NodeId.{NodeId}
use Rattle.ac_tree.specs.declared.path.Place.{Place}
use Rattle.ac_tree.specs.declared.path.Place.TheVariants as place
use Rattle.ac_run.specs.Declarations.{NameBytes}
use Rattle.ac_logic.specs.declared.condition.Annotation.{Annotation}
use Rattle.ac_logic.specs.declared.formula.Change.{Change}
use Rattle.ac_logic.specs.declared.formula.Formula.{Formula}
use Rattle.ac_policy.specs.declared.site.Site.{Site}

pub record Part : Type 0 where
  -- what is to be shown at a site, if it is subject to the policy
  pub need : Site → Option Formula
  -- what a write does to the shadow variables
  pub effect : Site → List Change
  -- what is known of a written scalar
  pub known : NameBytes → Option Formula
  -- the invariant of a loop, a list of facts
  pub invariant : NodeId → List Formula
  -- the facts behind a statement; where there is one, a barrier stands there
  pub behind : NodeId → List Formula

-- whether there are facts
abbrev pub is_any : List Formula → Bool
is_any [] = false
is_any (f ∷ fs) = true

abbrev pub is_loop : NodeId → Place → Bool
is_loop n (place.Loop m) = nat_eq m.0 n.0
is_loop n (place.After m) = false

abbrev pub is_after : NodeId → Place → Bool
is_after n (place.After m) = nat_eq m.0 n.0
is_after n (place.Loop m) = false

-- the formulas of the annotations at a place, in order
abbrev pub facts_at : (Place → Bool) → List Annotation → List Formula
facts_at is_there [] = []
facts_at is_there (a ∷ annotations) = if is_there a.place then a.formula ∷ facts_at is_there annotations else facts_at is_there annotations

abbrev pub part_of : (Site → Option Formula) → (Site → List Change) → (NameBytes → Option Formula) → List Annotation → Part
part_of need effect known annotations = record {
  need = need;
  effect = effect;
  known = known;
  invariant = λ n. facts_at (is_loop n) annotations;
  behind = λ n. facts_at (is_after n) annotations;
}

abbrev pub places_of : List Annotation → List Place
places_of annotations = map (λ a. a.place) annotations
