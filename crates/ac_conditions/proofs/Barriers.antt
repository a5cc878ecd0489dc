-- A barrier stands where an annotation has its place behind a statement.
use Rattle.std.proofs.Common.{◌≡◌, nat_eq, List, [], ◌∷◌, Bool, true, false, ◌||◌, refl, if◌then◌else◌}
use Rattle.ac_tree.specs.declared.node.NodeId.{NodeId}
use Rattle.ac_tree.specs.declared.path.Place.{Place}
use Rattle.ac_tree.specs.declared.path.Place.TheVariants as place
use Rattle.ac_flow.specs.Cuts.{has_place}
use Rattle.ac_flow.specs.Cuts.{is_after as stands_behind}
use Rattle.ac_logic.specs.declared.condition.Annotation.{Annotation}
use Rattle.ac_logic.specs.declared.formula.Formula.{Formula}
use Rattle.ac_conditions.specs.Part.{facts_at, is_after, is_any, places_of}

one_more : (n : NodeId) (at : Place) (f : Formula) (here : Bool) (fs : List Formula) → here ≡ is_any fs → (stands_behind n.0 at || here) ≡ is_any (if is_after n at then f ∷ fs else fs)
one_more n (place.Loop m) f here fs h = h
one_more n (place.After m) f here fs h = by (nat_eq m.0 n.0)
  where
    by : (b : Bool) → (b || here) ≡ is_any (if b then f ∷ fs else fs)
    by true = refl
    by false = h

pub barriers_of : (n : NodeId) (annotations : List Annotation) → has_place (places_of annotations) n.0 ≡ is_any (facts_at (is_after n) annotations)
barriers_of n [] = refl
barriers_of n (a ∷ annotations) = one_more n a.place a.formula _ (facts_at (is_after n) annotations) (barriers_of n annotations)
