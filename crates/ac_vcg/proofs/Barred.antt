-- The barriers of annotations, one place more at a time.
use Rattle.std.proofs.Common.{◌≡◌, ℕ, ◌+◌, Bool, true, false, ◌||◌, List, [], ◌∷◌, ◌++◌, drop, refl, sym, ◌∙◌, ap}
use Rattle.std.proofs.lemmas.List.Folds.{list_any-append}
use Rattle.ac_tree.specs.declared.node.NodeId.{NodeId}
use Rattle.ac_tree.specs.declared.path.Cut.{Cut}
use Rattle.ac_tree.specs.declared.path.Cut.TheVariants.{After}
use Rattle.ac_tree.specs.declared.path.Place.{Place}
use Rattle.ac_tree.specs.declared.path.Place.TheVariants as place
use Rattle.ac_flow.specs.Cuts.{has_barrier, has_place, is_behind, is_after}
use Rattle.ac_logic.specs.declared.condition.Annotation.{Annotation}
use Rattle.ac_conditions.specs.Part.{places_of}

or_false : (a : Bool) → (a || false) ≡ a
or_false true = refl
or_false false = refl

or_assoc : (a b c : Bool) → ((a || b) || c) ≡ (a || (b || c))
or_assoc true b c = refl
or_assoc false b c = refl

pub no_barrier : (cuts : List Cut) (at : Place) (m : NodeId) (n : ℕ) → at ≡ place.Loop m → has_barrier cuts n ≡ (has_barrier cuts n || is_after n at)
no_barrier cuts at m n e = sym (ap (λ (x : Place). has_barrier cuts n || is_after n x) e ∙ or_false (has_barrier cuts n))

pub one_barrier : (cuts more : List Cut) (at : Place) (m : NodeId) (n : ℕ) → at ≡ place.After m → more ≡ cuts ++ After m ∷ [] → has_barrier more n ≡ (has_barrier cuts n || is_after n at)
one_barrier cuts more at m n e h =
    ap (λ (l : List Cut). has_barrier l n) h ∙ (list_any-append (is_behind n) cuts (After m ∷ []) ∙ (ap (λ b. has_barrier cuts n || b) (or_false (is_behind n (After m))) ∙ ap (λ (x : Place). has_barrier cuts n || is_after n x) (sym e)))

pub barriers_next : (annotations : List Annotation) (i : ℕ) (a : Annotation) (cuts more : List Cut) (n : ℕ) (all : Bool) → drop i annotations ≡ a ∷ drop (i + 1) annotations → has_barrier more n ≡ (has_barrier cuts n || is_after n a.place) →
    (has_barrier cuts n || has_place (places_of (drop i annotations)) n) ≡ all → (has_barrier more n || has_place (places_of (drop (i + 1) annotations)) n) ≡ all
barriers_next annotations i a cuts more n all next h k =
    ap (λ b. b || has_place (places_of (drop (i + 1) annotations)) n) h ∙ (or_assoc (has_barrier cuts n) (is_after n a.place) (has_place (places_of (drop (i + 1) annotations)) n)
    ∙ (ap (λ (l : List Annotation). has_barrier cuts n || has_place (places_of l) n) (sym next) ∙ k))

pub barriers_all : (cuts : List Cut) (rest : List Annotation) (n : ℕ) (all : Bool) → rest ≡ [] → (has_barrier cuts n || has_place (places_of rest) n) ≡ all → has_barrier cuts n ≡ all
barriers_all cuts rest n all e h = sym (or_false (has_barrier cuts n)) ∙ (ap (λ (l : List Annotation). has_barrier cuts n || has_place (places_of l) n) (sym e) ∙ h)
