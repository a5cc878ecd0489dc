-- Which targets have conditions, told by the pairs of the conditions.
use Rattle.std.proofs.Common.{◌≡◌, ℕ, zero, suc, ◌+◌, nat_eq, Bool, true, false, ◌||◌, List, [], ◌∷◌, ◌++◌, Option, length, get_or, drop, ◌<◌, append-nil, append_assoc, refl, sym, ◌∙◌, ap, subst, inl, inr, arith}
use Rattle.std.proofs.lemmas.Bool.Decides.{nat_tests}
use Rattle.std.proofs.lemmas.List.{length-map}
use Rattle.std.proofs.lemmas.List.Folds.{list_any-append}
use Rattle.ac_tree.specs.declared.node.NodeId.{NodeId}
use Rattle.ac_tree.specs.declared.path.Cut.{Cut}
use Rattle.ac_tree.specs.declared.path.Cut.TheVariants.{Start}
use Rattle.ac_tree.specs.declared.path.Pair.{Pair}
use Rattle.ac_tree.specs.declared.path.Target.{Target}
use Rattle.ac_tree.specs.declared.policy.PolicyName.{PolicyName}
use Rattle.ac_tree.specs.declared.program.Program.{Program}
use Rattle.ac_tree.specs.Preorder.{nodes_of}
use Rattle.ac_flow.specs.Marks.{mark_at}
use Rattle.ac_flow.specs.Pairs.{each, is_node, is_subject, pairs_of}
use Rattle.ac_run.specs.Declarations.{NameBytes}
use Rattle.ac_flow.specs.Cuts.{has_barrier, has_place}
use Rattle.ac_logic.specs.declared.condition.Annotation.{Annotation}
use Rattle.ac_logic.specs.declared.condition.Condition.{Condition}
use Rattle.ac_logic.specs.declared.formula.Change.{Change}
use Rattle.ac_logic.specs.declared.formula.Formula.{Formula}
use Rattle.ac_logic.specs.Size.{saturated}
use Rattle.ac_policy.specs.declared.site.Site.{Site}
use Rattle.ac_policy.specs.Sites.{sites_of}
use Rattle.ac_conditions.proofs.Barriers.{barriers_of}
use Rattle.ac_conditions.proofs.ConditionsInOrder.{target_in}
use Rattle.ac_conditions.proofs.Parts.{pairs_in}
use Rattle.ac_conditions.proofs.PairsInOrder.{cuts_at}
use Rattle.ac_conditions.proofs.Sublists.{IsSublist, map_append}
use Rattle.ac_conditions.proofs.NodesMarked.{needed_marked_from}
use Rattle.ac_conditions.proofs.OneOrder.{one_order_from}
use Rattle.ac_conditions.specs.AllConditions.{at_each, all_conditions}
use Rattle.ac_conditions.specs.Conditions.{conditions_at}
use Rattle.ac_conditions.specs.Marked.{AreMarked, needed_nodes}
use Rattle.ac_conditions.specs.Part.{Part, part_of, places_of}
use Rattle.ac_conditions.specs.Targets.{list_targets}
use Rattle.ac_vcg.specs.declared.plan.Plan.{Plan}
use Rattle.ac_targets.specs.Numbered.{IsInOrder}
use Rattle.ac_pair_count.specs.PairCount.{target_node, aimed_nodes}
use Rattle.ac_vcg.specs.Plan.{AllAt, AreReached, IsKept, IsPlan}
use Rattle.ac_vcg.proofs.Limited.{same_counts}
use Rattle.ac_targets.proofs.Ordered.{numbers_of}
use Rattle.ac_vcg.proofs.Taken.{each_at}

-- the conditions of a target aim at it

all_at : (t : Target) (cs : List Cut) (ds : List Condition) → IsSublist (pairs_in ds) (each cs t) → AllAt t ds
all_at t cs [] h = tt
all_at t [] (d ∷ ds) h = absurd h
all_at t (c ∷ cs) (d ∷ ds) (inl h) = (ap (λ (x : Pair). x.target) h.0, all_at t cs ds h.1)
all_at t (c ∷ cs) (d ∷ ds) (inr h) = all_at t cs (d ∷ ds) h

pub own_conditions : (p : Program) (q : PolicyName) (part : Part) (t : Target) → AllAt t (conditions_at p q part t)
own_conditions p q part t = all_at t (Start ∷ cuts_at (nodes_of p)) (conditions_at p q part t) (target_in p q part t)

-- a target at whose node none of the pairs aims has none

same_number : (n : ℕ) → nat_eq n n ≡ true
same_number n = grind (arith, nat_tests)

either : (a b : Bool) → (a || b) ≡ false → (a ≡ false) × (b ≡ false)
either false b h = (refl, h)
either true b h = cc

none_of : (t : Target) (cs : List Condition) → AllAt t cs → is_subject (aimed_nodes (pairs_in cs)) (target_node t).0 ≡ false → cs ≡ []
none_of t [] own h = refl
none_of t (c ∷ cs) own h =
    let first = (either (nat_eq (target_node c.pair.target).0 (target_node t).0) (is_subject (aimed_nodes (pairs_in cs)) (target_node t).0) h).0 in
    let there : nat_eq (target_node c.pair.target).0 (target_node t).0 ≡ true = ap (λ (u : Target). nat_eq (target_node u).0 (target_node t).0) own.0 ∙ same_number (target_node t).0 in
    cc

module _ (at : Target → List Condition) (own : (t : Target) → AllAt t (at t)) where
  apart : (x : Target) (ts : List Target) (t : Target) → is_subject (aimed_nodes (pairs_in (at_each at (x ∷ ts)))) (target_node t).0 ≡ false →
      (is_subject (aimed_nodes (pairs_in (at x))) (target_node t).0 ≡ false) × (is_subject (aimed_nodes (pairs_in (at_each at ts))) (target_node t).0 ≡ false)
  apart x ts t h =
      let parted : aimed_nodes (pairs_in (at x ++ at_each at ts)) ≡ aimed_nodes (pairs_in (at x)) ++ aimed_nodes (pairs_in (at_each at ts)) =
      ap (λ (l : List Pair). aimed_nodes l) (map_append (λ (c : Condition). c.pair) (at x) (at_each at ts)) ∙ map_append (λ (x : Pair). target_node x.target) (pairs_in (at x)) (pairs_in (at_each at ts)) in
      either (is_subject (aimed_nodes (pairs_in (at x))) (target_node t).0) (is_subject (aimed_nodes (pairs_in (at_each at ts))) (target_node t).0)
      (sym (list_any-append (is_node (target_node t).0) (aimed_nodes (pairs_in (at x))) (aimed_nodes (pairs_in (at_each at ts)))) ∙ (sym (ap (λ (l : List NodeId). is_subject l (target_node t).0) parted) ∙ h))

  unreached : (ts : List Target) (i : ℕ) (t d : Target) → i < length ts → get_or ts i d ≡ t → is_subject (aimed_nodes (pairs_in (at_each at ts))) (target_node t).0 ≡ false → at t ≡ []
  unreached [] i t d l g h = absurd (omega (arith, l))
  unreached (x ∷ ts) zero t d l g h = none_of t (at t) (own t) (subst (λ (y : Target). is_subject (aimed_nodes (pairs_in (at y))) (target_node t).0 ≡ false) g (apart x ts t h).0)
  unreached (x ∷ ts) (suc i) t d l g h = let low : i < length ts = omega (arith, l) in unreached ts i t d low g (apart x ts t h).1

each_pushed : (at : Target → List Condition) (kept : List Target) (t : Target) → at_each at (kept ++ t ∷ []) ≡ at_each at kept ++ at t
each_pushed at [] t = append-nil (at t)
each_pushed at (x ∷ kept) t = ap (λ (l : List Condition). at x ++ l) (each_pushed at kept t) ∙ sym (append_assoc (at x) (at_each at kept) (at t))

-- the next target is kept, or has no conditions
module _ (at : Target → List Condition) (ts kept : List Target) (i : ℕ) (t d : Target) (low : i < length ts) (read : get_or ts i d ≡ t) (before : at_each at kept ++ at_each at (drop i ts) ≡ at_each at ts) where
  target_kept : (more : List Target) → more ≡ kept ++ t ∷ [] → at_each at more ++ at_each at (drop (i + 1) ts) ≡ at_each at ts
  target_kept more e =
      ap (λ (l : List Target). at_each at l ++ at_each at (drop (i + 1) ts)) e
      ∙ (ap (λ (l : List Condition). l ++ at_each at (drop (i + 1) ts)) (each_pushed at kept t)
      ∙ (append_assoc (at_each at kept) (at t) (at_each at (drop (i + 1) ts))
      ∙ (ap (λ (l : List Condition). at_each at kept ++ l) (sym (each_at at ts i t d low read)) ∙ before)))

  target_left : (pairs : List Pair) (nodes : List NodeId) (marks slice : List Bool) (marked : Bool) → marked ≡ mark_at slice (target_node t).0 → marked ≡ false → slice ≡ marks → ((n : ℕ) → mark_at marks n ≡ is_subject nodes n) →
      ((n : ℕ) → is_subject nodes n ≡ is_subject (aimed_nodes pairs) n) → AreReached at ts pairs → at_each at kept ++ at_each at (drop (i + 1) ts) ≡ at_each at ts
  target_left pairs nodes marks slice marked m f s told aimed reached =
      let n = (target_node t).0 in
      let here : is_subject (aimed_nodes (pairs_in (at_each at ts))) n ≡ false =
      ap (λ (l : List Pair). is_subject (aimed_nodes l) n) reached.paired ∙ (sym (aimed n) ∙ (sym (told n) ∙ (ap (λ (l : List Bool). mark_at l n) (sym s) ∙ (sym m ∙ f)))) in
      let empty = unreached at reached.own ts i t d low read here in
      ap (λ (l : List Condition). at_each at kept ++ l) (ap (λ (l : List Condition). l ++ at_each at (drop (i + 1) ts)) (sym empty) ∙ sym (each_at at ts i t d low read)) ∙ before

  pub target_next : (pairs : List Pair) (nodes : List NodeId) (marks slice : List Bool) (more : List Target) → IsKept (mark_at slice (target_node t).0) t kept more → slice ≡ marks → ((n : ℕ) → mark_at marks n ≡ is_subject nodes n) →
      ((n : ℕ) → is_subject nodes n ≡ is_subject (aimed_nodes pairs) n) → AreReached at ts pairs → at_each at more ++ at_each at (drop (i + 1) ts) ≡ at_each at ts
  target_next pairs nodes marks slice more k s told aimed reached = by (mark_at slice (target_node t).0) refl k
    where
      by : (b : Bool) → mark_at slice (target_node t).0 ≡ b → IsKept b t kept more → at_each at more ++ at_each at (drop (i + 1) ts) ≡ at_each at ts
      by true m h = target_kept more h
      by false m h = ap (λ (l : List Target). at_each at l ++ at_each at (drop (i + 1) ts)) h ∙ target_left pairs nodes marks slice (mark_at slice (target_node t).0) refl m s told aimed reached

-- the pairs of control flow are those of the conditions

module _ (p : Program) (name : PolicyName) (need : Site → Option Formula) (effect : Site → List Change) (known : NameBytes → Option Formula) (annotations : List Annotation) where
  pub flow_pairs : (cuts : List Cut) (subject : List NodeId) → IsInOrder p → ((n : ℕ) → has_barrier cuts n ≡ has_place (places_of annotations) n) → subject ≡ needed_nodes need (sites_of p) →
      pairs_in (all_conditions p name need effect known annotations) ≡ pairs_of p cuts subject
  flow_pairs cuts subject ordered barriers marks =
      one_order_from p name (part_of need effect known annotations) (has_barrier cuts) (is_subject subject) (length (nodes_of p)) (numbers_of p ordered)
      (λ n. barriers n.0 ∙ barriers_of n annotations)
      (subst (λ (nodes : List NodeId). AreMarked p need (is_subject nodes)) (sym marks) (needed_marked_from p need (length (nodes_of p)) (numbers_of p ordered)))

  pub planned : (plan : Plan) (all : List Target) (pairs : List Pair) → all ≡ list_targets p p.body → pairs_in (all_conditions p name need effect known annotations) ≡ pairs → saturated plan.count ≡ saturated (length pairs) →
      ((at : Target → List Condition) → AreReached at all pairs → at_each at plan.targets.items ≡ at_each at all) → IsPlan plan (conditions_at p name (part_of need effect known annotations)) (all_conditions p name need effect known annotations)
  planned plan all pairs targets paired count reached = record {
    count = same_counts plan.count (length (all_conditions p name need effect known annotations)) (count ∙ ap (λ n. saturated n) (ap (λ (l : List Pair). length l) (sym paired) ∙ length-map _ _));
    targets =
        let at = conditions_at p name (part_of need effect known annotations) in
        let same : at_each at all ≡ all_conditions p name need effect known annotations = ap (λ (ts : List Target). at_each at ts) targets in
        reached at (record { own = own_conditions p name (part_of need effect known annotations); paired = ap (λ (cs : List Condition). pairs_in cs) same ∙ paired }) ∙ same;
  }
