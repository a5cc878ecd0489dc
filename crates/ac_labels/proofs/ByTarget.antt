-- What holds of the conditions of each target holds of all conditions.
use Rattle.std.proofs.Common.{◌≡◌, List, [], ◌∷◌, ◌++◌, sym, subst, inl, inr}
use Rattle.std.specs.List.{AllByRecursion}
use Rattle.ac_tree.specs.declared.path.Target.{Target}
use Rattle.ac_tree.specs.declared.policy.PolicyName.{PolicyName}
use Rattle.ac_tree.specs.declared.program.Program.{Program}
use Rattle.ac_flow.specs.Listed.{IsListed}
use Rattle.ac_logic.specs.declared.condition.Condition.{Condition}
use Rattle.ac_conditions.proofs.PairsOfConditions.{all_aim}
use Rattle.ac_conditions.specs.AllConditions.{at_each, part_conditions}
use Rattle.ac_conditions.specs.Conditions.{conditions_at}
use Rattle.ac_conditions.specs.Part.{Part}
use Rattle.ac_conditions.specs.Targets.{list_targets}

module _ (P : Target → Condition → Type 0) where
  abbrev Holds : Condition → Type 0
  Holds c = P c.pair.target c

  of_target : (t : Target) (cs : List Condition) → AllByRecursion (P t) cs → AllByRecursion (λ (x : Condition). x.pair.target ≡ t) cs → AllByRecursion Holds cs
  of_target t [] h k = tt
  of_target t (c ∷ cs) h k = (subst (λ (u : Target). P u c) (sym k.0) h.0, of_target t cs h.1 k.1)

  all_join : (cs ds : List Condition) → AllByRecursion Holds cs → AllByRecursion Holds ds → AllByRecursion Holds (cs ++ ds)
  all_join [] ds h k = k
  all_join (c ∷ cs) ds h k = (h.0, all_join cs ds h.1 k)

  one_of : (cs : List Condition) (c : Condition) → AllByRecursion Holds cs → IsListed cs c → Holds c
  one_of [] c h i = absurd i
  one_of (d ∷ cs) c h (inl e) = subst Holds (sym e) h.0
  one_of (d ∷ cs) c h (inr i) = one_of cs c h.1 i

  module _ (p : Program) (q : PolicyName) (part : Part) (each : (t : Target) → AllByRecursion (P t) (conditions_at p q part t)) where
    each_target : (ts : List Target) → AllByRecursion Holds (at_each (conditions_at p q part) ts)
    each_target [] = tt
    each_target (t ∷ ts) = all_join (conditions_at p q part t) (at_each (conditions_at p q part) ts) (of_target t (conditions_at p q part t) (each t) (all_aim p q part t)) (each_target ts)

    pub of_all : (c : Condition) → IsListed (part_conditions p q part) c → Holds c
    of_all c i = one_of (part_conditions p q part) c (each_target (list_targets p p.body)) i
