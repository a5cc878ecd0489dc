-- The list of the conditions' pairs is the list of the pairs of control flow.
use Rattle.std.proofs.Common.{◌≡◌, ℕ, List, [], ◌∷◌, Bool, subst, sym}
use Rattle.ac_tree.specs.declared.node.NodeId.{NodeId}
use Rattle.ac_tree.specs.declared.path.Cut.TheVariants.{Start}
use Rattle.ac_tree.specs.declared.policy.PolicyName.{PolicyName}
use Rattle.ac_tree.specs.declared.program.Program.{Program}
use Rattle.ac_tree.specs.Numbering.{program_nodes}
use Rattle.ac_tree.specs.Preorder.{nodes_of, numbers_from, IsNumbered}
use Rattle.ac_tree.proofs.NodeLaws.{numbered_in_preorder}
use Rattle.ac_flow.specs.Pairs.{list_pairs}
use Rattle.ac_conditions.proofs.ConditionsInOrder.{conditions_in_order}
use Rattle.ac_conditions.proofs.FlowInOrder.{flow_in_order}
use Rattle.ac_conditions.proofs.PairsInOrder.{targets_at, cuts_at, all_pairs, numbered_apart}
use Rattle.ac_conditions.proofs.PairsOfConditions.{conditions_paired, pairs_conditioned}
use Rattle.ac_conditions.proofs.Parts.{pairs_in}
use Rattle.ac_conditions.proofs.Sublists.{AreApart, one_list}
use Rattle.ac_conditions.specs.AllConditions.{part_conditions}
use Rattle.ac_conditions.specs.Marked.{AreMarked}
use Rattle.ac_conditions.specs.Part.{Part, is_any}

pub one_order_from : (p : Program) (q : PolicyName) (part : Part) (barrier subject : ℕ → Bool) (count : ℕ) → nodes_of p ≡ numbers_from 0 count → ((n : NodeId) → barrier n.0 ≡ is_any (part.behind n)) → AreMarked p part.need subject →
    pairs_in (part_conditions p q part) ≡ list_pairs barrier subject (Start ∷ []) p.body
one_order_from p q part barrier subject count numbers barriers marked =
    one_list (pairs_in (part_conditions p q part)) (list_pairs barrier subject (Start ∷ []) p.body) (all_pairs (Start ∷ cuts_at (nodes_of p)) (targets_at (nodes_of p)))
    (subst (λ (ns : List NodeId). AreApart (all_pairs (Start ∷ cuts_at ns) (targets_at ns))) (sym numbers) (numbered_apart count))
    (conditions_in_order p q part) (flow_in_order p barrier subject)
    (λ z h. conditions_paired p q part barrier subject barriers marked z.cut z.target h)
    (λ z h. pairs_conditioned p q part barrier subject barriers marked z.cut z.target h)

pub one_order : (p : Program) (q : PolicyName) (part : Part) (barrier subject : ℕ → Bool) → IsNumbered p → ((n : NodeId) → barrier n.0 ≡ is_any (part.behind n)) → AreMarked p part.need subject →
    pairs_in (part_conditions p q part) ≡ list_pairs barrier subject (Start ∷ []) p.body
one_order p q part barrier subject numbered barriers marked = one_order_from p q part barrier subject (program_nodes p) (numbered_in_preorder p numbered) barriers marked
