-- The order, with the barriers of the annotations and the subject nodes of the needs.
use Rattle.std.proofs.Common.{◌∙◌}
use Rattle.ac_flow.specs.Cuts.{cuts_of, has_barrier, has_place}
use Rattle.ac_flow.specs.Pairs.{is_subject}
use Rattle.ac_policy.specs.Sites.{sites_of}
use Rattle.ac_conditions.proofs.Barriers.{barriers_of}
use Rattle.ac_conditions.proofs.BarriersOfCuts.{barriers_of_places}
use Rattle.ac_conditions.proofs.NodesMarked.{needed_marked}
use Rattle.ac_conditions.proofs.OneOrder.{one_order}
use Rattle.ac_conditions.proofs.laws.annotated_conditions_stand_in_order.Goals as goal
use Rattle.ac_conditions.specs.Marked.{needed_nodes}
use Rattle.ac_conditions.specs.Part.{part_of, places_of}

pub returns : goal.returns
returns g = λ p policy need effect known annotations numbered behind.
    one_order p policy (part_of need effect known annotations) (has_barrier (cuts_of (has_place (places_of annotations)) p)) (is_subject (needed_nodes need (sites_of p))) numbered
    (λ n. barriers_of_places p (places_of annotations) behind n.0 ∙ barriers_of n annotations) (needed_marked p need numbered)
