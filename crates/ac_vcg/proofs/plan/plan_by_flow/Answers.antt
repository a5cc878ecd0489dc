use Rattle.std.proofs.Common.{◌≡◌, List, sym, ap, ◌∙◌}
use Rattle.ac_tree.specs.declared.node.NodeId.{NodeId}
use Rattle.ac_tree.specs.declared.path.Cut.{Cut}
use Rattle.ac_flow.specs.Pairs.{pairs_of, is_subject}
use Rattle.ac_vcg.proofs.Reaching.{flow_pairs, planned}
use Rattle.ac_vcg.proofs.plan.plan_by_flow.Goals as goal

pub returns : goal.returns
returns g c = λ targets ordered name.
    let p = c.args.program.now in
    let policy = c.args.policy.now in
    let need = g.P.Policy.need_of policy p in
    let effect = g.P.Policy.effect_of policy p in
    let known = g.P.Policy.known_of policy in
    let annotations = c.args.annotations.now in
    let cuts = c.in_ok-cuts.cuts.items in
    let subject = c.in_ok-subject.subject.items in
    let pairs = pairs_of p c.as_slice.result.now c.as_slice-2.result.now in
    let same : pairs ≡ pairs_of p cuts subject = ap (λ (l : List Cut). pairs_of p l c.as_slice-2.result.now) c.as_slice.ensures.value ∙ ap (λ (l : List NodeId). pairs_of p cuts l) c.as_slice-2.ensures.value in
    planned p name need effect known annotations _ c.args.all.now pairs targets (flow_pairs p name need effect known annotations cuts subject ordered c.in_ok-cuts.ensures c.in_ok-subject.ensures ∙ sym same) c.in_ok-found.ensures.count
    (λ at r. c.in_ok-targets.ensures at pairs (λ n. ap (λ (l : List NodeId). is_subject l n) c.as_slice-3.ensures.value ∙ c.in_ok-found.ensures.nodes n) r)
