use Rattle.std.proofs.Common.{◌≡◌, ◌∙◌, subst, sym, rules, length, ◌++◌, arith, Some, slice_get}
use Rattle.std.proofs.Math.Seq.{take-append_seam}
use Rattle.ac_steps.specs.declared.plan.Plan.{Plan, out-Plan}
use Rattle.ac_steps.specs.Plans.{Shows, IsLastStep, shown_by, context_at, contexts_in, formulas_of}
use Rattle.ac_steps.specs.Proofs.{IsProof, AreProofs, IsPremiseProof}
use Rattle.ac_steps.proofs.Rows.{planned, are_proofs, premise_shows, plan_at, less_deep, goal-out, same_item, item_again}
use Rattle.ac_steps.proofs.Unfolded.{one_more, one_longer}
use Rattle.ac_steps.proofs.builder.+tree.Goals as goal

pub tree_of-loop-i-preserved : goal.tree_of-loop-i-preserved
tree_of-loop-i-preserved t c =
    let here : IsPremiseProof c.args.hyps.now.items c.args.plan.now c.loop-i.i c.in_ok-tree.tree = subst (λ hs. IsPremiseProof hs c.args.plan.now c.loop-i.i c.in_ok-tree.tree) c.loop-i.invariant.same_hyps c.in_ok-tree.ensures.proof in
    record {
      same_hyps = c.in_ok-tree.ensures.hyps ∙ c.loop-i.invariant.same_hyps;
      count = one_longer c.loop-i.trees c.push.new.self c.in_ok-tree.tree c.loop-i.i c.in_ok-push.ensures.ok c.loop-i.invariant.count;
      proofs = one_more c.args.hyps.now.items c.args.plan.now c.loop-i.trees c.push.new.self c.in_ok-tree.tree c.loop-i.i c.in_ok-push.ensures.ok c.loop-i.invariant.count c.loop-i.invariant.proofs here;
    }

pub tree_of-assembled-requires : goal.tree_of-assembled-requires
tree_of-assembled-requires t c =
    let e : c.as_slice.result.now ≡ c.args.hyps.now.items = c.as_slice.ensures.value ∙ c.loop-i.invariant.same_hyps in
    let l : length c.loop-i.trees ≡ length (out-Plan c.args.plan.now).premises = omega (arith, c.loop-i.invariant.count) in
    record {
      planned = subst (λ hs. IsLastStep hs c.args.plan.now) (sym e) (planned c.args.hyps.now.items c.args.plan.now c.requires);
      proofs = subst (λ hs. AreProofs hs (contexts_in c.args.plan.now) (formulas_of c.args.plan.now) c.loop-i.trees) (sym e) (are_proofs c.args.hyps.now.items c.args.plan.now c.loop-i.trees l c.loop-i.invariant.proofs);
    }

pub tree_of-returns-clause-proof : goal.tree_of-returns-clause-proof
tree_of-returns-clause-proof t c =
    let e : c.as_slice.result.now ≡ c.args.hyps.now.items = c.as_slice.ensures.value ∙ c.loop-i.invariant.same_hyps in
    subst (λ f. IsProof c.args.hyps.now.items f c.in_ok-whole.whole) (goal-out c.args.plan.now) (subst (λ hs. IsProof hs (out-Plan c.args.plan.now).goal c.in_ok-whole.whole) e c.in_ok-whole.ensures)

pub premise_tree-tree_of-requires : goal.premise_tree-tree_of-requires
premise_tree-tree_of-requires t c =
    let x : Plan = c.get.result.now in
    let is = item_again x c.index-premises-i.result c.as_slice-premises.result.now c.args.i c.get.ensures c.index-premises-i.is in
    let s : slice_get (out-Plan c.args.plan.now).premises c.args.i ≡ Some x = plan_at (out-Plan c.args.plan.now).premises c.as_slice-premises.result.now c.args.i x c.as_slice-premises.ensures c.requires.place is in (
      less_deep c.args.plan.now x c.as_slice-premises.result.now c.args.i t is c.as_slice-premises.ensures c.requires.place c.decreases,
      subst (λ hs. Shows hs x) (sym c.in_ok-push_context.ensures) (premise_shows c.args.hyps.now.items c.args.plan.now c.args.i x c.requires.shows s),
    )

pub premise_tree-returns : goal.premise_tree-returns
premise_tree-returns t c =
    let x : Plan = c.get.result.now in
    let is = item_again x c.index-premises-i.result c.as_slice-premises.result.now c.args.i c.get.ensures c.index-premises-i.is in
    let s : slice_get (out-Plan c.args.plan.now).premises c.args.i ≡ Some x = plan_at (out-Plan c.args.plan.now).premises c.as_slice-premises.result.now c.args.i x c.as_slice-premises.ensures c.requires.place is in
    let n : c.len-count.result ≡ length c.args.hyps.now.items = search rules in
    let h : c.tree_of.new.hyps.items ≡ c.args.hyps.now.items ++ context_at c.args.plan.now c.args.i = c.in_ok-tree.ensures.hyps ∙ c.in_ok-push_context.ensures in
    record {
      proof = λ q e. subst (λ z. IsProof (c.args.hyps.now.items ++ context_at c.args.plan.now c.args.i) (shown_by z) c.in_ok-tree.tree) (same_item (out-Plan c.args.plan.now).premises c.args.i x q s e) (subst (λ hs. IsProof hs (shown_by x) c.in_ok-tree.tree) c.in_ok-push_context.ensures c.in_ok-tree.ensures.proof);
      hyps = c.truncate.ensures.items ∙ (rw (n, h) (take-append_seam c.args.hyps.now.items _));
    }
