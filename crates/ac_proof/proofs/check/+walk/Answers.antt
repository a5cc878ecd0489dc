use Rattle.std.proofs.Common.{◌≡◌, ◌∙◌, ap, subst, true, false, rules, sym, map, [], ◌∷◌, ◌++◌, length, arith, ◌<◌, append-nil}
use Rattle.std.proofs.lemmas.List.{append_assoc}
use Rattle.std.proofs.Math.Seq.{take-append_seam}
use borrow.Author.Count.{below_more}
use Rattle.ac_proof.specs.declared.tree.ProofTree.{out-ProofTree}
use Rattle.ac_proof.specs.Checked.{goal_of, Checked, IsFirstFault}
use Rattle.ac_proof.specs.Walk.{added, IsStepOf, Walked, WalkedInto, PremiseIs}
use Rattle.ac_proof.proofs.Trees.{checked_of, fault_here, fault_below, item_is, few_premises, less_deep}
use Rattle.ac_proof.proofs.Readability.{few_at_hand, known_at_hand}
use Rattle.ac_proof.proofs.check.+walk.Goals as goal

pub walk-returns-then-not-branch-clause-walked : goal.walk-returns-then-not-branch-clause-walked
walk-returns-then-not-branch-clause-walked t c =
    let fails : IsStepOf c.args.hyps.now.items c.args.tree.now → ⊥ = λ s.
    let q : c.in_ok-is_step.field-0 ≡ true = c.in_ok-is_step.ensures.1 (rw (c.as_slice.ensures.value, c.get.ensures, c.as_slice-premises.ensures) s) in cc in
    ([], fault_here c.args.hyps.now.items c.args.tree.now fails, sym (append-nil c.args.path.now.items))

pub walk-returns-then-not-branch-2-clause-walked : goal.walk-returns-then-not-branch-2-clause-walked
walk-returns-then-not-branch-2-clause-walked t c =
    let q : c.in_ok-is_step.field-0 ≡ true = search rules in
    let s : IsStepOf c.args.hyps.now.items c.args.tree.now = rw (c.as_slice.ensures.value, c.get.ensures, c.as_slice-premises.ensures) at c.in_ok-is_step.ensures.0 q in
    let h : WalkedInto c.loop-i.hyps.items c.walk_premise.new.hyps.items c.loop-i.path.items c.walk_premise.new.path.items c.args.tree.now c.loop-i.i false = rw c.if-not-branch-2.true at c.in_ok-walk_premise.ensures in
    let lt : c.loop-i.i < length (out-ProofTree c.args.tree.now).premises = rw c.as_slice-premises.ensures at c.loop-i-test.true in
    let b : PremiseIs c.args.hyps.now.items c.args.tree.now c.loop-i.i (λ gs p. IsFirstFault gs p h.0) = rw c.loop-i.invariant.same_hyps at h.2 in
    (c.loop-i.i ∷ h.0, fault_below c.args.hyps.now.items c.args.tree.now c.loop-i.i h.0 s lt c.loop-i.invariant.below b, h.1 ∙ ap (λ x. x ++ c.loop-i.i ∷ h.0) c.loop-i.invariant.same_path)

pub walk-returns-clause-walked : goal.walk-returns-clause-walked
walk-returns-clause-walked t c =
    let q : c.in_ok-is_step.field-0 ≡ true = search rules in
    let s : IsStepOf c.args.hyps.now.items c.args.tree.now = rw (c.as_slice.ensures.value, c.get.ensures, c.as_slice-premises.ensures) at c.in_ok-is_step.ensures.0 q in
    (checked_of c.args.hyps.now.items c.args.tree.now s (λ k lt. c.loop-i.invariant.below k (omega (arith, ap length c.as_slice-premises.ensures))), c.loop-i.invariant.same_path)

pub walk_premise-overflow_cast-i : goal.walk_premise-overflow_cast-i
walk_premise-overflow_cast-i t c =
    let n : length (out-ProofTree c.args.tree.now).premises < 4294967296 = few_premises c.args.tree.now c.requires.few in omega arith

pub walk_premise-returns-then-branch : goal.walk_premise-returns-then-branch
walk_premise-returns-then-branch t c =
    let q : c.in_ok-walk.field-0 ≡ true = c.if-branch.true in
    let w : Walked c.push_added.new.hyps.items c.index-premises-i.result c.push.new.self.items c.walk.new.path.items true = rw q at c.in_ok-walk.ensures.walked in
    let n : c.len-count.result ≡ length c.args.hyps.now.items = search rules in
    let m : c.len-depth.result ≡ length c.args.path.now.items = search rules in
    let h : c.walk.new.hyps.items ≡ c.args.hyps.now.items ++ added (out-ProofTree c.args.tree.now).rule (out-ProofTree c.args.tree.now).goal (map goal_of (out-ProofTree c.args.tree.now).premises) c.args.i = c.in_ok-walk.ensures.hyps q ∙ c.in_ok-push_added.ensures in
    let p : c.walk.new.path.items ≡ c.args.path.now.items ++ c.args.i ∷ [] = w.1 ∙ c.in_ok-push.ensures.items in (
      c.truncate-then-branch.ensures.items ∙ (rw (n, h) (take-append_seam c.args.hyps.now.items _)),
      c.truncate.ensures.items ∙ (rw (m, p) (take-append_seam c.args.path.now.items _)),
      λ u e. subst (λ hs. Checked hs u) c.in_ok-push_added.ensures (subst (Checked c.push_added.new.hyps.items) (item_is c.index-premises-i.result u c.as_slice-premises.result.now _ c.args.i c.index-premises-i.is c.as_slice-premises.ensures e) w.0),
    )

pub walk_premise-returns-else-branch : goal.walk_premise-returns-else-branch
walk_premise-returns-else-branch t c =
    let q : c.in_ok-walk.field-0 ≡ false = c.if-branch.false in
    let w : Walked c.push_added.new.hyps.items c.index-premises-i.result c.push.new.self.items c.walk.new.path.items false = rw q at c.in_ok-walk.ensures.walked in (
      w.0,
      w.2 ∙ (ap (λ x. x ++ w.0) c.in_ok-push.ensures.items ∙ append_assoc c.args.path.now.items (c.args.i ∷ []) w.0),
      λ u e. subst (λ hs. IsFirstFault hs u w.0) c.in_ok-push_added.ensures (subst (λ u. IsFirstFault c.push_added.new.hyps.items u w.0) (item_is c.index-premises-i.result u c.as_slice-premises.result.now _ c.args.i c.index-premises-i.is c.as_slice-premises.ensures e) w.1),
    )

pub walk-loop-i-preserved : goal.walk-loop-i-preserved
walk-loop-i-preserved t c =
    let h : WalkedInto c.loop-i.hyps.items c.walk_premise.new.hyps.items c.loop-i.path.items c.walk_premise.new.path.items c.args.tree.now c.loop-i.i true = rw c.if-not-branch-2.false at c.in_ok-walk_premise.ensures in
    record {
      same_hyps = h.0 ∙ c.loop-i.invariant.same_hyps;
      same_path = h.1 ∙ c.loop-i.invariant.same_path;
      below = below_more _ _ c.loop-i.invariant.below (rw c.loop-i.invariant.same_hyps at h.2);
    }

pub walk_premise-walk-requires : goal.walk_premise-walk-requires
walk_premise-walk-requires t c = (less_deep c.args.tree.now c.index-premises-i.result c.as_slice-premises.result.now c.args.i t c.index-premises-i.is c.as_slice-premises.ensures c.requires.place c.decreases, (few_at_hand c.args.tree.now c.index-premises-i.result c.as_slice-premises.result.now c.args.i c.requires.few c.requires.place c.as_slice-premises.ensures c.index-premises-i.is, known_at_hand c.args.hyps.now.items c.push_added.new.hyps.items c.args.tree.now c.index-premises-i.result c.as_slice-premises.result.now c.args.i c.is_given.result c.args.are_hyps_readable c.index-premises-i.is c.as_slice-premises.ensures c.is_given.ensures c.in_ok-push_added.ensures c.requires.place c.requires.step c.requires.hyps c.requires.before))
