use Rattle.std.proofs.Common.{◌≡◌, false, true, refl, sym, ◌∙◌, subst}
use Rattle.ac_proof.specs.Checked.{Checked, IsFirstFault}
use Rattle.ac_proof.specs.Walk.{Walked}
use Rattle.ac_proof.proofs.Truth.{sound}
use Rattle.ac_proof.proofs.Trees.{unchecked}
use Rattle.ac_proof.proofs.check.check_proof.Goals as goal

pub returns-then-branch-clause-sound : goal.returns-then-branch-clause-sound
returns-then-branch-clause-sound c =
    let w : Walked c.in_ok-copy.copy.items c.args.tree.now c.new-path.result.items c.walk.new.path.items true = rw c.if-branch.true at c.in_ok-walk.ensures.walked in
    sound c.args.hyps.now c.args.tree.now (subst (λ hs. Checked hs c.args.tree.now) c.in_ok-copy.ensures w.0)

pub returns-clause-fault : goal.returns-clause-fault
returns-clause-fault c =
    let w : Walked c.in_ok-copy.copy.items c.args.tree.now c.new-path.result.items c.walk.new.path.items false = rw c.if-branch.false at c.in_ok-walk.ensures.walked in
    let f : IsFirstFault c.args.hyps.now c.args.tree.now w.0 = subst (λ hs. IsFirstFault hs c.args.tree.now w.0) c.in_ok-copy.ensures w.1 in
    let e : w.0 ≡ c.from_vec-path.result = sym (c.from_vec-path.ensures ∙ (w.2 ∙ rw c.new-path.ensures.items refl)) in
    let g : IsFirstFault c.args.hyps.now c.args.tree.now c.from_vec-path.result = subst (IsFirstFault c.args.hyps.now c.args.tree.now) e f in
    (g, unchecked c.args.hyps.now c.args.tree.now c.from_vec-path.result g)
