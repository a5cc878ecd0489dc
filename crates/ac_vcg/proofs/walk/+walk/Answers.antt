use Rattle.std.proofs.Common.{◌≡◌, rules, ◌+◌, ◌-◌, ◌<◌, ◌++◌, arith, sym, subst, ◌∙◌, append_assoc, length}
use Rattle.std.proofs.lemmas.Result.{IfOk-weaker, on_ok_weaker}
use Rattle.ac_conditions.specs.Conditions.{conditions, list_conditions}
use Rattle.ac_conditions.specs.Part.{part_of}
use Rattle.ac_conditions.specs.Preconditions.{before}
use Rattle.ac_preconditions.specs.Stands.{StandsIf}
use Rattle.ac_vcg.specs.Stands.{AreFound}
use Rattle.ac_vcg.proofs.Cuts.{as_if, as_for, as_while, found_if, found_for, found_while, walked_none, walked_more, walked_all}
use Rattle.ac_vcg.proofs.Findings.{found_as}
use Rattle.ac_vcg.proofs.Outside.{passed_over, rises_if, rises_for, rises_while, none_first, first_at, rises_inside, none_passed}
use Rattle.ac_vcg.proofs.Walks.{before_if, before_for, before_while}
use Rattle.ac_vcg.proofs.walk.+walk.Goals as goal

pub walk_for-returns : goal.walk_for-returns
walk_for-returns g t c =
    let p = c.args.aim.now.program.now in
    let policy = c.args.aim.now.policy.now in
    let part = part_of (g.P.Policy.need_of policy p) (g.P.Policy.effect_of policy p) (g.P.Policy.known_of policy) c.args.aim.now.annotations.now in
    on_ok_weaker c.add_for_head.result
    (λ h title Q bs cs r b f k.
    let inside = c.in_ok-path.ensures title _ cs r c.in_ok-kept.ensures k in
    found_for g.G.Precondition.stands p title part c.args.aim.now.target c.args.hypotheses.now c.args.node _ c.args.name.now c.args.lo.now c.args.hi.now c.args.body.now _ Q bs cs (c.as_slice.ensures.value ∙ c.in_ok-inner.ensures)
    (h title _ _ (c.in_ok-head.ensures _ inside.0) (c.in_ok-add_for_exit.ensures title Q _ b (c.in_ok-add_barrier.ensures title bs _ f inside.1))))
    c.add_for_head.ensures

pub walk_while-returns : goal.walk_while-returns
walk_while-returns g t c =
    let p = c.args.aim.now.program.now in
    let policy = c.args.aim.now.policy.now in
    let part = part_of (g.P.Policy.need_of policy p) (g.P.Policy.effect_of policy p) (g.P.Policy.known_of policy) c.args.aim.now.annotations.now in
    on_ok_weaker c.add_while_head.result
    (λ h name Q bs cs r b f k.
    let inside = c.in_ok-path.ensures name _ cs r c.in_ok-kept.ensures k in
    found_while g.G.Precondition.stands p name part c.args.aim.now.target c.args.hypotheses.now c.args.node _ c.args.test.now c.args.body.now Q bs cs
    (h name _ _ (c.in_ok-head.ensures _ _ c.in_ok-goal.ensures (c.in_ok-holds.ensures _ inside.0)) (c.in_ok-add_while_exit.ensures name Q _ b (c.in_ok-add_barrier.ensures name bs _ f inside.1))))
    c.add_while_head.ensures

pub walk_if-returns : goal.walk_if-returns
walk_if-returns g t c =
    IfOk-weaker c.conjoined-2.result _ _
    (λ made h name Q R cs y b d k.
    let above = c.in_ok-taken.ensures name Q cs y b k in
    (h _ _ c.in_ok-goal.ensures (c.in_ok-sides.ensures _ _ (c.in_ok-first.ensures _ above.0) (c.in_ok-second.ensures R d)), above.1))
    c.conjoined-2.ensures

pub walk_next-returns-then-is_none : goal.walk_next-returns-then-is_none
walk_next-returns-then-is_none g t c =
    let p = c.args.aim.now.program.now in
    let policy = c.args.aim.now.policy.now in
    let part = part_of (g.P.Policy.need_of policy p) (g.P.Policy.effect_of policy p) (g.P.Policy.known_of policy) c.args.aim.now.annotations.now in
    λ name Q cs r o b k.
    passed_over g.G.Precondition.stands p name part c.args.aim.now.target c.args.hypotheses.now c.args.stmt.now.node.id c.args.stmt.now.kind c.args.behind _ Q cs (o (search rules)) (search rules) b k

pub walk_next-returns : goal.walk_next-returns
walk_next-returns g t c =
    let p = c.args.aim.now.program.now in
    let policy = c.args.aim.now.policy.now in
    let part = part_of (g.P.Policy.need_of policy p) (g.P.Policy.effect_of policy p) (g.P.Policy.known_of policy) c.args.aim.now.annotations.now in
    IfOk-weaker c.walk_stmt.result _ _
    (λ made h name Q cs r o b k. h name _ _ cs r (c.in_ok-past.ensures Q b) (c.in_ok-barrier.ensures p part name Q b) k)
    c.walk_stmt.ensures

pub walk_block-loop-left-init : goal.walk_block-loop-left-init
walk_block-loop-left-init g t c =
    let p = c.args.aim.now.program.now in
    let policy = c.args.aim.now.policy.now in
    let part = part_of (g.P.Policy.need_of policy p) (g.P.Policy.effect_of policy p) (g.P.Policy.known_of policy) c.args.aim.now.annotations.now in
    record {
      within = omega arith;
      next = none_first c.args.block.now;
      walked = λ name Q cs r b k. walked_none g.G.Precondition.stands p name part c.args.aim.now.target c.args.hypotheses.now c.args.block.now Q cs _ _ b k;
    }

pub walk_block-loop-left-preserved : goal.walk_block-loop-left-preserved
walk_block-loop-left-preserved g t c =
    let p = c.args.aim.now.program.now in
    let policy = c.args.aim.now.policy.now in
    let part = part_of (g.P.Policy.need_of policy p) (g.P.Policy.effect_of policy p) (g.P.Policy.known_of policy) c.args.aim.now.annotations.now in
    let block = c.args.block.now in
    let first : c.loop-left.left - 1 < length block = omega (arith, c.loop-left.invariant.within, c.loop-left-test.true) in
    let next : c.loop-left.left ≡ c.loop-left.left - 1 + 1 = omega (arith, c.loop-left-test.true) in
    let i = c.loop-left.left - 1 in
    let j = c.loop-left.left in
    record {
      within = omega (arith, c.loop-left.invariant.within);
      next = first_at block i j _ _ first next c.index-block-left.is;
      walked = λ name Q cs r b k.
          let rest = c.loop-left.invariant.walked name Q cs r b k in
          let one = c.in_ok-goal.ensures name _ _ (λ o. rises_inside block i j _ _ first next c.index-block-left.is (r o))
          (none_passed c.args.aim.now.target block i j _ _ _ _ c.args.aim.now.is_ordered first next c.index-block-left.is c.loop-left.invariant.next c.is_passed-passed.ensures r) rest.0 rest.1 in
          walked_more g.G.Precondition.stands p name part c.args.aim.now.target c.args.hypotheses.now block i j _ _ Q cs _ _ first next c.index-block-left.is one.0 one.1;
    }

pub walk_block-returns : goal.walk_block-returns
walk_block-returns g t c =
    let p = c.args.aim.now.program.now in
    let policy = c.args.aim.now.policy.now in
    let part = part_of (g.P.Policy.need_of policy p) (g.P.Policy.effect_of policy p) (g.P.Policy.known_of policy) c.args.aim.now.annotations.now in
    let end : c.loop-left.left ≡ 0 = omega (arith, c.loop-left-test.false) in
    λ name Q cs r b k. walked_all g.G.Precondition.stands p name part c.args.aim.now.target c.args.hypotheses.now c.args.block.now c.loop-left.left Q cs _ _ end (c.loop-left.invariant.walked name Q cs r b k)

pub walk_stmt-returns-in_ok-add_barrier-in-Set : goal.walk_stmt-returns-in_ok-add_barrier-in-Set
walk_stmt-returns-in_ok-add_barrier-in-Set g t c = rw c.in-Set.is (IfOk-weaker c.before_set.result _ _ (λ made h name Q bs cs r b f k. (h Q b, c.in_ok-add_barrier-in-Set.ensures name bs cs f k)) c.before_set.ensures)

pub walk_stmt-returns-in_ok-add_barrier-in-Put : goal.walk_stmt-returns-in_ok-add_barrier-in-Put
walk_stmt-returns-in_ok-add_barrier-in-Put g t c = rw c.in-Put.is (IfOk-weaker c.before_put.result _ _ (λ made h name Q bs cs r b f k. (h Q b, c.in_ok-add_barrier-in-Put.ensures name bs cs f k)) c.before_put.ensures)

pub walk_stmt-returns-in_ok-add_barrier-in-Hand : goal.walk_stmt-returns-in_ok-add_barrier-in-Hand
walk_stmt-returns-in_ok-add_barrier-in-Hand g t c = rw c.in-Hand.is (IfOk-weaker c.before_use.result _ _ (λ made h name Q bs cs r b f k. (h Q b, c.in_ok-add_barrier-in-Hand.ensures name bs cs f k)) c.before_use.ensures)

pub walk_stmt-returns-in_ok-add_barrier-in-Skip : goal.walk_stmt-returns-in_ok-add_barrier-in-Skip
walk_stmt-returns-in_ok-add_barrier-in-Skip g t c = rw c.in-Skip.is (λ name Q bs cs r b f k. (b, c.in_ok-add_barrier-in-Skip.ensures name bs cs f k))

pub walk_stmt-returns-in_ok-add_barrier-in-If : goal.walk_stmt-returns-in_ok-add_barrier-in-If
walk_stmt-returns-in_ok-add_barrier-in-If g t c =
    let p = c.args.aim.now.program.now in
    let policy = c.args.aim.now.policy.now in
    let part = part_of (g.P.Policy.need_of policy p) (g.P.Policy.effect_of policy p) (g.P.Policy.known_of policy) c.args.aim.now.annotations.now in
    let at = c.args.aim.now.target in
    let hs = c.args.hypotheses.now in
    let n = c.args.stmt.now.node.id in
    let test = c.in-If.test in
    let yes = c.as_slice-yes.result.now in
    let no = c.as_slice-no.result.now in
    λ name Q bs cs r b f k.
    let rising = rises_if c.args.stmt.now.kind test _ _ yes no c.in-If.is c.as_slice-yes.ensures c.as_slice-no.ensures in
    let below = c.in_ok-denied-in-If.ensures name Q cs (λ o. (rising (r o)).1) (c.in_ok-other-in-If.ensures Q b) k in
    let above = c.in_ok-path-in-If.ensures name Q _ _ (λ o. (rising (r o)).0) b below.0 below.1 in
    as_if (λ x. StandsIf g.G.Precondition.stands c.in_ok-path-in-If.path (before p part at n x Q) × AreFound g.G.Precondition.stands name c.add_barrier-in-If.new.found.items (conditions p name part at hs n x Q bs ++ cs))
    c.args.stmt.now.kind test _ _ yes no c.in-If.is c.as_slice-yes.ensures c.as_slice-no.ensures (
      subst (λ f. StandsIf g.G.Precondition.stands c.in_ok-path-in-If.path f) (sym (before_if p name part at n test yes no Q)) above.0,
      found_if g.G.Precondition.stands p name part at hs n _ test yes no Q bs cs
          (c.in_ok-add_barrier-in-If.ensures name bs _ f
          (found_as g.G.Precondition.stands name _ _ _ (sym (append_assoc (list_conditions p name part at hs yes Q) (list_conditions p name part at hs no Q) cs)) above.1)),
    )

pub walk_stmt-returns-in_ok-walk_for-in-For : goal.walk_stmt-returns-in_ok-walk_for-in-For
walk_stmt-returns-in_ok-walk_for-in-For g t c =
    let p = c.args.aim.now.program.now in
    let policy = c.args.aim.now.policy.now in
    let part = part_of (g.P.Policy.need_of policy p) (g.P.Policy.effect_of policy p) (g.P.Policy.known_of policy) c.args.aim.now.annotations.now in
    let at = c.args.aim.now.target in
    let hs = c.args.hypotheses.now in
    let n = c.args.stmt.now.node.id in
    let body = c.as_slice-body.result.now in
    IfOk-weaker c.before_for.result _ _
    (λ made h name Q bs cs r b f k.
    as_for (λ x. StandsIf g.G.Precondition.stands made (before p part at n x Q) × AreFound g.G.Precondition.stands name c.walk_for.new.found.items (conditions p name part at hs n x Q bs ++ cs))
    c.args.stmt.now.kind c.in-For.name c.in-For.lo c.in-For.hi _ body c.in-For.is c.as_slice-body.ensures
    (subst (λ f. StandsIf g.G.Precondition.stands made f) (sym (before_for p name part at n c.in-For.name c.in-For.lo c.in-For.hi body Q)) h, c.in_ok-walk_for-in-For.ensures name Q bs cs (λ o. rises_for c.args.stmt.now.kind c.in-For.name c.in-For.lo c.in-For.hi _ body c.in-For.is c.as_slice-body.ensures (r o)) b f k))
    c.before_for.ensures

pub walk_stmt-returns-in_ok-walk_while-in-While : goal.walk_stmt-returns-in_ok-walk_while-in-While
walk_stmt-returns-in_ok-walk_while-in-While g t c =
    let p = c.args.aim.now.program.now in
    let policy = c.args.aim.now.policy.now in
    let part = part_of (g.P.Policy.need_of policy p) (g.P.Policy.effect_of policy p) (g.P.Policy.known_of policy) c.args.aim.now.annotations.now in
    let at = c.args.aim.now.target in
    let hs = c.args.hypotheses.now in
    let n = c.args.stmt.now.node.id in
    let body = c.as_slice-body-in-While.result.now in
    IfOk-weaker c.while_entry.result _ _
    (λ made h name Q bs cs r b f k.
    as_while (λ x. StandsIf g.G.Precondition.stands made (before p part at n x Q) × AreFound g.G.Precondition.stands name c.walk_while.new.found.items (conditions p name part at hs n x Q bs ++ cs))
    c.args.stmt.now.kind c.in-While.test _ body c.in-While.is c.as_slice-body-in-While.ensures
    (subst (λ f. StandsIf g.G.Precondition.stands made f) (sym (before_while p name part at n c.in-While.test body Q)) h, c.in_ok-walk_while-in-While.ensures name Q bs cs (λ o. rises_while c.args.stmt.now.kind c.in-While.test _ body c.in-While.is c.as_slice-body-in-While.ensures (r o)) b f k))
    c.while_entry.ensures
