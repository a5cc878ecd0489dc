use Rattle.std.proofs.Common.{◌≡◌, ◌+◌, ◌<◌, ◌≤◌, Bool, if◌then◌else◌, List, [], ◌∷◌, ◌++◌, drop, get_or, length, refl, sym, ◌∙◌, ap, subst, rules, arith}
use Rattle.std.proofs.lemmas.List.{at_drop_all}
use Rattle.std.proofs.lemmas.Result.{on_ok_weaker}
use Rattle.ac_tree.specs.declared.path.Cut.{Cut}
use Rattle.ac_tree.specs.declared.path.Cut.TheVariants.{Head, Exit}
use Rattle.ac_tree.specs.declared.path.Target.TheVariants.{Keep}
use Rattle.ac_tree.specs.declared.program.Stmt.{Stmt}
use Rattle.ac_flow.specs.Marks.{mark_at}
use Rattle.ac_flow.specs.Pairs.{each, list_pairs}
use Rattle.ac_flow.specs.Through.{leaving, onward}
use Rattle.ac_pair_count.specs.Counted.{IsMore}
use Rattle.ac_pair_count.specs.PairCount.{saturated}
use Rattle.ac_pair_count.proofs.More.{more_two, no_more}
use Rattle.ac_pair_count.proofs.Statements.{IsSoFar, drop_next, one_passed, all_passed, next_counted, one_told, through_if, pairs_of_if, pairs_of_loop, pairs_of_for, pairs_of_while}
use Rattle.ac_pair_count.proofs.pair_count.+stmt_pairs.Goals as goal

pub count_loop-returns : goal.count_loop-returns
count_loop-returns t c =
    on_ok_weaker c.count_barrier.result
    (λ h cuts e. pairs_of_loop (mark_at c.args.barriers.now) (mark_at c.args.subject.now) c.args.node c.args.body.now c.in_ok-through.through c.behind.result _ _ _ _ _ _ (λ (cs : List Cut). each cs (Keep c.args.node)) _ c.in_ok-through.ensures.through
    c.behind.ensures (c.in_ok-through.ensures.pairs (Head c.args.node ∷ []) (one_told (Head c.args.node))) (c.in_ok-count_each.ensures cuts e) c.in_ok-count_each-2.ensures (h (Exit c.args.node ∷ []) (one_told (Exit c.args.node))))
    c.count_barrier.ensures

pub count_stmt-returns-in_ok-count_expr-in-Put-clause-pairs : goal.count_stmt-returns-in_ok-count_expr-in-Put-clause-pairs
count_stmt-returns-in_ok-count_expr-in-Put-clause-pairs t c = λ cuts e.
    rw c.in-Put.is
    (more_two _ _ _ _ _ (c.in_ok-count_barrier-in-Put.ensures cuts e) (more_two _ _ _ _ _ (c.in_ok-count_site-in-Put.ensures cuts e) (more_two _ _ _ _ _ (c.in_ok-count_index-in-Put.ensures cuts e) (c.in_ok-count_expr-in-Put.ensures cuts e))))

pub count_stmt-returns-in_ok-count_barrier-in-If-clause-through : goal.count_stmt-returns-in_ok-count_barrier-in-If-clause-through
count_stmt-returns-in_ok-count_barrier-in-If-clause-through t c =
    rw c.in-If.is
    (through_if (mark_at c.args.barriers.now) _ c.in-If.test _ _ c.as_slice.result.now c.as_slice-in-If.result.now _ _ _ c.as_slice.ensures c.as_slice-in-If.ensures c.in_ok-first-in-If.ensures.through c.in_ok-second-in-If.ensures.through
    c.either-through.ensures)

pub count_stmt-returns-in_ok-count_barrier-in-If-clause-pairs : goal.count_stmt-returns-in_ok-count_barrier-in-If-clause-pairs
count_stmt-returns-in_ok-count_barrier-in-If-clause-pairs t c = λ cuts e.
    rw c.in-If.is
    (pairs_of_if (mark_at c.args.barriers.now) (mark_at c.args.subject.now) _ c.in-If.test _ _ c.as_slice.result.now c.as_slice-in-If.result.now _ _ c.either-through.result c.args.live c.behind.result _ _ _ _ _ cuts c.as_slice.ensures c.as_slice-in-If.ensures
    c.in_ok-first-in-If.ensures.through c.in_ok-second-in-If.ensures.through c.either-through.ensures c.behind.ensures e (c.in_ok-count_cond-in-If.ensures cuts e) (c.in_ok-first-in-If.ensures.pairs cuts e) (c.in_ok-second-in-If.ensures.pairs cuts e)
    c.in_ok-count_barrier-in-If.ensures)

pub count_stmt-returns-in_ok-count_loop-in-For-clause-pairs : goal.count_stmt-returns-in_ok-count_loop-in-For-clause-pairs
count_stmt-returns-in_ok-count_loop-in-For-clause-pairs t c = λ cuts e.
    rw c.in-For.is
    (pairs_of_for (mark_at c.args.barriers.now) (mark_at c.args.subject.now) _ c.in-For.name c.in-For.lo c.in-For.hi _ c.as_slice-in-For.result.now _ _ _ _ cuts c.as_slice-in-For.ensures (c.in_ok-count_expr-in-For.ensures cuts e)
    (c.in_ok-count_expr-in-For-2.ensures cuts e) (c.in_ok-count_loop-in-For.ensures cuts e))

pub count_stmt-returns-in_ok-count_loop-in-While-clause-pairs : goal.count_stmt-returns-in_ok-count_loop-in-While-clause-pairs
count_stmt-returns-in_ok-count_loop-in-While-clause-pairs t c = λ cuts e.
    rw c.in-While.is
    (pairs_of_while (mark_at c.args.barriers.now) (mark_at c.args.subject.now) _ c.in-While.test _ c.as_slice-in-While.result.now _ _ _ cuts c.as_slice-in-While.ensures c.in_ok-count_cond-in-While.ensures (c.in_ok-count_loop-in-While.ensures cuts e))

pub count_block-loop-stmt-preserved : goal.count_block-loop-stmt-preserved
count_block-loop-stmt-preserved t c =
    let b = mark_at c.args.barriers.now in
    let s = mark_at c.args.subject.now in
    let sts = c.args.block.now in
    let i = c.loop-stmt.stmt-index in
    let st = c.stmt-item.result in
    let low : i < length sts = first_of (search rules, omega (arith, c.loop-stmt-test.true)) in
    let read : st ≡ get_or sts i st = first_of (cc, search rules) in
    let next : drop i sts ≡ st ∷ drop (i + 1) sts = drop_next sts i st low read in
    let left = c.leaving-left.ensures st.kind c.in_ok-inside.ensures.through in
    record {
      through =
          one_passed b c.loop-stmt.through c.leaving-left.result c.through_both-through.result st (drop (i + 1) sts) sts (subst (λ (l : List Stmt). IsSoFar b c.loop-stmt.through l sts) next c.loop-stmt.invariant.through) left
          c.through_both-through.ensures.passes c.through_both-through.ensures.exits;
      pairs =
          λ cuts e. let k = c.loop-stmt.invariant.pairs cuts e in (
            onward b k.0 st.node.id st.kind,
            c.behind-here.ensures k.0 (leaving b st.node.id st.kind) k.1 left.exits ∙ ap (λ (q : Bool). saturated (length ((if q then k.0 else []) ++ leaving b st.node.id st.kind))) left.passes,
            λ new h. k.2 new
                (subst (λ (l : List Stmt). IsMore c.loop-stmt.found new (list_pairs b s k.0 l)) (sym next) (next_counted b s c.loop-stmt.found c.count_stmt.new.found new k.0 _ st (drop (i + 1) sts) (c.in_ok-inside.ensures.pairs k.0 k.1) refl h)),
          );
    }

pub count_block-returns-clause-through : goal.count_block-returns-clause-through
count_block-returns-clause-through t c =
    let sts = c.args.block.now in
    let i = c.loop-stmt.stmt-index in
    let low : length sts ≤ i = first_of (search rules, omega (arith, c.loop-stmt-test.false)) in
    all_passed (mark_at c.args.barriers.now) c.loop-stmt.through (drop i sts) sts (at_drop_all (λ (l : List Stmt). l) sts i low) c.loop-stmt.invariant.through

pub count_block-returns-clause-pairs : goal.count_block-returns-clause-pairs
count_block-returns-clause-pairs t c = λ cuts e.
    let sts = c.args.block.now in
    let i = c.loop-stmt.stmt-index in
    let low : length sts ≤ i = first_of (search rules, omega (arith, c.loop-stmt-test.false)) in
    let k = c.loop-stmt.invariant.pairs cuts e in
    k.2 c.loop-stmt.found
    (subst (λ (l : List Stmt). IsMore c.loop-stmt.found c.loop-stmt.found (list_pairs (mark_at c.args.barriers.now) (mark_at c.args.subject.now) k.0 l)) (sym (at_drop_all (λ (l : List Stmt). l) sts i low)) (no_more c.loop-stmt.found))
