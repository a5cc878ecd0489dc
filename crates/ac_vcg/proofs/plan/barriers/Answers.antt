use Rattle.std.proofs.Common.{◌≡◌, ◌<◌, ◌≤◌, List, drop, get_or, length, rules, arith}
use Rattle.std.proofs.lemmas.List.{at_drop_all}
use Rattle.ac_logic.specs.declared.condition.Annotation.{Annotation}
use Rattle.ac_vcg.proofs.Barred.{barriers_next, barriers_all}
use Rattle.ac_profile.proofs.Merged.{drop_next}
use Rattle.ac_vcg.proofs.plan.barriers.Goals as goal

pub loop-annotation-preserved : goal.loop-annotation-preserved
loop-annotation-preserved c = λ n.
    let all = c.args.annotations.now in
    let i = c.loop-annotation.annotation-index in
    let a = c.annotation-item.result in
    let low : i < length all = first_of (search rules, omega (arith, c.loop-annotation-test.true)) in
    let read : a ≡ get_or all i a = first_of (cc, search rules) in
    barriers_next all i a c.loop-annotation.cuts.items c.add_barrier.new.cuts.items n _ (drop_next all i a low read) (c.in_ok-add_barrier.ensures n) (c.loop-annotation.invariant n)

pub returns : goal.returns
returns c = λ n.
    let all = c.args.annotations.now in
    let i = c.loop-annotation.annotation-index in
    let low : length all ≤ i = first_of (search rules, omega (arith, c.loop-annotation-test.false)) in
    barriers_all c.loop-annotation.cuts.items (drop i all) n _ (at_drop_all (λ (l : List Annotation). l) all i low) (c.loop-annotation.invariant n)
