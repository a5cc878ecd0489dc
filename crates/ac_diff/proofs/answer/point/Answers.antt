use Rattle.std.proofs.Common.{◌≡◌, ◌∙◌, ◌<◌, ◌+◌, ◌-ℤ◌, ℕ, length, get_or, pos, neg_ℤ, ◌≤ℤ◌, ◌*◌, ◌^◌, ap, subst, arith}
use Rattle.std.proofs.lemmas.Int.{ints}
use Rattle.ac_diff.specs.Nodes.{at}
use Rattle.ac_diff.proofs.Rounds.{point_is, number_more, longer_numbers}
use Rattle.ac_diff.proofs.answer.point.Goals as goal

pub loop-k-preserved : goal.loop-k-preserved
loop-k-preserved c =
    let b : (neg_ℤ (pos (c.args.units * 2 ^ 62)) ≤ℤ (at c.args.nodes.now 0).value) × ((at c.args.nodes.now 0).value ≤ℤ pos c.args.units) = c.requires.bounded 0 (omega (arith, c.requires.nodes)) in
    let d : (neg_ℤ (pos (c.args.units * 2 ^ 62)) ≤ℤ (at c.args.nodes.now (c.loop-k.k + 1)).value) × ((at c.args.nodes.now (c.loop-k.k + 1)).value ≤ℤ pos c.args.units) = c.requires.bounded (c.loop-k.k + 1) (omega (arith, c.requires.nodes, c.loop-k-test.true)) in
    rw c.in_ok-push.ensures.items (record {
      same = longer_numbers c.loop-k.values.items _ ∙ ap (λ n. n + 1) c.loop-k.invariant.same;
      each = number_more (λ j. (at c.args.nodes.now (j + 1)).value -ℤ (at c.args.nodes.now 0).value) c.loop-k.k c.loop-k.values.items _ c.loop-k.invariant.same (omega (arith, ints, b.0, b.1, d.0, d.1)) c.loop-k.invariant.each;
    })

pub returns : goal.returns
returns c =
    let e : c.loop-k.k ≡ c.args.units = omega arith in
    point_is c.args.units c.args.facts.now c.args.nodes.now c.loop-k.values.items c.requires.facts c.requires.met (c.loop-k.invariant.same ∙ e) (λ k lt. c.loop-k.invariant.each k (omega arith))
