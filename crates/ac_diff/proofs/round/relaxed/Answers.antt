use Rattle.std.proofs.Common.{◌≡◌, ◌∙◌, ◌<◌, ◌+◌, ◌+ℤ◌, ◌≤ℤ◌, length, set, subst, sym, ap, arith, rules}
use Rattle.std.proofs.lemmas.Int.{ints}
use lib.Signed.{◌<ℤ◌}
use mir.Syntax.{w128}
use mir.Val.{to_z, of_z}
use Rattle.ac_diff.specs.Differences.{fact}
use Rattle.ac_diff.specs.Nodes.{at, from, to, place, IsRelaxed}
use Rattle.ac_diff.proofs.Rounds.{relax_none, relax_same, relax_less, place_within, fact_is, node_read}
use Rattle.ac_diff.proofs.round.relaxed.Goals as goal
use Rattle.ac_diff.proofs.round.relaxed.Goals.{then-most-index, else-most-index}

pub loop-i-init : goal.loop-i-init
loop-i-init c = relax_none c.args.facts.now c.args.round c.args.old.now c.in_ok-new.new.items (search rules)

pub allowed-most-requires-clause-fact : goal.allowed-most-requires-clause-fact
allowed-most-requires-clause-fact c = fact_is c.args.units c.args.facts.now c.loop-i.i c.requires.facts c.loop-i-test.true

pub loop-i-preserved : goal.loop-i-preserved
loop-i-preserved c =
    let a : c.allowed-most.result ≡ (at c.args.old.now (from c.args.facts.now c.loop-i.i)).value +ℤ (fact c.args.facts.now c.loop-i.i).bound = c.allowed-most.ensures in
    let t : c.place-to.result ≡ to c.args.facts.now c.loop-i.i = c.place-to.ensures in
    let p : to c.args.facts.now c.loop-i.i < c.args.units + 1 = place_within c.args.units (fact c.args.facts.now c.loop-i.i).plus (fact_is c.args.units c.args.facts.now c.loop-i.i c.requires.facts c.loop-i-test.true).plus in
    let q : c.index.result.now ≡ at c.loop-i.new.items c.place-to.result = node_read c.loop-i.new.items c.place-to.result c.index.result.now (omega (arith, c.loop-i.invariant.same, c.requires.nodes)) c.index.ensures in
    let v : c.index.result.now.value ≡ (at c.loop-i.new.items (to c.args.facts.now c.loop-i.i)).value = ap (λ x. x.value) q ∙ ap (λ x. (at c.loop-i.new.items x).value) t in
    elim c.if-most-index.branch [
      | then-most-index w ↦
          let l : c.allowed-most.result <ℤ c.index.result.now.value = omega (arith, ints, w.if-most-index.true) in
          let less : ((at c.args.old.now (from c.args.facts.now c.loop-i.i)).value +ℤ (fact c.args.facts.now c.loop-i.i).bound) <ℤ (at c.loop-i.new.items (to c.args.facts.now c.loop-i.i)).value = omega (arith, ints, l, a, v) in
          let e : c.if-most-index.new.items ≡ set c.loop-i.new.items c.place-to.result (record { value = to_z w128 (of_z w128 c.allowed-most.result); round = c.args.round; via = c.loop-i.i }) = ap (λ x. x.items) w.new-is in
          let z : to_z w128 (of_z w128 c.allowed-most.result) ≡ (at c.args.old.now (from c.args.facts.now c.loop-i.i)).value +ℤ (fact c.args.facts.now c.loop-i.i).bound = omega (arith, ints, a) in
          let f : c.if-most-index.new.items ≡ set c.loop-i.new.items (to c.args.facts.now c.loop-i.i) (record { value = (at c.args.old.now (from c.args.facts.now c.loop-i.i)).value +ℤ (fact c.args.facts.now c.loop-i.i).bound; round = c.args.round; via = c.loop-i.i }) = e ∙ (λ k. set c.loop-i.new.items (t k) (record { value = z k; round = c.args.round; via = c.loop-i.i })) in
          subst (λ ns. IsRelaxed c.args.facts.now c.args.round c.args.old.now ns (c.loop-i.i + 1)) (sym f) (relax_less c.args.facts.now c.args.round c.args.old.now c.loop-i.new.items c.loop-i.i c.loop-i.invariant c.loop-i-test.true (omega (arith, c.requires.nodes)) less)
      | else-most-index w ↦
          let l : c.index.result.now.value ≤ℤ c.allowed-most.result = omega (arith, ints, w.if-most-index.false) in
          let low : (at c.loop-i.new.items (to c.args.facts.now c.loop-i.i)).value ≤ℤ ((at c.args.old.now (from c.args.facts.now c.loop-i.i)).value +ℤ (fact c.args.facts.now c.loop-i.i).bound) = omega (arith, ints, l, a, v) in
          let e : c.if-most-index.new.items ≡ c.loop-i.new.items = ap (λ x. x.items) w.new-is in
          subst (λ ns. IsRelaxed c.args.facts.now c.args.round c.args.old.now ns (c.loop-i.i + 1)) (sym e) (relax_same c.args.facts.now c.args.round c.args.old.now c.loop-i.new.items c.loop-i.i c.loop-i.invariant low)
    ]

pub returns : goal.returns
returns c = let e : c.loop-i.i ≡ length c.args.facts.now = omega arith in subst (λ i. IsRelaxed c.args.facts.now c.args.round c.args.old.now c.loop-i.new.items i) e c.loop-i.invariant
