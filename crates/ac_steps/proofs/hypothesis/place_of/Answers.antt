use Rattle.std.proofs.Common.{◌≡◌, ◌∙◌, arith, true}
use Rattle.ac_steps.proofs.Firsts.{not_more}
use Rattle.ac_steps.proofs.hypothesis.place_of.Goals as goal

pub loop-i-preserved : goal.loop-i-preserved
loop-i-preserved c = not_more c.args.hyps.now c.args.formula.now c.index-hyps-i.result c.loop-i.i c.loop-i-test.true c.index-hyps-i.is (λ e. (let q : c.same.result ≡ true = c.same.ensures.1 (c.get.ensures ∙ e) in cc)) c.loop-i.invariant

pub unreachable-requires : goal.unreachable-requires
unreachable-requires c = c.loop-i.invariant c.requires.0 (let lt = c.requires.1 in omega arith) c.requires.2
