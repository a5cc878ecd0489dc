use Rattle.std.proofs.Common.{◌≡◌, [], ◌∷◌, true, false, Some, None, ◌∙◌}
use Rattle.ac_proof.specs.Gathering.{some_if, facts_behind}
use Rattle.ac_proof.proofs.Gatherings.{gathered}
use Rattle.ac_proof.proofs.linear.push_facts.Goals as goal

pub returns-then-not-branch : goal.returns-then-not-branch
returns-then-not-branch c =
    let n : some_if false c.push_fact.new.facts ≡ facts_behind c.loop-p.facts (c.get.result.now ∷ []) = rw c.if-not-branch.true at c.in_ok-push_fact.ensures in
    gathered c.loop-p.facts c.args.premises.now c.loop-p.p-index c.p-item.result c.get.result.now None c.loop-p-test.true c.p-item.is c.get.ensures n ∙ c.loop-p.invariant

pub loop-p-preserved : goal.loop-p-preserved
loop-p-preserved c =
    let n : some_if true c.push_fact.new.facts ≡ facts_behind c.loop-p.facts (c.get.result.now ∷ []) = rw c.if-not-branch.false at c.in_ok-push_fact.ensures in
    gathered c.loop-p.facts c.args.premises.now c.loop-p.p-index c.p-item.result c.get.result.now (Some c.push_fact.new.facts) c.loop-p-test.true c.p-item.is c.get.ensures n ∙ c.loop-p.invariant
