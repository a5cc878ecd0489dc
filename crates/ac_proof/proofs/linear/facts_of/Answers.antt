use Rattle.std.proofs.Common.{◌≡◌, [], map, true, false, Some, sym, ap, ◌∙◌}
use Rattle.ac_linear.specs.NormalForm.{and_then}
use Rattle.ac_proof.specs.Checked.{goal_of}
use Rattle.ac_proof.specs.Linear.{denial}
use Rattle.ac_proof.specs.Gathering.{some_if, facts_behind}
use Rattle.ac_proof.proofs.Gatherings.{facts_of_step-is}
use Rattle.ac_proof.proofs.linear.facts_of.Goals as goal

pub returns-then-branch : goal.returns-then-branch
returns-then-branch c =
    let d : and_then (denial c.args.goal.now) (facts_behind []) ≡ Some c.in-Some.facts = sym c.in_ok-facts.ensures ∙ c.in-Some.is in
    let n : some_if true c.push_facts.new.facts ≡ facts_behind c.in-Some.facts (map goal_of c.args.premises.now) = rw c.if-branch.true at c.in_ok-push_facts.ensures in
    n ∙ (ap (λ o. and_then o (λ ls. facts_behind ls (map goal_of c.args.premises.now))) (sym d) ∙ facts_of_step-is c.args.goal.now (map goal_of c.args.premises.now))

pub returns-else-branch : goal.returns-else-branch
returns-else-branch c =
    let d : and_then (denial c.args.goal.now) (facts_behind []) ≡ Some c.in-Some.facts = sym c.in_ok-facts.ensures ∙ c.in-Some.is in
    let n : some_if false c.push_facts.new.facts ≡ facts_behind c.in-Some.facts (map goal_of c.args.premises.now) = rw c.if-branch.false at c.in_ok-push_facts.ensures in
    n ∙ (ap (λ o. and_then o (λ ls. facts_behind ls (map goal_of c.args.premises.now))) (sym d) ∙ facts_of_step-is c.args.goal.now (map goal_of c.args.premises.now))
