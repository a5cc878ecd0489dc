use Rattle.std.proofs.Common.{◌≡◌, ◌≤◌, ◌<◌, ap, inr, length, rules, subst}
use Rattle.ac_expand.specs.declared.answer.ExpandFault.TheVariants as fault
use Rattle.ac_expand.specs.Index.{index_terms}
use Rattle.ac_expand.proofs.Whole.{counted, counted_above}
use Rattle.ac_expand.proofs.expansion.expand.Goals as goal

pub returns-clause-instances : goal.returns-clause-instances
returns-clause-instances c =
    let q : c.in_ok-index.index ≡ index_terms c.args.condition.now.formula = search rules in
    let r : c.len.result ≡ length c.in_ok-index.index = search rules in
    let k : c.count-instances.result ≤ 4096 = search rules in
    counted c.args.condition.now.formula c.get-3.result.now c.in_ok-index.index c.len.result c.count-instances.result c.get-3.ensures q r c.count-instances.ensures k

pub returns-clause-within : goal.returns-clause-within
returns-clause-within c =
    let q : c.in_ok-index.index ≡ index_terms c.args.condition.now.formula = search rules in
    let r : c.len.result ≡ length c.in_ok-index.index = search rules in
    let k : c.count-instances.result ≤ 4096 = search rules in
    subst (λ n. n ≤ 4096) (counted c.args.condition.now.formula c.get-3.result.now c.in_ok-index.index c.len.result c.count-instances.result c.get-3.ensures q r c.count-instances.ensures k) k

pub returns-then-instances-limit-clause-refused : goal.returns-then-instances-limit-clause-refused
returns-then-instances-limit-clause-refused c =
    let q : c.in_ok-index.index ≡ index_terms c.args.condition.now.formula = search rules in
    let r : c.len.result ≡ length c.in_ok-index.index = search rules in
    let k : 4096 < c.count-instances.result = search rules in
    let l : c.number-limit.result ≡ 4096 = search rules in
    inr (counted_above c.args.condition.now.formula c.get-3.result.now c.in_ok-index.index c.len.result c.count-instances.result c.get-3.ensures q r c.count-instances.ensures k, ap (λ n. fault.Instances n) l)
