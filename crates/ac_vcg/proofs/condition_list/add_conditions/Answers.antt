use Rattle.std.proofs.Common.{◌≡◌, ◌∷◌, ◌++◌, [], List, length, ap, sym, ◌∙◌, append-nil, rules, arith}
use Rattle.ac_logic.specs.declared.condition.Condition.{Condition}
use Rattle.ac_vcg.specs.Ground.{IsMade}
use Rattle.ac_vcg.proofs.Measured.{none_left}
use Rattle.ac_vcg.proofs.Taken.{found_last, pushed_next}
use Rattle.ac_vcg.proofs.condition_list.add_conditions.Goals as goal

pub loop-last-preserved : goal.loop-last-preserved
loop-last-preserved c = λ cs h.
    let left = c.pop.new.self.items in
    let x = c.in-Some.last in
    let popped : c.loop-last.found.items ≡ left ++ x ∷ [] = c.in-Some.ensures.items in
    let inv = c.loop-last.invariant cs h in
    let parts = found_last IsMade c.args.name c.loop-last.found.items left x inv.0 popped inv.1 in
    (parts.1, parts.4, pushed_next c.loop-last.all.items c.push.new.self.items parts.1 _ parts.0 c.made_condition.result inv.0 c.in_ok-push.ensures.items (c.made_condition.ensures parts.0 parts.3) parts.2 inv.2)

pub returns : goal.returns
returns c = λ cs h.
    let inv = c.loop-last.invariant cs h in
    let empty : length c.loop-last.found.items ≡ 0 = first_of (search rules, omega (arith, c.pop.ensures.len, c.loop-last.found.ok.0)) in
    let none = none_left IsMade c.args.name c.loop-last.found.items inv.0 empty inv.1 in
    sym (append-nil c.loop-last.all.items) ∙ (ap (λ (l : List Condition). c.loop-last.all.items ++ l) (sym none) ∙ inv.2)
