use Rattle.std.proofs.Common.{◌≡◌, ◌+◌, ◌∷◌, ◌++◌, [], true, List, is_some, length, ap, sym, ◌∙◌, rules, arith}
use Rattle.ac_logic.specs.declared.condition.Condition.{Condition}
use Rattle.ac_logic.specs.Size.{saturated}
use Rattle.ac_profile.specs.Measure.{IsMeasure}
use Rattle.ac_vcg.specs.Refusals.{first_refusal, total_size}
use Rattle.ac_vcg.proofs.Measured.{is_first, goes_on, none_left}
use Rattle.ac_vcg.proofs.limits.first_refused.Goals as goal

pub loop-last-preserved : goal.loop-last-preserved
loop-last-preserved c = λ name cs h.
    let left = c.pop.new.self.items in
    let x = c.in-Some.last in
    let popped : c.loop-last.found.items ≡ left ++ x ∷ [] = c.in-Some.ensures.items in
    let inv = c.loop-last.invariant name cs h in
    goes_on name c.loop-last.found.items left x c.refusal_in-refusal.result popped (λ d. c.refusal_in-refusal.ensures name d) cs inv.0 inv.1 inv.2 _ _ _ _ (search rules) c.size_in.ensures (search rules) inv.3

pub loop-last-preserved-else-is_some : goal.loop-last-preserved-else-is_some
loop-last-preserved-else-is_some c = λ name cs h.
    let left = c.pop.new.self.items in
    let x = c.in-Some.last in
    let popped : c.loop-last.found.items ≡ left ++ x ∷ [] = c.in-Some.ensures.items in
    let inv = c.loop-last.invariant name cs h in
    goes_on name c.loop-last.found.items left x c.refusal_in-refusal.result popped (λ d. c.refusal_in-refusal.ensures name d) cs inv.0 inv.1 inv.2 _ _ _ _ (search rules) c.size_in.ensures (search rules) inv.3

pub returns-then-is_some-clause-fault : goal.returns-then-is_some-clause-fault
returns-then-is_some-clause-fault c = λ name cs h.
    let left = c.pop.new.self.items in
    let x = c.in-Some.last in
    let popped : c.loop-last.found.items ≡ left ++ x ∷ [] = c.in-Some.ensures.items in
    let inv = c.loop-last.invariant name cs h in
    let some : is_some c.refusal_in-refusal.result ≡ true = search rules in
    is_first name c.loop-last.found.items left x c.refusal_in-refusal.result popped (λ d. c.refusal_in-refusal.ensures name d) cs inv.0 inv.1 inv.2 some

pub returns-clause-fault : goal.returns-clause-fault
returns-clause-fault c = λ name cs h.
    let inv = c.loop-last.invariant name cs h in
    let empty : length c.loop-last.found.items ≡ 0 = first_of (search rules, omega (arith, c.pop.ensures.len, c.loop-last.found.ok.0)) in
    let none = none_left IsMeasure name c.loop-last.found.items inv.0 empty inv.1 in
    sym (inv.2 ∙ ap (λ (l : List Condition). first_refusal l) none)

pub returns-clause-total : goal.returns-clause-total
returns-clause-total c = λ name cs h e.
    let inv = c.loop-last.invariant name cs h in
    let empty : length c.loop-last.found.items ≡ 0 = first_of (search rules, omega (arith, c.pop.ensures.len, c.loop-last.found.ok.0)) in
    let none = none_left IsMeasure name c.loop-last.found.items inv.0 empty inv.1 in
    let alone : c.loop-last.total ≡ c.loop-last.total + 0 = omega arith in
    ap (λ n. saturated n) alone ∙ (ap (λ (l : List Condition). saturated (c.loop-last.total + total_size l)) (sym none) ∙ inv.3)
