use Rattle.std.proofs.Common.{◌<◌, ◌≤◌, length, refl, rules, arith}
use Rattle.ac_conditions.specs.Conditions.{conditions_at}
use Rattle.ac_conditions.specs.Part.{part_of}
use Rattle.ac_vcg.proofs.Limited.{already_above}
use Rattle.ac_vcg.proofs.Taken.{counts_next, counts_told, found_length}
use Rattle.ac_vcg.proofs.plan.count_all.Goals as goal

pub loop-target-preserved : goal.loop-target-preserved
loop-target-preserved g c = λ name.
    let p = c.args.program.now in
    let policy = c.args.policy.now in
    let at = conditions_at p name (part_of (g.P.Policy.need_of policy p) (g.P.Policy.effect_of policy p) (g.P.Policy.known_of policy) c.args.annotations.now) in
    let ts = c.args.targets.now in
    let i = c.loop-target.target-index in
    let low : i < length ts = first_of (search rules, omega (arith, c.loop-target-test.true)) in
    counts_next at _ _ ts i c.loop-target.count _ c.saturating_add-count.result _ (found_length _ name c.in_ok-found.found.items _ (c.in_ok-found.ensures name)) refl low (search rules) (c.loop-target.invariant name)

pub returns : goal.returns
returns g c = λ name.
    let p = c.args.program.now in
    let policy = c.args.policy.now in
    let at = conditions_at p name (part_of (g.P.Policy.need_of policy p) (g.P.Policy.effect_of policy p) (g.P.Policy.known_of policy) c.args.annotations.now) in
    let ts = c.args.targets.now in
    let i = c.loop-target.target-index in
    let low : length ts ≤ i = first_of (search rules, omega (arith, c.loop-target-test.false)) in
    counts_told at ts i c.loop-target.count low (c.loop-target.invariant name)

pub returns-then-count-most : goal.returns-then-count-most
returns-then-count-most g c = λ name.
    let p = c.args.program.now in
    let policy = c.args.policy.now in
    let at = conditions_at p name (part_of (g.P.Policy.need_of policy p) (g.P.Policy.effect_of policy p) (g.P.Policy.known_of policy) c.args.annotations.now) in
    let ts = c.args.targets.now in
    let i = c.loop-target.target-index in
    let low : i < length ts = first_of (search rules, omega (arith, c.loop-target-test.true)) in
    let most : 20000 < c.saturating_add-count.result = first_of (search rules, omega (arith, c.if-count-most.true, c.number-most.ensures)) in
    already_above c.saturating_add-count.result _ _ most (counts_next at _ _ ts i c.loop-target.count _ c.saturating_add-count.result _ (found_length _ name c.in_ok-found.found.items _ (c.in_ok-found.ensures name)) refl low (search rules) (c.loop-target.invariant name))
