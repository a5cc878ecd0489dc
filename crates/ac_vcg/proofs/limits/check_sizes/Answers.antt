use Rattle.std.proofs.Common.{◌≡◌, ◌+◌, ◌<◌, Option, None, drop, length, refl, ap, ◌∙◌, rules, arith, inr}
use Rattle.ac_conditions.specs.AllConditions.{at_each}
use Rattle.ac_conditions.specs.Conditions.{conditions_at}
use Rattle.ac_conditions.specs.Part.{part_of}
use Rattle.ac_vcg.specs.declared.fault.VcgFault.{VcgFault}
use Rattle.ac_vcg.specs.Refusals.{or_else, first_refusal}
use Rattle.ac_vcg.proofs.Measured.{first_told}
use Rattle.ac_vcg.proofs.Taken.{refusals_next, sizes_next}
use Rattle.ac_vcg.proofs.limits.check_sizes.Goals as goal

pub loop-target-preserved : goal.loop-target-preserved
loop-target-preserved g c = λ name.
    let p = c.args.program.now in
    let policy = c.args.policy.now in
    let at = conditions_at p name (part_of (g.P.Policy.need_of policy p) (g.P.Policy.effect_of policy p) (g.P.Policy.known_of policy) c.args.annotations.now) in
    let ts = c.args.targets.now in
    let i = c.loop-target.target-index in
    let low : i < length ts = first_of (search rules, omega (arith, c.loop-target-test.true)) in
    let inv = c.loop-target.invariant name in
    let none : c.first_refused.result ≡ None = search rules in (
      refusals_next at (at_each at ts) _ _ ts i c.first_refused.result (c.first_refused.ensures.fault name _ (c.in_ok-found.ensures name)) refl low inv.0 ∙ ap (λ (o : Option VcgFault). or_else o (first_refusal (at_each at (drop (i + 1) ts)))) none,
      sizes_next at _ _ ts i c.loop-target.total c.first_refused.new.total _ (c.first_refused.ensures.total name _ (c.in_ok-found.ensures name) none) refl low inv.1,
    )

pub returns-in-Some-clause-fault : goal.returns-in-Some-clause-fault
returns-in-Some-clause-fault g c = λ name.
    let p = c.args.program.now in
    let policy = c.args.policy.now in
    let at = conditions_at p name (part_of (g.P.Policy.need_of policy p) (g.P.Policy.effect_of policy p) (g.P.Policy.known_of policy) c.args.annotations.now) in
    let ts = c.args.targets.now in
    let i = c.loop-target.target-index in
    let low : i < length ts = first_of (search rules, omega (arith, c.loop-target-test.true)) in
    let inv = c.loop-target.invariant name in
    inr (first_told (at_each at ts) c.first_refused.result (first_refusal (at_each at (drop (i + 1) ts))) c.in-Some.refusal
    (refusals_next at (at_each at ts) _ _ ts i c.first_refused.result (c.first_refused.ensures.fault name _ (c.in_ok-found.ensures name)) refl low inv.0) c.in-Some.is)
