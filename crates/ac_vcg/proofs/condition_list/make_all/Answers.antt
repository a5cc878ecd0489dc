use Rattle.std.proofs.Common.{◌<◌, length, refl, rules, arith}
use Rattle.ac_conditions.specs.Conditions.{conditions_at}
use Rattle.ac_conditions.specs.Part.{part_of}
use Rattle.ac_vcg.proofs.Taken.{made_next}
use Rattle.ac_vcg.proofs.condition_list.make_all.Goals as goal

pub loop-target-preserved : goal.loop-target-preserved
loop-target-preserved g c =
    let p = c.args.program.now in
    let policy = c.args.policy.now in
    let at = conditions_at p c.args.name (part_of (g.P.Policy.need_of policy p) (g.P.Policy.effect_of policy p) (g.P.Policy.known_of policy) c.args.annotations.now) in
    let ts = c.args.targets.now in
    let i = c.loop-target.target-index in
    let low : i < length ts = first_of (search rules, omega (arith, c.loop-target-test.true)) in
    made_next at _ _ ts i c.loop-target.all.items _ _ (c.in_ok-add_conditions.ensures _ (c.in_ok-found.ensures c.args.name)) refl low c.loop-target.invariant
