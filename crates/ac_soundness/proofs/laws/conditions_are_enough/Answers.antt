-- The laws of the policy, the ranges of the inputs, the static rules and the conditions are what the induction asks for.
use Rattle.std.proofs.lemmas.List.Elements.{recursion_from_All}
use Rattle.ac_conditions.proofs.TargetsCover.{covers}
use Rattle.ac_conditions.specs.Conditions.{IsValid}
use Rattle.ac_conditions.specs.Part.{part_of}
use Rattle.ac_conditions.specs.Ranges.{ranges}
use Rattle.ac_soundness.proofs.ConditionsValid.{all_valid}
use Rattle.ac_soundness.proofs.Induction.{never_bad}
use Rattle.ac_soundness.proofs.Ranks.{program_ranked}
use Rattle.ac_soundness.proofs.RangesHold.{ranges_hold}
use Rattle.ac_soundness.proofs.laws.conditions_are_enough.Goals as goal

pub returns : goal.returns
returns g c = λ start n fits.
    let policy = c.args.policy.now in
    let p = c.args.program.now in
    let kept = c.requires.accepted in
    let part = part_of (g.P.Policy.need_of policy p) (g.P.Policy.effect_of policy p) (g.P.Policy.known_of policy) c.args.annotations.now in
    never_bad p start part (g.P.Policy.shadow policy p start) (g.P.Policy.bad policy p start)
    (record {
      form = g.met.P.Policy.law_form policy p;
      effect = g.met.P.Policy.law_effect policy p start;
      need = g.met.P.Policy.law_need policy p start kept fits;
      known = g.met.P.Policy.law_known policy p start;
      for_write = g.met.P.Policy.law_for policy p start;
    })
    (ranges p p.items) (λ m s same. ranges_hold p start kept fits m s same)
    (program_ranked p start kept fits)
    (all_valid p c.args.name part (covers p c.args.name part IsValid (recursion_from_All IsValid _ c.requires.hold))) n
