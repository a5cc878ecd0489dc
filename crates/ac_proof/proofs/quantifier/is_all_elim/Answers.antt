use Rattle.std.proofs.Common.{◌≡◌, map, [], ◌∷◌}
use Rattle.ac_logic.specs.declared.formula.Formula.TheVariants.{All}
use Rattle.ac_proof.specs.Checked.{goal_of}
use Rattle.ac_proof.proofs.Bodies.{all_one}
use Rattle.ac_proof.proofs.quantifier.is_all_elim.Goals as goal

pub returns : goal.returns
returns c =
    let m : map goal_of c.args.premises.now ≡ All c.in-Some.a.now ∷ [] = c.in-Some.ensures.some in (
      λ y. let h = c.is_opening.ensures.0 y in (c.in-Some.a.now, h.0, m, h.1),
      λ s. let e = all_one s.0 c.in-Some.a.now (map goal_of c.args.premises.now) s.2 m in c.is_opening.ensures.1 (rw e at s.1, s.3),
    )
