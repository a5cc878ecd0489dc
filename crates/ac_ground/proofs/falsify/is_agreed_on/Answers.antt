use Rattle.std.proofs.Common.{◌∙◌, ap}
use Rattle.std.specs.List.{list_all}
use Rattle.ac_ground.specs.Table.{agrees}
use Rattle.ac_ground.proofs.Tables.{placed_pass}
use Rattle.ac_ground.proofs.falsify.is_agreed_on.Goals as goal

pub returns : goal.returns
returns c =
    c.in_ok-agreed.ensures ∙ (ap (λ ps. list_all (λ p. list_all (λ q. agrees c.args.valuation.now p.cell q.cell) ps) ps) c.as_slice.ensures ∙ placed_pass c.args.valuation.now c.in_ok-placed.placed c.args.reads.now c.in_ok-placed.ensures.cells)
