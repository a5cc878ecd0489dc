use Rattle.std.proofs.Common.{◌<◌, ◌≤◌, length, sym, ◌∙◌, rules, arith}
use Rattle.std.specs.Prelude.{nat_abs}
use Rattle.std.proofs.lemmas.Int.{to_z-of_z}
use Rattle.ac_run.specs.Memory.{place_in}
use Rattle.ac_evaluation.specs.Shapes.{shape_of, cell_names}
use Rattle.ac_evaluation.proofs.Found.{wrote_nothing, wrote, is_below}
use Rattle.ac_evaluation.proofs.lookups.set_number.Goals as goal

pub returns-in_default : goal.returns-in_default
returns-in_default c =
    wrote_nothing c.args.cells.now.items c.args.cell.now.name (place_in (shape_of c.args.shape) (nat_abs c.args.cell.now.i) (nat_abs c.args.cell.now.j)) c.args.number
    (sym (c.place.ensures (cell_names c.args.cells.now.items) c.requires) ∙ c.in_default.is)

pub returns-then-at-len : goal.returns-then-at-len
returns-then-at-len c =
    let low : c.in-Some.at < length c.args.cells.now.items = omega (arith, c.args.cells.now.ok.0) in
    wrote c.args.cells.now.items c.args.cell.now.name (place_in (shape_of c.args.shape) (nat_abs c.args.cell.now.i) (nat_abs c.args.cell.now.j)) c.args.number
    c.in-Some.at (sym (c.place.ensures (cell_names c.args.cells.now.items) c.requires) ∙ c.in-Some.is)
    c.index_mut-held.result.now c.put.new.numbers low c.index_mut-held.ensures.value (search (rules, to_z-of_z))

pub returns-else-at-len : goal.returns-else-at-len
returns-else-at-len c =
    let past : length c.args.cells.now.items ≤ c.in-Some.at = omega (arith, c.args.cells.now.ok.0) in
    absurd (is_below c.args.cells.now.items c.args.cell.now.name (place_in (shape_of c.args.shape) (nat_abs c.args.cell.now.i) (nat_abs c.args.cell.now.j)) c.args.number
    c.in-Some.at (sym (c.place.ensures (cell_names c.args.cells.now.items) c.requires) ∙ c.in-Some.is) past)
