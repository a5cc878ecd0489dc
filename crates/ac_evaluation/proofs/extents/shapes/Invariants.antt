use Rattle.std.proofs.Common.{◌≡◌, map, take}
use Rattle.ac_evaluation.specs.Shapes.{shape_of, item_shape}
use Rattle.ac_evaluation.proofs.extents.shapes.Given as goal

-- the declarations so far have their shapes
abbrev pub invariant-loop-item : goal.invariant-loop-item
invariant-loop-item l = map shape_of l.shapes.items ≡ map (item_shape l.names.program.now l.names.start.now) (take l.item-index l.item-items)
