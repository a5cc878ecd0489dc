use Rattle.std.proofs.Common.{List, sym, ◌∙◌, subst}
use Rattle.ac_tree.specs.declared.program.Item.{Item}
use Rattle.ac_run.specs.declared.start.StartCell.{StartCell}
use Rattle.ac_evaluation.specs.Places.{ArePlaces}
use Rattle.ac_evaluation.specs.Shapes.{AreShapes, item_names, cell_names}
use Rattle.ac_evaluation.proofs.store.Store.new.Goals as goal

pub invariant_of-result : goal.invariant_of-result
invariant_of-result c = record {
  declared = subst (λ (ds : List Item). ArePlaces (item_names ds) c.in_ok-kinds.kinds.entries) c.as_slice.ensures c.in_ok-kinds.ensures;
  shaped =
      subst (λ (cs : List StartCell). AreShapes c.args.program.now (record { cells = cs }) c.in_ok-shapes.shapes.items)
      (sym (c.from_vec.ensures ∙ c.in_ok-kept.ensures ∙ c.as_slice-4.ensures)) c.in_ok-shapes.ensures;
  held =
      subst (λ (cs : List StartCell). ArePlaces (cell_names cs) c.in_ok-places.places.entries)
      (c.as_slice-2.ensures ∙ sym (c.in_ok-cells.ensures ∙ c.as_slice-3.ensures)) c.in_ok-places.ensures;
}
