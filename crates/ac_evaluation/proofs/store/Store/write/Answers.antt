use Rattle.std.proofs.Common.{List, sym, ap, ◌∙◌, subst}
use Rattle.ac_run.specs.Declarations.{NameBytes}
use Rattle.ac_evaluation.specs.Places.{ArePlaces}
use Rattle.ac_evaluation.specs.Shapes.{cell_names}
use Rattle.ac_evaluation.proofs.Found.{names-set}
use Rattle.ac_evaluation.proofs.store.Store.write.Goals as goal

pub invariant_of-self : goal.invariant_of-self
invariant_of-self c = record {
  declared = c.self.invariant.declared;
  shaped = c.self.invariant.shaped;
  held =
      subst (λ (ns : List NameBytes). ArePlaces ns c.self.inside.places.entries)
      (sym (ap cell_names c.set_number.ensures ∙ names-set c.self.inside.cells.items c.args.cell.now.name _)) c.self.invariant.held;
}
