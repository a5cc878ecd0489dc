use Rattle.std.proofs.Common.{◌≡◌, List, sym, ap, ◌∙◌}
use Rattle.std.specs.Prelude.{slice_get, Some, None}
use Rattle.ac_evaluation.specs.declared.shape.Shape.{Shape as Kept}
use Rattle.ac_evaluation.specs.Shapes.{item_names}
use Rattle.ac_evaluation.proofs.Found.{shape_at, at_place}
use Rattle.ac_evaluation.proofs.store.Store.shape.Goals as goal

pub returns-in_default : goal.returns-in_default
returns-in_default c =
    let place = c.place.ensures (item_names c.self.inside.program.now.items) c.self.invariant.declared in
    rw (← c.self.view_is) (sym (shape_at c.self.inside.program.now c.self.inside.start c.self.inside.shapes.items c.args.name.now None c.self.invariant.shaped (ap (at_place c.self.inside.shapes.items) (sym place ∙ c.in_default.is))))

pub returns-in-Some-at : goal.returns-in-Some-at
returns-in-Some-at c =
    let place = c.place.ensures (item_names c.self.inside.program.now.items) c.self.invariant.declared in
    let there : slice_get c.self.inside.shapes.items c.in-Some.place ≡ Some c.in-Some-at.shape.now =
    ap (λ (xs : List Kept). slice_get xs c.in-Some.place) (sym c.as_slice.ensures.value) ∙ sym c.in-Some-at.ensures in
    rw (← c.self.view_is)
    (sym (shape_at c.self.inside.program.now c.self.inside.start c.self.inside.shapes.items c.args.name.now (Some c.in-Some-at.shape.now) c.self.invariant.shaped (ap (at_place c.self.inside.shapes.items) (sym place ∙ c.in-Some.is) ∙ there)))

pub returns-in-None : goal.returns-in-None
returns-in-None c =
    let place = c.place.ensures (item_names c.self.inside.program.now.items) c.self.invariant.declared in
    let there : slice_get c.self.inside.shapes.items c.in-Some.place ≡ None = ap (λ (xs : List Kept). slice_get xs c.in-Some.place) (sym c.as_slice.ensures.value) ∙ sym c.in-None.ensures in
    rw (← c.self.view_is)
    (sym (shape_at c.self.inside.program.now c.self.inside.start c.self.inside.shapes.items c.args.name.now None c.self.invariant.shaped (ap (at_place c.self.inside.shapes.items) (sym place ∙ c.in-Some.is) ∙ there)))
