use Rattle.std.proofs.Common.{rules, ◌∙◌}
use Rattle.ac_logic.specs.declared.label.LabelKind.TheVariants as label
use Rattle.ac_preconditions.specs.Opened.{hidden, formula_shape, formula_child}
use Rattle.ac_preconditions.proofs.Sides.{changed_stands}
use Rattle.ac_preconditions.proofs.before.for_entry.Goals as goal

pub returns : goal.returns
unfolding hidden formula_shape formula_child
returns g c =
    changed_stands g.G.Precondition.stands label.Entry c.args.node c.in_ok-whole.whole _ _ _ _ _ (search rules) (c.as_slice.ensures.value ∙ c.in_ok-changes.ensures.changes) c.in_ok-facts.ensures
    (c.in_ok-whole.ensures _ (c.in_ok-changed.ensures _ c.in_ok-goal.ensures))
