-- The label of what is to be shown at a target.
use Rattle.ac_tree.specs.declared.path.Target.{Target}
use Rattle.ac_tree.specs.declared.path.Target.TheVariants.{Entry, Keep, Barrier, Site}
use Rattle.ac_logic.specs.declared.label.Label.{Label}
use Rattle.ac_logic.specs.declared.label.LabelKind.TheVariants as label

abbrev pub target_label : Target → Label
target_label (Entry n) = record { kind = label.Entry; node = n }
target_label (Keep n) = record { kind = label.Keep; node = n }
target_label (Barrier n) = record { kind = label.Barrier; node = n }
target_label (Site n) = record { kind = label.Need; node = n }
