-- What the loop of this function keeps.
use Rattle.std.proofs.Common.{◌≡◌, drop}
use Rattle.ac_tree.specs.StaticRules.{kind_in}
use Rattle.ac_tree.proofs.declared_names.kind_of.Given as goal

abbrev pub invariant-loop-item : goal.invariant-loop-item
invariant-loop-item l = kind_in (drop l.item-index l.items) l.name ≡ kind_in l.items l.name
