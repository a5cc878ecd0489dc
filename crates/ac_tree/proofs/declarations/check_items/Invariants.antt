-- What the loop of this function keeps.
use Rattle.std.proofs.Common.{◌≡◌, [], take, drop}
use Rattle.ac_tree.specs.StaticRules.{first_fault, items_faults}
use Rattle.ac_tree.proofs.declarations.check_items.Given as goal

abbrev pub invariant-loop-count : goal.invariant-loop-count
invariant-loop-count g l = first_fault (items_faults (take l.count l.items) (drop l.count l.items)) ≡ first_fault (items_faults [] l.items)
