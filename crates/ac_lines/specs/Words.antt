-- The words of certificate lines.
use Rattle.std.specs.Prelude.{ℕ, List, codes}
use Rattle.ac_tree.specs.declared.policy.PolicyName.{PolicyName}
use Rattle.ac_tree.specs.declared.policy.PolicyName.TheVariants as policy
use Rattle.ac_tree.specs.declared.path.Cut.{Cut}
use Rattle.ac_tree.specs.declared.path.Cut.TheVariants as cut
use Rattle.ac_tree.specs.declared.path.Target.{Target}
use Rattle.ac_tree.specs.declared.path.Target.TheVariants as target
use Rattle.ac_tree.specs.declared.path.Place.{Place}
use Rattle.ac_tree.specs.declared.path.Place.TheVariants as place

abbrev pub policy_word : PolicyName → List ℕ
policy_word policy.Init = codes "init"
policy_word policy.Bounds = codes "bounds"
policy_word policy.Symm = codes "symm"

abbrev pub cut_word : Cut → List ℕ
cut_word cut.Start = codes "start"
cut_word (cut.Head n) = codes "head"
cut_word (cut.Exit n) = codes "exit"
cut_word (cut.After n) = codes "after"

-- the start of a program has the node 0
abbrev pub cut_node : Cut → ℕ
cut_node cut.Start = 0
cut_node (cut.Head n) = n.0
cut_node (cut.Exit n) = n.0
cut_node (cut.After n) = n.0

abbrev pub target_word : Target → List ℕ
target_word (target.Entry n) = codes "entry"
target_word (target.Keep n) = codes "keep"
target_word (target.Barrier n) = codes "barrier"
target_word (target.Site n) = codes "site"

abbrev pub target_node : Target → ℕ
target_node (target.Entry n) = n.0
target_node (target.Keep n) = n.0
target_node (target.Barrier n) = n.0
target_node (target.Site n) = n.0

abbrev pub place_word : Place → List ℕ
place_word (place.Loop n) = codes "loop"
place_word (place.After n) = codes "after"

abbrev pub place_node : Place → ℕ
place_node (place.Loop n) = n.0
place_node (place.After n) = n.0
