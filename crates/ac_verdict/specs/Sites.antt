-- The conditions of a supported program. Under bounds there is one for each write, that its index is below the extent; it
-- reads nothing and uses nothing, so that init and symm ask nothing of it.
use Rattle.std.specs.Prelude.{ℕ, not, List, [], length, map, filter}
use Rattle.std.specs.List.{flat_map}
use Rattle.ac_tree.specs.declared.node.Node.{Node}
use Rattle.ac_tree.specs.declared.policy.PolicyName.{PolicyName}
use Rattle.ac_tree.specs.declared.policy.PolicyName.TheVariants.{Init, Bounds, Symm}
use Rattle.ac_tree.specs.declared.program.Program.{Program}
use Rattle.ac_run.specs.StraightWrites.{is_write_within}
use Rattle.ac_verdict.specs.declared.count.Count.{Count}

-- the writes outside their arrays, in the order of the text
abbrev pub outside : Program → List Node
outside p = map (λ st. st.node) (filter (λ st. not (is_write_within p st.kind)) p.body)

abbrev pub conditions_under : PolicyName → Program → ℕ
conditions_under Bounds p = length p.body
conditions_under Init p = 0
conditions_under Symm p = 0

-- the nodes at which a condition is unproved, in order
abbrev pub unproved_under : PolicyName → Program → List Node
unproved_under Bounds p = outside p
unproved_under Init p = []
unproved_under Symm p = []

abbrev pub count_under : Program → PolicyName → Count
count_under p policy = record { policy = policy; conditions = conditions_under policy p; unproved = length (unproved_under policy p) }

abbrev pub counts : List PolicyName → Program → List Count
counts policies p = map (count_under p) policies

abbrev pub unproved : List PolicyName → Program → List Node
unproved policies p = flat_map (λ policy. unproved_under policy p) policies
