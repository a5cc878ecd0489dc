-- What a set selects.
use Rattle.std.specs.Prelude.{List}
use Rattle.ac_tree.specs.declared.policy.PolicyName.{PolicyName}
use Rattle.ac_tree.specs.declared.policy.PolicyName.TheVariants as name
use Rattle.ac_run.specs.Declarations.{NameBytes}
use Rattle.ac_run.specs.Safety.{Policies}
use Rattle.ac_policy.specs.declared.any_policy.AnyPolicy.{AnyPolicy}
use Rattle.ac_policy.specs.declared.any_policy.AnyPolicy.TheVariants.{Init, Bounds, Symm}
use Rattle.ac_policy_set.specs.declared.policy_set.PolicySet.{PolicySet}

-- the policies and roles by which runs are judged
abbrev pub policies_of : PolicySet → Policies
policies_of set = record { selected = set.policies; roles = set.roles }

-- the policy of a name, with the roles in which it asks for symmetric matrices
abbrev pub policy_named : List NameBytes → PolicyName → AnyPolicy
policy_named roles name.Init = Init
policy_named roles name.Bounds = Bounds
policy_named roles name.Symm = Symm roles
