-- The conditions that are made anew. A policy is given by its members: what it asks at a site, what a write does to its shadow
-- variables, and what it knows of a written scalar.
use Rattle.std.specs.Prelude.{List}
use Rattle.ac_tree.specs.declared.policy.PolicyName.{PolicyName}
use Rattle.ac_tree.specs.declared.program.Program.{Program}
use Rattle.ac_logic.specs.declared.condition.Annotation.{Annotation}
use Rattle.ac_logic.specs.declared.condition.Condition.{Condition}
use Rattle.ac_policy.specs.declared.policy.Policy.{Ghosts as Members}
use Rattle.ac_proof.specs.declared.certificate.CertPart.{CertPart}
use Rattle.ac_conditions.specs.AllConditions.{all_conditions}

-- of a program under a policy, with the name that stands in them, and with annotations
abbrev pub conditions_under : {Self : Type 0} → Members Self → Self → Program → PolicyName → List Annotation → List Condition
conditions_under members policy p name annotations = all_conditions p name (members.need_of policy p) (members.effect_of policy p) (members.known_of policy) annotations

-- with the name and the annotations of a part of a certificate, and nothing else of it
abbrev pub conditions_of_part : {Self : Type 0} → Members Self → Self → Program → CertPart → List Condition
conditions_of_part members policy p part = conditions_under members policy p part.policy part.annotations
