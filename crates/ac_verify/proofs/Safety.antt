-- Where no event is bad by the policies that a set gives, no run violates a selected policy.
use Rattle.std.proofs.Common.{List, subst}
use Rattle.std.specs.Prelude.{All}
use Rattle.std.proofs.lemmas.List.Elements.{All-contains}
use Rattle.ac_tree.specs.declared.policy.PolicyName.{PolicyName}
use Rattle.ac_tree.specs.declared.policy.PolicyName.TheVariants as name
use Rattle.ac_tree.specs.declared.program.Program.{Program}
use Rattle.ac_run.specs.declared.event.Event.{Event}
use Rattle.ac_run.specs.declared.event.Event.TheVariants.{Read, Write, Hand}
use Rattle.ac_run.specs.declared.start.Start.{Start}
use Rattle.ac_run.specs.Declarations.{NameBytes}
use Rattle.ac_run.specs.Safety.{Safe}
use Rattle.ac_run.specs.Violation.{Bad}
use Rattle.ac_policy.specs.AnyPolicy.{Forbids}
use Rattle.ac_policy_set.specs.declared.policy_set.PolicySet.{PolicySet}
use Rattle.ac_policy_set.specs.Selected.{policies_of, policy_named}
use Rattle.ac_proof.specs.declared.certificate.CertPart.{CertPart}
use Rattle.ac_verify.specs.Certificates.{Keeps, part_policies, HaveSelectedPolicies}

-- init and bounds ask for no roles
forbidden : (p : Program) (start : Start) (roles : List NameBytes) (policy : PolicyName) (before : List Event) (event : Event) → Bad p start roles policy before event → Forbids (policy_named roles policy) p start before event
forbidden p start roles name.Init before (Read c) h = h
forbidden p start roles name.Init before (Write c n) h = h
forbidden p start roles name.Init before (Hand x role numbers) h = h
forbidden p start roles name.Bounds before (Read c) h = h
forbidden p start roles name.Bounds before (Write c n) h = h
forbidden p start roles name.Bounds before (Hand x role numbers) h = h
forbidden p start roles name.Symm before event h = h

pub all_safe : (p : Program) (set : PolicySet) (parts : List CertPart) → HaveSelectedPolicies set parts → All (Keeps p set.roles) (part_policies parts) → Safe p (policies_of set)
all_safe p set parts e kept =
    let each : All (Keeps p set.roles) set.policies = subst (λ ps. All (Keeps p set.roles) ps) e kept in
    λ start n policy fits selected violated.
    All-contains (Keeps p set.roles) set.policies policy each selected start n fits (violated.0, violated.1, violated.2, violated.3, forbidden p start set.roles policy violated.0 violated.1 violated.4)
