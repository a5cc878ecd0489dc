-- When a certificate is accepted for a program and a set of policies, and why it is refused, in the order in which that is
-- looked for.
use Rattle.std.specs.Prelude.{◌≡◌, ◌≢◌, ℕ, List, Some, take, slice_get, map, length, All}
use Rattle.ac_tree.specs.declared.policy.PolicyName.{PolicyName}
use Rattle.ac_tree.specs.declared.program.Program.{Program}
use Rattle.ac_run.specs.Declarations.{NameBytes}
use Rattle.ac_logic.specs.declared.condition.Condition.{Condition}
use Rattle.ac_policy.specs.AnyPolicy.{Forbids, need_at, effect_at, known_at}
use Rattle.ac_policy.specs.declared.any_policy.AnyPolicy.{AnyPolicy}
use Rattle.ac_proof.specs.declared.certificate.CertPart.{CertPart}
use Rattle.ac_proof.specs.declared.certificate.Certificate.{Certificate}
use Rattle.ac_conditions.specs.AllConditions.{all_conditions}
use Rattle.ac_soundness.specs.NeverBad.{NeverBad}
use Rattle.ac_policy_set.specs.declared.policy_set.PolicySet.{PolicySet}
use Rattle.ac_policy_set.specs.Selected.{policy_named}
use Rattle.ac_kernel.specs.declared.refused.Refused.{Refused}
use Rattle.ac_kernel.specs.declared.refused.Refused.TheVariants.{Policies, OutOfMemory}
use Rattle.ac_kernel.specs.Refusals.{IsAccepted, IsRefusal}

-- the policies of the parts, in their order
abbrev pub part_policies : List CertPart → List PolicyName
part_policies parts = map (λ part. part.policy) parts

-- the parts are those of the selected policies, in their order
abbrev pub HaveSelectedPolicies : PolicySet → List CertPart → Type 0
HaveSelectedPolicies set parts = part_policies parts ≡ set.policies

-- no run of the program has an event that the policy of that name forbids
abbrev pub Keeps : Program → List NameBytes → PolicyName → Type 0
Keeps p roles name = NeverBad p (Forbids (policy_named roles name) p)

-- for a program and a set of policies
module _ (p : Program) (set : PolicySet) where
  -- the conditions that are made anew for a part, under the policy that it names
  abbrev pub conditions_for : CertPart → List Condition
  conditions_for part =
      let policy : AnyPolicy = policy_named set.roles part.policy in
      all_conditions p part.policy (need_at policy p) (effect_at policy p) (known_at policy) part.annotations

  abbrev pub IsAcceptedPart : CertPart → Type 0
  IsAcceptedPart part = IsAccepted p part (conditions_for part)

  abbrev pub condition_count : CertPart → ℕ
  condition_count part = length (conditions_for part)

  pub record IsAcceptedCertificate (certificate : Certificate) : Type 0 where
    pub policies : HaveSelectedPolicies set certificate.parts
    pub parts : All IsAcceptedPart certificate.parts

  -- a part is refused, and those before it are accepted
  abbrev pub IsFirstRefusedPart : List CertPart → Refused → Type 0
  IsFirstRefusedPart parts r =
      (i : ℕ) × (part : CertPart) × (slice_get parts i ≡ Some part) × All IsAcceptedPart (take i parts) × IsRefusal p part (conditions_for part) r

  -- Why a certificate is refused: first the policies of its parts are looked at, and then each part in order. Want of memory
  -- says nothing.
  abbrev pub IsCertificateRefusal : Certificate → Refused → Type 0
  IsCertificateRefusal certificate Policies = part_policies certificate.parts ≢ set.policies
  IsCertificateRefusal certificate OutOfMemory = Unit {0}
  IsCertificateRefusal certificate r = HaveSelectedPolicies set certificate.parts × IsFirstRefusedPart certificate.parts r
