-- When a part of a certificate is accepted, and why it is refused, in the order in which that is looked for.
use Rattle.std.specs.Prelude.{◌≡◌, ◌<◌, ◌≤◌, ◌^◌, List, Option, Some, None, length, All}
use Rattle.ac_tree.specs.declared.limit.LimitKind.{LimitKind}
use Rattle.ac_tree.specs.declared.limit.LimitKind.TheVariants as limit
use Rattle.ac_tree.specs.declared.program.Program.{Program}
use Rattle.ac_logic.specs.declared.condition.Condition.{Condition}
use Rattle.ac_proof.specs.declared.certificate.CertPart.{CertPart}
use Rattle.ac_proof.specs.Checked.{HasFewPremises}
use Rattle.ac_vcg.specs.declared.fault.VcgFault.{VcgFault}
use Rattle.ac_vcg.specs.declared.fault.VcgFault.TheVariants as vcg
use Rattle.ac_vcg.specs.Refusals.{refusal_of_all}
use Rattle.ac_kernel.specs.declared.refused.Refused.{Refused}
use Rattle.ac_kernel.specs.declared.refused.Refused.TheVariants.{Policies, Annotation, Limit, Missing, Differs, Step, Extra, OutOfMemory}
use Rattle.ac_kernel.specs.Entries.{AreShown, IsFirstRefused}
use Rattle.ac_kernel.specs.WellFormed.{IsWellFormed, IsFirstIllFormed}

-- Each of its annotations, and each premise of a step of its proofs, has an index of 32 bits.
pub record HasSmallIndexes (part : CertPart) : Type 0 where
  pub annotations : length part.annotations < 2 ^ 32
  pub proofs : All (λ e. HasFewPremises e.proof) part.conditions

-- Want of memory says nothing, here and below.
abbrev pub IsAnnotationRefusal : Program → CertPart → Refused → Type 0
IsAnnotationRefusal p part (Annotation policy index) = (policy ≡ part.policy) × IsFirstIllFormed p part.annotations index
IsAnnotationRefusal p part OutOfMemory = Unit {0}
IsAnnotationRefusal p part _ = ⊥

-- the limit that is passed, where conditions are refused for one
abbrev pub limit_in : VcgFault → Option LimitKind
limit_in (vcg.Count value) = Some limit.Conditions
limit_in (vcg.Size pair value) = Some limit.Size
limit_in (vcg.Depth pair value) = Some limit.Depth
limit_in (vcg.Total value) = Some limit.Total
limit_in vcg.OutOfMemory = None

abbrev pub AreWithinLimits : List Condition → Type 0
AreWithinLimits conditions = refusal_of_all conditions ≡ None

-- the first limit that the conditions pass
abbrev pub IsLimitRefusal : List Condition → Refused → Type 0
IsLimitRefusal conditions (Limit which) = (fault : VcgFault) × (refusal_of_all conditions ≡ Some fault) × (limit_in fault ≡ Some which)
IsLimitRefusal conditions OutOfMemory = Unit {0}
IsLimitRefusal conditions _ = ⊥

-- each condition is shown by its entry, and there are no more entries
pub record AreAllShown (conditions : List Condition) (part : CertPart) : Type 0 where
  pub each : AreShown conditions part.conditions (length conditions)
  pub whole : length part.conditions ≤ length conditions

-- an entry is refused, the first that is; or each condition is shown and an entry more is there, the first that is
abbrev pub IsEntriesRefusal : List Condition → CertPart → Refused → Type 0
IsEntriesRefusal conditions part (Missing policy pair) = IsFirstRefused conditions part.conditions (Missing policy pair)
IsEntriesRefusal conditions part (Differs policy pair) = IsFirstRefused conditions part.conditions (Differs policy pair)
IsEntriesRefusal conditions part (Step policy pair path) = IsFirstRefused conditions part.conditions (Step policy pair path)
IsEntriesRefusal conditions part (Extra policy index) = AreShown conditions part.conditions (length conditions) × (policy ≡ part.policy) × (index ≡ length conditions) × (index < length part.conditions)
IsEntriesRefusal conditions part OutOfMemory = Unit {0}
IsEntriesRefusal conditions part _ = ⊥

-- for a program and the conditions that are made for the part anew
module _ (p : Program) (part : CertPart) (conditions : List Condition) where
  abbrev pub AreWellFormed : Type 0
  AreWellFormed = All (IsWellFormed p) part.annotations

  pub record IsAccepted : Type 0 where
    pub annotations : AreWellFormed
    pub limits : AreWithinLimits conditions
    pub shown : AreAllShown conditions part

  -- Why the part is refused: first the annotations are looked at, then the limits, then each condition with its entry, which
  -- is missing, differs or has a bad step, and last the entries that are left over.
  abbrev pub IsRefusal : Refused → Type 0
  IsRefusal Policies = ⊥
  IsRefusal (Annotation policy index) = IsAnnotationRefusal p part (Annotation policy index)
  IsRefusal (Limit which) = AreWellFormed × IsLimitRefusal conditions (Limit which)
  IsRefusal (Missing policy pair) = AreWellFormed × AreWithinLimits conditions × IsEntriesRefusal conditions part (Missing policy pair)
  IsRefusal (Differs policy pair) = AreWellFormed × AreWithinLimits conditions × IsEntriesRefusal conditions part (Differs policy pair)
  IsRefusal (Step policy pair path) = AreWellFormed × AreWithinLimits conditions × IsEntriesRefusal conditions part (Step policy pair path)
  IsRefusal (Extra policy index) = AreWellFormed × AreWithinLimits conditions × IsEntriesRefusal conditions part (Extra policy index)
  IsRefusal OutOfMemory = Unit {0}
