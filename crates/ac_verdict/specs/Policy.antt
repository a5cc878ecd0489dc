-- What the bytes of a policy file select, or why they are refused.
use Rattle.std.specs.Prelude.{◌≡◌, ℕ, List, [], ◌∷◌, Option, Some, None, Ok, Err}
use Rattle.ac_run.specs.Safety.{Policies}
use Rattle.ac_policy_table.specs.declared.fault.TableFault.TheVariants as table
use Rattle.ac_policy_table.specs.declared.key.PatternKey.TheVariants.{Apart, Code}
use Rattle.ac_policy_table.specs.declared.pattern_table.PatternTable.{PatternTable}
use Rattle.ac_policy_table.specs.declared.pattern_table.PatternTable.TheVariants.{Unknown, Missing, Values}
use Rattle.ac_policy_table.specs.declared.policy_table.PolicyTable.{PolicyTable}
use Rattle.ac_policy_table.specs.PolicyFile.{file_says}
use Rattle.ac_verdict.specs.declared.outcome.Outcome.{Outcome}
use Rattle.ac_verdict.specs.declared.outcome.Outcome.TheVariants.{Limit, Policy, OutOfMemory}
use Rattle.ac_verdict.specs.declared.policy_fault.PatternFault.{PatternFault}
use Rattle.ac_verdict.specs.declared.policy_fault.PatternFault.TheVariants as pattern
use Rattle.ac_verdict.specs.declared.policy_fault.PolicyFault.{PolicyFault}
use Rattle.ac_verdict.specs.declared.policy_fault.PolicyFault.TheVariants.{NotToml, UnknownKey, MissingKey, BadValue, FirstPattern}

-- the bytes say this table, and it has no patterns of its own
pub record HasTable (bytes : List ℕ) (t : PolicyTable) : Type 0 where
  pub said : file_says bytes ≡ Ok t
  pub no_patterns : t.patterns ≡ []

abbrev pub policies_of : PolicyTable → Policies
policies_of t = record { selected = t.policies; roles = t.roles }

-- the policies that the bytes of a policy file select, and the roles in which only a symmetric matrix may be used
pub record Selects (bytes : List ℕ) (q : Policies) : Type 0 where
  pub table : PolicyTable
  pub of_bytes : HasTable bytes table
  pub policies : q ≡ policies_of table

-- Why a pattern is refused: an unknown key, a missing one, a value of another shape; else its texts are not read yet. The
-- shapes of further values come behind what the code says.
abbrev pub fault_of_shapes : {A B : Type 0} → (apart : Option A) (code : Option B) → PatternFault
fault_of_shapes None code = pattern.BadValue Apart
fault_of_shapes (Some a) None = pattern.BadValue Code
fault_of_shapes (Some a) (Some b) = pattern.NotSupported

abbrev pub fault_of_pattern : PatternTable → PatternFault
fault_of_pattern (Unknown key) = pattern.UnknownKey key
fault_of_pattern (Missing key) = pattern.MissingKey key
fault_of_pattern (Values v) = fault_of_shapes v.apart v.code

abbrev pub fault_of_first : List PatternTable → Option PatternFault
fault_of_first [] = None
fault_of_first (p ∷ ps) = Some (fault_of_pattern p)

-- why the bytes of a policy file are refused
abbrev pub IsPolicyFault : List ℕ → PolicyFault → Type 0
IsPolicyFault bytes NotToml = file_says bytes ≡ Err table.NotToml
IsPolicyFault bytes (UnknownKey key) = file_says bytes ≡ Err (table.UnknownKey key)
IsPolicyFault bytes (MissingKey key) = file_says bytes ≡ Err (table.MissingKey key)
IsPolicyFault bytes (BadValue key) = file_says bytes ≡ Err (table.BadValue key)
IsPolicyFault bytes (FirstPattern fault) = (t : PolicyTable) × (file_says bytes ≡ Ok t) × (fault_of_first t.patterns ≡ Some fault)

-- the outcomes of a policy file that is refused, whatever the accepted program is
abbrev pub IsPolicyRefusal : List ℕ → Outcome → Type 0
IsPolicyRefusal bytes (Policy fault) = IsPolicyFault bytes fault
IsPolicyRefusal bytes (Limit which value) = file_says bytes ≡ Err (table.Limit which value)
IsPolicyRefusal bytes OutOfMemory = Unit {0}
IsPolicyRefusal bytes _ = ⊥
