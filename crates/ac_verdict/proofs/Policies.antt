-- The first pattern of a table.
use Rattle.std.proofs.Common.{◌≡◌, List, [], ◌∷◌, refl}
use Rattle.std.specs.Prelude.{None}
use Rattle.ac_policy_table.specs.declared.pattern_table.PatternTable.{PatternTable}
use Rattle.ac_verdict.specs.Policy.{fault_of_first}

-- where there is no fault of a first pattern, there is none
pub no_fault : (ps : List PatternTable) → None ≡ fault_of_first ps → ps ≡ []
no_fault [] e = refl
no_fault (p ∷ ps) e = cc
