-- Whether what was found of conditions stands for them.
use Rattle.std.specs.Prelude.{◌≡◌, List, [], ◌∷◌, ◌++◌, Option, Some, None}
use Rattle.ac_tree.specs.declared.path.Cut.{Cut}
use Rattle.ac_tree.specs.declared.path.Target.{Target}
use Rattle.ac_tree.specs.declared.policy.PolicyName.{PolicyName}
use Rattle.ac_logic.specs.declared.condition.Condition.{Condition}
use Rattle.ac_logic.specs.declared.formula.Formula.{Formula}
use Rattle.ac_vcg.specs.declared.found.Found.{Found}

-- what was found of a condition: its pair, and what stands for its formula
abbrev pub IsFor : {G : Type 0} → (G → Formula → Type 0) → PolicyName → Found G → Condition → Type 0
IsFor stands name x c = (c.policy ≡ name) × (c.pair ≡ x.pair) × stands x.goal c.formula

-- what was found of some conditions, the last condition first
abbrev pub AreFound : {G : Type 0} → (G → Formula → Type 0) → PolicyName → List (Found G) → List Condition → Type 0
AreFound stands name xs [] = xs ≡ []
AreFound stands name xs (c ∷ cs) = (ys : List (Found _)) × (x : Found _) × (xs ≡ ys ++ x ∷ []) × IsFor stands name x c × AreFound stands name ys cs

-- the same of one condition or none
abbrev pub IsFoundIf : {G : Type 0} → (G → Formula → Type 0) → PolicyName → Option (Found G) → List Condition → Type 0
IsFoundIf stands name None [] = Unit {0}
IsFoundIf stands name (Some x) (c ∷ []) = IsFor stands name x c
IsFoundIf stands name _ _ = ⊥

-- the condition of a pair by its formula
abbrev pub condition_from : PolicyName → Cut → Target → Formula → Condition
condition_from name c t f = record { policy = name; pair = record { cut = c; target = t }; formula = f }
