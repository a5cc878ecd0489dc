-- Plans in other contexts: under more hypotheses, and without one that is not used.
use Rattle.std.specs.Prelude.{◌≡◌, ◌⊎◌, List, [], ◌∷◌, All, Contains}
use Rattle.ac_logic.specs.declared.formula.Sym.TheVariants.{Fresh}
use Rattle.ac_logic.specs.declared.formula.Formula.{Formula}
use Rattle.ac_logic.specs.Absence.{IsAbsent}
use Rattle.ac_steps.specs.declared.plan.Way.{Way}
use Rattle.ac_steps.specs.declared.plan.Way.TheVariants.{Hypothesis, NewName}
use Rattle.ac_steps.specs.declared.plan.Plan.{Plan, Plan', end_of-Plan as no_more, more_of-Plan as shared}
use Rattle.ac_steps.specs.declared.plan.Plan.TheBlock.{Row_of-Plan-premises-1 as Row_of-Plans, end_of-Plan-premises-1 as end_of-Plans, more_of-Plan-premises-1 as more_of-Plans}

-- Each formula of the first stands in the second, wherever.
abbrev pub AreAmong : List Formula → List Formula → Type 0
AreAmong hs gs = (f : Formula) → Contains hs f → Contains gs f

abbrev pub IsNewName : List Formula → Way → Type 0
IsNewName gs (NewName k) = All (IsAbsent (Fresh k)) gs
IsNewName gs way = Unit {0}

-- The new names of a plan stand in none of the formulas.
abbrev mutual
  pub HasNewNames : List Formula → Plan → Type 0
  HasNewNames gs (Plan' way g s row) = IsNewName gs way × EachHasNewNames gs row

  pub EachHasNewNames : {n : _} → List Formula → Row_of-Plans n → Type 0
  EachHasNewNames gs end_of-Plans = Unit {0}
  EachHasNewNames gs (more_of-Plans s (shared p no_more) row) = HasNewNames gs p × EachHasNewNames gs row

abbrev pub AllHaveNewNames : List Formula → List Plan → Type 0
AllHaveNewNames gs [] = Unit {0}
AllHaveNewNames gs (p ∷ ps) = HasNewNames gs p × AllHaveNewNames gs ps

-- ---- which hypotheses a plan uses

-- the goal of this way is the formula, as a hypothesis
abbrev pub IsHypothesis : Formula → Way → Formula → Type 0
IsHypothesis f Hypothesis g = g ≡ f
IsHypothesis f way g = ⊥

-- Some step of the plan is the formula as a hypothesis, be it one of the context or one that a step above supposes.
abbrev mutual
  pub Uses : Formula → Plan → Type 0
  Uses f (Plan' way g s row) = IsHypothesis f way g ⊎ SomeUses f row

  pub SomeUses : {n : _} → Formula → Row_of-Plans n → Type 0
  SomeUses f end_of-Plans = ⊥
  SomeUses f (more_of-Plans s (shared p no_more) row) = Uses f p ⊎ SomeUses f row
