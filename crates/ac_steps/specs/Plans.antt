-- What a plan shows under hypotheses.
use Rattle.std.specs.Prelude.{◌≡◌, ℕ, ◌<◌, ◌^◌, List, [], ◌∷◌, length, map, slice_index_or}
use Rattle.ac_logic.specs.declared.formula.Formula.{Formula}
use Rattle.ac_logic.specs.Readable.{IsReadable}
use Rattle.ac_proof.specs.Checked.{under, later}
use Rattle.ac_steps.specs.declared.plan.Way.{Way}
use Rattle.ac_steps.specs.declared.plan.Plan.{Plan, Plan', out-Plan, end_of-Plan as no_more, more_of-Plan as shared}
use Rattle.ac_steps.specs.declared.plan.Plan.TheBlock.{Row_of-Plan-premises-1 as Row_of-Plans, end_of-Plan-premises-1 as end_of-Plans, more_of-Plan-premises-1 as more_of-Plans}
use Rattle.ac_steps.specs.Ways.{Gives, contexts_of, HasReadableTerms}

-- A plan is matched with its way, its goal and its premises as a row; beside each stands how it is shared.

-- the formula that a plan shows
abbrev pub shown_by : Plan → Formula
shown_by (Plan' way g s row) = g

abbrev pub all_shown : {n : _} → Row_of-Plans n → List Formula
all_shown end_of-Plans = []
all_shown (more_of-Plans s (shared p no_more) row) = shown_by p ∷ all_shown row

-- A step is readable, has fewer than 2^32 premises, and its goal follows from them.
abbrev pub IsPlanStep : List Formula → Way → Formula → List Formula → Type 0
IsPlanStep hs way g ps = IsReadable g × HasReadableTerms way × (length ps < 2 ^ 32) × Gives hs way g ps

-- The plan is a proof of its goal under the hypotheses: each of its steps is one, under them and what the steps above it add.
abbrev mutual
  pub Shows : List Formula → Plan → Type 0
  Shows hs (Plan' way g s row) = IsPlanStep hs way g (all_shown row) × EachShows hs (contexts_of way g (all_shown row)) row

  pub EachShows : {n : _} → List Formula → List (List Formula) → Row_of-Plans n → Type 0
  EachShows hs cs end_of-Plans = Unit {0}
  EachShows hs cs (more_of-Plans s (shared p no_more) row) = Shows (under hs cs) p × EachShows hs (later cs) row

-- the same of a list of plans
abbrev pub AllShow : List Formula → List (List Formula) → List Plan → Type 0
AllShow hs cs [] = Unit {0}
AllShow hs cs (p ∷ ps) = Shows (under hs cs) p × AllShow hs (later cs) ps

-- ---- the premises of a plan by number

abbrev pub formulas_of : Plan → List Formula
formulas_of p = map shown_by (out-Plan p).premises

abbrev pub contexts_in : Plan → List (List Formula)
contexts_in p = contexts_of (out-Plan p).way (out-Plan p).goal (formulas_of p)

-- what premise number i may suppose besides the hypotheses
abbrev pub context_at : Plan → ℕ → List Formula
context_at p i = slice_index_or (contexts_in p) i []

-- the last step of a plan is one
abbrev pub IsLastStep : List Formula → Plan → Type 0
IsLastStep hs p = IsPlanStep hs (out-Plan p).way (out-Plan p).goal (formulas_of p)

-- the last step of a plan, and the plans of its premises
pub record IsPlanOf (p : Plan) (w : Way) (g : Formula) (ps : List Plan) : Type 0 where
  pub way : (out-Plan p).way ≡ w
  pub goal : (out-Plan p).goal ≡ g
  pub premises : (out-Plan p).premises ≡ ps
