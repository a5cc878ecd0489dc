-- The ways of plans: which goal follows from which premises under the hypotheses.
use Rattle.std.specs.Prelude.{◌≡◌, List, [], ◌∷◌, Option, None, Some, Contains}
use Rattle.ac_logic.specs.declared.formula.Term.{Term}
use Rattle.ac_logic.specs.declared.formula.Formula.{Formula, False, Le, Eq}
use Rattle.ac_logic.specs.declared.formula.Formula.TheVariants.{Not, Or}
use Rattle.ac_logic.specs.Readable.{IsReadableTerm}
use Rattle.ac_proof.specs.declared.rule.Rule.{Rule}
use Rattle.ac_proof.specs.declared.rule.Rule.TheVariants.{AllIntro, AllElim, Linear}
use Rattle.ac_proof.specs.Linear.{next}
use Rattle.ac_proof.specs.RuleNames.{plain_rule}
use Rattle.ac_proof.specs.Rules.{IsInstance, contexts}
use Rattle.ac_steps.specs.declared.plan.Way.{Way}
use Rattle.ac_steps.specs.declared.plan.Way.TheVariants.{Hypothesis, Plain, Instance, NewName, Combination, FromDenial, Between, ByOrder, ByEquality, Lemma}

-- s is below t
abbrev pub below : Term → Term → Formula
below s t = Le (next s) t

-- one of two numbers is below the other
abbrev pub apart : Term → Term → Formula
apart s t = Or (below s t) (below t s)

-- the rule that a way takes as it is
abbrev pub rule_by : Way → Option Rule
rule_by (Plain name) = plain_rule name
rule_by (Instance t) = Some (AllElim t)
rule_by (NewName k) = Some (AllIntro k)
rule_by (Combination factors) = Some (Linear factors)
rule_by way = None

abbrev pub IsInstanceBy : Option Rule → List Formula → Formula → List Formula → Type 0
IsInstanceBy None hs g ps = ⊥
IsInstanceBy (Some r) hs g ps = IsInstance hs r g ps

-- The goal g follows in this way from premises that show ps, under the hypotheses hs.
abbrev pub Gives : List Formula → Way → Formula → List Formula → Type 0
Gives hs Hypothesis g ps = (ps ≡ []) × Contains hs g
Gives hs (FromDenial s t) g ps = (g ≡ below t s) × (ps ≡ Not (Le s t) ∷ [])
Gives hs (Between s t) g ps = (g ≡ Eq s t) × (ps ≡ False ∷ False ∷ [])
Gives hs (ByOrder s t) g ps = ps ≡ g ∷ g ∷ []
Gives hs (ByEquality s t) g ps = ps ≡ g ∷ g ∷ g ∷ []
Gives hs Lemma g ps = (a : Formula) × (ps ≡ a ∷ g ∷ [])
Gives hs way g ps = IsInstanceBy (rule_by way) hs g ps

abbrev pub contexts_by_rule : Option Rule → Formula → List Formula → List (List Formula)
contexts_by_rule None g ps = []
contexts_by_rule (Some r) g ps = contexts r g ps

-- what the second of two premises may suppose: what the first shows
abbrev pub shown_first : List Formula → List (List Formula)
shown_first [] = []
shown_first (p ∷ ps) = [] ∷ (p ∷ []) ∷ []

-- What each premise may suppose besides the hypotheses, premise by premise; those behind the list suppose no more.
abbrev pub contexts_of : Way → Formula → List Formula → List (List Formula)
contexts_of (FromDenial s t) g ps = (Le s t ∷ []) ∷ []
contexts_of (Between s t) g ps = (apart s t ∷ below s t ∷ []) ∷ (apart s t ∷ below t s ∷ []) ∷ []
contexts_of (ByOrder s t) g ps = (Le s t ∷ []) ∷ (below t s ∷ []) ∷ []
contexts_of (ByEquality s t) g ps = (Eq s t ∷ []) ∷ (apart s t ∷ below s t ∷ []) ∷ (apart s t ∷ below t s ∷ []) ∷ []
contexts_of Lemma g ps = shown_first ps
contexts_of way g ps = contexts_by_rule (rule_by way) g ps

-- The terms of the way are readable.
abbrev pub HasReadableTerms : Way → Type 0
HasReadableTerms (Instance t) = IsReadableTerm t
HasReadableTerms (ByOrder s t) = IsReadableTerm s × IsReadableTerm t
HasReadableTerms (ByEquality s t) = IsReadableTerm s × IsReadableTerm t
HasReadableTerms way = Unit {0}
