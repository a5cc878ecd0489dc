-- What a rewrite does, a line for each of the sixteen rules, and what a list of rewrites does.
use Rattle.std.specs.Prelude.{ℕ, List, [], ◌∷◌, ℤ, Bool, true, false, int_le}
use Rattle.std.specs.Ordering.{int_eq}
use Rattle.ac_logic.specs.declared.formula.Term.{Num}
use Rattle.ac_logic.specs.declared.formula.Formula.{Formula, True, False, Le, Eq}
use Rattle.ac_logic.specs.declared.label.Label.{Label}
use Rattle.ac_simplify.specs.declared.rewrite.Rewrite.{Rewrite}
use Rattle.ac_simplify.specs.declared.rule.RewriteRule.{RewriteRule}
use Rattle.ac_simplify.specs.declared.rule.RewriteRule.TheVariants.{TrueAnd, AndTrue, FalseAnd, AndFalse, TrueOr, OrTrue, FalseOr, OrFalse, TrueImplies, FalseImplies, ImpliesTrue, NotTrue, NotFalse, Compared, LabelledTrue, AllTrue}
use Rattle.ac_logic.specs.Patterns.{Negation, Conjunction, Disjunction, Implication, Every, Labelled}
use Rattle.ac_simplify.specs.Opened.{hidden, formula_shape, formula_child}

-- The number of a rule.
abbrev pub number_of : RewriteRule → ℕ
number_of TrueAnd = 1
number_of AndTrue = 2
number_of FalseAnd = 3
number_of AndFalse = 4
number_of TrueOr = 5
number_of OrTrue = 6
number_of FalseOr = 7
number_of OrFalse = 8
number_of TrueImplies = 9
number_of FalseImplies = 10
number_of ImpliesTrue = 11
number_of NotTrue = 12
number_of NotFalse = 13
number_of Compared = 14
number_of LabelledTrue = 15
number_of AllTrue = 16

-- a truth value as a formula
abbrev pub truth : Bool → Formula
truth true = True
truth false = False

-- a rule takes one formula to another
pub data Applies : RewriteRule → Formula → Formula → Type 0 where
  true_and : (a : Formula) → Applies TrueAnd (Conjunction True a) a
  and_true : (a : Formula) → Applies AndTrue (Conjunction a True) a
  false_and : (a : Formula) → Applies FalseAnd (Conjunction False a) False
  and_false : (a : Formula) → Applies AndFalse (Conjunction a False) False
  true_or : (a : Formula) → Applies TrueOr (Disjunction True a) True
  or_true : (a : Formula) → Applies OrTrue (Disjunction a True) True
  false_or : (a : Formula) → Applies FalseOr (Disjunction False a) a
  or_false : (a : Formula) → Applies OrFalse (Disjunction a False) a
  true_implies : (a : Formula) → Applies TrueImplies (Implication True a) a
  false_implies : (a : Formula) → Applies FalseImplies (Implication False a) True
  implies_true : (a : Formula) → Applies ImpliesTrue (Implication a True) True
  not_true : Applies NotTrue (Negation True) False
  not_false : Applies NotFalse (Negation False) True
  compared : (m n : ℤ) → Applies Compared (Le (Num m) (Num n)) (truth (int_le m n))
  equated : (m n : ℤ) → Applies Compared (Eq (Num m) (Num n)) (truth (int_eq m n))
  labelled_true : (l : Label) → Applies LabelledTrue (Labelled l True) True
  every_true : Applies AllTrue (Every True) True

-- a rule is applied at a path of child positions, the left side being 0
pub data AppliesAt : List ℕ → RewriteRule → Formula → Formula → Type 0 where
  at_root : {r : RewriteRule} {a b : Formula} → Applies r a b → AppliesAt [] r a b
  in_negation : {p : List ℕ} {r : RewriteRule} {a b : Formula} → AppliesAt p r a b → AppliesAt (0 ∷ p) r (Negation a) (Negation b)
  in_conjunction_left : {p : List ℕ} {r : RewriteRule} {a b : Formula} (c : Formula) → AppliesAt p r a b → AppliesAt (0 ∷ p) r (Conjunction a c) (Conjunction b c)
  in_conjunction_right : {p : List ℕ} {r : RewriteRule} {a b : Formula} (c : Formula) → AppliesAt p r a b → AppliesAt (1 ∷ p) r (Conjunction c a) (Conjunction c b)
  in_disjunction_left : {p : List ℕ} {r : RewriteRule} {a b : Formula} (c : Formula) → AppliesAt p r a b → AppliesAt (0 ∷ p) r (Disjunction a c) (Disjunction b c)
  in_disjunction_right : {p : List ℕ} {r : RewriteRule} {a b : Formula} (c : Formula) → AppliesAt p r a b → AppliesAt (1 ∷ p) r (Disjunction c a) (Disjunction c b)
  in_implication_left : {p : List ℕ} {r : RewriteRule} {a b : Formula} (c : Formula) → AppliesAt p r a b → AppliesAt (0 ∷ p) r (Implication a c) (Implication b c)
  in_implication_right : {p : List ℕ} {r : RewriteRule} {a b : Formula} (c : Formula) → AppliesAt p r a b → AppliesAt (1 ∷ p) r (Implication c a) (Implication c b)
  in_every : {p : List ℕ} {r : RewriteRule} {a b : Formula} → AppliesAt p r a b → AppliesAt (0 ∷ p) r (Every a) (Every b)
  in_label : {p : List ℕ} {r : RewriteRule} {a b : Formula} (l : Label) → AppliesAt p r a b → AppliesAt (0 ∷ p) r (Labelled l a) (Labelled l b)

-- the rewrites, replayed in order, lead from the first formula to the last
pub data Replays : List Rewrite → Formula → Formula → Type 0 where
  done : {a : Formula} → Replays [] a a
  then : {w : Rewrite} {ws : List Rewrite} {a b c : Formula} → AppliesAt w.path w.rule a b → Replays ws b c → Replays (w ∷ ws) a c

-- no rule applies at the root
abbrev pub NoneApplies : Formula → Type 0
NoneApplies a = (r : RewriteRule) (b : Formula) → Applies r a b → ⊥

-- no rule applies, at the root or in a part
abbrev pub IsSimple : Formula → Type 0
unfolding hidden formula_shape formula_child
IsSimple (Negation a) = NoneApplies (Negation a) × IsSimple a
IsSimple (Conjunction a b) = NoneApplies (Conjunction a b) × IsSimple a × IsSimple b
IsSimple (Disjunction a b) = NoneApplies (Disjunction a b) × IsSimple a × IsSimple b
IsSimple (Implication a b) = NoneApplies (Implication a b) × IsSimple a × IsSimple b
IsSimple (Every a) = NoneApplies (Every a) × IsSimple a
IsSimple (Labelled l a) = NoneApplies (Labelled l a) × IsSimple a
IsSimple a = NoneApplies a
