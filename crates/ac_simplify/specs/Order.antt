-- The order of rewrites: from the leaves up, the left side first, at each place the first rule of the table.
use Rattle.std.specs.Prelude.{ℕ, List, [], ◌∷◌, ◌++◌, map, Option, Some, None, int_le}
use Rattle.std.specs.Ordering.{int_eq}
use Rattle.ac_logic.specs.declared.formula.Term.{Term, Num}
use Rattle.ac_logic.specs.declared.formula.Formula.{Formula, True, False, Le, Eq}
use Rattle.ac_simplify.specs.declared.rewrite.Rewrite.{Rewrite}
use Rattle.ac_simplify.specs.declared.rule.RewriteRule.{RewriteRule}
use Rattle.ac_simplify.specs.declared.rule.RewriteRule.TheVariants.{TrueAnd, AndTrue, FalseAnd, AndFalse, TrueOr, OrTrue, FalseOr, OrFalse, TrueImplies, FalseImplies, ImpliesTrue, NotTrue, NotFalse, Compared, LabelledTrue, AllTrue}
use Rattle.ac_logic.specs.Patterns.{Negation, Conjunction, Disjunction, Implication, Every, Labelled}
use Rattle.ac_simplify.specs.Rewriting.{truth}
use Rattle.ac_simplify.specs.Opened.{hidden, formula_shape, formula_child}

-- a rule and its result
abbrev pub Reduct : Type 0
Reduct = Option (RewriteRule × Formula)

abbrev pub first_negation : Formula → Reduct
first_negation True = Some (NotTrue, False)
first_negation False = Some (NotFalse, True)
first_negation a = None

abbrev pub first_conjunction : Formula → Formula → Reduct
first_conjunction True b = Some (TrueAnd, b)
first_conjunction a True = Some (AndTrue, a)
first_conjunction False b = Some (FalseAnd, False)
first_conjunction a False = Some (AndFalse, False)
first_conjunction a b = None

abbrev pub first_disjunction : Formula → Formula → Reduct
first_disjunction True b = Some (TrueOr, True)
first_disjunction a True = Some (OrTrue, True)
first_disjunction False b = Some (FalseOr, b)
first_disjunction a False = Some (OrFalse, a)
first_disjunction a b = None

abbrev pub first_implication : Formula → Formula → Reduct
first_implication True b = Some (TrueImplies, b)
first_implication False b = Some (FalseImplies, True)
first_implication a True = Some (ImpliesTrue, True)
first_implication a b = None

abbrev pub first_le : Term → Term → Reduct
first_le (Num m) (Num n) = Some (Compared, truth (int_le m n))
first_le s t = None

abbrev pub first_eq : Term → Term → Reduct
first_eq (Num m) (Num n) = Some (Compared, truth (int_eq m n))
first_eq s t = None

abbrev pub first_labelled : Formula → Reduct
first_labelled True = Some (LabelledTrue, True)
first_labelled a = None

abbrev pub first_every : Formula → Reduct
first_every True = Some (AllTrue, True)
first_every a = None

-- the first rule that applies at the root
abbrev pub first_rule : Formula → Reduct
unfolding hidden formula_shape formula_child
first_rule (Le s t) = first_le s t
first_rule (Eq s t) = first_eq s t
first_rule (Negation a) = first_negation a
first_rule (Conjunction a b) = first_conjunction a b
first_rule (Disjunction a b) = first_disjunction a b
first_rule (Implication a b) = first_implication a b
first_rule (Every a) = first_every a
first_rule (Labelled l a) = first_labelled a
first_rule a = None

abbrev pub after_first : Formula → Reduct → Formula
after_first a None = a
after_first a (Some r) = r.1

abbrev pub first_rewrite : Reduct → List Rewrite
first_rewrite None = []
first_rewrite (Some r) = record { path = []; rule = r.0 } ∷ []

-- the formula after the first rule at its root
abbrev pub settled : Formula → Formula
settled a = after_first a (first_rule a)

abbrev pub settling : Formula → List Rewrite
settling a = first_rewrite (first_rule a)

abbrev pub simplified : Formula → Formula
unfolding hidden formula_shape formula_child
simplified (Negation a) = settled (Negation (simplified a))
simplified (Conjunction a b) = settled (Conjunction (simplified a) (simplified b))
simplified (Disjunction a b) = settled (Disjunction (simplified a) (simplified b))
simplified (Implication a b) = settled (Implication (simplified a) (simplified b))
simplified (Every a) = settled (Every (simplified a))
simplified (Labelled l a) = settled (Labelled l (simplified a))
simplified a = settled a

-- the formula with its parts simplified
abbrev pub inside : Formula → Formula
unfolding hidden formula_shape formula_child
inside (Negation a) = Negation (simplified a)
inside (Conjunction a b) = Conjunction (simplified a) (simplified b)
inside (Disjunction a b) = Disjunction (simplified a) (simplified b)
inside (Implication a b) = Implication (simplified a) (simplified b)
inside (Every a) = Every (simplified a)
inside (Labelled l a) = Labelled l (simplified a)
inside a = a

-- a rewrite of a child
abbrev pub below : List ℕ → Rewrite → Rewrite
below p w = record w { path = p ++ w.path }

abbrev pub rewrites_of : Formula → List Rewrite
unfolding hidden formula_shape formula_child
rewrites_of (Negation a) = map (below (0 ∷ [])) (rewrites_of a) ++ settling (inside (Negation a))
rewrites_of (Conjunction a b) = map (below (0 ∷ [])) (rewrites_of a) ++ map (below (1 ∷ [])) (rewrites_of b) ++ settling (inside (Conjunction a b))
rewrites_of (Disjunction a b) = map (below (0 ∷ [])) (rewrites_of a) ++ map (below (1 ∷ [])) (rewrites_of b) ++ settling (inside (Disjunction a b))
rewrites_of (Implication a b) = map (below (0 ∷ [])) (rewrites_of a) ++ map (below (1 ∷ [])) (rewrites_of b) ++ settling (inside (Implication a b))
rewrites_of (Every a) = map (below (0 ∷ [])) (rewrites_of a) ++ settling (inside (Every a))
rewrites_of (Labelled l a) = map (below (0 ∷ [])) (rewrites_of a) ++ settling (inside (Labelled l a))
rewrites_of a = settling a

-- the rewrites in the parts
abbrev pub inside_rewrites : Formula → List Rewrite
unfolding hidden formula_shape formula_child
inside_rewrites (Negation a) = map (below (0 ∷ [])) (rewrites_of a)
inside_rewrites (Conjunction a b) = map (below (0 ∷ [])) (rewrites_of a) ++ map (below (1 ∷ [])) (rewrites_of b)
inside_rewrites (Disjunction a b) = map (below (0 ∷ [])) (rewrites_of a) ++ map (below (1 ∷ [])) (rewrites_of b)
inside_rewrites (Implication a b) = map (below (0 ∷ [])) (rewrites_of a) ++ map (below (1 ∷ [])) (rewrites_of b)
inside_rewrites (Every a) = map (below (0 ∷ [])) (rewrites_of a)
inside_rewrites (Labelled l a) = map (below (0 ∷ [])) (rewrites_of a)
inside_rewrites a = []
