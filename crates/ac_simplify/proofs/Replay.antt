-- The rewrites in their order lead to the simplified formula, to which no rule applies.
use Rattle.std.proofs.Common.{List, [], ◌∷◌, ◌++◌, map, Some, None, Bool, true, false, int_le}
use Rattle.std.specs.Ordering.{int_eq}
use Rattle.ac_logic.specs.declared.formula.Term.{Term, Num}
use Rattle.ac_logic.specs.declared.formula.Formula.{Formula, True, False, Le, Eq}
use Rattle.ac_logic.specs.declared.label.Label.{Label}
use Rattle.ac_simplify.specs.declared.rewrite.Rewrite.{Rewrite}
use Rattle.ac_logic.specs.Patterns.{Negation, Conjunction, Disjunction, Implication, Every, Labelled}
use Rattle.ac_simplify.specs.Rewriting as rewriting
use Rattle.ac_simplify.specs.Rewriting.{Applies, Replays, NoneApplies, IsSimple, truth}
use Rattle.ac_simplify.specs.Order.{Reduct, first_negation, first_conjunction, first_disjunction, first_implication, first_le, first_eq, first_labelled, first_every, first_rule, after_first, first_rewrite, settled, settling, simplified, below, rewrites_of}
use Rattle.ac_simplify.specs.Opened.{hidden, formula_shape, formula_child}

-- neither true nor false
abbrev pub IsOpen : Formula → Type 0
IsOpen True = ⊥
IsOpen False = ⊥
IsOpen a = Unit {0}

-- what the first rule does is right, and where there is none, none applies
abbrev pub IsFirst : Formula → Reduct → Type 0
IsFirst a None = NoneApplies a
IsFirst a (Some r) = Applies r.0 a r.1

none_conjunction : (a b : Formula) → IsOpen a → IsOpen b → NoneApplies (Conjunction a b)
unfolding hidden formula_shape formula_child
none_conjunction a b p q r c (rewriting.true_and x) = absurd p
none_conjunction a b p q r c (rewriting.and_true x) = absurd q
none_conjunction a b p q r c (rewriting.false_and x) = absurd p
none_conjunction a b p q r c (rewriting.and_false x) = absurd q

first_of_conjunction : (a b : Formula) → IsFirst (Conjunction a b) (first_conjunction a b)
unfolding hidden formula_shape formula_child
first_of_conjunction True b = rewriting.true_and b
first_of_conjunction a True = rewriting.and_true a
first_of_conjunction False b = rewriting.false_and b
first_of_conjunction a False = rewriting.and_false a
first_of_conjunction a b = none_conjunction a b tt tt

none_negation : (a : Formula) → IsOpen a → NoneApplies (Negation a)
unfolding hidden formula_shape formula_child
none_negation a p r c rewriting.not_true = absurd p
none_negation a p r c rewriting.not_false = absurd p

first_of_negation : (a : Formula) → IsFirst (Negation a) (first_negation a)
unfolding hidden formula_shape formula_child
first_of_negation True = rewriting.not_true
first_of_negation False = rewriting.not_false
first_of_negation a = none_negation a tt

none_disjunction : (a b : Formula) → IsOpen a → IsOpen b → NoneApplies (Disjunction a b)
unfolding hidden formula_shape formula_child
none_disjunction a b p q r c (rewriting.true_or x) = absurd p
none_disjunction a b p q r c (rewriting.or_true x) = absurd q
none_disjunction a b p q r c (rewriting.false_or x) = absurd p
none_disjunction a b p q r c (rewriting.or_false x) = absurd q

first_of_disjunction : (a b : Formula) → IsFirst (Disjunction a b) (first_disjunction a b)
unfolding hidden formula_shape formula_child
first_of_disjunction True b = rewriting.true_or b
first_of_disjunction a True = rewriting.or_true a
first_of_disjunction False b = rewriting.false_or b
first_of_disjunction a False = rewriting.or_false a
first_of_disjunction a b = none_disjunction a b tt tt

-- not true
abbrev pub IsUnproved : Formula → Type 0
IsUnproved True = ⊥
IsUnproved a = Unit {0}

none_implication : (a b : Formula) → IsOpen a → IsUnproved b → NoneApplies (Implication a b)
unfolding hidden formula_shape formula_child
none_implication a b p q r c (rewriting.true_implies x) = absurd p
none_implication a b p q r c (rewriting.false_implies x) = absurd p
none_implication a b p q r c (rewriting.implies_true x) = absurd q

first_of_implication : (a b : Formula) → IsFirst (Implication a b) (first_implication a b)
unfolding hidden formula_shape formula_child
first_of_implication True b = rewriting.true_implies b
first_of_implication False b = rewriting.false_implies b
first_of_implication a True = rewriting.implies_true a
first_of_implication a b = none_implication a b tt tt

none_labelled : (l : Label) (a : Formula) → IsUnproved a → NoneApplies (Labelled l a)
unfolding hidden formula_shape formula_child
none_labelled l a p r c (rewriting.labelled_true m) = absurd p

first_of_labelled : (l : Label) (a : Formula) → IsFirst (Labelled l a) (first_labelled a)
unfolding hidden formula_shape formula_child
first_of_labelled l True = rewriting.labelled_true l
first_of_labelled l a = none_labelled l a tt

none_every : (a : Formula) → IsUnproved a → NoneApplies (Every a)
unfolding hidden formula_shape formula_child
none_every a p r c rewriting.every_true = absurd p

first_of_every : (a : Formula) → IsFirst (Every a) (first_every a)
unfolding hidden formula_shape formula_child
first_of_every True = rewriting.every_true
first_of_every a = none_every a tt

-- no number
abbrev pub IsCompound : Term → Type 0
IsCompound (Num n) = ⊥
IsCompound t = Unit {0}

none_le_left : (s t : Term) → IsCompound s → NoneApplies (Le s t)
unfolding hidden formula_shape formula_child
none_le_left s t p r c (rewriting.compared m n) = absurd p

none_le_right : (s t : Term) → IsCompound t → NoneApplies (Le s t)
unfolding hidden formula_shape formula_child
none_le_right s t p r c (rewriting.compared m n) = absurd p

first_of_le : (s t : Term) → IsFirst (Le s t) (first_le s t)
unfolding hidden formula_shape formula_child
first_of_le (Num m) (Num n) = rewriting.compared m n
first_of_le (Num m) t = none_le_right (Num m) t tt
first_of_le s t = none_le_left s t tt

none_eq_left : (s t : Term) → IsCompound s → NoneApplies (Eq s t)
unfolding hidden formula_shape formula_child
none_eq_left s t p r c (rewriting.equated m n) = absurd p

none_eq_right : (s t : Term) → IsCompound t → NoneApplies (Eq s t)
unfolding hidden formula_shape formula_child
none_eq_right s t p r c (rewriting.equated m n) = absurd p

first_of_eq : (s t : Term) → IsFirst (Eq s t) (first_eq s t)
unfolding hidden formula_shape formula_child
first_of_eq (Num m) (Num n) = rewriting.equated m n
first_of_eq (Num m) t = none_eq_right (Num m) t tt
first_of_eq s t = none_eq_left s t tt

none_true : NoneApplies True
unfolding hidden formula_shape formula_child
none_true r c d = elim d [ ]

none_false : NoneApplies False
unfolding hidden formula_shape formula_child
none_false r c d = elim d [ ]

first_of : (a : Formula) → IsFirst a (first_rule a)
unfolding hidden formula_shape formula_child
first_of True = none_true
first_of False = none_false
first_of (Le s t) = first_of_le s t
first_of (Eq s t) = first_of_eq s t
first_of (Negation a) = first_of_negation a
first_of (Conjunction a b) = first_of_conjunction a b
first_of (Disjunction a b) = first_of_disjunction a b
first_of (Implication a b) = first_of_implication a b
first_of (Every a) = first_of_every a
first_of (Labelled l a) = first_of_labelled l a

-- lists of rewrites, one after the other and in a child
replays_after : {v w : List Rewrite} {a b c : Formula} → Replays v a b → Replays w b c → Replays (v ++ w) a c
replays_after rewriting.done e = e
replays_after (rewriting.then s d) e = rewriting.then s (replays_after d e)

in_negation : {w : List Rewrite} {a b : Formula} → Replays w a b → Replays (map (below (0 ∷ [])) w) (Negation a) (Negation b)
in_negation rewriting.done = rewriting.done
in_negation (rewriting.then s d) = rewriting.then (rewriting.in_negation s) (in_negation d)

in_every : {w : List Rewrite} {a b : Formula} → Replays w a b → Replays (map (below (0 ∷ [])) w) (Every a) (Every b)
in_every rewriting.done = rewriting.done
in_every (rewriting.then s d) = rewriting.then (rewriting.in_every s) (in_every d)

in_label : {w : List Rewrite} {a b : Formula} (l : Label) → Replays w a b → Replays (map (below (0 ∷ [])) w) (Labelled l a) (Labelled l b)
in_label l rewriting.done = rewriting.done
in_label l (rewriting.then s d) = rewriting.then (rewriting.in_label l s) (in_label l d)

in_conjunction_left : {w : List Rewrite} {a b : Formula} (c : Formula) → Replays w a b → Replays (map (below (0 ∷ [])) w) (Conjunction a c) (Conjunction b c)
in_conjunction_left c rewriting.done = rewriting.done
in_conjunction_left c (rewriting.then s d) = rewriting.then (rewriting.in_conjunction_left c s) (in_conjunction_left c d)

in_conjunction_right : {w : List Rewrite} {a b : Formula} (c : Formula) → Replays w a b → Replays (map (below (1 ∷ [])) w) (Conjunction c a) (Conjunction c b)
in_conjunction_right c rewriting.done = rewriting.done
in_conjunction_right c (rewriting.then s d) = rewriting.then (rewriting.in_conjunction_right c s) (in_conjunction_right c d)

in_disjunction_left : {w : List Rewrite} {a b : Formula} (c : Formula) → Replays w a b → Replays (map (below (0 ∷ [])) w) (Disjunction a c) (Disjunction b c)
in_disjunction_left c rewriting.done = rewriting.done
in_disjunction_left c (rewriting.then s d) = rewriting.then (rewriting.in_disjunction_left c s) (in_disjunction_left c d)

in_disjunction_right : {w : List Rewrite} {a b : Formula} (c : Formula) → Replays w a b → Replays (map (below (1 ∷ [])) w) (Disjunction c a) (Disjunction c b)
in_disjunction_right c rewriting.done = rewriting.done
in_disjunction_right c (rewriting.then s d) = rewriting.then (rewriting.in_disjunction_right c s) (in_disjunction_right c d)

in_implication_left : {w : List Rewrite} {a b : Formula} (c : Formula) → Replays w a b → Replays (map (below (0 ∷ [])) w) (Implication a c) (Implication b c)
in_implication_left c rewriting.done = rewriting.done
in_implication_left c (rewriting.then s d) = rewriting.then (rewriting.in_implication_left c s) (in_implication_left c d)

in_implication_right : {w : List Rewrite} {a b : Formula} (c : Formula) → Replays w a b → Replays (map (below (1 ∷ [])) w) (Implication c a) (Implication c b)
in_implication_right c rewriting.done = rewriting.done
in_implication_right c (rewriting.then s d) = rewriting.then (rewriting.in_implication_right c s) (in_implication_right c d)

-- the first rule at the root, replayed
settles_by : (a : Formula) (r : Reduct) → IsFirst a r → Replays (first_rewrite r) a (after_first a r)
settles_by a None f = rewriting.done
settles_by a (Some r) f = rewriting.then (rewriting.at_root f) rewriting.done

settles : (a : Formula) → Replays (settling a) a (settled a)
settles a = settles_by a (first_rule a) (first_of a)

pub replays : (a : Formula) → Replays (rewrites_of a) a (simplified a)
unfolding hidden formula_shape formula_child
replays True = settles True
replays False = settles False
replays (Le s t) = settles (Le s t)
replays (Eq s t) = settles (Eq s t)
replays (Negation a) = replays_after (in_negation (replays a)) (settles (Negation (simplified a)))
replays (Conjunction a b) = replays_after (replays_after (in_conjunction_left b (replays a)) (in_conjunction_right (simplified a) (replays b))) (settles (Conjunction (simplified a) (simplified b)))
replays (Disjunction a b) = replays_after (replays_after (in_disjunction_left b (replays a)) (in_disjunction_right (simplified a) (replays b))) (settles (Disjunction (simplified a) (simplified b)))
replays (Implication a b) = replays_after (replays_after (in_implication_left b (replays a)) (in_implication_right (simplified a) (replays b))) (settles (Implication (simplified a) (simplified b)))
replays (Every a) = replays_after (in_every (replays a)) (settles (Every (simplified a)))
replays (Labelled l a) = replays_after (in_label l (replays a)) (settles (Labelled l (simplified a)))

-- no rule applies to what stays behind
pub simple_true : IsSimple True
unfolding hidden formula_shape formula_child
simple_true = none_true

simple_truth : (b : Bool) → IsSimple (truth b)
unfolding hidden formula_shape formula_child
simple_truth true = none_true
simple_truth false = none_false

simple_negation : (a : Formula) → IsSimple a → IsSimple (settled (Negation a))
unfolding hidden formula_shape formula_child
simple_negation True s = none_false
simple_negation False s = none_true
simple_negation a s = (none_negation a tt, s)

simple_conjunction : (a b : Formula) → IsSimple a → IsSimple b → IsSimple (settled (Conjunction a b))
unfolding hidden formula_shape formula_child
simple_conjunction True b s t = t
simple_conjunction a True s t = s
simple_conjunction False b s t = none_false
simple_conjunction a False s t = none_false
simple_conjunction a b s t = (none_conjunction a b tt tt, s, t)

simple_disjunction : (a b : Formula) → IsSimple a → IsSimple b → IsSimple (settled (Disjunction a b))
unfolding hidden formula_shape formula_child
simple_disjunction True b s t = none_true
simple_disjunction a True s t = none_true
simple_disjunction False b s t = t
simple_disjunction a False s t = s
simple_disjunction a b s t = (none_disjunction a b tt tt, s, t)

simple_implication : (a b : Formula) → IsSimple a → IsSimple b → IsSimple (settled (Implication a b))
unfolding hidden formula_shape formula_child
simple_implication True b s t = t
simple_implication False b s t = none_true
simple_implication a True s t = none_true
simple_implication a b s t = (none_implication a b tt tt, s, t)

simple_labelled : (l : Label) (a : Formula) → IsSimple a → IsSimple (settled (Labelled l a))
unfolding hidden formula_shape formula_child
simple_labelled l True s = none_true
simple_labelled l a s = (none_labelled l a tt, s)

simple_every : (a : Formula) → IsSimple a → IsSimple (settled (Every a))
unfolding hidden formula_shape formula_child
simple_every True s = none_true
simple_every a s = (none_every a tt, s)

simple_le : (s t : Term) → IsSimple (settled (Le s t))
unfolding hidden formula_shape formula_child
simple_le (Num m) (Num n) = simple_truth (int_le m n)
simple_le (Num m) t = none_le_right (Num m) t tt
simple_le s t = none_le_left s t tt

simple_eq : (s t : Term) → IsSimple (settled (Eq s t))
unfolding hidden formula_shape formula_child
simple_eq (Num m) (Num n) = simple_truth (int_eq m n)
simple_eq (Num m) t = none_eq_right (Num m) t tt
simple_eq s t = none_eq_left s t tt

pub simple : (a : Formula) → IsSimple (simplified a)
unfolding hidden formula_shape formula_child
simple True = none_true
simple False = none_false
simple (Le s t) = simple_le s t
simple (Eq s t) = simple_eq s t
simple (Negation a) = simple_negation (simplified a) (simple a)
simple (Conjunction a b) = simple_conjunction (simplified a) (simplified b) (simple a) (simple b)
simple (Disjunction a b) = simple_disjunction (simplified a) (simplified b) (simple a) (simple b)
simple (Implication a b) = simple_implication (simplified a) (simplified b) (simple a) (simple b)
simple (Every a) = simple_every (simplified a) (simple a)
simple (Labelled l a) = simple_labelled l (simplified a) (simple a)
