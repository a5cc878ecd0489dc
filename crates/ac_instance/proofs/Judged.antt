-- The first name that is wrong in a tree, by its parts.
use Rattle.std.proofs.Common.{◌≡◌, List, [], ◌∷◌, ◌++◌, Option, Some, None, refl, sym, ◌∙◌, ap}
use Rattle.ac_tree.specs.declared.program.Program.{Program}
use Rattle.ac_logic.specs.declared.label.Label.{Label}
use Rattle.ac_logic.specs.declared.formula.ArrayTerm.{ArrayTerm}
use Rattle.ac_logic.specs.declared.formula.ArrayTerm.TheVariants as array
use Rattle.ac_logic.specs.declared.formula.Formula.{Formula}
use Rattle.ac_logic.specs.declared.formula.Formula.TheVariants as formula
use Rattle.ac_logic.specs.declared.formula.Sym.{Sym}
use Rattle.ac_logic.specs.declared.formula.Term.{Term, Num, Bound}
use Rattle.ac_logic.specs.Patterns.{Scalar, Array}
use Rattle.ac_logic.specs.declared.formula.Term.TheVariants as term
use Rattle.ac_instance.specs.Judging.{Use, Wrong, as_scalar, as_array, term_uses, array_uses, formula_uses, use_wrong, first_wrong, or_else}
use Rattle.ac_instance.specs.Opened.{hidden, formula_shape, formula_child, term_shape, term_child, array_shape, array_child}

or_else-assoc : (a b c : Option Wrong) → or_else (or_else a b) c ≡ or_else a (or_else b c)
or_else-assoc None b c = refl
or_else-assoc (Some w) b c = refl

first-append : (p : Program) (xs ys : List Use) → first_wrong p (xs ++ ys) ≡ or_else (first_wrong p xs) (first_wrong p ys)
first-append p [] ys = refl
first-append p (u ∷ xs) ys = ap (or_else (use_wrong p u)) (first-append p xs ys) ∙ sym (or_else-assoc (use_wrong p u) (first_wrong p xs) (first_wrong p ys))

or-none : (o : Option Wrong) → or_else o None ≡ o
or-none None = refl
or-none (Some w) = refl

pub term-Num : (p : Program) (n : _) → first_wrong p (term_uses (Num n)) ≡ None
unfolding hidden term_shape term_child array_shape array_child
term-Num p n = refl

pub term-Bound : (p : Program) (k : _) → first_wrong p (term_uses (Bound k)) ≡ None
unfolding hidden term_shape term_child array_shape array_child
term-Bound p k = refl

pub term-Sym : (p : Program) (x : Sym) → first_wrong p (term_uses (Scalar x)) ≡ use_wrong p (as_scalar x)
unfolding hidden term_shape term_child array_shape array_child
term-Sym p x = or-none (use_wrong p (as_scalar x))

pub array-Sym : (p : Program) (x : Sym) → first_wrong p (array_uses (Array x)) ≡ use_wrong p (as_array x)
unfolding hidden term_shape term_child array_shape array_child
array-Sym p x = or-none (use_wrong p (as_array x))

pub term-Read : (p : Program) (a : ArrayTerm) (i j : Term) → first_wrong p (term_uses (term.Read a i j)) ≡ or_else (first_wrong p (array_uses a)) (or_else (first_wrong p (term_uses i)) (first_wrong p (term_uses j)))
unfolding hidden term_shape term_child array_shape array_child
term-Read p a i j = first-append p (array_uses a) ((term_uses i) ++ (term_uses j)) ∙ ap (or_else (first_wrong p (array_uses a))) (first-append p (term_uses i) (term_uses j))

pub term-Add : (p : Program) (s t : Term) → first_wrong p (term_uses (term.Add s t)) ≡ or_else (first_wrong p (term_uses s)) (first_wrong p (term_uses t))
unfolding hidden term_shape term_child array_shape array_child
term-Add p s t = first-append p (term_uses s) (term_uses t)

pub term-Sub : (p : Program) (s t : Term) → first_wrong p (term_uses (term.Sub s t)) ≡ or_else (first_wrong p (term_uses s)) (first_wrong p (term_uses t))
unfolding hidden term_shape term_child array_shape array_child
term-Sub p s t = first-append p (term_uses s) (term_uses t)

pub term-Mul : (p : Program) (s t : Term) → first_wrong p (term_uses (term.Mul s t)) ≡ or_else (first_wrong p (term_uses s)) (first_wrong p (term_uses t))
unfolding hidden term_shape term_child array_shape array_child
term-Mul p s t = first-append p (term_uses s) (term_uses t)

pub term-Neg : (p : Program) (t : Term) → first_wrong p (term_uses (term.Neg t)) ≡ first_wrong p (term_uses t)
unfolding hidden term_shape term_child array_shape array_child
term-Neg p t = refl

pub array-Put : (p : Program) (a : ArrayTerm) (i j v : Term) → first_wrong p (array_uses (array.Put a i j v)) ≡ or_else (first_wrong p (array_uses a)) (or_else (first_wrong p (term_uses i)) (or_else (first_wrong p (term_uses j)) (first_wrong p (term_uses v))))
unfolding hidden term_shape term_child array_shape array_child
array-Put p a i j v = first-append p (array_uses a) ((term_uses i) ++ ((term_uses j) ++ (term_uses v))) ∙ ap (or_else (first_wrong p (array_uses a))) (first-append p (term_uses i) ((term_uses j) ++ (term_uses v)) ∙ ap (or_else (first_wrong p (term_uses i))) (first-append p (term_uses j) (term_uses v)))

pub formula-True : (p : Program) → first_wrong p (formula_uses formula.True) ≡ None
unfolding hidden formula_shape formula_child
formula-True p = refl

pub formula-False : (p : Program) → first_wrong p (formula_uses formula.False) ≡ None
unfolding hidden formula_shape formula_child
formula-False p = refl

pub formula-Le : (p : Program) (s t : Term) → first_wrong p (formula_uses (formula.Le s t)) ≡ or_else (first_wrong p (term_uses s)) (first_wrong p (term_uses t))
unfolding hidden formula_shape formula_child
formula-Le p s t = first-append p (term_uses s) (term_uses t)

pub formula-Eq : (p : Program) (s t : Term) → first_wrong p (formula_uses (formula.Eq s t)) ≡ or_else (first_wrong p (term_uses s)) (first_wrong p (term_uses t))
unfolding hidden formula_shape formula_child
formula-Eq p s t = first-append p (term_uses s) (term_uses t)

pub formula-And : (p : Program) (f g : Formula) → first_wrong p (formula_uses (formula.And f g)) ≡ or_else (first_wrong p (formula_uses f)) (first_wrong p (formula_uses g))
unfolding hidden formula_shape formula_child
formula-And p f g = first-append p (formula_uses f) (formula_uses g)

pub formula-Or : (p : Program) (f g : Formula) → first_wrong p (formula_uses (formula.Or f g)) ≡ or_else (first_wrong p (formula_uses f)) (first_wrong p (formula_uses g))
unfolding hidden formula_shape formula_child
formula-Or p f g = first-append p (formula_uses f) (formula_uses g)

pub formula-Implies : (p : Program) (f g : Formula) → first_wrong p (formula_uses (formula.Implies f g)) ≡ or_else (first_wrong p (formula_uses f)) (first_wrong p (formula_uses g))
unfolding hidden formula_shape formula_child
formula-Implies p f g = first-append p (formula_uses f) (formula_uses g)

pub formula-Not : (p : Program) (f : Formula) → first_wrong p (formula_uses (formula.Not f)) ≡ first_wrong p (formula_uses f)
unfolding hidden formula_shape formula_child
formula-Not p f = refl

pub formula-All : (p : Program) (f : Formula) → first_wrong p (formula_uses (formula.All f)) ≡ first_wrong p (formula_uses f)
unfolding hidden formula_shape formula_child
formula-All p f = refl

pub formula-Lab : (p : Program) (l : Label) (f : Formula) → first_wrong p (formula_uses (formula.Lab l f)) ≡ first_wrong p (formula_uses f)
unfolding hidden formula_shape formula_child
formula-Lab p l f = refl

pub ruleset judge_term_rules = (term-Num, term-Bound, term-Sym, array-Sym, term-Read, term-Add, term-Sub, term-Mul, term-Neg, array-Put)

pub ruleset judge_formula_rules = (formula-True, formula-False, formula-Le, formula-Eq, formula-And, formula-Or, formula-Implies, formula-Not, formula-All, formula-Lab)
