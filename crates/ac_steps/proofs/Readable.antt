-- What is made of readable terms is readable, and the terms of a readable comparison are.
use Rattle.ac_logic.specs.declared.formula.Term.{Term}
use Rattle.ac_logic.specs.declared.formula.Formula.{Formula, Le, Eq}
use Rattle.ac_logic.specs.declared.formula.Formula.TheVariants.{Not, Or, Implies}
use Rattle.ac_logic.specs.Readable.{IsReadable, IsReadableTerm}
use Rattle.ac_proof.specs.Linear.{next}
use Rattle.ac_proof.specs.Rules.{in_order, equal_or_apart}
use Rattle.ac_steps.specs.Opened.{hidden, formula_shape, formula_child, term_shape, term_child}
use Rattle.ac_steps.specs.Ways.{apart, below}

pub next_readable : (t : Term) → IsReadableTerm t → IsReadableTerm (next t)
unfolding hidden term_shape term_child
next_readable t h = ((h.0, tt), (h.1, tt))

pub at_most_readable : (s t : Term) → IsReadableTerm s → IsReadableTerm t → IsReadable (Le s t)
unfolding hidden formula_shape formula_child
at_most_readable s t a b = ((a.0, b.0), (a.1, b.1))

pub equal_readable : (s t : Term) → IsReadableTerm s → IsReadableTerm t → IsReadable (Eq s t)
unfolding hidden formula_shape formula_child
equal_readable s t a b = ((a.0, b.0), (a.1, b.1))

pub or_readable : (f g : Formula) → IsReadable f → IsReadable g → IsReadable (Or f g)
unfolding hidden formula_shape formula_child
or_readable f g a b = ((a.0, b.0), (a.1, b.1))

pub implies_readable : (f g : Formula) → IsReadable f → IsReadable g → IsReadable (Implies f g)
unfolding hidden formula_shape formula_child
implies_readable f g a b = ((a.0, b.0), (a.1, b.1))

pub below_readable : (s t : Term) → IsReadableTerm s → IsReadableTerm t → IsReadable (below s t)
below_readable s t a b = at_most_readable (next s) t (next_readable s a) b

pub apart_readable : (s t : Term) → IsReadableTerm s → IsReadableTerm t → IsReadable (apart s t)
apart_readable s t a b = or_readable (below s t) (below t s) (below_readable s t a b) (below_readable t s b a)

pub order_readable : (s t : Term) → IsReadableTerm s → IsReadableTerm t → IsReadable (in_order s t)
order_readable s t a b = or_readable (Le s t) (below t s) (at_most_readable s t a b) (below_readable t s b a)

pub equality_readable : (s t : Term) → IsReadableTerm s → IsReadableTerm t → IsReadable (equal_or_apart s t)
equality_readable s t a b = or_readable (Eq s t) (apart s t) (equal_readable s t a b) (apart_readable s t a b)

pub denied_terms : (s t : Term) → IsReadable (Not (Le s t)) → IsReadableTerm s × IsReadableTerm t
unfolding hidden formula_shape formula_child
denied_terms s t h = ((h.0.0, h.1.0), (h.0.1, h.1.1))

pub equal_terms : (s t : Term) → IsReadable (Eq s t) → IsReadableTerm s × IsReadableTerm t
unfolding hidden formula_shape formula_child
equal_terms s t h = ((h.0.0, h.1.0), (h.0.1, h.1.1))
