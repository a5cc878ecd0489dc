-- The formula of a test of a program, and labelled formulas.
use Rattle.std.specs.Prelude.{pos}
use Rattle.ac_tree.specs.declared.node.NodeId.{NodeId}
use Rattle.ac_tree.specs.declared.program.CondKind.{CondKind}
use Rattle.ac_tree.specs.declared.program.CondKind.TheVariants as cond
use Rattle.ac_tree.specs.declared.program.Program.{Program}
use Rattle.ac_tree.specs.declared.program.RelOp.{RelOp}
use Rattle.ac_tree.specs.declared.program.RelOp.TheVariants as rel
use Rattle.ac_tree.specs.Patterns.{Negation, Conjunction, Disjunction}
use Rattle.ac_logic.specs.declared.formula.Formula.{Formula, True, False, Le, Eq}
use Rattle.ac_logic.specs.declared.formula.Term.{Term, Num}
use Rattle.ac_logic.specs.declared.label.LabelKind.{LabelKind}
use Rattle.ac_logic.specs.Patterns.{Sum, Labelled}
use Rattle.ac_logic.specs.Patterns.{Negation as Not}
use Rattle.ac_logic.specs.Patterns.{Conjunction as And}
use Rattle.ac_logic.specs.Patterns.{Disjunction as Or}
use Rattle.ac_policy.specs.Terms.{term_of}
use Rattle.ac_conditions.specs.Opened.{hidden, cond_shape, cond_child, term_shape, term_child, formula_shape, formula_child}

-- a formula with what it is for, and the node that it speaks of
abbrev pub labelled : LabelKind → NodeId → Formula → Formula
unfolding hidden formula_shape formula_child
labelled kind n f = Labelled (record { kind = kind; node = n }) f

abbrev pub one_more : Term → Term
unfolding hidden term_shape term_child
one_more t = Sum t (Num (pos 1))

-- the relations, all said by `<=` and `=` over whole numbers
abbrev pub relation : RelOp → Term → Term → Formula
unfolding hidden formula_shape formula_child term_shape term_child
relation rel.Eq s t = Eq s t
relation rel.Ne s t = Not (Eq s t)
relation rel.Lt s t = Le (one_more s) t
relation rel.Le s t = Le s t
relation rel.Gt s t = Le (one_more t) s
relation rel.Ge s t = Le t s

abbrev pub formula_of : Program → CondKind → Formula
unfolding hidden cond_shape cond_child formula_shape formula_child
formula_of p cond.True = True
formula_of p cond.False = False
formula_of p (cond.Rel op a b) = relation op (term_of p a.kind) (term_of p b.kind)
formula_of p (Negation n c) = Not (formula_of p c)
formula_of p (Conjunction n c m d) = And (formula_of p c) (formula_of p d)
formula_of p (Disjunction n c m d) = Or (formula_of p c) (formula_of p d)
