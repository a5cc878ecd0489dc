use Rattle.std.proofs.Common.{refl, length}
use Rattle.std.proofs.lemmas.Result.{IfOk-weaker}
use Rattle.ac_steps.specs.declared.plan.Plan.{out-Plan}
use Rattle.ac_steps.specs.Plans.{contexts_in, formulas_of}
use Rattle.ac_steps.proofs.Unfolded.{own_step, given, count_of, no_other}
use Rattle.ac_steps.proofs.builder.unfolded.Goals as goal

pub from_denial-requires : goal.from_denial-requires
from_denial-requires c = count_of c.args.hyps.now (contexts_in c.args.plan.now) (formulas_of c.args.plan.now) _ c.args.trees (given c.args.hyps.now c.args.plan.now _ c.in-FromDenial.is c.requires.planned).1 c.requires.proofs

pub between-requires : goal.between-requires
between-requires c = count_of c.args.hyps.now (contexts_in c.args.plan.now) (formulas_of c.args.plan.now) _ c.args.trees (given c.args.hyps.now c.args.plan.now _ c.in-Between.is c.requires.planned).1 c.requires.proofs

pub by_order-requires : goal.by_order-requires
by_order-requires c = count_of c.args.hyps.now (contexts_in c.args.plan.now) (formulas_of c.args.plan.now) _ c.args.trees (given c.args.hyps.now c.args.plan.now _ c.in-ByOrder.is c.requires.planned) c.requires.proofs

pub by_equality-requires : goal.by_equality-requires
by_equality-requires c = count_of c.args.hyps.now (contexts_in c.args.plan.now) (formulas_of c.args.plan.now) _ c.args.trees (given c.args.hyps.now c.args.plan.now _ c.in-ByEquality.is c.requires.planned) c.requires.proofs

pub by_lemma-requires : goal.by_lemma-requires
by_lemma-requires c = count_of c.args.hyps.now (contexts_in c.args.plan.now) (formulas_of c.args.plan.now) _ c.args.trees (given c.args.hyps.now c.args.plan.now _ c.in-Lemma.is c.requires.planned).1 c.requires.proofs

pub hypothesis-requires : goal.hypothesis-requires
hypothesis-requires c = record { known = (given c.args.hyps.now c.args.plan.now _ c.in-Hypothesis.is c.requires.planned).1; readable = c.requires.planned.0 }

pub returns-in-FromDenial : goal.returns-in-FromDenial
returns-in-FromDenial c = IfOk-weaker c.from_denial.result _ _ (λ tree h. own_step c.args.hyps.now c.args.plan.now _ _ (length c.args.hyps.now) c.args.trees tree c.in-FromDenial.is (given c.args.hyps.now c.args.plan.now _ c.in-FromDenial.is c.requires.planned).0 refl c.requires.planned c.requires.proofs h) c.from_denial.ensures

pub returns-in-Between : goal.returns-in-Between
returns-in-Between c = IfOk-weaker c.between.result _ _ (λ tree h. own_step c.args.hyps.now c.args.plan.now _ _ (length c.args.hyps.now) c.args.trees tree c.in-Between.is (given c.args.hyps.now c.args.plan.now _ c.in-Between.is c.requires.planned).0 refl c.requires.planned c.requires.proofs h) c.between.ensures

pub returns-in-ByOrder : goal.returns-in-ByOrder
returns-in-ByOrder c = IfOk-weaker c.by_order.result _ _ (λ tree h. own_step c.args.hyps.now c.args.plan.now _ (out-Plan c.args.plan.now).goal (length c.args.hyps.now) c.args.trees tree c.in-ByOrder.is refl refl c.requires.planned c.requires.proofs (h (length c.args.hyps.now))) c.by_order.ensures

pub returns-in-ByEquality : goal.returns-in-ByEquality
returns-in-ByEquality c = IfOk-weaker c.by_equality.result _ _ (λ tree h. own_step c.args.hyps.now c.args.plan.now _ (out-Plan c.args.plan.now).goal (length c.args.hyps.now) c.args.trees tree c.in-ByEquality.is refl refl c.requires.planned c.requires.proofs h) c.by_equality.ensures

pub returns-in-Lemma : goal.returns-in-Lemma
returns-in-Lemma c = IfOk-weaker c.by_lemma.result _ _ (λ tree h. own_step c.args.hyps.now c.args.plan.now _ (out-Plan c.args.plan.now).goal (length c.args.hyps.now) c.args.trees tree c.in-Lemma.is refl refl c.requires.planned c.requires.proofs (h (length c.args.hyps.now))) c.by_lemma.ensures

pub unreachable-requires : goal.unreachable-requires
unreachable-requires c = no_other c.args.hyps.now (out-Plan c.args.plan.now).way (out-Plan c.args.plan.now).goal (formulas_of c.args.plan.now) c.requires.no_rule c.requires.planned.3 c.in_default.not-Hypothesis c.in_default.not-FromDenial c.in_default.not-Between c.in_default.not-ByOrder c.in_default.not-ByEquality c.in_default.not-Lemma
