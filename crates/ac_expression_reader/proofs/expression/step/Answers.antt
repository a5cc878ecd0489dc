use Rattle.std.proofs.Common.{◌≡◌, subst, sym}
use Rattle.std.specs.Prelude.{IfOk}
use Rattle.ac_expression_reader.specs.ReadExpression.{step_at}
use Rattle.ac_expression_reader.proofs.expression.step.Goals as goal

pub returns-in-Want : goal.returns-in-Want
returns-in-Want c = subst (λ s. IfOk c.step_want.result (λ r. r ≡ step_at c.args.reading.stack s c.args.token.now)) (sym c.in-Want.is) c.step_want.ensures

pub returns-in-Named : goal.returns-in-Named
returns-in-Named c = subst (λ s. IfOk c.step_named.result (λ r. r ≡ step_at c.args.reading.stack s c.args.token.now)) (sym c.in-Named.is) c.step_named.ensures

pub returns-in-Have : goal.returns-in-Have
returns-in-Have c = subst (λ s. IfOk c.step_have.result (λ r. r ≡ step_at c.args.reading.stack s c.args.token.now)) (sym c.in-Have.is) c.step_have.ensures
