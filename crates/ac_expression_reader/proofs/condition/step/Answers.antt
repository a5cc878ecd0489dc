use Rattle.std.proofs.Common.{◌≡◌, subst, sym}
use Rattle.std.specs.Prelude.{IfOk}
use Rattle.ac_expression_reader.specs.ReadCondition.{step_at}
use Rattle.ac_expression_reader.proofs.condition.step.Goals as goal

pub returns-in-Wants : goal.returns-in-Wants
returns-in-Wants c = subst (λ s. IfOk c.step_wants.result (λ r. r ≡ step_at c.args.reading.stack s c.args.token.now)) (sym c.in-Wants.is) c.step_wants.ensures

pub returns-in-Compares : goal.returns-in-Compares
returns-in-Compares c = subst (λ s. IfOk c.step_side.result (λ r. r ≡ step_at c.args.reading.stack s c.args.token.now)) (sym c.in-Compares.is) c.step_side.ensures

pub returns-in-Has : goal.returns-in-Has
returns-in-Has c = subst (λ s. IfOk c.step_has.result (λ r. r ≡ step_at c.args.reading.stack s c.args.token.now)) (sym c.in-Has.is) c.step_has.ensures
