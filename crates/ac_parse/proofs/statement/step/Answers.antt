use Rattle.std.proofs.Common.{◌≡◌, subst, sym}
use Rattle.std.specs.Prelude.{IfOk}
use Rattle.ac_parse.specs.ReadStatement.{step_at}
use Rattle.ac_parse.proofs.statement.step.Goals as goal

pub returns-in-Between : goal.returns-in-Between
returns-in-Between c = subst (λ s. IfOk c.step_between.result (λ r. r ≡ step_at c.args.reading.stack c.args.reading.done s c.args.token.now)) (sym c.in-Between.is) c.step_between.ensures

pub returns-in-Named : goal.returns-in-Named
returns-in-Named c = subst (λ s. c.step_named.result ≡ step_at c.args.reading.stack c.args.reading.done s c.args.token.now) (sym c.in-Named.is) c.step_named.ensures

pub returns-in-Indexed : goal.returns-in-Indexed
returns-in-Indexed c = subst (λ s. c.step_indexed.result ≡ step_at c.args.reading.stack c.args.reading.done s c.args.token.now) (sym c.in-Indexed.is) c.step_indexed.ensures

pub returns-in-Expression : goal.returns-in-Expression
returns-in-Expression c = subst (λ s. IfOk c.step_expression.result (λ r. r ≡ step_at c.args.reading.stack c.args.reading.done s c.args.token.now)) (sym c.in-Expression.is) c.step_expression.ensures

pub returns-in-Condition : goal.returns-in-Condition
returns-in-Condition c = subst (λ s. IfOk c.step_condition.result (λ r. r ≡ step_at c.args.reading.stack c.args.reading.done s c.args.token.now)) (sym c.in-Condition.is) c.step_condition.ensures

pub returns-in-For : goal.returns-in-For
returns-in-For c = subst (λ s. IfOk c.step_for.result (λ r. r ≡ step_at c.args.reading.stack c.args.reading.done s c.args.token.now)) (sym c.in-For.is) c.step_for.ensures

pub returns-in-ForName : goal.returns-in-ForName
returns-in-ForName c = subst (λ s. c.step_for_name.result ≡ step_at c.args.reading.stack c.args.reading.done s c.args.token.now) (sym c.in-ForName.is) c.step_for_name.ensures

pub returns-in-Use : goal.returns-in-Use
returns-in-Use c = subst (λ s. IfOk c.step_use.result (λ r. r ≡ step_at c.args.reading.stack c.args.reading.done s c.args.token.now)) (sym c.in-Use.is) c.step_use.ensures

pub returns-in-UseName : goal.returns-in-UseName
returns-in-UseName c = subst (λ s. c.step_use_name.result ≡ step_at c.args.reading.stack c.args.reading.done s c.args.token.now) (sym c.in-UseName.is) c.step_use_name.ensures

pub returns-in-UseAs : goal.returns-in-UseAs
returns-in-UseAs c = subst (λ s. IfOk c.step_use_as.result (λ r. r ≡ step_at c.args.reading.stack c.args.reading.done s c.args.token.now)) (sym c.in-UseAs.is) c.step_use_as.ensures

pub returns-in-UseRole : goal.returns-in-UseRole
returns-in-UseRole c = subst (λ s. IfOk c.step_use_role.result (λ r. r ≡ step_at c.args.reading.stack c.args.reading.done s c.args.token.now)) (sym c.in-UseRole.is) c.step_use_role.ensures

pub returns-in-Skip : goal.returns-in-Skip
returns-in-Skip c = subst (λ s. IfOk c.step_skip.result (λ r. r ≡ step_at c.args.reading.stack c.args.reading.done s c.args.token.now)) (sym c.in-Skip.is) c.step_skip.ensures
