use Rattle.std.proofs.Common.{◌≡◌, subst, sym}
use Rattle.std.specs.Prelude.{IfOk}
use Rattle.ac_parse.specs.ReadStatement.{behind}
use Rattle.ac_parse.proofs.statement.behind.Goals as goal

pub returns-in-Value : goal.returns-in-Value
returns-in-Value c = subst (λ s. IfOk c.end_value.result (λ r. r ≡ behind c.args.stack c.args.done s c.args.token.now.span c.args.token.now.mark c.args.x)) (sym c.in-Value.is) c.end_value.ensures

pub returns-in-First : goal.returns-in-First
returns-in-First c = subst (λ s. IfOk c.end_first.result (λ r. r ≡ behind c.args.stack c.args.done s c.args.token.now.span c.args.token.now.mark c.args.x)) (sym c.in-First.is) c.end_first.ensures

pub returns-in-Second : goal.returns-in-Second
returns-in-Second c = subst (λ s. IfOk c.end_second.result (λ r. r ≡ behind c.args.stack c.args.done s c.args.token.now.span c.args.token.now.mark c.args.x)) (sym c.in-Second.is) c.end_second.ensures

pub returns-in-Cell : goal.returns-in-Cell
returns-in-Cell c = subst (λ s. IfOk c.end_cell.result (λ r. r ≡ behind c.args.stack c.args.done s c.args.token.now.span c.args.token.now.mark c.args.x)) (sym c.in-Cell.is) c.end_cell.ensures

pub returns-in-Low : goal.returns-in-Low
returns-in-Low c = subst (λ s. c.end_low.result ≡ behind c.args.stack c.args.done s c.args.token.now.span c.args.token.now.mark c.args.x) (sym c.in-Low.is) c.end_low.ensures

pub returns-in-High : goal.returns-in-High
returns-in-High c = subst (λ s. IfOk c.end_high.result (λ r. r ≡ behind c.args.stack c.args.done s c.args.token.now.span c.args.token.now.mark c.args.x)) (sym c.in-High.is) c.end_high.ensures
