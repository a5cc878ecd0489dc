use Rattle.std.proofs.Common.{arith, sym, ◌∙◌}
use Rattle.std.proofs.lemmas.Bool.{false≢true}
use Rattle.std.proofs.lemmas.List.Elements.{All-nil}
use Rattle.ac_verdict.proofs.Statements.{straight_next, first_unsupported, all_supported, below_next}
use Rattle.ac_verdict.proofs.supported.first_unsupported.Goals as goal

pub loop-i-init : goal.loop-i-init
loop-i-init c = (All-nil _, omega arith)

pub returns-then-i-eq-MOST_STATEMENTS : goal.returns-then-i-eq-MOST_STATEMENTS
returns-then-i-eq-MOST_STATEMENTS c =
    first_unsupported c.args.program.now _ _ c.statement-item.result c.as_slice-statement-items.ensures c.loop-i-test.true c.statement-item.is c.loop-i.invariant.0 c.loop-i.invariant.1 (λ straight. c.if-i-eq-MOST_STATEMENTS.true)

pub returns-in_default : goal.returns-in_default
returns-in_default c =
    first_unsupported c.args.program.now _ _ c.statement-item.result c.as_slice-statement-items.ensures c.loop-i-test.true c.statement-item.is c.loop-i.invariant.0 c.loop-i.invariant.1
    (λ straight. absurd (false≢true (sym (c.in_default.ensures c.args.program.now (c.in_ok-names.ensures ∙ c.as_slice.ensures)).0 ∙ straight)))

pub loop-i-preserved : goal.loop-i-preserved
loop-i-preserved c = (
  straight_next c.args.program.now _ _ c.statement-item.result c.loop-i-test.true c.statement-item.is c.loop-i.invariant.0 (c.in-Some.ensures c.args.program.now (c.in_ok-names.ensures ∙ c.as_slice.ensures)).0,
  below_next c.if-i-eq-MOST_STATEMENTS.false c.loop-i.invariant.1,
)

pub returns : goal.returns
returns c = all_supported c.args.program.now _ _ c.as_slice-statement-items.ensures c.loop-i-test.false c.loop-i.invariant.0 c.loop-i.invariant.1
