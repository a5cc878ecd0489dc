use Rattle.std.proofs.Common.{◌≡◌, ◌<◌, ◌≤◌, length, sym, subst, List, Option, Some, None, arith}
use Rattle.ac_formula_machine.specs.declared.machine_state.Frame.{Frame}
use Rattle.ac_formula_reader.proofs.Running.{Runs, run_begins, advances_at, run_goes_on, run_inside, run_stuck}
use Rattle.ac_formula_reader.proofs.read.run.Goals as goal

pub loop-at-init : goal.loop-at-init
loop-at-init c = (
  c.run_length-at.ensures.inside,
  subst
      (λ (k : List Frame). Runs c.args.begun c.args.bytes.now k c.args.begun c.run_length-at.result)
      (sym c.new-stack.ensures)
      (run_begins c.args.begun c.args.bytes.now c.run_length-at.result c.run_length-at.ensures),
)

pub returns-in-None : goal.returns-in-None
returns-in-None c =
    let k = c.loop-at.stack in
    let j = c.read_token.new.stack in
    let a = advances_at c.args.bytes.now k j c.loop-at.state c.loop-at.at c.in_ok-read_token.field-0 None c.loop-at.invariant.0 c.in-None.is c.in_ok-read_token.ensures in
    run_stuck c.args.begun c.args.bytes.now k j c.loop-at.state c.loop-at.at c.loop-at-test.true c.loop-at.invariant.1 a

pub loop-at-preserved : goal.loop-at-preserved
loop-at-preserved c =
    let k = c.loop-at.stack in
    let j = c.read_token.new.stack in
    let a = advances_at c.args.bytes.now k j c.loop-at.state c.loop-at.at c.in_ok-read_token.field-0 (Some c.in-Some.next) c.loop-at.invariant.0 c.in-Some.is c.in_ok-read_token.ensures in (
      (run_inside c.args.bytes.now k j c.loop-at.state c.loop-at.at c.in-Some.next c.loop-at.invariant.0 a).1,
      run_goes_on c.args.begun c.args.bytes.now k j c.loop-at.state c.loop-at.at c.in-Some.next c.loop-at.invariant.1 a,
    )
