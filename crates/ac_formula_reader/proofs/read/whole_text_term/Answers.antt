use Rattle.std.proofs.Common.{◌≡◌, ap, subst, Some, None}
use Rattle.ac_formula_machine.specs.declared.machine_state.State.TheVariants as state
use Rattle.ac_formula_reader.specs.declared.read.Reached.{Reached}
use Rattle.ac_formula_printer.specs.FormulaText.{Terms}
use Rattle.ac_formula_reader.specs.FormulaPieces.{HasRun}
use Rattle.ac_formula_reader.proofs.Running.{text_ends}
use Rattle.ac_formula_reader.proofs.read.whole_text_term.Goals as goal

pub returns-in-Stuck : goal.returns-in-Stuck
returns-in-Stuck c = subst (λ (r : Reached). HasRun Terms c.args.bytes.now r) c.in-Stuck.is (c.in_ok-at.ensures Terms (ap state.Factor c.fresh.ensures))

pub returns-in-None : goal.returns-in-None
returns-in-None c =
    let i = subst (λ (r : Reached). HasRun Terms c.args.bytes.now r) c.in-Through.is (c.in_ok-at.ensures Terms (ap state.Factor c.fresh.ensures)) in
    text_ends Terms c.args.bytes.now c.in-Through.stack c.in-Through.state c.in_ok-end_term-in-Through.field-0 None i c.in_ok-end_term-in-Through.ensures c.in-None.is

pub returns-in-Some : goal.returns-in-Some
returns-in-Some c =
    let i = subst (λ (r : Reached). HasRun Terms c.args.bytes.now r) c.in-Through.is (c.in_ok-at.ensures Terms (ap state.Factor c.fresh.ensures)) in
    text_ends Terms c.args.bytes.now c.in-Through.stack c.in-Through.state c.in_ok-end_term-in-Through.field-0 (Some c.in-Some.term) i c.in_ok-end_term-in-Through.ensures c.in-Some.is
