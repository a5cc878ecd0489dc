use Rattle.std.proofs.Common.{◌≡◌, ◌+◌, ◌<◌, ◌^◌, subst, ℕ, List, Result, length, arith}
use Rattle.ac_logic.specs.declared.formula.Formula.{Formula}
use Rattle.ac_formula_printer.specs.FormulaText.{Formulas}
use Rattle.ac_formula_printer.specs.FormulaTokens.{IsRefusedAt}
use Rattle.ac_formula_reader.specs.FormulaPieces.{IsRead}
use Rattle.ac_formula_reader.proofs.Running.{refused_is}
use Rattle.ac_formula_reader.proofs.read.read_formula.Goals as goal

pub returns-in-Err-clause-refused : goal.returns-in-Err-clause-refused
returns-in-Err-clause-refused c =
    let r = subst (λ (r : Result Formula ℕ). IsRead Formulas c.as_bytes.result.now r) c.in-Err.is c.in_ok-formula.ensures in
    let at = subst (λ (b : List ℕ). IsRefusedAt Formulas b c.in-Err.place) c.as_bytes.ensures.value r in
    refused_is Formulas c.args.text.now c.in-Err.place c.fault_at.result at c.fault_at.ensures

pub fault_at-requires : goal.fault_at-requires
fault_at-requires c =
    let r = subst (λ (r : Result Formula ℕ). IsRead Formulas c.as_bytes.result.now r) c.in-Err.is c.in_ok-formula.ensures in
    let at = subst (λ (b : List ℕ). IsRefusedAt Formulas b c.in-Err.place) c.as_bytes.ensures.value r in
    let inside : c.in-Err.place + length at.left ≡ length c.args.text.now = at.at in
    omega (arith, inside, c.requires)
