-- Bytes spell at most one program.
use Rattle.std.proofs.Common.{◌≡◌, ℕ, List, sym, ◌∙◌, ap, subst}
use Rattle.ac_tree.specs.declared.program.Program.{Program}
use Rattle.ac_tree.specs.Grammar.{SpellsProgram}
use Rattle.ac_tree.specs.Numbering.{numbered_program}
use Rattle.ac_tree.specs.Spelling.{Spells}
use Rattle.ac_tokens.proofs.Cuts.{cut_once}
use Rattle.ac_parse.proofs.ProgramComplete.{one_program}

pub one_spelled : (bytes : List ℕ) (p q : Program) → Spells bytes p → Spells bytes q → p ≡ q
one_spelled bytes p q s t =
    let e = one_program (subst (λ ts. SpellsProgram s.tree ts) (cut_once s.cut t.cut) s.spelled) t.spelled in
    s.numbers ∙ (ap numbered_program e ∙ sym t.numbers)
