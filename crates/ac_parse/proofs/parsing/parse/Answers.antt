use Rattle.std.proofs.Common.{length, refl, sym, ◌∙◌, ap, subst, arith}
use Rattle.ac_numbering.specs.Numbers.{NumbersProgram}
use Rattle.ac_parse.specs.ReadTokens.{read_all}
use Rattle.ac_tokens.specs.TokenFaults.{IsTokenized}
use Rattle.ac_parse.proofs.Parsed.{numbered_within, too_many_nodes, refused_after_cut}
use Rattle.ac_parse.proofs.parsing.parse.Goals as goal

pub returns-in-Err-2-clause-fault : goal.returns-in-Err-2-clause-fault
returns-in-Err-2-clause-fault c =
    let bytes = c.args.bytes.now in
    let tokens = c.in-Ok-tokenize.tokens.items in
    let cut = subst (λ bs. IsTokenized bs tokens) c.in-Ok.ensures.text.0 c.in-Ok-tokenize.ensures.tokens in
    let read = sym c.in-Err-2.is ∙ (c.in_ok-tree.ensures ∙ ap (read_all (length bytes)) c.as_slice.ensures.value) in
    c.refused.ensures bytes (omega (arith, c.if-bytes-number.false, c.number.ensures)) (refused_after_cut bytes tokens c.in-Err-2.refusal cut read)

pub returns-in-Some-clause-program : goal.returns-in-Some-clause-program
returns-in-Some-clause-program c =
    let bytes = c.args.bytes.now in
    let tokens = c.in-Ok-tokenize.tokens.items in
    let cut = subst (λ bs. IsTokenized bs tokens) c.in-Ok.ensures.text.0 c.in-Ok-tokenize.ensures.tokens in
    let read = sym c.in-Ok-2.is ∙ (c.in_ok-tree.ensures ∙ ap (read_all (length bytes)) c.as_slice.ensures.value) in
    let numbered = subst (λ r. NumbersProgram c.in-Ok-2.tree r) c.in-Some.is c.in_ok-program.ensures in
    numbered_within bytes tokens c.in-Ok-2.tree c.in-Some.program (omega (arith, c.if-bytes-number.false, c.number.ensures)) cut read numbered

pub returns-clause-fault : goal.returns-clause-fault
returns-clause-fault c =
    let bytes = c.args.bytes.now in
    let tokens = c.in-Ok-tokenize.tokens.items in
    let cut = subst (λ bs. IsTokenized bs tokens) c.in-Ok.ensures.text.0 c.in-Ok-tokenize.ensures.tokens in
    let read = sym c.in-Ok-2.is ∙ (c.in_ok-tree.ensures ∙ ap (read_all (length bytes)) c.as_slice.ensures.value) in
    let numbered = subst (λ r. NumbersProgram c.in-Ok-2.tree r) c.in-None.is c.in_ok-program.ensures in
    c.passed-in-None.ensures bytes (refl, omega (arith, c.if-bytes-number.false, c.number.ensures), too_many_nodes bytes tokens c.in-Ok-2.tree cut read numbered)
