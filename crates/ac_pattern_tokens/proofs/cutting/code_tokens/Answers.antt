use Rattle.std.proofs.Common.{arith, subst}
use Rattle.ac_pattern_tokens.specs.CodeText.{CutsCode}
use Rattle.ac_pattern_tokens.proofs.NamesAt.{all_cut}
use Rattle.ac_pattern_tokens.proofs.cutting.code_tokens.Goals as goal

pub returns : goal.returns
returns c =
    subst (λ q. CutsCode 0 q c.loop-at.tokens.items) c.as_bytes-bytes.ensures.value
    (all_cut c.as_bytes-bytes.result.now c.loop-at.at c.loop-at.tokens.items (omega (arith, c.loop-at-test.false)) c.loop-at.invariant.leads)
