use Rattle.std.proofs.Common.{arith, subst, sym, drop}
use Rattle.ac_tree.specs.Tokens.{Lexes, nothing}
use Rattle.ac_tokens.specs.TokenFaults.{AreWithinLimits}
use Rattle.ac_tokens.proofs.Placed.{cut_joined, within_joined}
use Rattle.ac_tokens.proofs.tokens.tokenize.Goals as goal

pub loop-at-init : goal.loop-at-init
loop-at-init c = record {
  inside = omega arith;
  cut = subst (λ ts. Lexes 0 c.as_bytes-bytes.result.now ts 0 c.as_bytes-bytes.result.now) (sym c.new-tokens.ensures.items) nothing;
  within = subst (λ ts. AreWithinLimits ts) (sym c.new-tokens.ensures.items) tt;
}

pub loop-at-preserved : goal.loop-at-preserved
loop-at-preserved c =
    let piece = c.in_ok-piece.ensures.piece in
    let pushed = c.in_ok-push_token.ensures.pushed in
    record {
      inside = piece.inside;
      cut = subst (λ ts. Lexes 0 c.as_bytes-bytes.result.now ts c.in_ok-piece.piece.end (drop c.in_ok-piece.piece.end c.as_bytes-bytes.result.now)) (sym pushed)
          (cut_joined c.loop-at.invariant.cut piece.cut);
      within = subst (λ ts. AreWithinLimits ts) (sym pushed) (within_joined _ _ c.loop-at.invariant.within piece.within);
    }
