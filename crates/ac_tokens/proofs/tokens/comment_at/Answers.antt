use Rattle.std.proofs.Common.{arith, ◌+◌, ◌≤◌}
use Rattle.ac_tokens.proofs.Placed.{comment_cut}
use Rattle.ac_tokens.proofs.tokens.comment_at.Goals as goal

pub returns : goal.returns
returns c =
    let ahead : c.args.at + 1 ≤ c.run_end-end.result = c.run_end-end.ensures.ahead in
    record {
      cut = comment_cut c.args.bytes.now c.args.at c.run_end-end.result c.requires.within c.requires.hash c.run_end-end.ensures;
      ahead = omega arith;
      inside = c.run_end-end.ensures.inside;
      within = tt;
    }
