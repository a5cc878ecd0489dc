use Rattle.std.proofs.lemmas.Result.{IfOk-weaker}
use Rattle.std.specs.Prelude.{MatchOption}
use Rattle.std.proofs.Common.{Option, Some, None}
use Rattle.ac_tree.specs.Grammar.{Tokens}
use Rattle.ac_parse.specs.ReadStatement.{Block}
use Rattle.ac_pattern_blocks.specs.Spread.{SpellsCodeBlock, SpellsNone}
use Rattle.ac_pattern_blocks.proofs.Read.{Says, says_read}
use Rattle.ac_pattern_blocks.proofs.reading.read_block.Goals as goal

says_match : (ts : Tokens) (o : Option Block) → Says ts o → MatchOption o (SpellsNone ts) (λ xs. SpellsCodeBlock xs ts)
says_match ts None h = h
says_match ts (Some xs) h = h

pub returns : goal.returns
returns c = IfOk-weaker c.read_tokens.result _ _ (λ o e. says_match c.args.tokens.now o (says_read c.args.tokens.now o e)) c.read_tokens.ensures
