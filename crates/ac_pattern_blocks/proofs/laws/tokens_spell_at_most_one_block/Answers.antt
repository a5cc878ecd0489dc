use Rattle.ac_pattern_blocks.proofs.Read.{one_block}
use Rattle.ac_pattern_blocks.proofs.laws.tokens_spell_at_most_one_block.Goals as goal

pub returns : goal.returns
returns c = one_block
