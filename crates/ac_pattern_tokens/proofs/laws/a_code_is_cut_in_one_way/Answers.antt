use Rattle.ac_pattern_tokens.proofs.CodeCuts.{one_cut}
use Rattle.ac_pattern_tokens.proofs.laws.a_code_is_cut_in_one_way.Goals as goal

pub returns : goal.returns
returns c = λ bytes ts us d e. one_cut d e
