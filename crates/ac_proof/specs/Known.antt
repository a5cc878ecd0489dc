-- Which premises of an instance are readable because its goal is.
-- No promise rests on this file: it says what the code keeps on the way.
use Rattle.std.specs.Prelude.{ℕ, Bool, true, false, nat_lt}
use Rattle.ac_proof.specs.declared.rule.Rule.{Rule}
use Rattle.ac_proof.specs.declared.rule.Rule.TheVariants.{AndLeft, AndRight, OrElim, ImpliesElim, NotElim, Linear}

-- Premise number i of an instance has no part that is not a part of its goal or of the premises before it.
abbrev pub given : Rule → ℕ → Bool
given AndLeft i = false
given AndRight i = false
given (Linear factors) i = false
given OrElim i = nat_lt 0 i
given ImpliesElim i = nat_lt 0 i
given NotElim i = nat_lt 0 i
given _ i = true
