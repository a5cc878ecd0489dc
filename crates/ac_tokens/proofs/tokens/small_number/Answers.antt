use Rattle.std.proofs.Common.{arith, ◌+◌}
use Rattle.ac_tokens.proofs.ByteKinds.{digit_at}
use Rattle.ac_tokens.proofs.Digits.{number_more, number_front}
use Rattle.ac_tokens.proofs.tokens.small_number.Goals as goal

pub overflow_sub-digit : goal.overflow_sub-digit
overflow_sub-digit c = (digit_at c.args.digits.now c.loop-digit.digit-index c.loop-digit-test.true c.requires).0

-- the digits so far write a number above the limit, and more digits none that is less
pub returns-then-number : goal.returns-then-number
returns-then-number c =
    omega (arith, number_more c.args.digits.now c.loop-digit.digit-index c.loop-digit-test.true, number_front c.args.digits.now (c.loop-digit.digit-index + 1))
