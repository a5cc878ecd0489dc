-- Reading the block that tokens of a code spell, with its limits.
-- No promise rests on this file: it says what the code keeps on the way.
use Rattle.std.specs.Prelude.{ℕ, nat_lt, if◌then◌else◌, [], ◌∷◌, Option, Some, None}
use Rattle.ac_tree.specs.declared.limit.LimitKind.TheVariants as limit
use Rattle.ac_tree.specs.Limits.{limit_of}
use Rattle.ac_tree.specs.declared.token.Token.{Token}
use Rattle.ac_tree.specs.Grammar.{Tokens}
use Rattle.ac_parse.specs.declared.statement.StmtReading.{StmtReading}
use Rattle.ac_parse.specs.Limits.{nested, operated}
use Rattle.ac_parse.specs.ReadStatement.{Block, start, step, value}
use Rattle.ac_pattern_blocks.specs.Spread.{spread_token}

abbrev pub then_step : Option StmtReading → Token → Option StmtReading
then_step None t = None
then_step (Some m) t = step m t

-- where tokens lead
abbrev pub feed : Option StmtReading → Tokens → Option StmtReading
feed o [] = o
feed o (t ∷ ts) = feed (then_step o t) ts

abbrev pub reads : StmtReading → (depth operators : ℕ) → Tokens → Option Block
reads m d o [] = value m
reads m d o (t ∷ ts) =
    if nat_lt (limit_of limit.Nesting) (nested d t.mark) then None else
    if nat_lt (limit_of limit.Operators) (operated o t.mark) then None else
    elim (feed (Some m) (spread_token t)) [ None ↦ None | Some j ↦ reads j (nested d t.mark) (operated o t.mark) ts ]

abbrev pub read_all : Tokens → Option Block
read_all ts = reads start 0 0 ts
