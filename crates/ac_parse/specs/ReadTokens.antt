-- Reading the tokens of a program, with its limits.
-- No promise rests on this file: it says what the code keeps on the way.
use Rattle.std.specs.Prelude.{ℕ, nat_lt, if◌then◌else◌, [], ◌∷◌, Option, Some, None, Result, Ok, Err}
use Rattle.ac_tree.specs.declared.limit.LimitKind.TheVariants as limit
use Rattle.ac_tree.specs.Limits.{limit_of}
use Rattle.ac_tree.specs.declared.program.Program.{Program}
use Rattle.ac_tree.specs.Grammar.{Tokens}
use Rattle.ac_parse.specs.declared.declaration.ProgramReading.{ProgramReading}
use Rattle.ac_parse.specs.declared.refusal.Refusal.{Refusal}
use Rattle.ac_parse.specs.declared.refusal.Refusal.TheVariants.{Nesting, Operators, Unexpected}
use Rattle.ac_parse.specs.Limits.{nested, operated}
use Rattle.ac_parse.specs.ReadProgram.{start, step, value}

abbrev pub ended : ℕ → Option Program → Result Program Refusal
ended n None = Err (Unexpected (record { start = n; end = n }))
ended n (Some p) = Ok p

-- the program, or where and why reading stops
abbrev pub reads : ℕ → ProgramReading → (depth operators : ℕ) → Tokens → Result Program Refusal
reads n m d o [] = ended n (value m)
reads n m d o (t ∷ ts) =
    if nat_lt (limit_of limit.Nesting) (nested d t.mark) then Err Nesting else
    if nat_lt (limit_of limit.Operators) (operated o t.mark) then Err Operators else
    elim (step m t) [ None ↦ Err (Unexpected t.span) | Some j ↦ reads n j (nested d t.mark) (operated o t.mark) ts ]

abbrev pub read_all : ℕ → Tokens → Result Program Refusal
read_all n ts = reads n start 0 0 ts
