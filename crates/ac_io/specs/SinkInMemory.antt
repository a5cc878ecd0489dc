-- A sink in memory, as contracts see it, and what a put answers and leaves.
use Rattle.std.specs.Prelude.{◌≡◌, ℕ, ◌+◌, ◌<◌, ◌≤◌, Bool, List, length, ◌++◌, take, find, reverse, nat_eq, Option, Some, None, Result, Ok, Err}
use Rattle.std.specs.Option.{option_map}
use Rattle.ac_io.specs.declared.sink.SinkFault.{SinkFault}
use Rattle.ac_io.specs.declared.sink.SinkFault.TheVariants.{Failed, OutOfMemory}
use Rattle.ac_io.specs.declared.failing_put.FailingPut.{FailingPut}
use Rattle.ac_io.specs.Counts.{one_more}

-- the bytes written, the puts that are to fail, how many puts there were, the count of faults, and how many bytes more
-- it can take without memory
pub record SinkInMemory : Type 0 where
  pub bytes : List ℕ
  pub failing : List FailingPut
  pub puts : ℕ
  pub failed_puts : ℕ
  pub spare : ℕ

abbrev pub is_put : ℕ → FailingPut → Bool
is_put call failing = nat_eq failing.call call

-- how many bytes this put keeps, where it is to fail: the number given last
abbrev pub kept_of : List FailingPut → ℕ → Option ℕ
kept_of failing call = option_map (λ f. f.keep) (find (is_put call) (reverse failing))

-- how many bytes the next put keeps, where it is to fail
abbrev pub next_kept : SinkInMemory → Option ℕ
next_kept sink = kept_of sink.failing sink.puts

-- when each answer of a put comes, and what it leaves
abbrev pub PutLeaves : Result (Unit {0}) SinkFault → List ℕ → SinkInMemory → SinkInMemory → Type 0
PutLeaves (Ok _) bytes old new =
    (next_kept old ≡ None)
    × (new ≡ record old { bytes = old.bytes ++ bytes; puts = one_more old.puts; spare = new.spare })
PutLeaves (Err Failed) bytes old new =
    (kept : ℕ) × (next_kept old ≡ Some kept)
    × (new ≡ record old { bytes = old.bytes ++ take kept bytes; puts = one_more old.puts; failed_puts = one_more old.failed_puts; spare = new.spare })
PutLeaves (Err OutOfMemory) bytes old new =
    (old.spare < length bytes) × (new ≡ record old { spare = new.spare })

-- a put lowers the spare by at most the bytes that it adds
abbrev pub SpendsSpare : SinkInMemory → SinkInMemory → Type 0
SpendsSpare old new = old.spare + length old.bytes ≤ new.spare + length new.bytes
