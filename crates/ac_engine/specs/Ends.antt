-- How a call ends.
use Rattle.std.specs.Prelude.{◌≡◌, ℕ, List, Option}
use Rattle.ac_io.specs.Written.{Adds, AddsPrefix}
use Rattle.ac_engine.specs.declared.answer.Answer.{Answer}
use Rattle.ac_engine.specs.declared.status.Status.{Status}
use Rattle.ac_engine.specs.Report.{text_of, status_of}

-- an answer has its cause, the status is that of the answer, and what was written is its text
pub record Reports (Comes : Answer → Type 0) (old new : Option (List ℕ)) (status : Status) : Type 0 where
  pub answer : Answer
  pub cause : Comes answer
  pub status_is : status ≡ status_of answer
  pub added : Adds old new (text_of answer)

-- an answer has its cause, and what was written is a prefix of its text
pub record StopsShort (Comes : Answer → Type 0) (old new : Option (List ℕ)) : Type 0 where
  pub answer : Answer
  pub cause : Comes answer
  pub added : AddsPrefix old new (text_of answer)
