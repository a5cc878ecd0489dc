-- When an answer may come: the cause of each, by what the files tell and by counts of failed loads.
use Rattle.std.specs.Prelude.{◌≡◌, ◌⊎◌, ℕ, List}
use Rattle.std.specs.Option.{ForSome}
use Rattle.ac_io.specs.Contents.{Told}
use Rattle.ac_io.specs.Counts.{Rose}
use Rattle.ac_verdict.specs.declared.outcome.Outcome.{Outcome}
use Rattle.ac_verdict.specs.Causes.{IsSomeProgram, IsCause}
use Rattle.ac_verdict.specs.Headline.{IsCertified}
use Rattle.ac_engine.specs.declared.answer.Answer.{Answer}
use Rattle.ac_engine.specs.declared.answer.Answer.TheVariants.{Usage, ReadFault, Judged}
use Rattle.ac_engine.specs.Words.{Names, Asks, HasNoForm}

-- the bytes under a name, where they are told
abbrev pub AreOf : Told → List ℕ → List ℕ → Type 0
AreOf told name bytes = ForSome (told name) (λ it. bytes ≡ it)

-- an outcome of the bytes that the files tell of the program and of the policy file
pub record IsOutcomeOf (told : Told) (program policy : List ℕ) (o : Outcome) : Type 0 where
  pub bytes : List ℕ
  pub policy_bytes : List ℕ
  pub of_program : AreOf told program bytes
  pub of_policy : AreOf told policy policy_bytes
  pub cause : IsCause bytes policy_bytes o

-- What the files tell as the call begins, and the counts of failed loads by name as it begins and as it ends.
module _ (told : Told) (before after : List ℕ → ℕ) where
  -- the load of the program failed, or that of the policy file of an accepted program
  abbrev pub IsReadFault : (program policy : List ℕ) → Type 0
  IsReadFault program policy = Rose (before program) (after program) ⊎ (Rose (before policy) (after policy) × ForSome (told program) IsSomeProgram)

  -- when the answer may come of a call with this program and this policy file
  abbrev pub MayCome : (program policy : List ℕ) → Answer → Type 0
  MayCome program policy Usage = ⊥
  MayCome program policy ReadFault = IsReadFault program policy
  MayCome program policy (Judged o) = IsOutcomeOf told program policy o

  -- when it may come of a call with these words
  abbrev pub Comes : List (List ℕ) → Answer → Type 0
  Comes words Usage = HasNoForm words
  Comes words a = (n : Names) × Asks words n × MayCome n.program n.policy a

-- The words ask for a program and a policy file whose bytes, where the files tell them, are certified.
abbrev pub Certifies : Told → List (List ℕ) → Type 0
Certifies told words =
    (n : Names) × Asks words n × ForSome (told n.program) (λ program. ForSome (told n.policy) (λ policy. IsCertified program policy))
