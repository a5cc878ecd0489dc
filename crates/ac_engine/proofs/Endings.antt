-- From the answer of a call to the clauses of the call.
use Rattle.std.proofs.Common.{◌≡◌, ◌≢◌, ℕ, List}
use Rattle.ac_io.specs.Contents.{Told}
use Rattle.ac_verdict.specs.declared.outcome.Outcome.TheVariants.{Accepted, Rejected, Program, Limit, Policy, OutOfMemory}
use Rattle.ac_engine.specs.declared.answer.Answer.{Answer}
use Rattle.ac_engine.specs.declared.answer.Answer.TheVariants.{Usage, ReadFault, Judged}
use Rattle.ac_engine.specs.declared.status.Status.TheVariants as status
use Rattle.ac_engine.specs.Causes.{MayCome, Comes, Certifies}
use Rattle.ac_engine.specs.Report.{status_of}
use Rattle.ac_engine.specs.Words.{Names, Asks}
use Rattle.ac_engine.proofs.Held.{certified_names}

-- what may come of the names comes of the words
pub comes_from : (told : Told) (before after : List ℕ → ℕ) (words : List (List ℕ)) (n : Names) (a : Answer) → Asks words n → MayCome told before after n.program n.policy a → Comes told before after words a
comes_from told before after words n Usage asks h = absurd h
comes_from told before after words n ReadFault asks h = (n, asks, h)
comes_from told before after words n (Judged o) asks h = (n, asks, h)

-- an answer of status Accepted
pub accepted : (told : Told) (before after : List ℕ → ℕ) (words : List (List ℕ)) (a : Answer) → Comes told before after words a → status_of a ≡ status.Accepted → Certifies told words
accepted told before after words Usage h e = cc
accepted told before after words ReadFault h e = cc
accepted told before after words (Judged (Accepted ks)) h e = certified_names told words h.0 ks h.1 h.2
accepted told before after words (Judged (Rejected ks nodes)) h e = cc
accepted told before after words (Judged (Program fault)) h e = cc
accepted told before after words (Judged (Limit which value)) h e = cc
accepted told before after words (Judged (Policy fault)) h e = cc
accepted told before after words (Judged OutOfMemory) h e = cc

pub never_certificate : (a : Answer) → status_of a ≢ status.Certificate
never_certificate Usage e = cc
never_certificate ReadFault e = cc
never_certificate (Judged (Accepted ks)) e = cc
never_certificate (Judged (Rejected ks nodes)) e = cc
never_certificate (Judged (Program fault)) e = cc
never_certificate (Judged (Limit which value)) e = cc
never_certificate (Judged (Policy fault)) e = cc
never_certificate (Judged OutOfMemory) e = cc

pub never_write_fault : (a : Answer) → status_of a ≢ status.WriteFault
never_write_fault Usage e = cc
never_write_fault ReadFault e = cc
never_write_fault (Judged (Accepted ks)) e = cc
never_write_fault (Judged (Rejected ks nodes)) e = cc
never_write_fault (Judged (Program fault)) e = cc
never_write_fault (Judged (Limit which value)) e = cc
never_write_fault (Judged (Policy fault)) e = cc
never_write_fault (Judged OutOfMemory) e = cc
