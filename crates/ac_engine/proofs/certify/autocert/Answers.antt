use Rattle.std.proofs.Common.{sym, ◌∙◌, subst, List, ℕ}
use Rattle.ac_io.specs.Written.{Adds, AddsPrefix}
use Rattle.ac_engine.specs.Words.{texts}
use Rattle.ac_engine.proofs.Endings.{accepted, never_certificate, never_write_fault}
use Rattle.ac_engine.proofs.certify.autocert.Goals as goal

pub returns-in-Ok-put-clause-accepted : goal.returns-in-Ok-put-clause-accepted
returns-in-Ok-put-clause-accepted g c = λ s.
    accepted (g.F.Files.contents c.args.files.now) (g.F.Files.load_faults c.args.files.now) (g.F.Files.load_faults c.answer-answer.new.files) (texts c.args.words.now) c.answer-answer.result c.answer-answer.ensures.cause (sym c.status-status.ensures ∙ s)

pub returns-in-Ok-put-clause-reported : goal.returns-in-Ok-put-clause-reported
returns-in-Ok-put-clause-reported g c = λ m w. record {
  answer = c.answer-answer.result;
  cause = c.answer-answer.ensures.cause;
  status_is = c.status-status.ensures;
  added = subst (λ (bs : List ℕ). Adds (g.S.Sink.written c.args.out.now) (g.S.Sink.written c.put.new.self) bs) (c.as_bytes.ensures.value ∙ c.in-Ok.ensures) c.in-Ok-put.ensures.added;
}

pub returns-in-Ok-put-clause-stopped : goal.returns-in-Ok-put-clause-stopped
returns-in-Ok-put-clause-stopped g c = λ w. absurd (never_write_fault c.answer-answer.result (sym c.status-status.ensures ∙ w))

pub returns-in-Ok-put-clause-write_fault : goal.returns-in-Ok-put-clause-write_fault
returns-in-Ok-put-clause-write_fault g c = λ w. absurd (never_write_fault c.answer-answer.result (sym c.status-status.ensures ∙ w))

pub returns-in-Ok-put-clause-certificate : goal.returns-in-Ok-put-clause-certificate
returns-in-Ok-put-clause-certificate g c = λ e. never_certificate c.answer-answer.result (sym c.status-status.ensures ∙ e)

pub returns-in-Err-Failed-clause-stopped : goal.returns-in-Err-Failed-clause-stopped
returns-in-Err-Failed-clause-stopped g c = λ w. record {
  answer = c.answer-answer.result;
  cause = c.answer-answer.ensures.cause;
  added = subst (λ (bs : List ℕ). AddsPrefix (g.S.Sink.written c.args.out.now) (g.S.Sink.written c.put.new.self) bs) (c.as_bytes.ensures.value ∙ c.in-Ok.ensures) (c.in-Err-Failed.ensures.prefix (cc));
}
