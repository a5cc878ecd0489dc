use Rattle.ac_verdict.proofs.accepted_program.accepted.Goals as goal

pub returns-in-Err-clause-refused : goal.returns-in-Err-clause-refused
returns-in-Err-clause-refused c = λ bytes within. c.rules_broken.ensures bytes c.args.program within c.in-Err.ensures.first
