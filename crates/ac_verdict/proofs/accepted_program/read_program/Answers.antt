use Rattle.ac_verdict.proofs.accepted_program.read_program.Goals as goal

pub returns-in-Err-clause-refused : goal.returns-in-Err-clause-refused
returns-in-Err-clause-refused c = c.text_refused.ensures c.args.bytes.now c.in-Err.ensures.fault
