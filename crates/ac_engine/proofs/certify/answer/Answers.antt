use Rattle.ac_engine.proofs.Endings.{comes_from}
use Rattle.ac_engine.proofs.certify.answer.Goals as goal

pub returns-in-Some-clause-cause : goal.returns-in-Some-clause-cause
returns-in-Some-clause-cause g c =
    comes_from (g.F.Files.contents c.args.files.now) (g.F.Files.load_faults c.args.files.now) (g.F.Files.load_faults c.certified.new.files) _ _ c.certified.result c.in-Some.ensures c.certified.ensures.cause

pub returns-in-Some-clause-nothing_loaded : goal.returns-in-Some-clause-nothing_loaded
returns-in-Some-clause-nothing_loaded g c = λ none. absurd (none _ c.in-Some.ensures)
