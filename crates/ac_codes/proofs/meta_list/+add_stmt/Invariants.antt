use Rattle.std.proofs.Common.{◌≡◌, ◌++◌, drop}
use Rattle.ac_codes.specs.Listed.{texts_of}
use Rattle.ac_codes.specs.Metavariables.{run_metas}
use Rattle.ac_codes.proofs.meta_list.+add_stmt.Given as goal

-- those so far, and those of the rest, are all
abbrev pub invariant-add_run-loop-stmt : goal.invariant-add_run-loop-stmt
invariant-add_run-loop-stmt l =
    texts_of l.metas.items ++ run_metas (drop l.stmt-index l.code) ≡ texts_of l.initial.metas.items ++ run_metas l.code
