-- What is known of an accepted program is its tree.
use Rattle.ac_tree.specs.declared.program.Program.{Program}
use Rattle.ac_verdict.specs.declared.accepted_program.AcceptedProgram.{AcceptedProgram}

abbrev pub program_of : AcceptedProgram → Program
program_of a = a.program
