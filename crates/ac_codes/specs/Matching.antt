-- What a match is: the pattern's code filled with the match's values is the run, up to nodes, and the side conditions hold.
use Rattle.std.specs.Prelude.{◌≡◌, List, length, map, zip, Some}
use Rattle.ac_tree.specs.declared.program.Stmt.{Stmt}
use Rattle.ac_codes.specs.declared.pattern.Match.{Match}
use Rattle.ac_codes.specs.declared.pattern.MatchValue.TheVariants as value
use Rattle.ac_codes.specs.declared.pattern.Pattern.{Pattern}
use Rattle.ac_codes.specs.Filling.{IsFilledRun}
use Rattle.ac_codes.specs.Metavariables.{metavariables}
use Rattle.ac_codes.specs.Pieces.{Piece, run_pieces, values_in, loops_in}
use Rattle.ac_codes.specs.SideConditions.{AreKept, AreAllApart}
use Rattle.ac_codes.specs.Values.{Values, value_of, first_values}

-- the metavariables of the pattern with the values of the match
abbrev pub values_of : Pattern → Match → Values
values_of p m = zip (metavariables p.code) m.values

-- m is a match of the pattern with a run of statements
pub record IsMatch (p : Pattern) (run : List Stmt) (m : Match) : Type 0 where
  pub filled : IsFilledRun (values_of p m) p.code run
  pub kept : AreKept (values_of p m) run p.fixed
  pub apart : AreAllApart (values_of p m) p.apart
  -- what stands in the run where the code has metavariables and loops
  pub pieces : List Piece
  pub stand : run_pieces p.code run ≡ Some pieces
  -- each value is that of the first place of its metavariable, with its nodes
  pub values : m.values ≡ map (λ b. b.1) (first_values (values_in pieces))
  pub hot : value_of (values_of p m) p.hot ≡ Some (value.Name m.hot)
  pub length : m.length ≡ length run
  pub loops : m.loops ≡ loops_in pieces
