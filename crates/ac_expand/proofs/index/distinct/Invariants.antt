use Rattle.std.proofs.Common.{◌≡◌, map, fold, reverse, length}
use Rattle.ac_expand.specs.Index.{once, with_term}
use Rattle.ac_expand.proofs.index.distinct.Given as goal

-- the table and the list have the same terms, to which those to come are added
abbrev pub invariant-loop-term : goal.invariant-loop-term
invariant-loop-term l = record {
  same : l.terms ≡ map (λ k. k.term) l.seen.keys;
  rest : fold with_term l.terms (reverse l.found) ≡ once (reverse l.initial.found);
}

abbrev pub decreases-loop-term : goal.decreases-loop-term
decreases-loop-term l = length l.found
