use Rattle.std.proofs.Common.{◌≡◌, drop, reverse}
use Rattle.ac_expand.specs.Ground.{each, joined}
use Rattle.ac_expand.specs.Walked.{instance_at, joined_behind}
use Rattle.ac_expand.proofs.walk.+expanded.Given as goal

-- what is made already, joined with what is to come
abbrev pub invariant-opened_at_each-loop-term : goal.invariant-opened_at_each-loop-term
invariant-opened_at_each-loop-term l = record {
  same_bound : l.walk.bound ≡ l.initial.walk.bound;
  formula : joined_behind l.all (each (instance_at l.index (reverse l.initial.walk.bound) l.body) (drop l.term-index l.index) l.walk.names).0 ≡ joined (each (instance_at l.index (reverse l.initial.walk.bound) l.body) l.index l.initial.walk.names).0;
  names : (each (instance_at l.index (reverse l.initial.walk.bound) l.body) (drop l.term-index l.index) l.walk.names).1 ≡ (each (instance_at l.index (reverse l.initial.walk.bound) l.body) l.index l.initial.walk.names).1;
}
