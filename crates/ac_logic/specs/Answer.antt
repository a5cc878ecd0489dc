-- How a walk over a tree answers: the new tree, or None where it is the old one.
-- No promise rests on this file: it says what the code keeps on the way.
use Rattle.std.specs.Prelude.{Option, Some, None}

abbrev pub renewed : {A : Type 0} → A → Option A → A
renewed old None = old
renewed old (Some new) = new
