-- Which nodes a list of marks marks: the one at place n is for the node with number n, and a place that is missing marks none.
use Rattle.std.specs.Prelude.{ℕ, Bool, false, List, get_or}

abbrev pub mark_at : List Bool → ℕ → Bool
mark_at marks n = get_or marks n false
