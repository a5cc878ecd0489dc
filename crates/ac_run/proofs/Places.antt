-- What is true of each element of a list is true of the one at a place.
use Rattle.std.proofs.Common.{List, [], ◌∷◌, ◌++◌}
use Rattle.std.specs.List.{AllByRecursion}

pub all-middle : {A : Type 0} (P : A → Type 0) (before : List A) (x : A) (after : List A) → AllByRecursion P (before ++ x ∷ after) → P x
all-middle P [] x after h = h.0
all-middle P (y ∷ before) x after h = all-middle P before x after h.1
