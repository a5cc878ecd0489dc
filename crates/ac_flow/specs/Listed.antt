-- Which pairs a list has, and which targets count.
use Rattle.std.specs.Prelude.{◌≡◌, ◌⊎◌, ℕ, Bool, true, List, [], ◌∷◌}
use Rattle.ac_tree.specs.declared.path.Target.{Target}
use Rattle.ac_tree.specs.declared.path.Target.TheVariants.{Entry, Keep, Barrier, Site}

-- what a list has
abbrev pub IsListed : {X : Type 0} → List X → X → Type 0
IsListed [] x = ⊥
IsListed (y ∷ ys) x = (x ≡ y) ⊎ IsListed ys x

-- the targets at accesses are those of subject nodes; all others count
abbrev pub IsSubjectTarget : (ℕ → Bool) → Target → Type 0
IsSubjectTarget subject (Site n) = subject n.0 ≡ true
IsSubjectTarget subject (Entry n) = Unit {0}
IsSubjectTarget subject (Keep n) = Unit {0}
IsSubjectTarget subject (Barrier n) = Unit {0}
