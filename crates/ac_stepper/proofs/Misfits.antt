-- A start with a first misfit doesn't fit.
use Rattle.std.proofs.Common.{ℕ, List, [], ◌∷◌, ◌++◌, subst}
use Rattle.std.specs.List.{AllZip}
use Rattle.ac_tree.specs.declared.program.Program.{Program}
use Rattle.ac_tree.specs.declared.program.Item.{Item}
use Rattle.ac_run.specs.declared.start.Start.{Start}
use Rattle.ac_run.specs.declared.start.StartCell.{StartCell}
use Rattle.ac_run.specs.Start.{FitsItem, Fits}
use Rattle.ac_evaluation.specs.Misfit.{held_of, FitsNext, IsFirstMisfit}

-- what stands behind entries that fit
behind : {A B : Type 0} (R : A → B → Type 0) (before after : List A) (fitting rest : List B) → AllZip R before fitting → AllZip R (before ++ after) (fitting ++ rest) → AllZip R after rest
behind R [] after [] rest fit all = all
behind R [] after (y ∷ ys) rest fit all = absurd fit
behind R (x ∷ xs) after [] rest fit all = absurd fit
behind R (x ∷ xs) after (y ∷ ys) rest fit all = behind R xs after ys rest fit.1 all.1

next_fits : (p : Program) (start : Start) (after : List Item) (rest : List StartCell) → AllZip (FitsItem p start) after rest → FitsNext p start after rest
next_fits p start [] [] fits = tt
next_fits p start [] (c ∷ cs) fits = absurd fits
next_fits p start (d ∷ ds) [] fits = absurd fits
next_fits p start (d ∷ ds) (c ∷ cs) fits = fits.0

pub misfit-fits : (p : Program) (start : Start) (n : ℕ) → IsFirstMisfit p start n → ¬ Fits p start
misfit-fits p start n m fits =
    m.misfit (next_fits p start m.after m.rest (behind (FitsItem p start) m.before m.after m.fitting m.rest m.fit
    (subst (λ (ds : List Item). AllZip (FitsItem p start) ds (m.fitting ++ m.rest)) m.declared
    (subst (λ (cs : List StartCell). AllZip (FitsItem p start) (held_of p.items) cs) m.given fits))))
