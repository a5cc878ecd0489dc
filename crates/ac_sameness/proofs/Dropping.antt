-- Loops over a list, by what is left of it.
use Rattle.std.proofs.Common.{◌≡◌, ℕ, suc, ◌+◌, ◌<◌, List, [], ◌∷◌, length, drop, get_or, Bool, true, false, ◌&&◌, ◌||◌, refl, sym, ◌∙◌, ap}
use Rattle.std.proofs.lemmas.List.{drop_more}
use Rattle.ac_tree.specs.declared.program.Stmt.{Stmt}
use Rattle.ac_tree.specs.Names.{NameBytes}
use Rattle.ac_codes.specs.Sameness.{same_stmt, same_run}
use Rattle.ac_codes.specs.SideConditions.{writes, run_writes}

pub writes_step : (x : NameBytes) (run : List Stmt) (i : ℕ) (s : Stmt) → i < length run → s ≡ get_or run i s →
    run_writes x (drop i run) ≡ (writes x s.kind || run_writes x (drop (i + 1) run))
writes_step x run i s h e =
    ap (run_writes x) (drop_more run i s h) ∙ ap (λ (t : Stmt). writes x t.kind || run_writes x (drop (i + 1) run)) (sym e)

pub same_step : (xs ys : List Stmt) (i : ℕ) (s t : Stmt) → i < length xs → i < length ys → s ≡ get_or xs i s → t ≡ get_or ys i t →
    same_run (drop i xs) (drop i ys) ≡ (same_stmt s.kind t.kind && same_run (drop (i + 1) xs) (drop (i + 1) ys))
same_step xs ys i s t h k e f =
    ap (λ (l : List Stmt). same_run l (drop i ys)) (drop_more xs i s h)
    ∙ (ap (λ (l : List Stmt). same_run (get_or xs i s ∷ drop (i + 1) xs) l) (drop_more ys i t k)
    ∙ (ap (λ (a : Stmt). same_stmt a.kind (get_or ys i t).kind && same_run (drop (i + 1) xs) (drop (i + 1) ys)) (sym e)
    ∙ ap (λ (b : Stmt). same_stmt s.kind b.kind && same_run (drop (i + 1) xs) (drop (i + 1) ys)) (sym f)))

-- runs of two lengths are not the same
pub other_size : (xs ys : List Stmt) → (length xs ≡ length ys → ⊥) → false ≡ same_run xs ys
other_size [] [] h = absurd (h refl)
other_size [] (t ∷ ys) h = refl
other_size (s ∷ xs) [] h = refl
other_size (s ∷ xs) (t ∷ ys) h = sym (and-false (same_stmt s.kind t.kind)) ∙ ap (λ b. same_stmt s.kind t.kind && b) (other_size xs ys (λ e. h (ap suc e)))
  where
    and-false : (b : Bool) → (b && false) ≡ false
    and-false true = refl
    and-false false = refl

pub ruleset same_run_rules = (same_step, other_size)
