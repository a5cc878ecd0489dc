-- A trace only grows, and a run that has stopped stays.
use Rattle.std.proofs.Common.{◌≡◌, ℕ, zero, suc, ◌+◌, ℤ, pos, ◌+ℤ◌, List, [], ◌∷◌, ◌++◌, map, Bool, true, false, Option, Some, None, refl, sym, ◌∙◌, ap, subst, if◌then◌else◌, append_assoc, int_le, arith}
use mathlib.Core.Logic.{◌⊎◌, inl, inr}
use Rattle.std.proofs.lemmas.List.{append-nil}
use Rattle.ac_tree.specs.declared.program.Program.{Program}
use Rattle.ac_tree.specs.declared.program.Stmt.{Stmt}
use Rattle.ac_tree.specs.declared.program.StmtKind.{StmtKind, Set, Put, If', For', While', Hand, Skip}
use Rattle.ac_run.specs.declared.start.Start.{Start}
use Rattle.ac_run.specs.declared.event.Cell.{Cell}
use Rattle.ac_run.specs.declared.event.Event.{Event}
use Rattle.ac_run.specs.declared.event.Event.TheVariants as event
use Rattle.ac_run.specs.Memory.{scalar, is_inside, number_at, write, contents}
use Rattle.ac_run.specs.Evaluation.{Reading, both, value_of, indexes_of, truth_of}
use Rattle.ac_run.specs.Run.{Task, Do, Compare, Advance, Config, go_to, decided, with_reading, written, step_statement, step_task, step_first, step, run}

-- a trace that begins with another
abbrev Grows : List Event → Config → Type 0
Grows trace c = (later : List Event) × (c.trace ≡ trace ++ later)

grows-then : (trace : List Event) (c d : Config) → Grows trace c → Grows c.trace d → Grows trace d
grows-then trace c d h k = (h.0 ++ k.0, k.1 ∙ (ap (λ (z : List Event). z ++ k.0) h.1 ∙ append_assoc trace h.0 k.0))

grows-same : (c : Config) → Grows c.trace c
grows-same c = ([], sym (append-nil c.trace))

decided-grows : {A : Type 0} (o : Option A) (go : A → Config → Config) (c : Config) → ((x : A) (c : Config) → Grows c.trace (go x c)) → Grows c.trace (decided o go c)
decided-grows None go c k = ([], sym (append-nil c.trace))
decided-grows (Some x) go c k = k x c

reading-grows : {A : Type 0} (r : Reading A) (go : A → Config → Config) (c : Config) → ((x : A) (c : Config) → Grows c.trace (go x c)) → Grows c.trace (with_reading r go c)
reading-grows r go c k =
    grows-then c.trace (record c { trace = c.trace ++ map event.Read r.0 }) (with_reading r go c) (map event.Read r.0, refl)
    (decided-grows r.1 go (record c { trace = c.trace ++ map event.Read r.0 }) k)

module _ (p : Program) (start : Start) where
  written-grows : (at : Cell) (n : ℤ) (c : Config) → Grows c.trace (written p start at n c)
  written-grows at n c = go (is_inside p start at)
    where
      go : (b : Bool) → Grows c.trace (if b then record { tasks = c.tasks; memory = write p start c.memory at n; trace = c.trace ++ (event.Write at n ∷ []); has_halted = c.has_halted }
          else record { tasks = c.tasks; memory = c.memory; trace = c.trace ++ (event.Write at n ∷ []); has_halted = true })
      go true = (event.Write at n ∷ [], refl)
      go false = (event.Write at n ∷ [], refl)

  statement-grows : (st : Stmt) (kind : StmtKind) (c : Config) → Grows c.trace (step_statement p start st kind c)
  statement-grows st (Set x value) c = reading-grows (value_of p start c.memory value.kind) _ c (λ n c. written-grows (scalar x) n c)
  statement-grows st (Put x at value) c =
      reading-grows (both (indexes_of p start c.memory at) (value_of p start c.memory value.kind)) _ c (λ a c. written-grows (record { name = x; i = a.0.0; j = a.0.1 }) a.1 c)
  statement-grows st (If' test _ then_ _ else_) c = reading-grows (truth_of p start c.memory test.kind) _ c (λ b c. grows-same c)
  statement-grows st (For' x lo hi _ body) c = reading-grows (both (value_of p start c.memory lo.kind) (value_of p start c.memory hi.kind)) _ c (λ a c. written-grows (scalar x) a.0 c)
  statement-grows st (While' test _ body) c = reading-grows (truth_of p start c.memory test.kind) _ c (λ b c. grows-same c)
  statement-grows st (Hand x role) c = (event.Hand x role (contents p start c.memory x) ∷ [], refl)
  statement-grows st Skip c = grows-same c

  task-grows : (t : Task) (c : Config) → Grows c.trace (step_task p start t c)
  task-grows (Do st) c = statement-grows st st.kind c
  task-grows (Compare x hi body) c = go (int_le (number_at p start c.memory (scalar x)) hi)
    where
      go : (b : Bool) → Grows c.trace (if b then go_to (map Do body ++ Advance x hi body ∷ []) c else c)
      go true = grows-same c
      go false = grows-same c
  task-grows (Advance x hi body) c = written-grows (scalar x) (number_at p start c.memory (scalar x) +ℤ pos 1) c

  first-grows : (tasks : List Task) (c : Config) → Grows c.trace (step_first p start tasks c)
  first-grows [] c = grows-same c
  first-grows (t ∷ ts) c = task-grows t (record c { tasks = ts })

  step-grows : (c : Config) → Grows c.trace (step p start c)
  step-grows c = go c.has_halted
    where
      go : (b : Bool) → Grows c.trace (if b then c else step_first p start c.tasks c)
      go true = grows-same c
      go false = first-grows c.tasks c

  later-suc : (n more : ℕ) → suc more + n ≡ suc (more + n)
  later-suc n more = omega arith

  pub run-grows : (n more : ℕ) → Grows (run p start n).trace (run p start (more + n))
  run-grows n zero = subst (λ (k : ℕ). Grows (run p start n).trace (run p start k)) (sym (none-later n)) (grows-same (run p start n))
    where
      none-later : (n : ℕ) → zero + n ≡ n
      none-later n = omega arith
  run-grows n (suc more) =
      subst (λ (k : ℕ). Grows (run p start n).trace (run p start k)) (sym (later-suc n more))
      (grows-then (run p start n).trace (run p start (more + n)) (run p start (suc (more + n))) (run-grows n more) (step-grows (run p start (more + n))))

  abbrev HasStopped : Config → Type 0
  HasStopped c = (c.tasks ≡ []) ⊎ (c.has_halted ≡ true)

  step-stays : (c : Config) → HasStopped c → step p start c ≡ c
  step-stays c (inr h) = rw h refl
  step-stays c (inl h) = go c.has_halted
    where
      go : (b : Bool) → (if b then c else step_first p start c.tasks c) ≡ c
      go true = refl
      go false = rw h refl

  pub run-stays : (n more : ℕ) → HasStopped (run p start n) → run p start (more + n) ≡ run p start n
  run-stays n zero h = ap (λ (k : ℕ). run p start k) (none-more n)
    where
      none-more : (n : ℕ) → zero + n ≡ n
      none-more n = omega arith
  run-stays n (suc more) h =
      ap (λ (k : ℕ). run p start k) (later-suc n more) ∙ (ap (λ (c : Config). step p start c) (run-stays n more h) ∙ step-stays (run p start n) h)
