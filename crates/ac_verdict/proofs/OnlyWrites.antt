-- A program that only writes literals never violates init or symm: each of its events is a write.
use Rattle.std.proofs.Common.{◌≡◌, ◌≢◌, ℕ, zero, suc, List, [], ◌∷◌, ◌++◌, map, Bool, true, false, refl, sym, subst, if◌then◌else◌, IsTrue, ℤ, pos, rules}
use Rattle.std.specs.Prelude.{is_some}
use Rattle.std.specs.List.{AllByRecursion}
use Rattle.std.proofs.lemmas.Bool.{false≢true, and_parts}
use Rattle.std.proofs.lemmas.List.Elements.{recursion_from_All}
use Rattle.ac_tree.specs.declared.policy.PolicyName.{PolicyName}
use Rattle.ac_tree.specs.declared.policy.PolicyName.TheVariants.{Init, Bounds, Symm}
use Rattle.ac_tree.specs.declared.program.Program.{Program}
use Rattle.ac_tree.specs.declared.program.Stmt.{Stmt}
use Rattle.ac_tree.specs.declared.program.StmtKind.{StmtKind, Put}
use Rattle.ac_tree.specs.declared.program.ExprKind.{ExprKind}
use Rattle.ac_tree.specs.declared.program.ExprKind.TheVariants.{Num}
use Rattle.ac_tree.specs.Patterns.{OneIndex}
use Rattle.ac_run.specs.declared.start.Start.{Start}
use Rattle.ac_run.specs.declared.event.Cell.{Cell}
use Rattle.ac_run.specs.declared.event.Event.{Event}
use Rattle.ac_run.specs.declared.event.Event.TheVariants.{Write}
use Rattle.ac_run.specs.Declarations.{NameBytes, kind_of}
use Rattle.ac_run.specs.Memory.{is_inside, write}
use Rattle.ac_run.specs.Evaluation.{pure, both, value_of}
use Rattle.ac_run.specs.Run.{Task, Do, Config, with_reading, written, step_statement, step_first, step, run}
use Rattle.ac_run.specs.Violation.{Bad, Violates}
use Rattle.ac_run.specs.StraightWrites.{is_literal}
use Rattle.ac_verdict.specs.Opened.{hidden, expr_shape, expr_child}
use Rattle.ac_verdict.specs.Supported.{is_straight, AreStraight, literal_extent}

all-snoc : {A : Type 0} (P : A → Type 0) (xs : List A) (x : A) → AllByRecursion P xs → P x → AllByRecursion P (xs ++ x ∷ [])
all-snoc P [] x h k = (k, tt)
all-snoc P (y ∷ xs) x h k = (h.0, all-snoc P xs x h.1 k)

all-map : {A B : Type 0} (P : B → Type 0) (f : A → B) (xs : List A) → AllByRecursion (λ x. P (f x)) xs → AllByRecursion P (map f xs)
all-map P f [] h = tt
all-map P f (x ∷ xs) h = (h.0, all-map P f xs h.1)

all-middle : {A : Type 0} (P : A → Type 0) (before : List A) (x : A) (after : List A) → AllByRecursion P (before ++ x ∷ after) → P x
all-middle P [] x after h = h.0
all-middle P (y ∷ before) x after h = all-middle P before x after h.1

nil : (es : List Event) → es ++ [] ≡ es
nil es = search rules

module _ (p : Program) (start : Start) where
  abbrev IsStraightTask : Task → Type 0
  IsStraightTask (Do st) = IsTrue (is_straight p st.kind)
  IsStraightTask _ = ⊥

  abbrev IsWrite : Event → Type 0
  IsWrite (Write c n) = Unit {0}
  IsWrite _ = ⊥

  -- only straight writes are to be done, and only writes were done
  abbrev Keeps : Config → Type 0
  Keeps c = AllByRecursion IsStraightTask c.tasks × AllByRecursion IsWrite c.trace

  written-keeps : (at : Cell) (n : ℤ) (c : Config) → Keeps c → Keeps (written p start at n c)
  written-keeps at n c h = go (is_inside p start at)
    where
      go : (b : Bool) → Keeps (if b then record { tasks = c.tasks; memory = write p start c.memory at n; trace = c.trace ++ (Write at n ∷ []); has_halted = c.has_halted }
          else record { tasks = c.tasks; memory = c.memory; trace = c.trace ++ (Write at n ∷ []); has_halted = true })
      go true = (h.0, all-snoc IsWrite c.trace (Write at n) h.1 tt)
      go false = (h.0, all-snoc IsWrite c.trace (Write at n) h.1 tt)

  -- a literal that is written
  literal-keeps : (x : NameBytes) (i : ℕ) (e : ExprKind) (c : Config) → IsTrue (is_literal e) → Keeps c →
      Keeps (with_reading (both {A = ℤ × ℤ} (pure (pos i, pos 0)) (value_of p start c.memory e)) (λ a. written p start (record { name = x; i = a.0.0; j = a.0.1 }) a.1) c)
  unfolding hidden expr_shape expr_child
  literal-keeps x i (Num v) c h k =
      written-keeps (record { name = x; i = pos i; j = pos 0 }) (pos v) (record c { trace = c.trace ++ [] })
      (k.0, subst (AllByRecursion IsWrite) (sym (nil c.trace)) k.1)
  literal-keeps x i _ c h k = absurd (false≢true h)

  statement-keeps : (st : Stmt) (kind : StmtKind) (c : Config) → IsTrue (is_straight p kind) → Keeps c → Keeps (step_statement p start st kind c)
  unfolding hidden expr_shape expr_child
  statement-keeps st (Put x (OneIndex n (Num i)) value) c h k =
      literal-keeps x i value.kind c (and_parts (is_literal value.kind) (is_some (literal_extent (kind_of p x))) h).0 k
  statement-keeps st _ c h k = absurd (false≢true h)

  first-keeps : (tasks : List Task) (c : Config) → AllByRecursion IsStraightTask tasks → Keeps c → Keeps (step_first p start tasks c)
  first-keeps [] c h k = k
  first-keeps (Do st ∷ ts) c h k = statement-keeps st st.kind (record c { tasks = ts }) h.0 (h.1, k.1)
  first-keeps (_ ∷ ts) c h k = absurd h.0

  step-keeps : (c : Config) → Keeps c → Keeps (step p start c)
  step-keeps c h = go c.has_halted
    where
      go : (b : Bool) → Keeps (if b then c else step_first p start c.tasks c)
      go true = h
      go false = first-keeps c.tasks c h.0 h

  run-keeps : AreStraight p p.body → (n : ℕ) → Keeps (run p start n)
  run-keeps h zero = (all-map IsStraightTask Do p.body (recursion_from_All (λ st. IsTrue (is_straight p st.kind)) p.body h), tt)
  run-keeps h (suc n) = step-keeps (run p start n) (run-keeps h n)

  never-bad : (roles : List NameBytes) (policy : PolicyName) (before : List Event) (event : Event) → policy ≢ Bounds → IsWrite event → ¬ Bad p start roles policy before event
  never-bad roles Bounds before event ne h k = ne refl
  never-bad roles Init before (Write c n) ne h k = k
  never-bad roles Symm before (Write c n) ne h k = k
  never-bad roles _ before _ ne h k = absurd h

pub never_violates : (p : Program) → AreStraight p p.body → (start : Start) (n : ℕ) (roles : List NameBytes) (policy : PolicyName) → policy ≢ Bounds → ¬ Violates p start roles policy (run p start n).trace
never_violates p h start n roles policy ne v =
    never-bad p start roles policy v.0 v.1 ne
    (all-middle (IsWrite p start) v.0 v.1 v.2 (subst (AllByRecursion (IsWrite p start)) v.3 (run-keeps p start h n).1)) v.4
