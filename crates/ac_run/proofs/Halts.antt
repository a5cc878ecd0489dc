-- A run has halted exactly where its trace has an access outside, which is then the last event.
use Rattle.std.proofs.Common.{◌≡◌, ℕ, zero, suc, ℤ, pos, ◌+ℤ◌, List, [], ◌∷◌, ◌++◌, map, Bool, true, false, Option, Some, None, refl, sym, ◌∙◌, ap, subst, if◌then◌else◌, ◌↔◌, append_assoc, int_le}
use Rattle.std.specs.List.{AllByRecursion}
use mathlib.Core.Logic.{◌⊎◌, inl, inr}
use Rattle.std.proofs.lemmas.Bool.{false≢true}
use Rattle.ac_tree.specs.declared.policy.PolicyName.TheVariants.{Bounds}
use Rattle.ac_tree.specs.declared.program.Program.{Program}
use Rattle.ac_tree.specs.declared.program.Stmt.{Stmt}
use Rattle.ac_tree.specs.declared.program.StmtKind.{StmtKind, Set, Put, If', For', While', Hand, Skip}
use Rattle.ac_tree.specs.declared.program.ExprKind.{ExprKind}
use Rattle.ac_tree.specs.declared.program.ExprKind.TheVariants.{Num, Get, Read}
use Rattle.ac_tree.specs.declared.program.Index.{Index}
use Rattle.ac_tree.specs.declared.program.CondKind.{CondKind}
use Rattle.ac_tree.specs.declared.program.CondKind.TheVariants.{True, False, Rel}
use Rattle.ac_tree.specs.Patterns.{Negative, Plus, Minus, Times, OneIndex, TwoIndexes, Negation, Conjunction, Disjunction}
use Rattle.ac_run.specs.declared.start.Start.{Start}
use Rattle.ac_run.specs.declared.event.Cell.{Cell}
use Rattle.ac_run.specs.declared.event.Event.{Event}
use Rattle.ac_run.specs.declared.event.Event.TheVariants as event
use Rattle.ac_run.specs.Opened.{hidden, expr_shape, expr_child, cond_shape, cond_child}
use Rattle.ac_run.specs.Declarations.{NameBytes, constant_of}
use Rattle.ac_run.specs.Memory.{Memory, scalar, is_inside, number_at, write}
use Rattle.ac_run.specs.Evaluation.{Reading, pure, and_then, both, read, constant_or_read, value_of, indexes_of, truth_of}
use Rattle.ac_run.specs.Run.{Task, Do, Compare, Advance, Config, go_to, decided, written, step_statement, step_task, step_first, step, run}
use Rattle.ac_run.specs.Violation.{Bad, Violates}
use Rattle.ac_run.proofs.Places.{all-middle}

all-append : {A : Type 0} (P : A → Type 0) (xs ys : List A) → AllByRecursion P xs → AllByRecursion P ys → AllByRecursion P (xs ++ ys)
all-append P [] ys h k = k
all-append P (x ∷ xs) ys h k = (h.0, all-append P xs ys h.1 k)

longer : {A : Type 0} (xs before : List A) (x : A) → xs ++ (before ++ x ∷ []) ≡ (xs ++ before) ++ x ∷ []
longer xs before x = sym (append_assoc xs before (x ∷ []))

map-last : {A B : Type 0} (f : A → B) (before : List A) (x : A) → map f (before ++ x ∷ []) ≡ map f before ++ f x ∷ []
map-last f [] x = refl
map-last f (y ∷ before) x = ap (λ zs. f y ∷ zs) (map-last f before x)

module _ (p : Program) (start : Start) where
  abbrev IsIn : Cell → Type 0
  IsIn c = is_inside p start c ≡ true

  -- only the last read was outside
  abbrev EndsOutside : List Cell → Type 0
  EndsOutside reads = (before : List Cell) × (c : Cell) × (reads ≡ before ++ c ∷ []) × AllByRecursion IsIn before × (is_inside p start c ≡ false)

  -- all reads were inside where there is an answer
  abbrev Tells : {A : Type 0} → List Cell → Option A → Type 0
  Tells reads (Some x) = AllByRecursion IsIn reads
  Tells reads None = EndsOutside reads

  tells-append : {A : Type 0} (reads more : List Cell) (o : Option A) → AllByRecursion IsIn reads → Tells more o → Tells (reads ++ more) o
  tells-append reads more (Some x) h k = all-append IsIn reads more h k
  tells-append reads more None h k =
      (reads ++ k.0, k.1, ap (λ (z : List Cell). reads ++ z) k.2 ∙ longer reads k.0 k.1, all-append IsIn reads k.0 h k.3, k.4)

  tells-then : {A B : Type 0} (reads : List Cell) (o : Option A) (f : A → Reading B) → Tells reads o → ((x : A) → Tells (f x).0 (f x).1) → Tells (and_then reads o f).0 (and_then reads o f).1
  tells-then reads None f h k = h
  tells-then reads (Some x) f h k = tells-append reads (f x).0 (f x).1 h (k x)

  tells-both : {A B : Type 0} (r : Reading A) (s : Reading B) → Tells r.0 r.1 → Tells s.0 s.1 → Tells (both r s).0 (both r s).1
  tells-both r s h k = tells-then r.0 r.1 _ h (λ x. tells-then s.0 s.1 _ k (λ y. tt))

  module _ (m : Memory) where
    read-tells : (c : Cell) → Tells (read p start m c).0 (read p start m c).1
    read-tells c = go (is_inside p start c) refl
      where
        go : (b : Bool) → is_inside p start c ≡ b → Tells (c ∷ []) (if b then Some (number_at p start m c) else None)
        go true e = (e, tt)
        go false e = ([], c, refl, tt, e)

    constant-tells : (o : Option ℤ) (x : NameBytes) → Tells (constant_or_read p start m o x).0 (constant_or_read p start m o x).1
    constant-tells (Some value) x = tt
    constant-tells None x = read-tells (scalar x)

    mutual
      unfolding hidden expr_shape expr_child

      value-tells : (e : ExprKind) → Tells (value_of p start m e).0 (value_of p start m e).1
      value-tells (Num n) = tt
      value-tells (Get x) = constant-tells (constant_of p x) x
      value-tells (Read x at) = tells-then (indexes_of p start m at).0 (indexes_of p start m at).1 _ (indexes-tells at) (λ ij. read-tells (record { name = x; i = ij.0; j = ij.1 }))
      value-tells (Negative n a) = tells-then (value_of p start m a).0 (value_of p start m a).1 _ (value-tells a) (λ x. tt)
      value-tells (Plus n a k b) = tells-then (value_of p start m a).0 (value_of p start m a).1 _ (value-tells a) (λ x. tells-then (value_of p start m b).0 (value_of p start m b).1 _ (value-tells b) (λ y. tt))
      value-tells (Minus n a k b) = tells-then (value_of p start m a).0 (value_of p start m a).1 _ (value-tells a) (λ x. tells-then (value_of p start m b).0 (value_of p start m b).1 _ (value-tells b) (λ y. tt))
      value-tells (Times n a k b) = tells-then (value_of p start m a).0 (value_of p start m a).1 _ (value-tells a) (λ x. tells-then (value_of p start m b).0 (value_of p start m b).1 _ (value-tells b) (λ y. tt))

      indexes-tells : (at : Index) → Tells (indexes_of p start m at).0 (indexes_of p start m at).1
      indexes-tells (OneIndex n a) = tells-then (value_of p start m a).0 (value_of p start m a).1 _ (value-tells a) (λ x. tt)
      indexes-tells (TwoIndexes n a k b) = tells-then (value_of p start m a).0 (value_of p start m a).1 _ (value-tells a) (λ x. tells-then (value_of p start m b).0 (value_of p start m b).1 _ (value-tells b) (λ y. tt))

    right-tells : (b : Bool) (r s : Reading Bool) → Tells r.0 r.1 → Tells s.0 s.1 → Tells (if b then r else s).0 (if b then r else s).1
    right-tells true r s h k = h
    right-tells false r s h k = k

    truth-tells : (c : CondKind) → Tells (truth_of p start m c).0 (truth_of p start m c).1
    unfolding hidden cond_shape cond_child
    truth-tells True = tt
    truth-tells False = tt
    truth-tells (Rel op a b) = tells-then (value_of p start m a.kind).0 (value_of p start m a.kind).1 _ (value-tells a.kind) (λ x. tells-then (value_of p start m b.kind).0 (value_of p start m b.kind).1 _ (value-tells b.kind) (λ y. tt))
    truth-tells (Negation n c) = tells-then (truth_of p start m c).0 (truth_of p start m c).1 _ (truth-tells c) (λ x. tt)
    truth-tells (Conjunction n c k d) = tells-then (truth_of p start m c).0 (truth_of p start m c).1 _ (truth-tells c) (λ x. right-tells x (truth_of p start m d) (pure false) (truth-tells d) tt)
    truth-tells (Disjunction n c k d) = tells-then (truth_of p start m c).0 (truth_of p start m c).1 _ (truth-tells c) (λ x. right-tells x (pure true) (truth_of p start m d) tt (truth-tells d))

  -- events
  abbrev Inside : Event → Type 0
  Inside (event.Read c) = IsIn c
  Inside (event.Write c n) = IsIn c
  Inside (event.Hand x role numbers) = Unit {0}

  abbrev Outside : Event → Type 0
  Outside (event.Read c) = is_inside p start c ≡ false
  Outside (event.Write c n) = is_inside p start c ≡ false
  Outside (event.Hand x role numbers) = ⊥

  reads-inside : (cs : List Cell) → AllByRecursion IsIn cs → AllByRecursion Inside (map event.Read cs)
  reads-inside [] h = tt
  reads-inside (c ∷ cs) h = (h.0, reads-inside cs h.1)

  abbrev HasEnded : List Event → Type 0
  HasEnded trace = (before : List Event) × (e : Event) × (trace ≡ before ++ e ∷ []) × AllByRecursion Inside before × Outside e

  abbrev Goes : Config → Type 0
  Goes c = (c.has_halted ≡ false) × AllByRecursion Inside c.trace

  abbrev Stands : Config → Type 0
  Stands c = Goes c ⊎ ((c.has_halted ≡ true) × HasEnded c.trace)

  written-stands : (at : Cell) (n : ℤ) (c : Config) → Goes c → Stands (written p start at n c)
  written-stands at n c h = go (is_inside p start at) refl
    where
      go : (b : Bool) → is_inside p start at ≡ b → Stands (if b then record { tasks = c.tasks; memory = write p start c.memory at n; trace = c.trace ++ (event.Write at n ∷ []); has_halted = c.has_halted }
          else record { tasks = c.tasks; memory = c.memory; trace = c.trace ++ (event.Write at n ∷ []); has_halted = true })
      go true e = inl (h.0, all-append Inside c.trace _ h.1 (e, tt))
      go false e = inr (refl, (c.trace, event.Write at n, refl, h.1, e))

  decided-stands : {A : Type 0} (reads : List Cell) (o : Option A) (go : A → Config → Config) (c : Config) → Tells reads o → Goes c → ((x : A) (c : Config) → Goes c → Stands (go x c)) →
      Stands (decided o go (record c { trace = c.trace ++ map event.Read reads }))
  decided-stands reads (Some x) go c t h k = k x _ (h.0, all-append Inside c.trace _ h.1 (reads-inside reads t))
  decided-stands reads None go c t h k =
      inr (
        refl,
        (
          c.trace ++ map event.Read t.0,
          event.Read t.1,
          ap (λ (z : List Cell). c.trace ++ map event.Read z) t.2 ∙ (ap (λ (z : List Event). c.trace ++ z) (map-last event.Read t.0 t.1) ∙ longer c.trace (map event.Read t.0) (event.Read t.1)),
          all-append Inside c.trace _ h.1 (reads-inside t.0 t.3),
          t.4,
        ),
      )

  statement-stands : (st : Stmt) (kind : StmtKind) (c : Config) → Goes c → Stands (step_statement p start st kind c)
  statement-stands st (Set x value) c h =
      decided-stands (value_of p start c.memory value.kind).0 (value_of p start c.memory value.kind).1 _ c (value-tells c.memory value.kind) h (λ n c h. written-stands (scalar x) n c h)
  statement-stands st (Put x at value) c h =
      let r = both (indexes_of p start c.memory at) (value_of p start c.memory value.kind) in
      decided-stands r.0 r.1 _ c (tells-both (indexes_of p start c.memory at) (value_of p start c.memory value.kind) (indexes-tells c.memory at) (value-tells c.memory value.kind)) h
      (λ a c h. written-stands (record { name = x; i = a.0.0; j = a.0.1 }) a.1 c h)
  statement-stands st (If' test _ then_ _ else_) c h =
      decided-stands (truth_of p start c.memory test.kind).0 (truth_of p start c.memory test.kind).1 _ c (truth-tells c.memory test.kind) h (λ b c h. inl h)
  statement-stands st (For' x lo hi _ body) c h =
      let r = both (value_of p start c.memory lo.kind) (value_of p start c.memory hi.kind) in
      decided-stands r.0 r.1 _ c (tells-both (value_of p start c.memory lo.kind) (value_of p start c.memory hi.kind) (value-tells c.memory lo.kind) (value-tells c.memory hi.kind)) h
      (λ a c h. written-stands (scalar x) a.0 c h)
  statement-stands st (While' test _ body) c h =
      decided-stands (truth_of p start c.memory test.kind).0 (truth_of p start c.memory test.kind).1 _ c (truth-tells c.memory test.kind) h (λ b c h. inl h)
  statement-stands st (Hand x role) c h = inl (h.0, all-append Inside c.trace _ h.1 (tt, tt))
  statement-stands st Skip c h = inl h

  task-stands : (t : Task) (c : Config) → Goes c → Stands (step_task p start t c)
  task-stands (Do st) c h = statement-stands st st.kind c h
  task-stands (Compare x hi body) c h = go (int_le (number_at p start c.memory (scalar x)) hi)
    where
      go : (b : Bool) → Stands (if b then go_to (map Do body ++ Advance x hi body ∷ []) c else c)
      go true = inl h
      go false = inl h
  task-stands (Advance x hi body) c h = written-stands (scalar x) (number_at p start c.memory (scalar x) +ℤ pos 1) c h

  first-stands : (tasks : List Task) (c : Config) → Goes c → Stands (step_first p start tasks c)
  first-stands [] c h = inl h
  first-stands (t ∷ ts) c h = task-stands t (record c { tasks = ts }) h

  step-stands : (c : Config) → Stands c → Stands (step p start c)
  step-stands c (inl h) = subst (λ (b : Bool). Stands (if b then c else step_first p start c.tasks c)) (sym h.0) (first-stands c.tasks c h)
  step-stands c (inr h) = subst (λ (b : Bool). Stands (if b then c else step_first p start c.tasks c)) (sym h.0) (inr h)

  run-stands : (n : ℕ) → Stands (run p start n)
  run-stands zero = inl (refl, tt)
  run-stands (suc n) = step-stands (run p start n) (run-stands n)

  not-bad : (roles : List NameBytes) (before : List Event) (e : Event) → Inside e → ¬ Bad p start roles Bounds before e
  not-bad roles before (event.Read c) h k = false≢true (sym k ∙ h)
  not-bad roles before (event.Write c n) h k = false≢true (sym k ∙ h)
  not-bad roles before (event.Hand x role numbers) h k = k

  is-bad : (roles : List NameBytes) (before : List Event) (e : Event) → Outside e → Bad p start roles Bounds before e
  is-bad roles before (event.Read c) h = h
  is-bad roles before (event.Write c n) h = h
  is-bad roles before (event.Hand x role numbers) h = absurd h

  bad-halts : (roles : List NameBytes) (c : Config) → Stands c → Violates p start roles Bounds c.trace → c.has_halted ≡ true
  bad-halts roles c (inl h) v = absurd (not-bad roles v.0 v.1 (all-middle Inside v.0 v.1 v.2 (subst (AllByRecursion Inside) v.3 h.1)) v.4)
  bad-halts roles c (inr h) v = h.0

  halts-bad : (roles : List NameBytes) (c : Config) → Stands c → c.has_halted ≡ true → Violates p start roles Bounds c.trace
  halts-bad roles c (inl h) k = absurd (false≢true (sym h.0 ∙ k))
  halts-bad roles c (inr h) k = (h.1.0, h.1.1, [], h.1.2, is-bad roles h.1.0 h.1.1 h.1.4)

  pub halted_where_bad : (roles : List NameBytes) (n : ℕ) → ((run p start n).has_halted ≡ true) ↔ Violates p start roles Bounds (run p start n).trace
  halted_where_bad roles n = (halts-bad roles (run p start n) (run-stands n), bad-halts roles (run p start n) (run-stands n))
