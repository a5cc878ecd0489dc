-- What the code finds out of a task is what its step does.
use Rattle.std.proofs.Common.{◌≡◌, Bool, true, false, if◌then◌else◌, List, [], ◌∷◌, ◌++◌, map, Option, Some, None, ℤ, sym, ap, ◌∙◌, subst, append_assoc, append-nil}
use Rattle.std.specs.Prelude.{Result, Ok, Err, MatchResult, FitsSigned, int_le, pos, ◌+ℤ◌}
use Rattle.std.specs.Int.{w128}
use Rattle.std.proofs.lemmas.List.Elements.{All-nil, All-cons, All-head}
use Rattle.ac_tree.specs.declared.program.Stmt.{Stmt}
use Rattle.ac_tree.specs.declared.program.Program.{Program}
use Rattle.ac_run.specs.declared.start.Start.{Start}
use Rattle.ac_run.specs.declared.event.Cell.{Cell}
use Rattle.ac_run.specs.declared.event.Event.{Event}
use Rattle.ac_run.specs.declared.event.Event.TheVariants as event
use Rattle.ac_run.specs.Declarations.{NameBytes}
use Rattle.ac_run.specs.Memory.{Memory, scalar, is_inside, number_at, write, contents}
use Rattle.ac_run.specs.Evaluation.{Reading}
use Rattle.ac_run.specs.Run.{Task, Do, Compare, Advance, Config, go_to, decided, with_reading, written, step_task}
use Rattle.ac_evaluation.specs.declared.stop.Stop.{Stop}
use Rattle.ac_evaluation.specs.declared.stop.Stop.TheVariants.{Outside, Wide, OutOfMemory}
use Rattle.ac_evaluation.specs.Evaluates.{AllFit, Answers, Evaluates}
use Rattle.ac_evaluation.specs.Parts.{Makes}
use Rattle.ac_stepper.specs.declared.fault.StepFault.{StepFault}
use Rattle.ac_stepper.specs.declared.fault.StepFault.TheVariants as fault
use Rattle.ac_stepper.specs.declared.change.Change.{Change}
use Rattle.ac_stepper.specs.Tasks.{tasks_if}
use Rattle.ac_stepper.specs.Numbers.{numbers_of_task}
use Rattle.ac_stepper.specs.Changes.{Write, IsChange, Stops, going, made, changed, Plans}

abbrev config : List Task → Memory → List Event → Bool → Config
config tasks m trace halted = record { tasks = tasks; memory = m; trace = trace; has_halted = halted }

module _ (p : Program) (start : Start) (m : Memory) where
  -- a change by its parts
  pub changed_is : (events : List Event) (at : Write) (halts : Bool) (more : List Task) (change : Change) → IsChange events at halts more change → (tasks : List Task) (trace : List Event) →
      changed p start change (going m tasks trace) ≡ made p start events at halts more (going m tasks trace)
  changed_is events at halts more change is tasks trace =
      ap (λ (es : List Event). made p start es change.write change.halts (map Do change.block.now ++ tasks_if change.behind) (going m tasks trace)) is.events_are
      ∙ ap (λ (w : Write). made p start events w change.halts (map Do change.block.now ++ tasks_if change.behind) (going m tasks trace)) is.write_is
      ∙ ap (λ (b : Bool). made p start events at b (map Do change.block.now ++ tasks_if change.behind) (going m tasks trace)) is.halts_is
      ∙ ap (λ (ts : List Task). made p start events at halts ts (going m tasks trace)) is.tasks_are

  -- a task that makes a change by itself
  pub plain_plans : (go : Config → Config) (numbers : List ℤ) (events : List Event) (at : Write) (halts : Bool) (more : List Task) (change : Change) → IsChange events at halts more change →
      ((tasks : List Task) (trace : List Event) → go (going m tasks trace) ≡ made p start events at halts more (going m tasks trace)) → AllFit numbers → Plans p start go numbers m (Ok change)
  plain_plans go numbers events at halts more change is same fit = (λ tasks trace. same tasks trace ∙ sym (changed_is events at halts more change is tasks trace), fit)

  -- a write, and the tasks behind it
  module _ (at : Cell) (n : ℤ) (after : List Event) (more tasks : List Task) (trace : List Event) where
    told : (trace ++ after) ++ event.Write at n ∷ [] ≡ trace ++ (after ++ event.Write at n ∷ [])
    told = append_assoc trace after (event.Write at n ∷ [])

    pub written_made : written p start at n (going m tasks (trace ++ after)) ≡ made p start (after ++ event.Write at n ∷ []) (Some (at, n)) false [] (going m tasks trace)
    written_made = go (is_inside p start at)
      where
        go : (b : Bool) →
            (if b then config tasks (write p start m at n) ((trace ++ after) ++ event.Write at n ∷ []) false else config tasks m ((trace ++ after) ++ event.Write at n ∷ []) true)
            ≡ config tasks (if b then write p start m at n else m) (trace ++ (after ++ event.Write at n ∷ [])) (if b then false else true)
        go true = ap (λ (es : List Event). config tasks (write p start m at n) es false) told
        go false = ap (λ (es : List Event). config tasks m es true) told

    pub written_then_made : go_to more (written p start at n (going m tasks (trace ++ after))) ≡ made p start (after ++ event.Write at n ∷ []) (Some (at, n)) false more (going m tasks trace)
    written_then_made = ap (go_to more) written_made

  module _ {A : Type 0} (r : Reading A) (numbers : List ℤ) (before after : List Event) (none : before ≡ []) where
    reads : after ≡ before ++ map event.Read r.0 → map event.Read r.0 ≡ after
    reads traced = sym (traced ∙ ap (λ (es : List Event). es ++ map event.Read r.0) none)

    -- the answer goes on
    read_goes_on : (go : A → Config → Config) (x : A) → Answers r numbers (Some x) before after → (tasks : List Task) (trace : List Event) →
        with_reading r go (going m tasks trace) ≡ go x (going m tasks (trace ++ after))
    read_goes_on go x h tasks trace =
        ap (λ (o : Option A). decided o go (going m tasks (trace ++ map event.Read r.0))) h.answered
        ∙ ap (λ (es : List Event). go x (going m tasks (trace ++ es))) (reads h.traced)

    answer_plans : (go : A → Config → Config) (x : A) (events : List Event) (at : Write) (more : List Task) (change : Change) → Answers r numbers (Some x) before after → IsChange events at false more change →
        ((tasks : List Task) (trace : List Event) → go x (going m tasks (trace ++ after)) ≡ made p start events at false more (going m tasks trace)) → Plans p start (with_reading r go) numbers m (Ok change)
    answer_plans go x events at more change h is same =
        plain_plans (with_reading r go) numbers events at false more change is (λ tasks trace. read_goes_on go x h tasks trace ∙ same tasks trace) h.fit

    -- with tasks
    pub enter_plans : (go : A → List Task) (x : A) (more : List Task) (change : Change) → Answers r numbers (Some x) before after → IsChange after None false more change → more ≡ go x →
        Plans p start (with_reading r (λ x. go_to (go x))) numbers m (Ok change)
    enter_plans go x more change h is same =
        answer_plans (λ x. go_to (go x)) x after None more change h is (λ tasks trace.
        ap (λ (ts : List Task). config (ts ++ tasks) m (trace ++ after) false) (sym same))

    -- with a write, and tasks behind it
    write_plans : (go : A → Config → Config) (x : A) (at : Cell) (n : ℤ) (more : List Task) (res : Result Change StepFault) → Answers r numbers (Some x) before after →
        MatchResult res (λ change. IsChange (after ++ event.Write at n ∷ []) (Some (at, n)) false more change) (λ e. e ≡ fault.OutOfMemory) →
        ((tasks : List Task) (trace : List Event) → go x (going m tasks (trace ++ after)) ≡ made p start (after ++ event.Write at n ∷ []) (Some (at, n)) false more (going m tasks trace)) →
        Plans p start (with_reading r go) numbers m res
    write_plans go x at n more (Ok change) h is same = answer_plans go x (after ++ event.Write at n ∷ []) (Some (at, n)) more change h is same
    write_plans go x at n more (Err fault.OutOfMemory) h is same = tt
    write_plans go x at n more (Err fault.Wide) h is same = absurd (cc is)

    pub assigns : (at : A → Cell) (number : A → ℤ) (x : A) (there : Cell) (n : ℤ) (res : Result Change StepFault) → Answers r numbers (Some x) before after →
        MatchResult res (λ change. IsChange (after ++ event.Write there n ∷ []) (Some (there, n)) false [] change) (λ e. e ≡ fault.OutOfMemory) →
        there ≡ at x → n ≡ number x → Plans p start (with_reading r (λ x. written p start (at x) (number x))) numbers m res
    assigns at number x there n res h is place same =
        write_plans (λ x. written p start (at x) (number x)) x there n [] res h is (λ tasks trace.
        ap (λ (c : Cell). written p start c (number x) (going m tasks (trace ++ after))) (sym place)
        ∙ ap (λ (k : ℤ). written p start there k (going m tasks (trace ++ after))) (sym same)
        ∙ written_made there n after [] tasks trace)

    pub assigns_first : (x : NameBytes) (next : A → Task) (number : A → ℤ) (a : A) (n : ℤ) (task : Task) (res : Result Change StepFault) → Answers r numbers (Some a) before after →
        MatchResult res (λ change. IsChange (after ++ event.Write (scalar x) n ∷ []) (Some (scalar x, n)) false (task ∷ []) change) (λ e. e ≡ fault.OutOfMemory) →
        task ≡ next a → n ≡ number a → Plans p start (with_reading r (λ a c. go_to (next a ∷ []) (written p start (scalar x) (number a) c))) numbers m res
    assigns_first x next number a n task res h is then_ same =
        write_plans (λ a c. go_to (next a ∷ []) (written p start (scalar x) (number a) c)) a (scalar x) n (task ∷ []) res h is (λ tasks trace.
        ap (λ (t : Task). go_to (t ∷ []) (written p start (scalar x) (number a) (going m tasks (trace ++ after)))) (sym then_)
        ∙ ap (λ (k : ℤ). go_to (task ∷ []) (written p start (scalar x) k (going m tasks (trace ++ after)))) (sym same)
        ∙ written_then_made (scalar x) n after (task ∷ []) tasks trace)

    -- the evaluation stops
    pub stop_plans : (go : A → Config → Config) (stop : Stop) (res : Result Change StepFault) → Evaluates r numbers (Err stop) before after → Stops stop after res → Plans p start (with_reading r go) numbers m res
    stop_plans go Outside (Ok change) h is =
        plain_plans (with_reading r go) numbers after None true [] change is (λ tasks trace.
        ap (λ (o : Option A). decided o go (going m tasks (trace ++ map event.Read r.0))) h.answered
        ∙ ap (λ (es : List Event). config tasks m (trace ++ es) true) (reads h.traced)) h.fit
    stop_plans go Outside (Err e) h is = absurd is
    stop_plans go Wide (Ok change) h is = absurd is
    stop_plans go Wide (Err fault.Wide) h is = h
    stop_plans go Wide (Err fault.OutOfMemory) h is = absurd is
    stop_plans go OutOfMemory (Ok change) h is = absurd is
    stop_plans go OutOfMemory (Err fault.Wide) h is = absurd is
    stop_plans go OutOfMemory (Err fault.OutOfMemory) h is = tt

  -- a use
  pub use_plans : (x role : NameBytes) (told : Event) (res : Result Change StepFault) → told ≡ event.Hand x role (contents p start m x) →
      MatchResult res (λ change. IsChange (told ∷ []) None false [] change) (λ e. e ≡ fault.OutOfMemory) →
      Plans p start (λ c. record c { trace = c.trace ++ event.Hand x role (contents p start c.memory x) ∷ [] }) [] m res
  use_plans x role told (Ok change) is plan =
      plain_plans (λ c. record c { trace = c.trace ++ event.Hand x role (contents p start c.memory x) ∷ [] }) [] (told ∷ []) None false [] change plan (λ tasks trace.
      ap (λ (e : Event). config tasks m (trace ++ e ∷ []) false) (sym is)) (All-nil (FitsSigned w128))
  use_plans x role told (Err fault.OutOfMemory) is plan = tt
  use_plans x role told (Err fault.Wide) is plan = absurd (cc plan)

  -- the comparison of a `for`
  module _ (x : NameBytes) (hi : ℤ) (body : List Stmt) (variable : Cell) (is : variable ≡ scalar x) where
    pub low_plans : (low : Bool) (more : List Task) (change : Change) → low ≡ int_le (number_at p start m variable) hi → low ≡ true → IsChange [] None false more change →
        more ≡ map Do body ++ Advance x hi body ∷ [] → Plans p start (step_task p start (Compare x hi body)) [] m (Ok change)
    low_plans low more change test holds plan same =
        plain_plans (step_task p start (Compare x hi body)) [] [] None false more change plan (λ tasks trace.
        ap (λ (b : Bool). if b then go_to (map Do body ++ Advance x hi body ∷ []) (going m tasks trace) else going m tasks trace) (ap (λ (c : Cell). int_le (number_at p start m c) hi) (sym is) ∙ sym test ∙ holds)
        ∙ ap (λ (ts : List Task). config (ts ++ tasks) m trace false) (sym same)
        ∙ ap (λ (es : List Event). config (more ++ tasks) m es false) (sym (append-nil trace))) (All-nil (FitsSigned w128))

    pub high_plans : (low : Bool) (change : Change) → low ≡ int_le (number_at p start m variable) hi → low ≡ false → IsChange [] None false [] change →
        Plans p start (step_task p start (Compare x hi body)) [] m (Ok change)
    high_plans low change test fails plan =
        plain_plans (step_task p start (Compare x hi body)) [] [] None false [] change plan (λ tasks trace.
        ap (λ (b : Bool). if b then go_to (map Do body ++ Advance x hi body ∷ []) (going m tasks trace) else going m tasks trace) (ap (λ (c : Cell). int_le (number_at p start m c) hi) (sym is) ∙ sym test ∙ fails)
        ∙ ap (λ (es : List Event). config tasks m es false) (sym (append-nil trace))) (All-nil (FitsSigned w128))

    -- its advance
    module _ (events : List Event) (none : events ≡ []) (res : Result Change StepFault) where
      pub advance_plans : (n k : ℤ) (task : Task) → Makes (number_at p start m variable +ℤ pos 1) (Ok k) →
          MatchResult res (λ change. IsChange (events ++ event.Write (scalar x) n ∷ []) (Some (scalar x, n)) false (task ∷ []) change) (λ e. e ≡ fault.OutOfMemory) →
          n ≡ k → task ≡ Compare x hi body → Plans p start (step_task p start (Advance x hi body)) (numbers_of_task p start m (Advance x hi body)) m res
      advance_plans n k task makes plan same then_ = by res plan
        where
          sum : n ≡ number_at p start m (scalar x) +ℤ pos 1
          sum = same ∙ makes.0 ∙ ap (λ (c : Cell). number_at p start m c +ℤ pos 1) is

          fits : AllFit ((number_at p start m (scalar x) +ℤ pos 1) ∷ [])
          fits = All-cons (FitsSigned w128) (number_at p start m (scalar x) +ℤ pos 1) [] (subst (λ (c : Cell). FitsSigned w128 (number_at p start m c +ℤ pos 1)) is makes.1) (All-nil (FitsSigned w128))

          by : (res : Result Change StepFault) →
              MatchResult res (λ change. IsChange (events ++ event.Write (scalar x) n ∷ []) (Some (scalar x, n)) false (task ∷ []) change) (λ e. e ≡ fault.OutOfMemory) →
              Plans p start (step_task p start (Advance x hi body)) (numbers_of_task p start m (Advance x hi body)) m res
          by (Ok change) plan =
              plain_plans (step_task p start (Advance x hi body)) ((number_at p start m (scalar x) +ℤ pos 1) ∷ []) (events ++ event.Write (scalar x) n ∷ []) (Some (scalar x, n)) false (task ∷ []) change plan (λ tasks trace.
              ap (λ (k : ℤ). go_to (Compare x hi body ∷ []) (written p start (scalar x) k (going m tasks trace))) (sym sum)
              ∙ ap (λ (t : Task). go_to (t ∷ []) (written p start (scalar x) n (going m tasks trace))) (sym then_)
              ∙ ap (λ (es : List Event). go_to (task ∷ []) (written p start (scalar x) n (going m tasks es))) (sym (append-nil trace))
              ∙ written_then_made (scalar x) n [] (task ∷ []) tasks trace
              ∙ ap (λ (es : List Event). made p start (es ++ event.Write (scalar x) n ∷ []) (Some (scalar x, n)) false (task ∷ []) (going m tasks trace)) (sym none)) fits
          by (Err fault.OutOfMemory) plan = tt
          by (Err fault.Wide) plan = absurd (cc plan)

      pub advance_stops : (stop : Stop) → Makes (number_at p start m variable +ℤ pos 1) (Err stop) → Stops stop events res →
          Plans p start (step_task p start (Advance x hi body)) (numbers_of_task p start m (Advance x hi body)) m res
      advance_stops Outside makes stops = absurd makes
      advance_stops OutOfMemory makes stops = absurd makes
      advance_stops Wide makes stops = by res stops
        where
          by : (res : Result Change StepFault) → Stops Wide events res → Plans p start (step_task p start (Advance x hi body)) (numbers_of_task p start m (Advance x hi body)) m res
          by (Ok change) stops = absurd stops
          by (Err fault.OutOfMemory) stops = absurd stops
          by (Err fault.Wide) stops =
              λ fit. makes (subst (λ (c : Cell). FitsSigned w128 (number_at p start m c +ℤ pos 1)) (sym is) (All-head (FitsSigned w128) (number_at p start m (scalar x) +ℤ pos 1) [] fit))
