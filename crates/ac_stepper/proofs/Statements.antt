-- Each statement, with its blocks as lists.
use Rattle.std.proofs.Common.{◌≡◌, false, if◌then◌else◌, List, [], ◌∷◌, ◌++◌, map, ℤ, refl, sym, ap, ◌∙◌, subst, append-nil, rules, arith}
use Rattle.std.specs.Prelude.{Result, Ok, Err, FitsSigned, None}
use Rattle.std.specs.Int.{w128}
use Rattle.std.proofs.lemmas.List.Elements.{All-nil}
use Rattle.ac_tree.specs.declared.program.Program.{Program}
use Rattle.ac_tree.specs.declared.program.Expr.{Expr}
use Rattle.ac_tree.specs.declared.program.Cond.{Cond}
use Rattle.ac_tree.specs.declared.program.Stmt.{Stmt}
use Rattle.ac_tree.specs.declared.program.StmtKind.{StmtKind, the_lemmas as stmt_lemmas}
use Rattle.ac_tree.specs.declared.program.StmtKind.TheVariants as stmt
use Rattle.ac_run.specs.declared.start.Start.{Start}
use Rattle.ac_run.specs.declared.event.Event.{Event}
use Rattle.ac_run.specs.Declarations.{NameBytes}
use Rattle.ac_run.specs.Memory.{Memory, scalar, contents}
use Rattle.ac_run.specs.declared.event.Event.TheVariants as event
use Rattle.ac_tree.specs.declared.program.Index.{Index}
use Rattle.ac_run.specs.Evaluation.{both, value_of, indexes_of, truth_of}
use Rattle.ac_run.specs.Run.{Task, Do, Compare, Config, go_to, with_reading, written, step_statement}
use Rattle.ac_evaluation.specs.Numbers.{numbers_of, numbers_of_index, numbers_of_condition, numbers_of_both}
use Rattle.ac_stepper.specs.declared.fault.StepFault.{StepFault}
use Rattle.ac_stepper.specs.declared.fault.StepFault.TheVariants as fault
use Rattle.ac_stepper.specs.declared.change.Change.{Change}
use Rattle.ac_stepper.specs.Numbers.{numbers_of_statement}
use Rattle.ac_stepper.specs.Changes.{IsChange, going, Plans}
use Rattle.ac_stepper.proofs.Blocks.{block-items}
use Rattle.ac_stepper.proofs.Planning.{plain_plans}

module _ (p : Program) (start : Start) where
  numbers_if : (m : Memory) (test : Cond) (yes_ no_ : List Stmt) → numbers_of_statement p start m (stmt.If test yes_ no_) ≡ numbers_of_condition p start m test.kind
  numbers_if m test yes_ no_ = first_of (search (rules, stmt_lemmas), grind (arith, stmt_lemmas))

  numbers_for : (m : Memory) (x : NameBytes) (lo hi : Expr) (body : List Stmt) → numbers_of_statement p start m (stmt.For x lo hi body) ≡ numbers_of_both (numbers_of p start m lo.kind) (value_of p start m lo.kind) (numbers_of p start m hi.kind)
  numbers_for m x lo hi body = first_of (search (rules, stmt_lemmas), grind (arith, stmt_lemmas))

  numbers_while : (m : Memory) (test : Cond) (body : List Stmt) → numbers_of_statement p start m (stmt.While test body) ≡ numbers_of_condition p start m test.kind
  numbers_while m test body = first_of (search (rules, stmt_lemmas), grind (arith, stmt_lemmas))

  step_set : (st : Stmt) (x : NameBytes) (value : Expr) (c : Config) →
      step_statement p start st (stmt.Set x value) c ≡ with_reading (value_of p start c.memory value.kind) (λ n. written p start (scalar x) n) c
  step_set st x value c = first_of (search rules, simp stmt_lemmas, search (rules, stmt_lemmas))

  step_put : (st : Stmt) (x : NameBytes) (at : Index) (value : Expr) (c : Config) →
      step_statement p start st (stmt.Put x at value) c
      ≡ with_reading (both (indexes_of p start c.memory at) (value_of p start c.memory value.kind)) (λ a. written p start (record { name = x; i = a.0.0; j = a.0.1 }) a.1) c
  step_put st x at value c = first_of (search rules, simp stmt_lemmas, search (rules, stmt_lemmas))

  step_if : (st : Stmt) (test : Cond) (yes_ no_ : List Stmt) (c : Config) →
      step_statement p start st (stmt.If test yes_ no_) c ≡ with_reading (truth_of p start c.memory test.kind) (λ b. go_to (map Do (if b then yes_ else no_))) c
  step_if st test yes_ no_ c = first_of (simp (stmt_lemmas, block-items), search (rules, stmt_lemmas, block-items), grind (arith, stmt_lemmas, block-items))

  step_for : (st : Stmt) (x : NameBytes) (lo hi : Expr) (body : List Stmt) (c : Config) →
      step_statement p start st (stmt.For x lo hi body) c
      ≡ with_reading (both (value_of p start c.memory lo.kind) (value_of p start c.memory hi.kind)) (λ a c. go_to (Compare x a.1 body ∷ []) (written p start (scalar x) a.0 c)) c
  step_for st x lo hi body c = first_of (simp (stmt_lemmas, block-items), search (rules, stmt_lemmas, block-items), grind (arith, stmt_lemmas, block-items))

  step_while : (st : Stmt) (test : Cond) (body : List Stmt) (c : Config) →
      step_statement p start st (stmt.While test body) c ≡ with_reading (truth_of p start c.memory test.kind) (λ b. go_to (if b then map Do body ++ Do st ∷ [] else [])) c
  step_while st test body c = first_of (simp (stmt_lemmas, block-items), search (rules, stmt_lemmas, block-items), grind (arith, stmt_lemmas, block-items))

  module _ (m : Memory) where
    -- what does the same to the configurations with this memory
    same_plans : (go also : Config → Config) (numbers more : List ℤ) (res : Result Change StepFault) → ((tasks : List Task) (trace : List Event) → also (going m tasks trace) ≡ go (going m tasks trace)) →
        more ≡ numbers → Plans p start go numbers m res → Plans p start also more m res
    same_plans go also numbers more res same is h = subst (λ (ns : List ℤ). Plans p start also ns m res) (sym is) (by res h)
      where
        by : (res : Result Change StepFault) → Plans p start go numbers m res → Plans p start also numbers m res
        by (Ok change) h = (λ tasks trace. same tasks trace ∙ h.0 tasks trace, h.1)
        by (Err fault.Wide) h = h
        by (Err fault.OutOfMemory) h = tt

    module _ (st : Stmt) (k : StmtKind) (res : Result Change StepFault) where
      of_kind : (q : StmtKind) → k ≡ q → Plans p start (step_statement p start st q) (numbers_of_statement p start m q) m res → Plans p start (step_statement p start st k) (numbers_of_statement p start m k) m res
      of_kind q is h = subst (λ (q : StmtKind). Plans p start (step_statement p start st q) (numbers_of_statement p start m q) m res) (sym is) h

      pub set_plans : (x : NameBytes) (value : Expr) → k ≡ stmt.Set x value → Plans p start (with_reading (value_of p start m value.kind) (λ n. written p start (scalar x) n)) (numbers_of p start m value.kind) m res →
          Plans p start (step_statement p start st k) (numbers_of_statement p start m k) m res
      set_plans x value is h =
          of_kind (stmt.Set x value) is (same_plans (with_reading (value_of p start m value.kind) (λ n. written p start (scalar x) n)) (step_statement p start st (stmt.Set x value)) _ _ res
          (λ tasks trace. step_set st x value (going m tasks trace)) refl h)

      pub put_plans : (x : NameBytes) (at : Index) (value : Expr) → k ≡ stmt.Put x at value →
          Plans p start (with_reading (both (indexes_of p start m at) (value_of p start m value.kind)) (λ a. written p start (record { name = x; i = a.0.0; j = a.0.1 }) a.1))
          (numbers_of_both (numbers_of_index p start m at) (indexes_of p start m at) (numbers_of p start m value.kind)) m res →
          Plans p start (step_statement p start st k) (numbers_of_statement p start m k) m res
      put_plans x at value is h =
          of_kind (stmt.Put x at value) is (same_plans (with_reading (both (indexes_of p start m at) (value_of p start m value.kind)) (λ a. written p start (record { name = x; i = a.0.0; j = a.0.1 }) a.1)) (step_statement p start st (stmt.Put x at value)) _ _ res
          (λ tasks trace. step_put st x at value (going m tasks trace)) refl h)

      pub hand_plans : (x role : NameBytes) → k ≡ stmt.Hand x role → Plans p start (λ c. record c { trace = c.trace ++ event.Hand x role (contents p start c.memory x) ∷ [] }) [] m res →
          Plans p start (step_statement p start st k) (numbers_of_statement p start m k) m res
      hand_plans x role is h =
          of_kind (stmt.Hand x role) is (same_plans (λ c. record c { trace = c.trace ++ event.Hand x role (contents p start c.memory x) ∷ [] }) (step_statement p start st (stmt.Hand x role)) [] [] res (λ tasks trace. refl) refl h)

      pub if_plans : (test : Cond) (yes_ no_ ys ns : List Stmt) → k ≡ stmt.If test yes_ no_ → ys ≡ yes_ → ns ≡ no_ →
          Plans p start (with_reading (truth_of p start m test.kind) (λ b. go_to (map Do (if b then ys else ns)))) (numbers_of_condition p start m test.kind) m res →
          Plans p start (step_statement p start st k) (numbers_of_statement p start m k) m res
      if_plans test yes_ no_ ys ns is first second h =
          of_kind (stmt.If test yes_ no_) is (same_plans (with_reading (truth_of p start m test.kind) (λ b. go_to (map Do (if b then ys else ns)))) (step_statement p start st (stmt.If test yes_ no_)) _ _ res
          (λ tasks trace. step_if st test yes_ no_ (going m tasks trace)
          ∙ ap (λ (zs : List Stmt). with_reading (truth_of p start m test.kind) (λ b. go_to (map Do (if b then zs else no_))) (going m tasks trace)) (sym first)
          ∙ ap (λ (zs : List Stmt). with_reading (truth_of p start m test.kind) (λ b. go_to (map Do (if b then ys else zs))) (going m tasks trace)) (sym second))
          (numbers_if m test yes_ no_) h)

      pub for_plans : (x : NameBytes) (lo hi : Expr) (body bs : List Stmt) → k ≡ stmt.For x lo hi body → bs ≡ body →
          Plans p start (with_reading (both (value_of p start m lo.kind) (value_of p start m hi.kind)) (λ a c. go_to (Compare x a.1 bs ∷ []) (written p start (scalar x) a.0 c)))
          (numbers_of_both (numbers_of p start m lo.kind) (value_of p start m lo.kind) (numbers_of p start m hi.kind)) m res →
          Plans p start (step_statement p start st k) (numbers_of_statement p start m k) m res
      for_plans x lo hi body bs is same h =
          of_kind (stmt.For x lo hi body) is (same_plans (with_reading (both (value_of p start m lo.kind) (value_of p start m hi.kind)) (λ a c. go_to (Compare x a.1 bs ∷ []) (written p start (scalar x) a.0 c))) (step_statement p start st (stmt.For x lo hi body)) _ _ res
          (λ tasks trace. step_for st x lo hi body (going m tasks trace)
          ∙ ap (λ (zs : List Stmt). with_reading (both (value_of p start m lo.kind) (value_of p start m hi.kind)) (λ a c. go_to (Compare x a.1 zs ∷ []) (written p start (scalar x) a.0 c)) (going m tasks trace)) (sym same))
          (numbers_for m x lo hi body) h)

      pub while_plans : (test : Cond) (body bs : List Stmt) → k ≡ stmt.While test body → bs ≡ body →
          Plans p start (with_reading (truth_of p start m test.kind) (λ b. go_to (if b then map Do bs ++ Do st ∷ [] else []))) (numbers_of_condition p start m test.kind) m res →
          Plans p start (step_statement p start st k) (numbers_of_statement p start m k) m res
      while_plans test body bs is same h =
          of_kind (stmt.While test body) is (same_plans (with_reading (truth_of p start m test.kind) (λ b. go_to (if b then map Do bs ++ Do st ∷ [] else []))) (step_statement p start st (stmt.While test body)) _ _ res
          (λ tasks trace. step_while st test body (going m tasks trace)
          ∙ ap (λ (zs : List Stmt). with_reading (truth_of p start m test.kind) (λ b. go_to (if b then map Do zs ++ Do st ∷ [] else [])) (going m tasks trace)) (sym same))
          (numbers_while m test body) h)

    pub skip_plans : (st : Stmt) (k : StmtKind) (change : Change) → k ≡ stmt.Skip → IsChange [] None false [] change →
        Plans p start (step_statement p start st k) (numbers_of_statement p start m k) m (Ok change)
    skip_plans st k change is plan =
        of_kind st k (Ok change) stmt.Skip is (plain_plans p start m (step_statement p start st stmt.Skip) [] [] None false [] change plan
        (λ tasks trace. ap (λ (es : List Event). going m tasks es) (sym (append-nil trace))) (All-nil (FitsSigned w128)))
