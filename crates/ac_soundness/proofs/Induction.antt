-- Each step of a run keeps the invariant: one lemma for each kind of statement.
use Rattle.std.proofs.Common.{◌≡◌, ◌⊎◌, ℕ, zero, suc, ◌<◌, ℤ, pos, List, [], ◌∷◌, ◌++◌, map, Bool, true, false, Option, Some, None, refl, sym, ◌∙◌, ap, subst, if◌then◌else◌, append_assoc, arith, ◌+ℤ◌, ◌≤ℤ◌, int_le}
use mathlib.Core.Logic.{inl, inr}
use Rattle.std.proofs.lemmas.Int.{ints, by_lt_z}
use Rattle.ac_tree.specs.declared.node.Node.{Node}
use Rattle.ac_tree.specs.declared.node.NodeId.{NodeId}
use Rattle.ac_tree.specs.declared.path.Target.{Target}
use Rattle.ac_tree.specs.declared.path.Target.TheVariants as target
use Rattle.ac_tree.specs.declared.program.Cond.{Cond}
use Rattle.ac_tree.specs.declared.program.Expr.{Expr}
use Rattle.ac_tree.specs.declared.program.Index.{Index}
use Rattle.ac_tree.specs.declared.program.Program.{Program}
use Rattle.ac_tree.specs.declared.program.Stmt.{Stmt}
use Rattle.ac_tree.specs.declared.program.StmtKind.{StmtKind, Row_of-Stmt, Set, Put, If', For', While', Hand, Skip}
use Rattle.ac_run.specs.declared.event.Cell.{Cell}
use Rattle.ac_run.specs.declared.event.Event.{Event}
use Rattle.ac_run.specs.declared.event.Event.TheVariants as event
use Rattle.ac_run.specs.declared.start.Start.{Start}
use Rattle.ac_run.specs.Declarations.{NameBytes, shape, is_input}
use Rattle.ac_run.specs.Evaluation.{Reading, both, value_of, indexes_of, truth_of}
use Rattle.ac_run.specs.Memory.{Memory, number_at, is_inside, contents, place, scalar, write}
use Rattle.ac_run.specs.Run.{Task, Do, Compare, Advance, Config, block, decided, with_reading, written, go_to, step_statement, step_first, step, begin, run}
use Rattle.ac_logic.specs.declared.formula.Change.{Change}
use Rattle.ac_logic.specs.declared.formula.Formula.{Formula, Le}
use Rattle.ac_logic.specs.declared.formula.Sym.TheVariants.{Value}
use Rattle.ac_logic.specs.declared.formula.Term.{Term}
use Rattle.ac_logic.specs.declared.label.LabelKind.TheVariants as label
use Rattle.ac_logic.specs.Meaning.{Valuation, Holds, value}
use Rattle.ac_logic.specs.Patterns.{Negation}
use Rattle.ac_logic.specs.Substitution.{formula_after}
use Rattle.ac_policy.specs.Laws.{HoldsIf, cell_of}
use Rattle.ac_policy.specs.Plain.{IsPlainTerm}
use Rattle.ac_policy.specs.Sites.{expr_sites, index_sites, scalar_write}
use Rattle.ac_policy.specs.State.{Shadow, Kept, cell, state}
use Rattle.ac_policy.specs.Terms.{term_of, first_index, second_index}
use Rattle.ac_conditions.specs.Goals.{conjoined, under, site_goal, cond_goal}
use Rattle.ac_conditions.specs.Hypotheses.{in_body, at_for_test, at_for_exit, at_while_exit, invariants, assumed}
use Rattle.ac_conditions.specs.Part.{Part}
use Rattle.ac_conditions.specs.Preconditions.{joined, variable, before_changes, past_barrier, element_write, role_use, scalar_changes, element_changes, while_entry, while_keep, for_entry, for_keep, set_goal, put_goal, ends_goal, before, before_block, before_list, while_head}
use Rattle.ac_conditions.specs.Tests.{labelled, one_more, formula_of}
use Rattle.ac_soundness.proofs.Entering.{behind_plain, tasks_enter, plain_enter, ranked_enter, path_enter, valid_enter, facts_enter, tasks_list, plain_list, ranked_list, path_list, valid_list, facts_list}
use Rattle.ac_soundness.proofs.KeptByWrites.{kept_write}
use Rattle.ac_soundness.proofs.Loops.{facts_kept, always, not_in-append, term_stable}
use Rattle.ac_soundness.proofs.PathsHold.{from_conjoined, from_under, from_changes, from_joined, hypotheses-append, and_holds, goal_here, goal_anywhere}
use Rattle.ac_soundness.proofs.PlainTerms.{zero_plain, term_plain, first_plain, second_plain, closed_effect}
use Rattle.ac_soundness.proofs.SitesHold.{site_holds, sites_hold, cond_holds, needs-append}
use Rattle.ac_soundness.proofs.Traces.{clean_then, clean_reads, clean_never}
use Rattle.ac_soundness.proofs.Truths.{le_says, cond_tells}
use Rattle.ac_soundness.proofs.Values.{zeros, indexed_array, indexed_by, expr_gives, index_gives, pair_gives}
use Rattle.ac_soundness.proofs.Writes.{state_set, state_put, is_scalar, number_same}
use Rattle.ac_soundness.specs.Frames.{Loop, Frame, Statement, WhileAgain, EndOf, ForTest, ForTurn, tasks_of, enter, enter_list, NoTest, NoTestBehind, IsWhile, RankedLoop, RankedFrames}
use Rattle.ac_soundness.specs.MeetsLaws.{MeetsLaws}
use Rattle.ac_soundness.specs.NeverBad.{HasBad}
use Rattle.ac_soundness.specs.Opened.{hidden, term_shape, term_child, array_shape, array_child, formula_shape, formula_child}
use Rattle.ac_soundness.specs.Ranked.{NotIn, RankedCond, RankedStmt, RankedBlock, RankedList, read_names, ends_names}
use Rattle.ac_soundness.specs.Readings.{Says, AllFine}
use Rattle.ac_soundness.specs.RunInvariant.{IsClean, path_formula, ValidLoop, RestValid, ForKeeps, NearEnd, LoopFacts, RunInvariant}
use Rattle.ac_soundness.specs.Validity.{AllHold, Follows, FollowsBehind, Valid, ValidBlock, ValidList}

le_same : (a : ℤ) → a ≤ℤ a
le_same a = omega (arith, ints)

le_more : (a b : ℤ) → a ≤ℤ b → a ≤ℤ (b +ℤ pos 1)
le_more a b h = omega (arith, ints)

more_le : (a b : ℤ) → a ≤ℤ b → (a +ℤ pos 1) ≤ℤ (b +ℤ pos 1)
more_le a b h = omega (arith, ints)

above : (a b : ℤ) → (a ≤ℤ b → ⊥) → (b +ℤ pos 1) ≤ℤ a
above a b h = by_lt_z b a (λ k. omega (arith, ints)) (λ k. absurd (h k))

just_above : (a b : ℤ) → (a ≤ℤ b → ⊥) → a ≤ℤ (b +ℤ pos 1) → a ≡ b +ℤ pos 1
just_above a b h k = let j = above a b h in grind (arith, ints)

-- What holds at every start that a program is given, of one policy, is assumed below: `base` are the ranges of the inputs.
module _ (p : Program) (start : Start) (part : Part) (shadow : List Event → Shadow) (Bad : List Event → Event → Type 0) (laws : MeetsLaws p start part shadow Bad)
    (base : List Formula) (given : (m : Memory) (s : Shadow) → Kept p start m → AllHold (state p start m s) base) where
  abbrev Invariant : Config → Type 0
  Invariant = RunInvariant p start part shadow Bad base

  abbrev Path : Target → List Frame → Option Formula
  Path = path_formula p part

  abbrev here : Config → Valuation
  here c = state p start c.memory (shadow c.trace)

  -- what is known of the rest of a run, beside the path formulas
  record Rest (hs : List Formula) (ns : List NameBytes) (fs : List Frame) (c : Config) : Type 0 where
    pub live : c.has_halted ≡ false
    pub tasks : tasks_of fs ≡ c.tasks
    pub clean : IsClean Bad [] c.trace
    pub kept : Kept p start c.memory
    pub plain : NoTest fs
    pub ranked : RankedFrames p start ns fs
    pub valid : (t : Target) → RestValid p part hs t fs
    pub facts : LoopFacts p part base hs (state p start c.memory (shadow c.trace)) fs

  later : (hs : List Formula) (ns : List NameBytes) (fs : List Frame) (c : Config) (trace : List Event) → Rest hs ns fs c → IsClean Bad [] trace → shadow trace ≡ shadow c.trace → Rest hs ns fs (record c { trace = trace })
  later hs ns fs c trace r ok same = record {
    live = r.live;
    tasks = r.tasks;
    clean = ok;
    kept = r.kept;
    plain = r.plain;
    ranked = r.ranked;
    valid = r.valid;
    facts = subst (λ (s : Shadow). LoopFacts p part base hs (state p start c.memory s) fs) (sym same) r.facts;
  }

  going : (hs : List Formula) (ns : List NameBytes) (fs : List Frame) (c : Config) → Rest hs ns fs c → ((t : Target) → HoldsIf (here c) (Path t fs)) → Invariant c
  going hs ns fs c r h = inr (r.live, record { frames = fs; hypotheses = hs; names = ns; tasks = r.tasks; plain = behind_plain fs r.plain; ranked = r.ranked; valid = r.valid; clean = r.clean; facts = r.facts; paths = h; kept = r.kept })

  deciding : {A : Type 0} (o : Option A) (R : A → Type 0) (go : A → Config → Config) (c : Config) → IsClean Bad [] c.trace → ((x : A) → o ≡ Some x → R x) → ((x : A) → R x → Invariant (go x c)) → Invariant (decided o go c)
  deciding None R go c ok h k = inl (refl, ok)
  deciding (Some x) R go c ok h k = k x (h x refl)

  -- a step that reads first
  reading : {A : Type 0} (r : Reading A) (R : A → Type 0) (go : A → Config → Config) (c : Config) → IsClean Bad [] c.trace → AllFine shadow Bad (shadow c.trace) r.0 → ((x : A) → r.1 ≡ Some x → R x) →
      ((trace : List Event) → IsClean Bad [] trace → shadow trace ≡ shadow c.trace → (x : A) → R x → Invariant (go x (record c { trace = trace }))) → Invariant (with_reading r go c)
  reading r R go c ok fine h k =
      let u = clean_reads Bad shadow laws.effect.read (shadow c.trace) c.trace r.0 refl ok fine in
      deciding r.1 R go (record c { trace = c.trace ++ map event.Read r.0 }) u.0 h (k (c.trace ++ map event.Read r.0) u.0 u.1)

  -- a step that writes
  writing : (at : Cell) (n : ℤ) (hs : List Formula) (ns : List NameBytes) (fs : List Frame) (c : Config) → Rest hs ns fs c → is_input p at.name ≡ false → NotIn at.name ns → ¬ Bad c.trace (event.Write at n) →
      (is_inside p start at ≡ true → (t : Target) → HoldsIf (state p start (write p start c.memory at n) (shadow (c.trace ++ (event.Write at n ∷ [])))) (Path t fs)) → Invariant (written p start at n c)
  writing at n hs ns fs c r free apart fine h = go (is_inside p start at) refl
    where
      ok : IsClean Bad [] (c.trace ++ (event.Write at n ∷ []))
      ok = clean_then Bad c.trace (event.Write at n) r.clean fine

      go : (b : Bool) → is_inside p start at ≡ b → Invariant (if b then record { tasks = c.tasks; memory = write p start c.memory at n; trace = c.trace ++ (event.Write at n ∷ []); has_halted = c.has_halted }
          else record { tasks = c.tasks; memory = c.memory; trace = c.trace ++ (event.Write at n ∷ []); has_halted = true })
      go true e = going hs ns fs _ (record {
        live = r.live;
        tasks = r.tasks;
        clean = ok;
        kept = kept_write p start c.memory at n free r.kept;
        plain = r.plain;
        ranked = r.ranked;
        valid = r.valid;
        facts = facts_kept p start part base c.memory at n (shadow c.trace) (shadow (c.trace ++ (event.Write at n ∷ []))) (λ x. laws.known.later c.memory (write p start c.memory at n) c.trace (event.Write at n) x) hs ns fs r.plain r.ranked apart r.facts;
      }) (h e)
      go false e = inl (refl, ok)

  -- an assignment to a scalar
  set_end : (n : NodeId) (x : NameBytes) (e : Expr) (hs : List Formula) (ns : List NameBytes) (fs : List Frame) (c : Config) → Rest hs ns fs c → RankedStmt p start ns (Set x e) →
      HoldsIf (here c) (part.need (scalar_write n x)) →
      ((t : Target) → HoldsIf (here c) (before_changes n (scalar_changes p part n x (term_of p e.kind)) (Path t fs))) →
      Invariant (written p start (scalar x) (value (here c) [] (term_of p e.kind)) c)
  unfolding hidden term_shape term_child array_shape array_child
  set_end n x e hs ns fs c r k needed h =
      let m = c.memory in
      let w = state p start m (shadow c.trace) in
      let at = scalar_write n x in
      let a = value w [] (term_of p e.kind) in
      let formed = laws.form.changes at (record { first = zero_plain; second = zero_plain }) in
      writing (scalar x) a hs ns fs c r k.2.free k.3 (laws.need m c.trace at (event.Write (scalar x) a) r.kept (zeros (shape p start x)) needed (a, refl))
      (λ inside t.
      let told = laws.effect.write m c.trace at a refl (zeros (shape p start x)) in
      let room = subst (λ (z : ℕ). place p start (cell x (pos 0) (pos 0)) < z) (sym (r.kept.sizes x)) (k.2.room (pos 0) (pos 0) inside) in
      let after = state_set p start m (shadow c.trace) (shadow (c.trace ++ (event.Write (scalar x) a ∷ []))) (part.effect at) formed told.numbers told.tables x (term_of p e.kind) k.0 room in
      subst (λ (z : Valuation). HoldsIf z (Path t fs)) (sym after)
      (from_changes w n (scalar_changes p part n x (term_of p e.kind)) (Path t fs) ((term_plain p e.kind).closed, closed_effect (part.effect at) formed) (h t)))

  step_set : (st : Stmt) (n : NodeId) (x : NameBytes) (e : Expr) (hs : List Formula) (ns : List NameBytes) (fs : List Frame) (c : Config) → Rest hs ns fs c → RankedStmt p start ns (Set x e) →
      ((t : Target) → HoldsIf (here c) (before p part t n (Set x e) (Path t fs))) → Invariant (step_statement p start st (Set x e) c)
  step_set st n x e hs ns fs c r k h =
      let m = c.memory in
      let w = state p start m (shadow c.trace) in
      let changes = scalar_changes p part n x (term_of p e.kind) in
      let j = λ (t : Target). from_conjoined w (set_goal p part t n x e) (before_changes n changes (Path t fs)) (h t) in
      let needs = sites_hold part.need w (scalar_write n x ∷ expr_sites p e.node.id e.kind) (λ t. (j t).0) in
      let v = expr_gives p start shadow Bad part.need laws.need m (shadow c.trace) r.kept e.node.id e.kind k.1 needs.1 in
      reading (value_of p start m e.kind) (λ a. value w [] (term_of p e.kind) ≡ a) (λ a. written p start (scalar x) a) c r.clean v.0 v.1
      (λ trace ok same a ea.
      let done = set_end n x e hs ns fs (record c { trace = trace }) (later hs ns fs c trace r ok same) k
      (subst (λ (s : Shadow). HoldsIf (state p start m s) (part.need (scalar_write n x))) (sym same) needs.0)
      (λ t. subst (λ (s : Shadow). HoldsIf (state p start m s) (before_changes n changes (Path t fs))) (sym same) (j t).1) in
      subst (λ (z : ℤ). Invariant (written p start (scalar x) z (record c { trace = trace }))) (ap (λ (s : Shadow). value (state p start m s) [] (term_of p e.kind)) same ∙ ea) done)

  -- an assignment to an element
  put_end : (n : NodeId) (x : NameBytes) (ix : Index) (e : Expr) (hs : List Formula) (ns : List NameBytes) (fs : List Frame) (c : Config) → Rest hs ns fs c → RankedStmt p start ns (Put x ix e) →
      HoldsIf (here c) (part.need (element_write p n x ix)) →
      ((t : Target) → HoldsIf (here c) (before_changes n (element_changes p part n x ix (term_of p e.kind)) (Path t fs))) →
      Invariant (written p start (cell x (value (here c) [] (first_index p ix)) (value (here c) [] (second_index p ix))) (value (here c) [] (term_of p e.kind)) c)
  unfolding hidden term_shape term_child array_shape array_child
  put_end n x ix e hs ns fs c r k needed h =
      let m = c.memory in
      let w = state p start m (shadow c.trace) in
      let at = element_write p n x ix in
      let a = value w [] (term_of p e.kind) in
      let i = first_plain p ix in
      let j = second_plain p ix in
      let formed = laws.form.changes at (record { first = i; second = j }) in
      writing (cell_of w at) a hs ns fs c r k.3.free k.4 (laws.need m c.trace at (event.Write (cell_of w at) a) r.kept (indexed_by p (shape p start x) ix k.0) needed (a, refl))
      (λ inside t.
      let told = laws.effect.write m c.trace at a refl (indexed_by p (shape p start x) ix k.0) in
      let room = subst (λ (z : ℕ). place p start (cell_of w at) < z) (sym (r.kept.sizes x)) (k.3.room (value w [] (first_index p ix)) (value w [] (second_index p ix)) inside) in
      let after = state_put p start m (shadow c.trace) (shadow (c.trace ++ (event.Write (cell_of w at) a ∷ []))) (part.effect at) formed told.numbers told.tables x (first_index p ix) (second_index p ix) (term_of p e.kind) (indexed_array (shape p start x) ix k.0) inside room in
      subst (λ (z : Valuation). HoldsIf z (Path t fs)) (sym after)
      (from_changes w n (element_changes p part n x ix (term_of p e.kind)) (Path t fs) ((tt, i.closed, j.closed, (term_plain p e.kind).closed), closed_effect (part.effect at) formed) (h t)))

  step_put : (st : Stmt) (n : NodeId) (x : NameBytes) (ix : Index) (e : Expr) (hs : List Formula) (ns : List NameBytes) (fs : List Frame) (c : Config) → Rest hs ns fs c → RankedStmt p start ns (Put x ix e) →
      ((t : Target) → HoldsIf (here c) (before p part t n (Put x ix e) (Path t fs))) → Invariant (step_statement p start st (Put x ix e) c)
  step_put st n x ix e hs ns fs c r k h =
      let m = c.memory in
      let w = state p start m (shadow c.trace) in
      let at = element_write p n x ix in
      let changes = element_changes p part n x ix (term_of p e.kind) in
      let j = λ (t : Target). from_conjoined w (put_goal p part t n x ix e) (before_changes n changes (Path t fs)) (h t) in
      let needs = sites_hold part.need w (at ∷ (index_sites p ix ++ expr_sites p e.node.id e.kind)) (λ t. (j t).0) in
      let reads = needs-append part.need w (index_sites p ix) (expr_sites p e.node.id e.kind) needs.1 in
      let vi : ℤ × ℤ = (value w [] (first_index p ix), value w [] (second_index p ix)) in
      let v = pair_gives shadow Bad (shadow c.trace) (indexes_of p start m ix) (value_of p start m e.kind) (λ a b. (a, b)) vi (value w [] (term_of p e.kind))
      (index_gives p start shadow Bad part.need laws.need m (shadow c.trace) r.kept ix k.1 reads.0) (expr_gives p start shadow Bad part.need laws.need m (shadow c.trace) r.kept e.node.id e.kind k.2 reads.1) in
      reading (both (indexes_of p start m ix) (value_of p start m e.kind)) (λ a. (vi, value w [] (term_of p e.kind)) ≡ a) (λ a. written p start (cell x a.0.0 a.0.1) a.1) c r.clean v.0 v.1
      (λ trace ok same a ea.
      let done = put_end n x ix e hs ns fs (record c { trace = trace }) (later hs ns fs c trace r ok same) k
      (subst (λ (s : Shadow). HoldsIf (state p start m s) (part.need at)) (sym same) needs.0)
      (λ t. subst (λ (s : Shadow). HoldsIf (state p start m s) (before_changes n changes (Path t fs))) (sym same) (j t).1) in
      subst (λ (z : (ℤ × ℤ) × ℤ). Invariant (written p start (cell x z.0.0 z.0.1) z.1 (record c { trace = trace })))
      (ap (λ (s : Shadow). ((value (state p start m s) [] (first_index p ix), value (state p start m s) [] (second_index p ix)), value (state p start m s) [] (term_of p e.kind))) same ∙ ea) done)

  -- a `use`
  step_hand : (st : Stmt) (n : NodeId) (x role : NameBytes) (hs : List Formula) (ns : List NameBytes) (fs : List Frame) (c : Config) → Rest hs ns fs c →
      ((t : Target) → HoldsIf (here c) (before p part t n (Hand x role) (Path t fs))) → Invariant (step_statement p start st (Hand x role) c)
  step_hand st n x role hs ns fs c r h =
      let m = c.memory in
      let w = state p start m (shadow c.trace) in
      let at = role_use p n x role in
      let e = event.Hand x role (contents p start m x) in
      let same = laws.effect.hand c.trace x role (contents p start m x) in
      let j = λ (t : Target). from_conjoined w (site_goal part.need t at) (Path t fs) (h t) in
      let ok = clean_then Bad c.trace e r.clean (laws.need m c.trace at e r.kept (zeros (shape p start x)) (site_holds part.need w at (λ t. (j t).0)) refl) in
      going hs ns fs _ (later hs ns fs c (c.trace ++ (e ∷ [])) r ok same) (λ t. subst (λ (s : Shadow). HoldsIf (state p start m s) (Path t fs)) (sym same) (j t).1)

  hyps_hold : (hs : List Formula) (ns : List NameBytes) (fs : List Frame) (c : Config) → Rest hs ns fs c → AllHold (here c) hs
  hyps_hold hs ns fs c r = always p start part base (here c) hs fs r.facts (given c.memory (shadow c.trace) r.kept)

  -- a block in front of the rest
  entering : {k : _} (row : Row_of-Stmt k) (hs : List Formula) (ns : List NameBytes) (fs : List Frame) (c : Config) → Rest hs ns fs c → RankedBlock p start ns row → ((t : Target) → ValidBlock p part t hs row (Path t fs)) →
      ((t : Target) → HoldsIf (here c) (before_block p part t row (Path t fs))) → Invariant (go_to (map Do (block row)) c)
  entering row hs ns fs c r k v h =
      going hs ns (enter row fs) (go_to (map Do (block row)) c)
      (record {
        live = r.live;
        tasks = tasks_enter row fs ∙ ap (λ ts. map Do (block row) ++ ts) r.tasks;
        clean = r.clean;
        kept = r.kept;
        plain = plain_enter row fs r.plain;
        facts = facts_enter p part base hs _ row fs r.facts;
        ranked = ranked_enter p start ns row fs k r.ranked;
        valid = λ t. valid_enter p part hs t row fs (v t) (r.valid t);
      })
      (λ t. subst (λ (Q : Option Formula). HoldsIf (here c) Q) (sym (path_enter p part t row fs)) (h t))

  -- an `if`
  step_if : {a b : _} (n : NodeId) (test : Cond) (y : Row_of-Stmt a) (z : Row_of-Stmt b) (hs : List Formula) (ns : List NameBytes) (fs : List Frame) (c : Config) → Rest hs ns fs c →
      RankedCond p start test.kind → RankedBlock p start ns y → RankedBlock p start ns z →
      ((t : Target) → ValidBlock p part t hs y (Path t fs)) → ((t : Target) → ValidBlock p part t hs z (Path t fs)) →
      ((t : Target) → HoldsIf (here c) (conjoined (cond_goal part.need t p test.kind)
      (conjoined (under label.Test n (formula_of p test.kind) (before_block p part t y (Path t fs))) (under label.Denied n (Negation (formula_of p test.kind)) (before_block p part t z (Path t fs)))))) →
      Invariant (with_reading (truth_of p start c.memory test.kind) (λ b. go_to (map Do (if b then block y else block z))) c)
  unfolding hidden formula_shape formula_child
  step_if n test y z hs ns fs c r kc ky kz vy vz h =
      let m = c.memory in
      let w = state p start m (shadow c.trace) in
      let F = formula_of p test.kind in
      let yes_ = λ (t : Target). under label.Test n F (before_block p part t y (Path t fs)) in
      let no_ = λ (t : Target). under label.Denied n (Negation F) (before_block p part t z (Path t fs)) in
      let j = λ (t : Target). from_conjoined w (cond_goal part.need t p test.kind) (conjoined (yes_ t) (no_ t)) (h t) in
      let k = λ (t : Target). from_conjoined w (yes_ t) (no_ t) (j t).1 in
      let told = cond_tells p start shadow Bad part.need laws.need m (shadow c.trace) r.kept test.kind kc (cond_holds part.need w p test.kind (λ t. (j t).0)) in
      reading (truth_of p start m test.kind) (λ b. Says b (Holds w F)) (λ b. go_to (map Do (if b then block y else block z))) c r.clean told.0 told.1
      (λ trace ok same. elim [
        | true ↦ λ f. entering y hs ns fs (record c { trace = trace }) (later hs ns fs c trace r ok same) ky vy
            (λ t. subst (λ (s : Shadow). HoldsIf (state p start m s) (before_block p part t y (Path t fs))) (sym same) (from_under w label.Test n F (before_block p part t y (Path t fs)) (k t).0 f))
        | false ↦ λ f. entering z hs ns fs (record c { trace = trace }) (later hs ns fs c trace r ok same) kz vz
            (λ t. subst (λ (s : Shadow). HoldsIf (state p start m s) (before_block p part t z (Path t fs))) (sym same) (from_under w label.Denied n (Negation F) (before_block p part t z (Path t fs)) (k t).1 f))
      ])

  -- a `while`: its body, and then its test again
  turning : (st : Stmt) {a : _} (body : Row_of-Stmt a) (hs : List Formula) (ns : List NameBytes) (fs : List Frame) (c : Config) → Rest hs ns fs c → IsWhile st.kind → RankedStmt p start ns st.kind → RankedBlock p start ns body →
      ((t : Target) → Valid p part t hs st.node.id st.kind (Path t fs)) → ((t : Target) → ValidBlock p part t hs body (while_keep p part t st.node.id)) →
      ((t : Target) → HoldsIf (here c) (before_block p part t body (while_keep p part t st.node.id))) →
      Invariant (go_to (map Do (block body) ++ Do st ∷ []) c)
  turning st body hs ns fs c r i k kb v vb h =
      let c2 = record c { tasks = Do st ∷ c.tasks } in
      let r2 : Rest hs ns (WhileAgain st ∷ fs) c2 = record { live = r.live; tasks = ap (λ ts. Do st ∷ ts) r.tasks; clean = r.clean; kept = r.kept; plain = r.plain; facts = r.facts; ranked = (i, k, r.ranked); valid = λ t. (v t, r.valid t) } in
      let done = entering body hs ns (WhileAgain st ∷ fs) c2 r2 kb vb h in
      subst (λ (ts : List Task). Invariant (record c { tasks = ts })) (sym (append_assoc (map Do (block body)) (Do st ∷ []) c.tasks)) done

  step_while : {a : _} (st : Stmt) (test : Cond) (body : Row_of-Stmt a) (hs : List Formula) (ns : List NameBytes) (fs : List Frame) (c : Config) → Rest hs ns fs c → IsWhile st.kind → RankedStmt p start ns st.kind → RankedCond p start test.kind → RankedBlock p start ns body →
      ((t : Target) → Valid p part t hs st.node.id st.kind (Path t fs)) →
      ((t : Target) → Follows (hs ++ invariants p part st.node.id) (while_head p part t st.node.id test body)) →
      ((t : Target) → Follows (hs ++ (at_while_exit p part st.node.id test ∷ invariants p part st.node.id)) (Path t fs)) →
      ((t : Target) → ValidBlock p part t hs body (while_keep p part t st.node.id)) →
      AllHold (here c) (invariants p part st.node.id) →
      Invariant (with_reading (truth_of p start c.memory test.kind) (λ b. go_to (if b then map Do (block body) ++ Do st ∷ [] else [])) c)
  unfolding hidden formula_shape formula_child
  step_while st test body hs ns fs c r i k kc kb v head exit vb facts =
      let m = c.memory in
      let w = state p start m (shadow c.trace) in
      let n = st.node.id in
      let F = formula_of p test.kind in
      let hold = hyps_hold hs ns fs c r in
      let B = λ (t : Target). before_block p part t body (while_keep p part t n) in
      let j = λ (t : Target). from_conjoined w (cond_goal part.need t p test.kind) (under label.Test n F (B t)) (head t w (hypotheses-append w hs (invariants p part n) hold facts)) in
      let told = cond_tells p start shadow Bad part.need laws.need m (shadow c.trace) r.kept test.kind kc (cond_holds part.need w p test.kind (λ t. (j t).0)) in
      reading (truth_of p start m test.kind) (λ b. Says b (Holds w F)) (λ b. go_to (if b then map Do (block body) ++ Do st ∷ [] else [])) c r.clean told.0 told.1
      (λ trace ok same. elim [
        | true ↦ λ f. turning st body hs ns fs (record c { trace = trace }) (later hs ns fs c trace r ok same) i k kb v vb
            (λ t. subst (λ (s : Shadow). HoldsIf (state p start m s) (B t)) (sym same) (from_under w label.Test n F (B t) (j t).1 f))
        | false ↦ λ f. going hs ns fs (record c { trace = trace }) (later hs ns fs c trace r ok same)
            (λ t. subst (λ (s : Shadow). HoldsIf (state p start m s) (Path t fs)) (sym same) (exit t w (hypotheses-append w hs (at_while_exit p part n test ∷ invariants p part n) hold (f, facts))))
      ])

  -- the invariant of a loop, once it was entered or kept
  from_entry : (w : Valuation) (n : NodeId) → ((t : Target) → HoldsIf w (while_entry p part t n)) → AllHold w (invariants p part n)
  unfolding hidden formula_shape formula_child
  from_entry w n h = from_joined w label.Invariant n (part.invariant n) (goal_here w n.0 (labelled label.Entry n (joined (part.invariant n))) (h (target.Entry n)))

  from_keep : (w : Valuation) (n : NodeId) → ((t : Target) → HoldsIf w (while_keep p part t n)) → AllHold w (invariants p part n)
  unfolding hidden formula_shape formula_child
  from_keep w n h = from_joined w label.Invariant n (part.invariant n) (goal_here w n.0 (labelled label.Keep n (joined (part.invariant n))) (h (target.Keep n)))

  -- the end of a statement, past its barrier if it has one
  past : (hs : List Formula) (w : Valuation) (n : NodeId) (facts : List Formula) (Q : Target → Option Formula) → AllHold w hs → ((t : Target) → HoldsIf w (past_barrier t n facts (Q t))) → ((t : Target) → FollowsBehind hs n facts (Q t)) → (t : Target) → HoldsIf w (Q t)
  unfolding hidden formula_shape formula_child
  past hs w n [] Q a h v t = h t
  past hs w n (f ∷ fs) Q a h v t =
      v t w (hypotheses-append w hs (assumed n (f ∷ fs)) a (from_joined w label.Assumed n (f ∷ fs) (goal_here w n.0 (labelled label.Barrier n (joined (f ∷ fs))) (h (target.Barrier n)))))

  -- a `for`: its variable is written, and its test comes next
  arriving : (l : Loop) (v : ℤ) (e : Term) (hs : List Formula) (ns : List NameBytes) (fs : List Frame) (c : Config) → Rest hs ns fs c → RankedLoop p start ns l → ((t : Target) → ValidLoop p part hs t l (Path t fs)) →
      IsPlainTerm e → Holds (here c) (formula_after (scalar_changes p part l.node l.name e) (joined (part.invariant l.node))) →
      value (here c) [] (term_of p l.hi.kind) ≡ v →
      value (here c) [] (term_of p l.lo.kind) ≤ℤ value (here c) [] e →
      ((value (here c) [] e ≡ value (here c) [] (term_of p l.lo.kind)) ⊎ (value (here c) [] e ≤ℤ (v +ℤ pos 1))) →
      Invariant (go_to (Compare l.name v (block l.body) ∷ []) (written p start (scalar l.name) (value (here c) [] e) c))
  unfolding hidden term_shape term_child array_shape array_child formula_shape formula_child
  arriving l v e hs ns fs c r k valid plain con high low alt = go (is_inside p start (scalar l.name)) refl
    where
      ok : IsClean Bad [] (c.trace ++ (event.Write (scalar l.name) (value (state p start c.memory (shadow c.trace)) [] e) ∷ []))
      ok = clean_then Bad c.trace (event.Write (scalar l.name) (value (state p start c.memory (shadow c.trace)) [] e)) r.clean (laws.for_write c.trace l.name (value (state p start c.memory (shadow c.trace)) [] e) k.0)

      go : (b : Bool) → is_inside p start (scalar l.name) ≡ b → Invariant (go_to (Compare l.name v (block l.body) ∷ []) (if b then record { tasks = c.tasks; memory = write p start c.memory (scalar l.name) (value (state p start c.memory (shadow c.trace)) [] e); trace = c.trace ++ (event.Write (scalar l.name) (value (state p start c.memory (shadow c.trace)) [] e) ∷ []); has_halted = c.has_halted }
          else record { tasks = c.tasks; memory = c.memory; trace = c.trace ++ (event.Write (scalar l.name) (value (state p start c.memory (shadow c.trace)) [] e) ∷ []); has_halted = true }))
      go false q = inl (refl, ok)
      go true q =
          let w0 = state p start c.memory (shadow c.trace) in
          let b = value w0 [] e in
          let s2 = shadow (c.trace ++ (event.Write (scalar l.name) b ∷ [])) in
          let m2 = write p start c.memory (scalar l.name) b in
          let w2 = state p start m2 s2 in
          let at = scalar_write l.node l.name in
          let formed = laws.form.changes at (record { first = zero_plain; second = zero_plain }) in
          let told = laws.effect.write c.memory c.trace at b refl (zeros (shape p start l.name)) in
          let room = subst (λ (z : ℕ). place p start (cell l.name (pos 0) (pos 0)) < z) (sym (r.kept.sizes l.name)) (k.3.room (pos 0) (pos 0) q) in
          let after = state_set p start c.memory (shadow c.trace) s2 (part.effect at) formed told.numbers told.tables l.name e k.0 room in
          let changes : List Change = scalar_changes p part l.node l.name e in
          let J = joined (part.invariant l.node) in
          let con2 : Holds w2 J = subst (λ (z : Valuation). HoldsIf z (Some J)) (sym after) (from_changes w0 l.node changes (Some J) (plain.closed, closed_effect (part.effect at) formed) con) in
          let x_is : w2.number (Value l.name) ≡ b = is_scalar (shape p start l.name) _ k.0 ∙ number_same p start c.memory (scalar l.name) b room in
          let reads = not_in-append l.name (read_names l.lo.kind) (read_names l.hi.kind) k.5 in
          let high2 = term_stable p start c.memory (scalar l.name) b s2 (shadow c.trace) l.hi.kind reads.1 in
          let low2 = term_stable p start c.memory (scalar l.name) b s2 (shadow c.trace) l.lo.kind reads.0 in
          let low3 : value w2 [] (term_of p l.lo.kind) ≤ℤ w2.number (Value l.name) = subst (λ (T : Type 0). T) (λ d. sym low2 d ≤ℤ sym x_is d) low in
          let alt2 : NearEnd p part w2 l v =
          elim alt [ inl y ↦ inl (x_is ∙ y ∙ sym low2) | inr y ↦ inr (subst (λ (z : ℤ). z ≤ℤ (v +ℤ pos 1)) (sym x_is) y) ] in
          inr (
            r.live,
            record {
              frames = ForTest l v ∷ fs;
              hypotheses = hs;
              names = ns;
              tasks = ap (λ ts. Compare l.name v (block l.body) ∷ ts) r.tasks;
              clean = ok;
              kept = kept_write p start c.memory (scalar l.name) b k.3.free r.kept;
              plain = r.plain;
              ranked = (k, r.ranked);
              valid = λ t. (valid t, r.valid t);
              facts = (
                (high2 ∙ high, low3, laws.known.written m2 c.trace l.name b k.0),
                alt2,
                facts_kept p start part base c.memory (scalar l.name) b (shadow c.trace) s2 (λ x. laws.known.later c.memory m2 c.trace (event.Write (scalar l.name) b) x) hs ns fs r.plain r.ranked k.4 r.facts,
              );
              paths = λ t. goal_anywhere w2 _ (labelled label.Entry l.node J) con2;
            },
          )

  -- it is entered
  step_for : (l : Loop) (hs : List Formula) (ns : List NameBytes) (fs : List Frame) (c : Config) → Rest hs ns fs c → RankedLoop p start ns l → ((t : Target) → ValidLoop p part hs t l (Path t fs)) →
      ((t : Target) → HoldsIf (here c) (conjoined (ends_goal p part t l.lo l.hi) (for_entry p part t l.node l.name l.lo))) →
      Invariant (with_reading (both (value_of p start c.memory l.lo.kind) (value_of p start c.memory l.hi.kind)) (λ a d. go_to (Compare l.name a.1 (block l.body) ∷ []) (written p start (scalar l.name) a.0 d)) c)
  unfolding hidden formula_shape formula_child
  step_for l hs ns fs c r k valid h =
      let m = c.memory in
      let w = state p start m (shadow c.trace) in
      let j = λ (t : Target). from_conjoined w (ends_goal p part t l.lo l.hi) (for_entry p part t l.node l.name l.lo) (h t) in
      let lows = expr_sites p l.lo.node.id l.lo.kind in
      let highs = expr_sites p l.hi.node.id l.hi.kind in
      let needs = needs-append part.need w lows highs (sites_hold part.need w (lows ++ highs) (λ t. (j t).0)) in
      let told = pair_gives shadow Bad (shadow c.trace) (value_of p start m l.lo.kind) (value_of p start m l.hi.kind) (λ a b. (a, b)) (value w [] (term_of p l.lo.kind)) (value w [] (term_of p l.hi.kind))
      (expr_gives p start shadow Bad part.need laws.need m (shadow c.trace) r.kept l.lo.node.id l.lo.kind k.1 needs.0) (expr_gives p start shadow Bad part.need laws.need m (shadow c.trace) r.kept l.hi.node.id l.hi.kind k.2 needs.1) in
      let F = formula_after (scalar_changes p part l.node l.name (term_of p l.lo.kind)) (joined (part.invariant l.node)) in
      let con : Holds w F = goal_here w l.node.0 (labelled label.Entry l.node F) (j (target.Entry l.node)).1 in
      reading (both (value_of p start m l.lo.kind) (value_of p start m l.hi.kind)) (λ a. (value w [] (term_of p l.lo.kind), value w [] (term_of p l.hi.kind)) ≡ a)
      (λ a d. go_to (Compare l.name a.1 (block l.body) ∷ []) (written p start (scalar l.name) a.0 d)) c r.clean told.0 told.1
      (λ trace ok same a ea.
      let done = arriving l (value (state p start m (shadow trace)) [] (term_of p l.hi.kind)) (term_of p l.lo.kind) hs ns fs (record c { trace = trace }) (later hs ns fs c trace r ok same) k valid (term_plain p l.lo.kind)
      (subst (λ (s : Shadow). Holds (state p start m s) F) (sym same) con) refl (le_same _) (inl refl) in
      subst (λ (z : ℤ × ℤ). Invariant (go_to (Compare l.name z.1 (block l.body) ∷ []) (written p start (scalar l.name) z.0 (record c { trace = trace }))))
      (ap (λ (s : Shadow). (value (state p start m s) [] (term_of p l.lo.kind), value (state p start m s) [] (term_of p l.hi.kind))) same ∙ ea) done)

  -- a turn of it ends
  step_turn : (l : Loop) (v : ℤ) (hs : List Formula) (ns : List NameBytes) (fs : List Frame) (c : Config) → Rest hs ns fs c → RankedLoop p start ns l → ((t : Target) → ValidLoop p part hs t l (Path t fs)) →
      ForKeeps p part (here c) l v → (here c).number (Value l.name) ≤ℤ v →
      ((t : Target) → HoldsIf (here c) (for_keep p part t l.node l.name)) →
      Invariant (go_to (Compare l.name v (block l.body) ∷ []) (written p start (scalar l.name) (number_at p start c.memory (scalar l.name) +ℤ pos 1) c))
  unfolding hidden term_shape term_child formula_shape formula_child
  step_turn l v hs ns fs c r k valid keeps small h =
      let w = state p start c.memory (shadow c.trace) in
      let F = formula_after (scalar_changes p part l.node l.name (one_more (variable l.name))) (joined (part.invariant l.node)) in
      let con : Holds w F = goal_here w l.node.0 (labelled label.Keep l.node F) (h (target.Keep l.node)) in
      let done = arriving l v (one_more (variable l.name)) hs ns fs c r k valid (record { closed = (tt, tt); no_fresh = (tt, tt) }) con keeps.0 (le_more _ _ keeps.1) (inr (more_le _ _ small)) in
      subst (λ (z : ℤ). Invariant (go_to (Compare l.name v (block l.body) ∷ []) (written p start (scalar l.name) (z +ℤ pos 1) c))) (is_scalar (shape p start l.name) _ k.0) done

  -- its test
  step_test : (l : Loop) (v : ℤ) (hs : List Formula) (ns : List NameBytes) (fs : List Frame) (c : Config) → Rest hs ns fs c → RankedLoop p start ns l → ((t : Target) → ValidLoop p part hs t l (Path t fs)) →
      ForKeeps p part (here c) l v → NearEnd p part (here c) l v →
      AllHold (here c) (invariants p part l.node) →
      (b : Bool) → Says b ((here c).number (Value l.name) ≤ℤ v) →
      Invariant (if b then go_to (map Do (block l.body) ++ Advance l.name v (block l.body) ∷ []) c else c)
  unfolding hidden term_shape term_child formula_shape formula_child
  step_test l v hs ns fs c r k valid keeps near facts true small =
      let w = state p start c.memory (shadow c.trace) in
      let hs2 = hs ++ in_body p part l.node l.name l.lo l.hi ∷ [] in
      let ns2 : List NameBytes = l.name ∷ (ends_names l.lo l.hi ++ ns) in
      let c2 = record c { tasks = Advance l.name v (block l.body) ∷ c.tasks } in
      let r2 : Rest hs2 ns2 (ForTurn l v hs ns ∷ fs) c2 = record {
        live = r.live;
        tasks = ap (λ ts. Advance l.name v (block l.body) ∷ ts) r.tasks;
        clean = r.clean;
        kept = r.kept;
        plain = r.plain;
        ranked = (refl, k, r.ranked);
        valid = λ t. (refl, valid t, r.valid t);
        facts = (refl, keeps, small, r.facts);
      } in
      let B = λ (t : Target). before_block p part t l.body (for_keep p part t l.node l.name) in
      let at_hi : w.number (Value l.name) ≤ℤ value w [] (term_of p l.hi.kind) = subst (λ (z : ℤ). w.number (Value l.name) ≤ℤ z) (sym keeps.0) small in
      let done = entering l.body hs2 ns2 (ForTurn l v hs ns ∷ fs) c2 r2 k.6 (λ t. (valid t).2)
      (λ t. from_under w label.Test l.node (Le (variable l.name) (term_of p l.hi.kind)) (B t)
      ((valid t).0 w (hypotheses-append w hs (at_for_test p part l.node l.name l.lo ∷ invariants p part l.node) (hyps_hold hs ns fs c r) (and_holds w _ (part.known l.name) keeps.1 keeps.2, facts))) at_hi) in
      subst (λ (ts : List Task). Invariant (record c { tasks = ts })) (sym (append_assoc (map Do (block l.body)) (Advance l.name v (block l.body) ∷ []) c.tasks)) done
  step_test l v hs ns fs c r k valid keeps near facts false large =
      let w = state p start c.memory (shadow c.trace) in
      let x = w.number (Value l.name) in
      let past_hi : (value w [] (term_of p l.hi.kind) +ℤ pos 1) ≤ℤ x = subst (λ (z : ℤ). (z +ℤ pos 1) ≤ℤ x) (sym keeps.0) (above _ _ large) in
      let either : ¬ (x ≡ value w [] (term_of p l.lo.kind)) → ¬ (x ≡ value w [] (term_of p l.hi.kind) +ℤ pos 1) → ⊥ = λ np nq.
      elim near [ inl y ↦ np y | inr y ↦ nq (just_above _ _ large y ∙ ap (λ z. z +ℤ pos 1) (sym keeps.0)) ] in
      going hs ns fs c r (λ t. (valid t).1 w (hypotheses-append w hs (at_for_exit p part l.node l.name l.lo l.hi ∷ invariants p part l.node) (hyps_hold hs ns fs c r) (and_holds w _ (part.known l.name) (past_hi, either) keeps.2, facts)))

  testing : (l : Loop) (v : ℤ) (hs : List Formula) (ns : List NameBytes) (fs : List Frame) (c : Config) → Rest hs ns fs c → RankedLoop p start ns l → ((t : Target) → ValidLoop p part hs t l (Path t fs)) →
      ForKeeps p part (here c) l v → NearEnd p part (here c) l v → AllHold (here c) (invariants p part l.node) →
      Invariant (if int_le (number_at p start c.memory (scalar l.name)) v then go_to (map Do (block l.body) ++ Advance l.name v (block l.body) ∷ []) c else c)
  testing l v hs ns fs c r k valid keeps near facts =
      let x = number_at p start c.memory (scalar l.name) in
      step_test l v hs ns fs c r k valid keeps near facts (int_le x v)
      (subst (λ (z : ℤ). Says (int_le x v) (z ≤ℤ v)) (sym (is_scalar (shape p start l.name) _ k.0)) (le_says x v (int_le x v) refl))

  -- a statement for the first time
  step_fresh : (n : Node) (k : StmtKind) (hs : List Formula) (ns : List NameBytes) (fs : List Frame) (c : Config) → Rest hs ns fs c → RankedStmt p start ns k → ((t : Target) → Valid p part t hs n.id k (Path t fs)) →
      ((t : Target) → HoldsIf (here c) (before p part t n.id k (Path t fs))) → Invariant (step_statement p start (record { node = n; kind = k }) k c)
  step_fresh n (Set x e) hs ns fs c r k v h = step_set (record { node = n; kind = Set x e }) n.id x e hs ns fs c r k h
  step_fresh n (Put x at e) hs ns fs c r k v h = step_put (record { node = n; kind = Put x at e }) n.id x at e hs ns fs c r k h
  step_fresh n (If' test a y b z) hs ns fs c r k v h = step_if n.id test y z hs ns fs c r k.0 k.1 k.2 (λ t. (v t).0) (λ t. (v t).1) h
  step_fresh n (While' test a body) hs ns fs c r k v h =
      step_while (record { node = n; kind = While' test a body }) test body hs ns fs c r tt k k.0 k.1 v (λ t. (v t).0) (λ t. (v t).1) (λ t. (v t).2) (from_entry (here c) n.id h)
  step_fresh n (For' x lo hi a body) hs ns fs c r k v h = step_for (record { node = n.id; name = x; lo = lo; hi = hi; count = _; body = body }) hs ns fs c r k v h
  step_fresh n (Hand x role) hs ns fs c r k v h = step_hand (record { node = n; kind = Hand x role }) n.id x role hs ns fs c r h
  step_fresh n Skip hs ns fs c r k v h = going hs ns fs c r h

  -- a `while` again
  step_again : (n : Node) (k : StmtKind) (hs : List Formula) (ns : List NameBytes) (fs : List Frame) (c : Config) → Rest hs ns fs c → IsWhile k → RankedStmt p start ns k → ((t : Target) → Valid p part t hs n.id k (Path t fs)) →
      ((t : Target) → HoldsIf (here c) (while_keep p part t n.id)) → Invariant (step_statement p start (record { node = n; kind = k }) k c)
  step_again n (While' test a body) hs ns fs c r i k v h =
      step_while (record { node = n; kind = While' test a body }) test body hs ns fs c r tt k k.0 k.1 v (λ t. (v t).0) (λ t. (v t).1) (λ t. (v t).2) (from_keep (here c) n.id h)
  step_again n (Set x e) hs ns fs c r i k v h = absurd i
  step_again n (Put x at e) hs ns fs c r i k v h = absurd i
  step_again n (If' test a y b z) hs ns fs c r i k v h = absurd i
  step_again n (For' x lo hi a body) hs ns fs c r i k v h = absurd i
  step_again n (Hand x role) hs ns fs c r i k v h = absurd i
  step_again n Skip hs ns fs c r i k v h = absurd i

  -- the first task, past the ends of statements in front of it
  step_frames : (fs : List Frame) (hs : List Formula) (ns : List NameBytes) (c : Config) → c.has_halted ≡ false → tasks_of fs ≡ c.tasks → IsClean Bad [] c.trace → Kept p start c.memory → NoTestBehind fs → RankedFrames p start ns fs →
      ((t : Target) → RestValid p part hs t fs) → LoopFacts p part base hs (here c) fs →
      ((t : Target) → HoldsIf (here c) (Path t fs)) → Invariant (step_first p start (tasks_of fs) c)
  step_frames [] hs ns c live tasks clean kept plain ranked valid facts h =
      going hs ns [] c (record { live = live; tasks = tasks; clean = clean; kept = kept; plain = tt; ranked = ranked; valid = valid; facts = facts }) h
  step_frames (Statement st ∷ fs) hs ns c live tasks clean kept plain ranked valid facts h =
      step_fresh st.node st.kind hs ns fs (record c { tasks = tasks_of fs })
      (record { live = live; tasks = refl; clean = clean; kept = kept; plain = plain; ranked = ranked.1; valid = λ t. (valid t).1; facts = facts }) ranked.0 (λ t. (valid t).0) h
  step_frames (WhileAgain st ∷ fs) hs ns c live tasks clean kept plain ranked valid facts h =
      step_again st.node st.kind hs ns fs (record c { tasks = tasks_of fs })
      (record { live = live; tasks = refl; clean = clean; kept = kept; plain = plain; ranked = ranked.2; valid = λ t. (valid t).1; facts = facts }) ranked.0 ranked.1 (λ t. (valid t).0) h
  step_frames (EndOf n ∷ fs) hs ns c live tasks clean kept plain ranked valid facts h =
      let w = state p start c.memory (shadow c.trace) in
      step_frames fs hs ns c live tasks clean kept (behind_plain fs plain) ranked (λ t. (valid t).1) facts
      (past hs w n (part.behind n) (λ t. Path t fs) (always p start part base w hs fs facts (given c.memory (shadow c.trace) kept)) h (λ t. (valid t).0))
  step_frames (ForTest l v ∷ fs) hs ns c live tasks clean kept plain ranked valid facts h =
      testing l v hs ns fs (record c { tasks = tasks_of fs })
      (record { live = live; tasks = refl; clean = clean; kept = kept; plain = plain; ranked = ranked.1; valid = λ t. (valid t).1; facts = facts.2 }) ranked.0 (λ t. (valid t).0) facts.0 facts.1
      (from_entry (here c) l.node h)
  step_frames (ForTurn l v gs ms ∷ fs) hs ns c live tasks clean kept plain ranked valid facts h =
      step_turn l v gs ms fs (record c { tasks = tasks_of fs })
      (record { live = live; tasks = refl; clean = clean; kept = kept; plain = plain; ranked = ranked.2; valid = λ t. (valid t).2; facts = facts.3 }) ranked.1 (λ t. (valid t).1) facts.1 facts.2 h

  -- each step keeps the invariant
  pub step_keeps : (c : Config) → RunInvariant p start part shadow Bad base c → RunInvariant p start part shadow Bad base (step p start c)
  step_keeps c (inl h) = subst (λ b. Invariant (if b then c else step_first p start c.tasks c)) (sym h.0) (inl h)
  step_keeps c (inr h) =
      let g = h.1 in
      let one : Invariant (step_first p start c.tasks c) = subst (λ (ts : List Task). Invariant (step_first p start ts c)) g.tasks
      (step_frames g.frames g.hypotheses g.names c h.0 g.tasks g.clean g.kept g.plain g.ranked g.valid g.facts g.paths) in
      subst (λ b. Invariant (if b then c else step_first p start c.tasks c)) (sym h.0) one

  module _ (ranked : RankedList p start [] p.body) (valid : (t : Target) → Follows base (before_list p part t p.body None) × ValidList p part t base p.body None) where
    -- it holds at the start
    at_start : RunInvariant p start part shadow Bad base (begin p start)
    at_start =
        let k : Kept p start start.cells = record { sizes = λ x. refl; inputs = λ x e. refl } in
        inr (
          refl,
          record {
            frames = enter_list p.body;
            hypotheses = base;
            names = [];
            tasks = tasks_list p.body;
            clean = tt;
            kept = k;
            plain = behind_plain (enter_list p.body) (plain_list p.body);
            ranked = ranked_list p start p.body ranked;
            valid = λ t. valid_list p part base t p.body (valid t).1;
            facts = facts_list p part base (state p start start.cells (shadow [])) p.body;
            paths = λ t. subst (λ (Q : Option Formula). HoldsIf (state p start start.cells (shadow [])) Q) (sym (path_list p part t p.body)) ((valid t).0 (state p start start.cells (shadow [])) (given start.cells (shadow []) k));
          },
        )

    throughout : (n : ℕ) → RunInvariant p start part shadow Bad base (run p start n)
    throughout zero = at_start
    throughout (suc n) = step_keeps (run p start n) (throughout n)

    clean_of : (c : Config) → RunInvariant p start part shadow Bad base c → IsClean Bad [] c.trace
    clean_of c (inl h) = h.1
    clean_of c (inr h) = h.1.clean

    pub never_bad : (n : ℕ) → ¬ HasBad Bad (run p start n).trace
    never_bad n = clean_never Bad (run p start n).trace (clean_of (run p start n) (throughout n))
