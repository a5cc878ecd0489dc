-- What each step of a run keeps: six facts of the state, which is the memory with the shadow of the trace. The fields of
-- `GoesOn` keep them, and each says which it keeps.
use Rattle.std.specs.Prelude.{◌≡◌, ◌⊎◌, true, false, List, [], ◌∷◌, ◌++◌, Option, None, ℤ, pos, ◌+ℤ◌, ◌≤ℤ◌}
use Rattle.ac_tree.specs.declared.path.Target.{Target}
use Rattle.ac_tree.specs.declared.program.Program.{Program}
use Rattle.ac_run.specs.declared.event.Event.{Event}
use Rattle.ac_run.specs.declared.start.Start.{Start}
use Rattle.ac_run.specs.Declarations.{NameBytes}
use Rattle.ac_run.specs.Run.{Config}
use Rattle.ac_logic.specs.declared.formula.Formula.{Formula}
use Rattle.ac_logic.specs.declared.formula.Sym.TheVariants.{Value}
use Rattle.ac_logic.specs.Meaning.{Valuation, value}
use Rattle.ac_policy.specs.Laws.{HoldsIf}
use Rattle.ac_policy.specs.State.{Shadow, Kept, state}
use Rattle.ac_policy.specs.Terms.{term_of}
use Rattle.ac_conditions.specs.Hypotheses.{in_body, at_for_test, at_for_exit, invariants}
use Rattle.ac_conditions.specs.Part.{Part}
use Rattle.ac_conditions.specs.Preconditions.{past_barrier, before, for_head, for_keep, while_entry, while_keep}
use Rattle.ac_soundness.specs.Frames.{Loop, Frame, Statement, WhileAgain, EndOf, ForTest, ForTurn, tasks_of, NoTestBehind, RankedFrames}
use Rattle.ac_soundness.specs.Validity.{Follows, FollowsBehind, Valid, ValidBlock}

-- no event is bad after those before it, where these came first
abbrev pub IsClean : (List Event → Event → Type 0) → List Event → List Event → Type 0
IsClean Bad first [] = Unit {0}
IsClean Bad first (e ∷ trace) = ¬ Bad first e × IsClean Bad (first ++ e ∷ []) trace

module _ (p : Program) (part : Part) where
  -- the path formula from the present point; at the test of a `for` the invariant was just shown
  abbrev pub path_formula : Target → List Frame → Option Formula
  path_formula t [] = None
  path_formula t (Statement st ∷ rest) = before p part t st.node.id st.kind (path_formula t rest)
  path_formula t (WhileAgain st ∷ rest) = while_keep p part t st.node.id
  path_formula t (EndOf n ∷ rest) = past_barrier t n (part.behind n) (path_formula t rest)
  path_formula t (ForTest l v ∷ rest) = while_entry p part t l.node
  path_formula t (ForTurn l v hypotheses names ∷ rest) = for_keep p part t l.node l.name

  abbrev pub ValidLoop : List Formula → Target → Loop → Option Formula → Type 0
  ValidLoop hypotheses t l behind =
      Follows (hypotheses ++ (at_for_test p part l.node l.name l.lo ∷ invariants p part l.node)) (for_head p part t l.node l.name l.hi l.body)
      × Follows (hypotheses ++ (at_for_exit p part l.node l.name l.lo l.hi ∷ invariants p part l.node)) behind
      × ValidBlock p part t (hypotheses ++ in_body p part l.node l.name l.lo l.hi ∷ []) l.body (for_keep p part t l.node l.name)

  -- the conditions of the cuts that are to come are valid
  abbrev pub RestValid : List Formula → Target → List Frame → Type 0
  RestValid hypotheses t [] = Unit {0}
  RestValid hypotheses t (Statement st ∷ rest) = Valid p part t hypotheses st.node.id st.kind (path_formula t rest) × RestValid hypotheses t rest
  RestValid hypotheses t (WhileAgain st ∷ rest) = Valid p part t hypotheses st.node.id st.kind (path_formula t rest) × RestValid hypotheses t rest
  RestValid hypotheses t (EndOf n ∷ rest) = FollowsBehind hypotheses n (part.behind n) (path_formula t rest) × RestValid hypotheses t rest
  RestValid hypotheses t (ForTest l v ∷ rest) = ValidLoop hypotheses t l (path_formula t rest) × RestValid hypotheses t rest
  RestValid hypotheses t (ForTurn l v outside names ∷ rest) =
      (hypotheses ≡ outside ++ in_body p part l.node l.name l.lo l.hi ∷ []) × ValidLoop outside t l (path_formula t rest) × RestValid outside t rest

  -- what a `for` that is under way keeps: the number of its last end, its variable not below its first, and what is known of it
  abbrev pub ForKeeps : Valuation → Loop → ℤ → Type 0
  ForKeeps w l v = (value w [] (term_of p l.hi.kind) ≡ v) × (value w [] (term_of p l.lo.kind) ≤ℤ w.number (Value l.name)) × HoldsIf w (part.known l.name)

  -- at its test the variable is the first end, or at most one past the last
  abbrev pub NearEnd : Valuation → Loop → ℤ → Type 0
  NearEnd w l v = (w.number (Value l.name) ≡ value w [] (term_of p l.lo.kind)) ⊎ (w.number (Value l.name) ≤ℤ (v +ℤ pos 1))

  -- of each `for` under way; they give the hypotheses of the cuts inside, beside those that always hold
  abbrev pub LoopFacts : List Formula → List Formula → Valuation → List Frame → Type 0
  LoopFacts base hypotheses w [] = hypotheses ≡ base
  LoopFacts base hypotheses w (Statement st ∷ rest) = LoopFacts base hypotheses w rest
  LoopFacts base hypotheses w (WhileAgain st ∷ rest) = LoopFacts base hypotheses w rest
  LoopFacts base hypotheses w (EndOf n ∷ rest) = LoopFacts base hypotheses w rest
  LoopFacts base hypotheses w (ForTest l v ∷ rest) = ForKeeps w l v × NearEnd w l v × LoopFacts base hypotheses w rest
  LoopFacts base hypotheses w (ForTurn l v outside names ∷ rest) =
      (hypotheses ≡ outside ++ in_body p part l.node l.name l.lo l.hi ∷ []) × ForKeeps w l v × (w.number (Value l.name) ≤ℤ v) × LoopFacts base outside w rest

module _ (p : Program) (start : Start) (part : Part) (shadow : List Event → Shadow) (Bad : List Event → Event → Type 0) (base : List Formula) where
  -- A run that goes on. Its state has the shadow of its trace: this is the second of the six facts.
  pub record GoesOn (c : Config) : Type 0 where
    pub frames : List Frame
    pub hypotheses : List Formula
    pub names : List NameBytes
    pub tasks : tasks_of frames ≡ c.tasks
    pub plain : NoTestBehind frames
    pub ranked : RankedFrames p start names frames
    pub valid : (t : Target) → RestValid p part hypotheses t frames
    -- first: the trace has no bad event
    pub clean : IsClean Bad [] c.trace
    -- third and fifth: the ranges, and the facts of each `for` around the last cut and under way, hold
    pub facts : LoopFacts p part base hypotheses (state p start c.memory (shadow c.trace)) frames
    -- fourth: for each target the path formula from the present point holds
    pub paths : (t : Target) → HoldsIf (state p start c.memory (shadow c.trace)) (path_formula p part t frames)
    -- sixth: inputs and extents have the numbers of the start
    pub kept : Kept p start c.memory

  -- a run that halted stays as it is, so the first fact is enough
  abbrev pub RunInvariant : Config → Type 0
  RunInvariant c = ((c.has_halted ≡ true) × IsClean Bad [] c.trace) ⊎ ((c.has_halted ≡ false) × GoesOn c)
