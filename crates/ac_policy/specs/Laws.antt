-- The laws of a policy. Its meaning is: what the shadow variables are after a trace, and which event is bad after which trace.
-- Its formulas are: the need of a site, the effect of a write on the shadow variables, and what is known of a written scalar.
use Rattle.std.specs.Prelude.{◌≡◌, ◌≢◌, List, [], ◌∷◌, ◌++◌, Option, Some, None, ℤ, All}
use Rattle.ac_tree.specs.declared.program.Program.{Program}
use Rattle.ac_run.specs.declared.event.Cell.{Cell}
use Rattle.ac_run.specs.declared.event.Event.{Event}
use Rattle.ac_run.specs.declared.event.Event.TheVariants.{Read, Write, Hand}
use Rattle.ac_run.specs.declared.start.Start.{Start}
use Rattle.ac_run.specs.Declarations.{NameBytes, Shape, Vector, Matrix, shape}
use Rattle.ac_run.specs.Declarations.{Scalar as Single}
use Rattle.ac_run.specs.Memory.{Memory, scalar, contents}
use Rattle.ac_logic.specs.declared.formula.Change.{Change}
use Rattle.ac_logic.specs.declared.formula.Change.TheVariants.{Scalar, Array}
use Rattle.ac_logic.specs.declared.formula.Formula.{Formula}
use Rattle.ac_logic.specs.declared.formula.Sym.TheVariants.{Init}
use Rattle.ac_logic.specs.declared.formula.Term.{Term}
use Rattle.ac_logic.specs.Absence.{symbol_of}
use Rattle.ac_logic.specs.Meaning.{Valuation, Holds, value}
use Rattle.ac_logic.specs.Substitution.{changed}
use Rattle.ac_policy.specs.declared.site.Site.{Site}
use Rattle.ac_policy.specs.declared.site.SiteKind.{SiteKind}
use Rattle.ac_policy.specs.declared.site.SiteKind.TheVariants as kind
use Rattle.ac_policy.specs.Plain.{IsPlain, IsPlainTerm, IsPlainArray}
use Rattle.ac_policy.specs.State.{Shadow, IsScalar, Kept, cell, state}
use Rattle.ac_policy.specs.Terms.{zero_term}

-- no formula, or one that holds
abbrev pub HoldsIf : Valuation → Option Formula → Type 0
HoldsIf w None = Unit {0}
HoldsIf w (Some f) = Holds w f

abbrev pub IsPlainIf : Option Formula → Type 0
IsPlainIf None = Unit {0}
IsPlainIf (Some f) = IsPlain f

-- what the changes put in is plain, and they change shadow symbols alone
abbrev pub IsShadowChange : Change → Type 0
IsShadowChange (Scalar (Init x) t) = IsPlainTerm t
IsShadowChange (Array (Init x) a) = IsPlainArray a
IsShadowChange _ = ⊥

abbrev pub AreShadowChanges : List Change → Type 0
AreShadowChanges [] = Unit {0}
AreShadowChanges (c ∷ cs) = IsShadowChange c × AreShadowChanges cs

-- no two changes are of one symbol
abbrev pub AreDifferent : List Change → Type 0
AreDifferent [] = Unit {0}
AreDifferent (c ∷ cs) = All (λ d. symbol_of c ≢ symbol_of d) cs × AreDifferent cs

pub record IsPlainSite (s : Site) : Type 0 where
  pub first : IsPlainTerm s.i
  pub second : IsPlainTerm s.j

-- an index that the name does not take is the term 0
abbrev pub HasIndexesOf : Shape → Term → Term → Type 0
HasIndexesOf Single i j = (i ≡ zero_term) × (j ≡ zero_term)
HasIndexesOf (Vector rows) i j = j ≡ zero_term
HasIndexesOf (Matrix rows columns) i j = Unit {0}

abbrev pub IsIndexed : Program → Start → Site → Type 0
IsIndexed p start s = HasIndexesOf (shape p start s.name) s.i s.j

-- the cell of a site in a state
abbrev pub cell_of : Valuation → Site → Cell
cell_of w s = cell s.name (value w [] s.i) (value w [] s.j)

-- Form: the changes of a write are of different shadow symbols, and all that a policy gives is plain.
pub record LawForm (need : Site → Option Formula) (effect : Site → List Change) (known : NameBytes → Option Formula) : Type 0 where
  pub changes : (s : Site) → IsPlainSite s → AreShadowChanges (effect s)
  pub different : (s : Site) → AreDifferent (effect s)
  pub needs : (s : Site) → IsPlainSite s → IsPlainIf (need s)
  pub knows : (x : NameBytes) → IsPlainIf (known x)

-- under the changes the shadow symbols mean what they mean in the other state
pub record TurnsShadowInto (w : Valuation) (changes : List Change) (after : Valuation) : Type 0 where
  pub numbers : (x : NameBytes) → (changed w changes).number (Init x) ≡ after.number (Init x)
  pub tables : (x : NameBytes) → (changed w changes).table (Init x) ≡ after.table (Init x)

module _ (p : Program) (start : Start) where
  -- a memory with the shadow of a trace
  abbrev pub state_after : (List Event → Shadow) → Memory → List Event → Valuation
  state_after shadow m trace = state p start m (shadow trace)

  -- Effect: a write turns the shadow into the one that its changes give; reads and uses leave it.
  pub record LawEffect (shadow : List Event → Shadow) (effect : Site → List Change) : Type 0 where
    pub write : (m : Memory) (trace : List Event) (s : Site) (n : ℤ) → s.kind ≡ kind.Write → IsIndexed p start s →
        TurnsShadowInto (state_after shadow m trace) (effect s) (state_after shadow m (trace ++ Write (cell_of (state_after shadow m trace) s) n ∷ []))
    pub read : (trace : List Event) (c : Cell) → shadow (trace ++ Read c ∷ []) ≡ shadow trace
    pub hand : (trace : List Event) (x role : NameBytes) (numbers : List ℤ) → shadow (trace ++ Hand x role numbers ∷ []) ≡ shadow trace

  -- the event of a site, by what is done there, and by the cell and the name of the site
  abbrev pub EventOf : SiteKind → Cell → NameBytes → Memory → Event → Type 0
  EventOf kind.Read c x m e = e ≡ Read c
  EventOf kind.Write c x m e = (n : ℤ) × (e ≡ Write c n)
  EventOf (kind.Hand role) c x m e = e ≡ Hand x role (contents p start m x)

  -- Need: in a state where the need of a site holds, or there is none, the event of the site is not bad.
  abbrev pub LawNeed : (List Event → Shadow) → (List Event → Event → Type 0) → (Site → Option Formula) → Type 0
  LawNeed shadow Bad need = (m : Memory) (trace : List Event) (s : Site) (e : Event) → Kept p start m → IsIndexed p start s →
      HoldsIf (state_after shadow m trace) (need s) → EventOf s.kind (cell_of (state_after shadow m trace) s) s.name m e → ¬ Bad trace e

  -- Known: what is known of a scalar holds after a write of it, and after every later event.
  pub record LawKnown (shadow : List Event → Shadow) (known : NameBytes → Option Formula) : Type 0 where
    pub written : (m : Memory) (trace : List Event) (x : NameBytes) (n : ℤ) → IsScalar (shape p start x) →
        HoldsIf (state_after shadow m (trace ++ Write (scalar x) n ∷ [])) (known x)
    pub later : (m k : Memory) (trace : List Event) (e : Event) (x : NameBytes) → HoldsIf (state_after shadow m trace) (known x) →
        HoldsIf (state_after shadow k (trace ++ e ∷ [])) (known x)

  -- For: the write of the variable of a `for`, which has no site, is not bad.
  abbrev pub LawFor : (List Event → Event → Type 0) → Type 0
  LawFor Bad = (trace : List Event) (x : NameBytes) (n : ℤ) → IsScalar (shape p start x) → ¬ Bad trace (Write (scalar x) n)
