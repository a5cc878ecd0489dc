-- What holds of every machine that reads tokens by steps, and of one machine inside another.
use Rattle.std.proofs.Common.{◌≡◌, Bool, true, false, [], ◌∷◌, ◌++◌, Option, Some, None, refl, sym, ◌∙◌, ap}
use Rattle.ac_tree.specs.declared.token.Token.{Token}
use Rattle.ac_tree.specs.Grammar.{Tokens}
use Rattle.ac_expression_reader.specs.Steps.{runs, taken, passed, inside}

-- the tokens lead from one state to the other
abbrev pub IsPath : {S : Type 0} → (S → Token → Option S) → S → Tokens → S → Type 0
IsPath {S = S} step m [] n = m ≡ n
IsPath {S = S} step m (t ∷ ts) n = (j : S) × (step m t ≡ Some j) × IsPath step j ts n

pub record Reaches {S V : Type 0} (step : S → Token → Option S) (value : S → Option V) (m : S) (ts : Tokens) (v : V) : Type 0 where
  pub last : S
  pub path : IsPath step m ts last
  pub gives : value last ≡ Some v

-- what goes on after a step
abbrev pub go_on : {S V : Type 0} → (S → Token → Option S) → (S → Option V) → Option S → Tokens → Option V
go_on step value o ts = elim o [ None ↦ None | Some n ↦ runs step value n ts ]

pub reached : {S V : Type 0} (step : S → Token → Option S) (value : S → Option V) (ts : Tokens) (m : S) (v : V) → runs step value m ts ≡ Some v → Reaches step value m ts v
reached step value [] m v h = record { last = m; path = refl; gives = h }
reached {S = S} step value (t ∷ ts) m v h =
    (elim (step m t) as (λ (o : Option S). o ≡ step m t → go_on step value o ts ≡ Some v → Reaches step value m (t ∷ ts) v) [
      | None ↦ λ o g. cc
      | Some j ↦ λ o g. let r = reached step value ts j v g in record { last = r.last; path = (j, sym o, r.path); gives = r.gives }
    ])
    refl h

pub path_runs : {S V : Type 0} (step : S → Token → Option S) (value : S → Option V) (ts rest : Tokens) (m n : S) → IsPath step m ts n →
    runs step value m (ts ++ rest) ≡ runs step value n rest
path_runs step value [] rest m n h = ap (λ j. runs step value j rest) h
path_runs step value (t ∷ ts) rest m n h = ap (λ o. go_on step value o (ts ++ rest)) h.1 ∙ path_runs step value ts rest h.0 n h.2

pub path_more : {S : Type 0} (step : S → Token → Option S) (ts : Tokens) (m n j : S) (t : Token) → IsPath step m ts n → step n t ≡ Some j → IsPath step m (ts ++ t ∷ []) j
path_more step [] m n j t p s = (j, ap (λ o. step o t) p ∙ s, refl)
path_more step (u ∷ ts) m n j t p s = (p.0, p.1, path_more step ts p.0 n j t p.2 s)

-- where each step of the inner machine is one of the outer, so is each path
pub path_within : {M S : Type 0} (inner : M → Token → Option M) (outer : S → Token → Option S) (within : M → S) →
    ((m j : M) (t : Token) → inner m t ≡ Some j → outer (within m) t ≡ Some (within j)) →
    (ts : Tokens) (m n : M) → IsPath inner m ts n → IsPath outer (within m) ts (within n)
path_within inner outer within stays [] m n h = ap within h
path_within inner outer within stays (t ∷ ts) m n h = (within h.0, stays m h.0 t h.1, path_within inner outer within stays ts h.0 n h.2)

-- the first step is another's
pub step_runs : {S V : Type 0} (step : S → Token → Option S) (value : S → Option V) (m n : S) (t : Token) (rest : Tokens) → step m t ≡ Some n →
    runs step value m (t ∷ rest) ≡ runs step value n rest
step_runs step value m n t rest h = ap (λ o. go_on step value o rest) h

-- a machine inside another: its own token, and the first that isn't
pub inside_taken : {M S V : Type 0} (within : M → S) (after : V → Option S) (own : Bool) (m : Option M) (v : Option V) (j : M) → own ≡ true → m ≡ Some j →
    inside within after own m v ≡ Some (within j)
inside_taken within after own m v j o h = ap (λ b. inside within after b m v) o ∙ ap (taken within) h

pub inside_passed : {M S V : Type 0} (within : M → S) (after : V → Option S) (own : Bool) (m : Option M) (v : Option V) (x : V) → own ≡ false → v ≡ Some x →
    inside within after own m v ≡ after x
inside_passed within after own m v x o h = ap (λ b. inside within after b m v) o ∙ ap (passed after) h

pub inside_cases : {M S V : Type 0} (within : M → S) (after : V → Option S) (P : Option S → Type 0) (own : Bool) (m : Option M) (v : Option V) → P None →
    ((j : M) → m ≡ Some j → P (Some (within j))) → ((x : V) → v ≡ Some x → P (after x)) → P (inside within after own m v)
inside_cases within after P true None v none some whole = none
inside_cases within after P true (Some j) v none some whole = some j refl
inside_cases within after P false m None none some whole = none
inside_cases within after P false m (Some x) none some whole = whole x refl
