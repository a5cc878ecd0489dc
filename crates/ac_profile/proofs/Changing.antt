-- What changes put in the place of symbols, and the symbols that they leave.
use Rattle.std.proofs.Common.{◌≡◌, ℕ, zero, suc, ◌+◌, ◌*◌, ◌-◌, ◌^◌, ◌≤◌, min, max, Bool, true, false, ◌||◌, List, [], ◌∷◌, ◌++◌, length, drop, refl, sym, ◌∙◌, ap, subst, arith}
use Rattle.std.proofs.lemmas.List.{at_drop_all}
use Rattle.ac_logic.specs.declared.formula.ArrayTerm.{ArrayTerm}
use Rattle.ac_logic.specs.declared.formula.Change.{Change}
use Rattle.ac_logic.specs.declared.formula.Change.TheVariants as change
use Rattle.ac_logic.specs.declared.formula.Sym.{Sym}
use Rattle.ac_logic.specs.declared.formula.Term.{Term}
use Rattle.ac_logic.specs.Size.{saturated}
use Rattle.ac_logic.specs.Substitution.{sym_eq}
use Rattle.ac_conditions.specs.Weights.{Weights, term_weight, array_weight, after}
use Rattle.ac_profile.specs.declared.counts.Occurrence.{Occurrence}
use Rattle.ac_profile.specs.declared.counts.Place.{Place}
use Rattle.ac_profile.specs.declared.counts.Counts.{Counts}
use Rattle.ac_profile.specs.Added.{IsMore, HasTerm, HasArray, HasSymbol, HasChanged, is_of, is_changed, AreParted, IsWithChanged, IsAfter}
use Rattle.ac_profile.specs.Opened.{hidden, term_shape, term_child, array_shape, array_child}
use Rattle.ac_profile.specs.Profile.{symbol_weight, sizes, depths, profile_size, profile_depth}
use Rattle.ac_profile.proofs.Merged.{sizes_added, depths_added}
use Rattle.ac_profile.proofs.Steps.{same_more}

either : (a b : Bool) → (a || b) ≡ false → (a ≡ false) × (b ≡ false)
either false b h = (refl, h)
either true b h = cc

-- for sizes by sums and depths by maxima
module _ (join : ℕ → ℕ → ℕ) (u : Weights) where
  -- a change of another symbol
  pub past_change : (c : Change) (cs : List Change) (b : Bool) (s : Sym) → is_of c b s ≡ false → symbol_weight (after join u (c ∷ cs)) b s ≡ symbol_weight (after join u cs) b s
  past_change (change.Scalar x t) cs true s h = refl
  past_change (change.Scalar x t) cs false s h = rw h refl
  past_change (change.Array x a) cs true s h = rw h refl
  past_change (change.Array x a) cs false s h = refl

  pub at_scalar : (c : Change) (x : Sym) (t : Term) (cs : List Change) (b : Bool) (s : Sym) → c ≡ change.Scalar x t → is_of c b s ≡ true → symbol_weight (after join u (c ∷ cs)) b s ≡ term_weight join u t
  at_scalar (change.Scalar y q) x t cs true s e h = cc
  at_scalar (change.Scalar y q) x t cs false s e h = let same : q ≡ t = cc in rw h (ap (λ (z : Term). term_weight join u z) same)
  at_scalar (change.Array y a) x t cs b s e h = cc

  pub at_array : (c : Change) (x : Sym) (a : ArrayTerm) (cs : List Change) (b : Bool) (s : Sym) → c ≡ change.Array x a → is_of c b s ≡ true → symbol_weight (after join u (c ∷ cs)) b s ≡ array_weight join u a
  at_array (change.Array y q) x a cs false s e h = cc
  at_array (change.Array y q) x a cs true s e h = let same : q ≡ a = cc in rw h (ap (λ (z : ArrayTerm). array_weight join u z) same)
  at_array (change.Scalar y t) x a cs b s e h = cc

  pub no_change : (b : Bool) (s : Sym) → symbol_weight (after join u []) b s ≡ symbol_weight u b s
  unfolding hidden term_shape term_child array_shape array_child
  no_change true s = refl
  no_change false s = refl

  pub unchanged : (cs : List Change) (b : Bool) (s : Sym) → is_changed cs b s ≡ false → symbol_weight (after join u cs) b s ≡ symbol_weight u b s
  unchanged [] b s h = no_change b s
  unchanged (c ∷ cs) b s h = let parts = either (is_of c b s) (is_changed cs b s) h in past_change c cs b s parts.0 ∙ unchanged cs b s parts.1

-- what is added in the place of a symbol

pub scalar_changed : (old new : Counts) (place : Place) (c : Change) (x : Sym) (t : Term) (cs : List Change) (b : Bool) (s : Sym) → c ≡ change.Scalar x t → is_of c b s ≡ true → HasTerm old new place t → HasChanged (c ∷ cs) old new place b s
scalar_changed old new place c x t cs b s e h k =
    same_more old new place (λ u. term_weight ◌+◌ u t) (λ u. symbol_weight (after ◌+◌ u (c ∷ cs)) b s) (λ u. term_weight max u t) (λ u. symbol_weight (after max u (c ∷ cs)) b s)
    (λ u. sym (at_scalar ◌+◌ u c x t cs b s e h)) (λ u. sym (at_scalar max u c x t cs b s e h)) k

pub array_changed : (old new : Counts) (place : Place) (c : Change) (x : Sym) (a : ArrayTerm) (cs : List Change) (b : Bool) (s : Sym) → c ≡ change.Array x a → is_of c b s ≡ true → HasArray old new place a → HasChanged (c ∷ cs) old new place b s
array_changed old new place c x a cs b s e h k =
    same_more old new place (λ u. array_weight ◌+◌ u a) (λ u. symbol_weight (after ◌+◌ u (c ∷ cs)) b s) (λ u. array_weight max u a) (λ u. symbol_weight (after max u (c ∷ cs)) b s)
    (λ u. sym (at_array ◌+◌ u c x a cs b s e h)) (λ u. sym (at_array max u c x a cs b s e h)) k

-- where the changes before one are of other symbols

module _ (old p new : Counts) (place : Place) (o : Occurrence) (cs : List Change) (i : ℕ) (kept : p ≡ old) (there : place ≡ record { count = o.count; above = o.above })
    (past : (join : ℕ → ℕ → ℕ) (u : Weights) → symbol_weight (after join u cs) o.is_array o.symbol ≡ symbol_weight (after join u (drop i cs)) o.is_array o.symbol) where
  abbrev Changed : List Change → Type 0
  Changed all = HasChanged all old new (record { count = o.count; above = o.above }) o.is_array o.symbol

  pub changed_at : (c : Change) → drop i cs ≡ c ∷ drop (i + 1) cs → HasChanged (c ∷ drop (i + 1) cs) p new place o.is_array o.symbol → Changed cs
  changed_at c next h =
      let here : Changed (c ∷ drop (i + 1) cs) =
      subst (λ (q : Counts). HasChanged (c ∷ drop (i + 1) cs) q new (record { count = o.count; above = o.above }) o.is_array o.symbol) kept
      (subst (λ (x : Place). HasChanged (c ∷ drop (i + 1) cs) p new x o.is_array o.symbol) there h) in
      same_more old new (record { count = o.count; above = o.above }) (λ u. symbol_weight (after ◌+◌ u (c ∷ drop (i + 1) cs)) o.is_array o.symbol) (λ u. symbol_weight (after ◌+◌ u cs) o.is_array o.symbol)
      (λ u. symbol_weight (after max u (c ∷ drop (i + 1) cs)) o.is_array o.symbol) (λ u. symbol_weight (after max u cs) o.is_array o.symbol)
      (λ u. sym (past ◌+◌ u ∙ ap (λ (l : List Change). symbol_weight (after ◌+◌ u l) o.is_array o.symbol) next))
      (λ u. sym (past max u ∙ ap (λ (l : List Change). symbol_weight (after max u l) o.is_array o.symbol) next)) here

  pub changed_nowhere : length cs ≤ i → HasSymbol p new place o.symbol o.is_array → Changed cs
  changed_nowhere low h =
      let here : HasSymbol old new (record { count = o.count; above = o.above }) o.symbol o.is_array =
      subst (λ (q : Counts). HasSymbol q new (record { count = o.count; above = o.above }) o.symbol o.is_array) kept (subst (λ (x : Place). HasSymbol p new x o.symbol o.is_array) there h) in
      same_more old new (record { count = o.count; above = o.above }) (λ u. symbol_weight u o.is_array o.symbol) (λ u. symbol_weight (after ◌+◌ u cs) o.is_array o.symbol)
      (λ u. symbol_weight u o.is_array o.symbol) (λ u. symbol_weight (after max u cs) o.is_array o.symbol)
      (λ u. sym (past ◌+◌ u ∙ (at_drop_all (λ (l : List Change). symbol_weight (after ◌+◌ u l) o.is_array o.symbol) cs i low ∙ no_change ◌+◌ u o.is_array o.symbol)))
      (λ u. sym (past max u ∙ (at_drop_all (λ (l : List Change). symbol_weight (after max u l) o.is_array o.symbol) cs i low ∙ no_change max u o.is_array o.symbol))) here

-- the profile with what stays and what the changes put in the place of the rest

sum_after : (m x n k c all : ℕ) → min x m ≡ min (n + k + c) m → all ≡ k + c → min x m ≡ min (n + all) m
sum_after m x n k c all h e = omega (arith, h, e)

max_after : (m x n k c all : ℕ) → min x m ≡ min (max (max n k) c) m → all ≡ max k c → min x m ≡ min (max n all) m
max_after m x n k c all h e = omega (arith, h, e)

pub all_changed : (cs : List Change) (old start new : Counts) (changed os : List Occurrence) → IsWithChanged cs start new os → os ≡ changed → AreParted cs old.symbols.items start.symbols.items changed → start.nodes ≡ old.nodes → start.depth ≡ old.depth → IsAfter cs old new
all_changed cs old start new changed os h e p n d = record {
  size = λ u. sum_after (2 ^ 64 - 1) (profile_size u new) old.nodes (sizes u start.symbols.items) (sizes (after ◌+◌ u cs) changed) (sizes (after ◌+◌ u cs) old.symbols.items)
      (h.size u ∙ (ap (λ (xs : List Occurrence). saturated (profile_size u start + sizes (after ◌+◌ u cs) xs)) e ∙ ap (λ k. saturated (k + sizes u start.symbols.items + sizes (after ◌+◌ u cs) changed)) n)) (p.size u);
  depth = λ u. max_after (2 ^ 64 - 1) (profile_depth u new) old.depth (depths u start.symbols.items) (depths (after max u cs) changed) (depths (after max u cs) old.symbols.items)
      (h.depth u ∙ (ap (λ (xs : List Occurrence). saturated (max (profile_depth u start) (depths (after max u cs) xs))) e ∙ ap (λ k. saturated (max (max k (depths u start.symbols.items)) (depths (after max u cs) changed))) d)) (p.depth u);
}

-- one occurrence more is looked at

pub part_changed : (cs : List Change) (before left changed : List Occurrence) (o : Occurrence) (u : Weights) (k all : ℕ) → before ≡ left ++ o ∷ [] → sizes (after ◌+◌ u cs) before + k + sizes (after ◌+◌ u cs) changed ≡ all →
    sizes (after ◌+◌ u cs) left + k + sizes (after ◌+◌ u cs) (changed ++ o ∷ []) ≡ all
part_changed cs before left changed o u k all e h =
    let x = ap (λ (l : List Occurrence). sizes (after ◌+◌ u cs) l) e ∙ sizes_added (after ◌+◌ u cs) left o in
    let y = sizes_added (after ◌+◌ u cs) changed o in
    sum_moved _ _ _ _ _ _ _ x y h
  where
    sum_moved : (b l w c n k all : ℕ) → b ≡ l + w → n ≡ c + w → b + k + c ≡ all → l + k + n ≡ all
    sum_moved b l w c n k all x y h = omega (arith, x, y, h)

pub part_kept : (cs : List Change) (before left kept : List Occurrence) (o : Occurrence) (u : Weights) (c all : ℕ) → before ≡ left ++ o ∷ [] → is_changed cs o.is_array o.symbol ≡ false → sizes (after ◌+◌ u cs) before + sizes u kept + c ≡ all →
    sizes (after ◌+◌ u cs) left + sizes u (kept ++ o ∷ []) + c ≡ all
part_kept cs before left kept o u c all e s h =
    let x = ap (λ (l : List Occurrence). sizes (after ◌+◌ u cs) l) e ∙ (sizes_added (after ◌+◌ u cs) left o ∙ ap (λ n. sizes (after ◌+◌ u cs) left + o.count * n) (unchanged ◌+◌ u cs o.is_array o.symbol s)) in
    let y = sizes_added u kept o in
    sum_moved _ _ _ _ _ _ _ x y h
  where
    sum_moved : (b l w k n c all : ℕ) → b ≡ l + w → n ≡ k + w → b + k + c ≡ all → l + n + c ≡ all
    sum_moved b l w k n c all x y h = omega (arith, x, y, h)

pub deep_changed : (cs : List Change) (before left changed : List Occurrence) (o : Occurrence) (u : Weights) (k all : ℕ) → before ≡ left ++ o ∷ [] → max (max (depths (after max u cs) before) k) (depths (after max u cs) changed) ≡ all →
    max (max (depths (after max u cs) left) k) (depths (after max u cs) (changed ++ o ∷ [])) ≡ all
deep_changed cs before left changed o u k all e h =
    let x = ap (λ (l : List Occurrence). depths (after max u cs) l) e ∙ depths_added (after max u cs) left o in
    let y = depths_added (after max u cs) changed o in
    max_moved _ _ _ _ _ _ _ x y h
  where
    max_moved : (b l w c n k all : ℕ) → b ≡ max l w → n ≡ max c w → max (max b k) c ≡ all → max (max l k) n ≡ all
    max_moved b l w c n k all x y h = omega (arith, x, y, h)

pub deep_kept : (cs : List Change) (before left kept : List Occurrence) (o : Occurrence) (u : Weights) (c all : ℕ) → before ≡ left ++ o ∷ [] → is_changed cs o.is_array o.symbol ≡ false → max (max (depths (after max u cs) before) (depths u kept)) c ≡ all →
    max (max (depths (after max u cs) left) (depths u (kept ++ o ∷ []))) c ≡ all
deep_kept cs before left kept o u c all e s h =
    let x = ap (λ (l : List Occurrence). depths (after max u cs) l) e ∙ (depths_added (after max u cs) left o ∙ ap (λ n. max (depths (after max u cs) left) (o.above + n)) (unchanged max u cs o.is_array o.symbol s)) in
    let y = depths_added u kept o in
    max_moved _ _ _ _ _ _ _ x y h
  where
    max_moved : (b l w k n c all : ℕ) → b ≡ max l w → n ≡ max k w → max (max b k) c ≡ all → max (max l n) c ≡ all
    max_moved b l w k n c all x y h = omega (arith, x, y, h)
