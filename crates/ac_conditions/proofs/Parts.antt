-- Where there is a path formula, by its parts, and which lists have a pair, by theirs.
use Rattle.std.proofs.Common.{◌≡◌, ◌⊎◌, ℕ, ℤ, List, [], ◌∷◌, ◌++◌, map, Bool, true, false, ◌||◌, Option, Some, None, is_some, refl, sym, ◌∙◌, ap, subst, inl, inr, if◌then◌else◌}
use Rattle.std.specs.List.{list_any}
use Rattle.std.proofs.lemmas.Bool.{false≢true, eq-eqb}
use Rattle.ac_tree.specs.declared.node.NodeId.{NodeId}
use Rattle.ac_tree.specs.declared.path.Cut.{Cut}
use Rattle.ac_tree.specs.declared.path.Pair.{Pair}
use Rattle.ac_tree.specs.declared.path.Target.{Target}
use Rattle.ac_tree.specs.declared.path.Target.TheVariants as target
use Rattle.ac_flow.specs.Leads.{is_site}
use Rattle.ac_flow.specs.Listed.{IsListed}
use Rattle.ac_flow.specs.Pairs.{each, site_pairs, barrier_pairs}
use Rattle.ac_flow.proofs.Within.{each-of}
use Rattle.ac_logic.specs.declared.condition.Condition.{Condition}
use Rattle.ac_logic.specs.declared.formula.Change.{Change}
use Rattle.ac_logic.specs.declared.formula.Formula.{Formula}
use Rattle.ac_logic.specs.declared.label.LabelKind.{LabelKind}
use Rattle.ac_policy.specs.declared.site.Site.{Site}
use Rattle.ac_policy.specs.Sites.{unless_constant}
use Rattle.ac_conditions.proofs.TargetsCover.{same_target}
use Rattle.ac_conditions.specs.Goals.{conjoined, goal_if, under, labelled_need, site_goal, sites_goal}
use Rattle.ac_conditions.specs.Opened.{hidden, formula_shape, formula_child}
use Rattle.ac_conditions.specs.Preconditions.{before_changes}

-- there is a formula
abbrev pub IsThere : Option Formula → Type 0
IsThere None = ⊥
IsThere (Some f) = Unit {0}

pub from_both : (f g : Option Formula) → IsThere (conjoined f g) → IsThere f ⊎ IsThere g
unfolding hidden formula_shape formula_child
from_both None g h = inr h
from_both (Some f) None h = inl tt
from_both (Some f) (Some g) h = inl tt

pub to_first : (f g : Option Formula) → IsThere f → IsThere (conjoined f g)
unfolding hidden formula_shape formula_child
to_first None g h = absurd h
to_first (Some f) None h = tt
to_first (Some f) (Some g) h = tt

pub to_second : (f g : Option Formula) → IsThere g → IsThere (conjoined f g)
unfolding hidden formula_shape formula_child
to_second None g h = h
to_second (Some f) None h = absurd h
to_second (Some f) (Some g) h = tt

pub from_premise : (kind : LabelKind) (n : NodeId) (f : Formula) (g : Option Formula) → IsThere (under kind n f g) → IsThere g
unfolding hidden formula_shape formula_child
from_premise kind n f None h = h
from_premise kind n f (Some g) h = tt

pub to_premise : (kind : LabelKind) (n : NodeId) (f : Formula) (g : Option Formula) → IsThere g → IsThere (under kind n f g)
unfolding hidden formula_shape formula_child
to_premise kind n f None h = h
to_premise kind n f (Some g) h = tt

pub from_change : (n : NodeId) (changes : List Change) (g : Option Formula) → IsThere (before_changes n changes g) → IsThere g
from_change n changes None h = h
from_change n changes (Some g) h = tt

pub to_change : (n : NodeId) (changes : List Change) (g : Option Formula) → IsThere g → IsThere (before_changes n changes g)
to_change n changes None h = h
to_change n changes (Some g) h = tt

pub from_goal : (b : Bool) (f : Formula) → IsThere (goal_if b f) → b ≡ true
from_goal true f h = refl
from_goal false f h = absurd h

pub to_goal : (b : Bool) (f : Formula) → b ≡ true → IsThere (goal_if b f)
to_goal true f e = tt
to_goal false f e = absurd (false≢true e)

-- lists
pub split : {X : Type 0} (xs ys : List X) (x : X) → IsListed (xs ++ ys) x → IsListed xs x ⊎ IsListed ys x
split [] ys x h = inr h
split (z ∷ xs) ys x (inl e) = inl (inl e)
split (z ∷ xs) ys x (inr h) = elim (split xs ys x h) [ inl k ↦ inl (inr k) | inr k ↦ inr k ]

pub from_each : (u : Target) (cuts : List Cut) (c : Cut) (t : Target) → IsListed (each cuts u) (record { cut = c; target = t }) → IsListed cuts c × (t ≡ u)
from_each u [] c t h = absurd h
from_each u (d ∷ cuts) c t (inl e) = (inl (ap (λ (x : Pair). x.cut) e), ap (λ (x : Pair). x.target) e)
from_each u (d ∷ cuts) c t (inr h) = let k = from_each u cuts c t h in (inr k.0, k.1)

pub to_each : (u : Target) (cuts : List Cut) (c : Cut) (t : Target) → IsListed cuts c → t ≡ u → IsListed (each cuts u) (record { cut = c; target = t })
to_each u cuts c t h e = subst (λ (v : Target). IsListed (each cuts u) (record { cut = c; target = v })) (sym e) (each-of u cuts c h)

-- a pair of some conditions
abbrev pub pairs_in : List Condition → List Pair
pairs_in cs = map (λ x. x.pair) cs

pub pairs_split : (cs ds : List Condition) (x : Pair) → IsListed (pairs_in (cs ++ ds)) x → IsListed (pairs_in cs) x ⊎ IsListed (pairs_in ds) x
pairs_split [] ds x h = inr h
pairs_split (c ∷ cs) ds x (inl e) = inl (inl e)
pairs_split (c ∷ cs) ds x (inr h) = elim (pairs_split cs ds x h) [ inl k ↦ inl (inr k) | inr k ↦ inr k ]

pub pairs_left : (cs ds : List Condition) (x : Pair) → IsListed (pairs_in cs) x → IsListed (pairs_in (cs ++ ds)) x
pairs_left [] ds x h = absurd h
pairs_left (c ∷ cs) ds x (inl e) = inl e
pairs_left (c ∷ cs) ds x (inr h) = inr (pairs_left cs ds x h)

pub pairs_right : (cs ds : List Condition) (x : Pair) → IsListed (pairs_in ds) x → IsListed (pairs_in (cs ++ ds)) x
pairs_right [] ds x h = h
pairs_right (c ∷ cs) ds x h = inr (pairs_right cs ds x h)

-- a barrier
module _ (barrier : ℕ → Bool) (c : Cut) (t : Target) where
  pub from_barrier : (n : NodeId) (cuts : List Cut) → IsListed (barrier_pairs barrier cuts n) (record { cut = c; target = t }) → (barrier n.0 ≡ true) × (t ≡ target.Barrier n) × IsListed cuts c
  from_barrier n cuts h = go (barrier n.0) h
    where
      go : (b : Bool) → IsListed (if b then each cuts (target.Barrier n) else []) (record { cut = c; target = t }) → (b ≡ true) × (t ≡ target.Barrier n) × IsListed cuts c
      go true k = let g = from_each (target.Barrier n) cuts c t k in (refl, g.1, g.0)
      go false k = absurd k

  pub to_barrier : (n : NodeId) (cuts : List Cut) → barrier n.0 ≡ true → t ≡ target.Barrier n → IsListed cuts c → IsListed (barrier_pairs barrier cuts n) (record { cut = c; target = t })
  to_barrier n cuts e s h = go (barrier n.0) e
    where
      go : (b : Bool) → b ≡ true → IsListed (if b then each cuts (target.Barrier n) else []) (record { cut = c; target = t })
      go true k = to_each (target.Barrier n) cuts c t h s
      go false k = absurd (false≢true k)

-- sites
some_of_need : (n : NodeId) (o : Option Formula) → IsThere (labelled_need n o) → is_some o ≡ true
some_of_need n None h = absurd h
some_of_need n (Some f) h = refl

need_of_some : (n : NodeId) (o : Option Formula) → is_some o ≡ true → IsThere (labelled_need n o)
need_of_some n None h = absurd (false≢true h)
need_of_some n (Some f) h = tt

module _ (need : Site → Option Formula) (subject : ℕ → Bool) (c : Cut) (t : Target) where
  from_site : (s : Site) → IsThere (site_goal need t s) → (is_site t s.node ≡ true) × (is_some (need s) ≡ true)
  from_site s h = go (is_site t s.node) h
    where
      go : (b : Bool) → IsThere (if b then labelled_need s.node (need s) else None) → (b ≡ true) × (is_some (need s) ≡ true)
      go true k = (refl, some_of_need s.node (need s) k)
      go false k = absurd k

  pub to_site : (s : Site) → is_site t s.node ≡ true → is_some (need s) ≡ true → IsThere (site_goal need t s)
  to_site s e k = go (is_site t s.node) e
    where
      go : (b : Bool) → b ≡ true → IsThere (if b then labelled_need s.node (need s) else None)
      go true j = need_of_some s.node (need s) k
      go false j = absurd (false≢true j)

  pub sites_split : (xs ys : List Site) → IsThere (sites_goal need t (xs ++ ys)) → IsThere (sites_goal need t xs) ⊎ IsThere (sites_goal need t ys)
  sites_split [] ys h = inr h
  sites_split (x ∷ xs) ys h = elim (from_both (site_goal need t x) (sites_goal need t (xs ++ ys)) h) [
    | inl k ↦ inl (to_first (site_goal need t x) (sites_goal need t xs) k)
    | inr k ↦ elim (sites_split xs ys k) [ inl j ↦ inl (to_second (site_goal need t x) (sites_goal need t xs) j) | inr j ↦ inr j ]
  ]

  pub sites_left : (xs ys : List Site) → IsThere (sites_goal need t xs) → IsThere (sites_goal need t (xs ++ ys))
  sites_left [] ys h = absurd h
  sites_left (x ∷ xs) ys h = elim (from_both (site_goal need t x) (sites_goal need t xs) h) [
    | inl k ↦ to_first (site_goal need t x) (sites_goal need t (xs ++ ys)) k
    | inr k ↦ to_second (site_goal need t x) (sites_goal need t (xs ++ ys)) (sites_left xs ys k)
  ]

  pub sites_right : (xs ys : List Site) → IsThere (sites_goal need t ys) → IsThere (sites_goal need t (xs ++ ys))
  sites_right [] ys h = h
  sites_right (x ∷ xs) ys h = to_second (site_goal need t x) (sites_goal need t (xs ++ ys)) (sites_right xs ys h)

  to_pairs : (n : NodeId) (cuts : List Cut) → IsListed cuts c → is_site t n ≡ true → subject n.0 ≡ true → IsListed (site_pairs subject cuts n) (record { cut = c; target = t })
  to_pairs n cuts h e s = go (subject n.0) s
    where
      go : (b : Bool) → b ≡ true → IsListed (if b then each cuts (target.Site n) else []) (record { cut = c; target = t })
      go true k = to_each (target.Site n) cuts c t h (same_target t (target.Site n) e)
      go false k = absurd (false≢true k)

  from_pairs : (n : NodeId) (cuts : List Cut) → IsListed (site_pairs subject cuts n) (record { cut = c; target = t }) → IsListed cuts c × (is_site t n ≡ true) × (subject n.0 ≡ true)
  from_pairs n cuts h = go (subject n.0) h
    where
      go : (b : Bool) → IsListed (if b then each cuts (target.Site n) else []) (record { cut = c; target = t }) → IsListed cuts c × (is_site t n ≡ true) × (b ≡ true)
      go true k =
          let g = from_each (target.Site n) cuts c t k in
          let here : is_site (target.Site n) n ≡ true = eq-eqb n.0 n.0 refl in
          (g.0, subst (λ (v : Target). is_site v n ≡ true) (sym g.1) here, refl)
      go false k = absurd k

  or_false : (b : Bool) → (b || false) ≡ b
  or_false true = refl
  or_false false = refl

  -- one site, whose node is marked where the policy needs something there
  pub site_forward : (s : Site) (cuts : List Cut) → subject s.node.0 ≡ (is_some (need s) || false) → IsListed cuts c → IsThere (site_goal need t s) → IsListed (site_pairs subject cuts s.node) (record { cut = c; target = t })
  site_forward s cuts m h k = let g = from_site s k in to_pairs s.node cuts h g.0 (m ∙ or_false (is_some (need s)) ∙ g.1)

  pub site_back : (s : Site) (cuts : List Cut) → subject s.node.0 ≡ (is_some (need s) || false) → IsListed (site_pairs subject cuts s.node) (record { cut = c; target = t }) → IsListed cuts c × IsThere (site_goal need t s)
  site_back s cuts m h = let g = from_pairs s.node cuts h in (g.0, to_site s g.1 (sym (or_false (is_some (need s))) ∙ sym m ∙ g.2))

  -- a read, which is no site where it is of a constant
  pub read_forward : (o : Option ℤ) (s : Site) (cuts : List Cut) → subject s.node.0 ≡ list_any (λ x. is_some (need x)) (unless_constant o s) → IsListed cuts c → IsThere (sites_goal need t (unless_constant o s)) → IsListed (site_pairs subject cuts s.node) (record { cut = c; target = t })
  read_forward (Some v) s cuts m h k = absurd k
  read_forward None s cuts m h k = elim (from_both (site_goal need t s) None k) [ inl j ↦ site_forward s cuts m h j | inr j ↦ absurd j ]

  pub read_back : (o : Option ℤ) (s : Site) (cuts : List Cut) → subject s.node.0 ≡ list_any (λ x. is_some (need x)) (unless_constant o s) → IsListed (site_pairs subject cuts s.node) (record { cut = c; target = t }) → IsListed cuts c × IsThere (sites_goal need t (unless_constant o s))
  read_back (Some v) s cuts m h = absurd (false≢true (sym m ∙ (from_pairs s.node cuts h).2))
  read_back None s cuts m h = let g = site_back s cuts m h in (g.0, to_first (site_goal need t s) None g.1)
