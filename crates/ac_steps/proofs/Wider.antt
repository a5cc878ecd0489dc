-- A plan stays one in a context that has what it uses: under more hypotheses, and without one that it does not use.
use Rattle.std.proofs.Common.{◌≡◌, ℕ, zero, suc, ◌<◌, List, [], ◌∷◌, ◌++◌, length, inl, inr, ⊎_elim, sym, subst, arith, append-nil}
use Rattle.std.proofs.lemmas.List.{append_assoc}
use Rattle.std.proofs.lemmas.List.Elements.{Contains-get_or, Contains-append_left, Contains-append_right, Contains-append_cases}
use Rattle.std.specs.Prelude.{All, Contains, slice_index_or}
use Rattle.ac_logic.specs.declared.formula.Sym.TheVariants.{Fresh}
use Rattle.ac_logic.specs.declared.formula.Formula.{Formula}
use Rattle.ac_logic.specs.Absence.{IsAbsent}
use Rattle.ac_proof.specs.declared.rule_name.RuleName.{RuleName}
use Rattle.ac_proof.specs.declared.rule_name.RuleName.TheVariants as name
use Rattle.ac_proof.specs.New.{IsNew}
use Rattle.ac_proof.specs.RuleNames.{plain_rule}
use Rattle.ac_steps.specs.declared.plan.Way.{Way}
use Rattle.ac_steps.specs.declared.plan.Way.TheVariants.{Hypothesis, Plain, Instance, NewName, Combination, FromDenial, Between, ByOrder, ByEquality, Lemma}
use Rattle.ac_steps.specs.declared.plan.Plan.{Plan, Plan', end_of-Plan as no_more, more_of-Plan as shared}
use Rattle.ac_steps.specs.declared.plan.Plan.TheBlock.{Row_of-Plan-premises-1 as Row_of-Plans, end_of-Plan-premises-1 as end_of-Plans, more_of-Plan-premises-1 as more_of-Plans}
use Rattle.ac_steps.specs.Ways.{Gives, IsInstanceBy, contexts_of}
use Rattle.ac_steps.specs.Plans.{all_shown, Shows, EachShows}
use Rattle.ac_steps.specs.Contexts.{AreAmong, IsNewName, HasNewNames, EachHasNewNames, IsHypothesis, Uses, SomeUses}

module _ (P : Formula → Type 0) where
  all_cons : (x : Formula) (xs : List Formula) → P x → All P xs → All P (x ∷ xs)
  all_cons x xs p h zero d lt = p
  all_cons x xs p h (suc k) d lt = h k d (omega arith)

  all_both : (xs ys : List Formula) → All P xs → All P ys → All P (xs ++ ys)
  all_both [] ys h k = k
  all_both (x ∷ xs) ys h k = all_cons x (xs ++ ys) (h 0 x (omega arith)) (all_both xs ys (λ n d lt. h (suc n) d (omega arith)) k)

  all_front : (xs ys : List Formula) → All P (xs ++ ys) → All P xs
  all_front [] ys h = λ n d lt. absurd (omega arith)
  all_front (x ∷ xs) ys h = all_cons x xs (h 0 x (omega arith)) (all_front xs ys (λ n d lt. h (suc n) d (omega arith)))

  all_behind : (xs ys : List Formula) → All P (xs ++ ys) → All P ys
  all_behind [] ys h = h
  all_behind (x ∷ xs) ys h = all_behind xs ys (λ n d lt. h (suc n) d (omega arith))

  all_among : (hs gs : List Formula) → All P hs → AreAmong gs hs → All P gs
  all_among hs gs h among k d lt =
      let f : Formula = slice_index_or gs k d in
      let c : Contains hs f = among f (Contains-get_or gs k d lt) in
      subst P c.2 (h c.0 f c.1)

-- no rule without fields looks at its hypotheses
plain_elsewhere : (hs gs : List Formula) (n : RuleName) (g : Formula) (ps : List Formula) → IsInstanceBy (plain_rule n) hs g ps → IsInstanceBy (plain_rule n) gs g ps
plain_elsewhere hs gs name.Hyp g ps h = h
plain_elsewhere hs gs _ g ps h = h

-- the hypotheses that a plan uses are all of a kind
module _ (Q : Formula → Type 0) where
  abbrev IsAllowed : Way → Formula → Type 0
  IsAllowed Hypothesis g = Q g
  IsAllowed way g = Unit {0}

  abbrev mutual
    Keeps : Plan → Type 0
    Keeps (Plan' way g s row) = IsAllowed way g × EachKeeps row

    EachKeeps : {n : _} → Row_of-Plans n → Type 0
    EachKeeps end_of-Plans = Unit {0}
    EachKeeps (more_of-Plans s (shared p no_more) row) = Keeps p × EachKeeps row

  module _ (hs gs : List Formula) (among : (f : Formula) → Q f → Contains hs f → Contains gs f) where
    contained : (more : List Formula) (f : Formula) → Q f → Contains (hs ++ more) f → Contains (gs ++ more) f
    contained more f q h = ⊎_elim (λ a. Contains-append_left gs more f (among f q a)) (λ b. Contains-append_right gs more f b) (Contains-append_cases hs more f h)

    given : (more : List Formula) (way : Way) (g : Formula) (ps : List Formula) → IsAllowed way g → IsNewName gs way → Gives (hs ++ more) way g ps → Gives (gs ++ more) way g ps
    unfolding IsNew
    given more Hypothesis g ps q new h = (h.0, contained more g q h.1)
    given more (Plain n) g ps q new h = plain_elsewhere (hs ++ more) (gs ++ more) n g ps h
    given more (Instance t) g ps q new h = h
    given more (NewName k) g ps q new h = (h.0, h.1, h.2, (all_both (IsAbsent (Fresh k)) gs more new (all_behind (IsAbsent (Fresh k)) hs more h.3.0), h.3.1))
    given more (Combination factors) g ps q new h = h
    given more (FromDenial s t) g ps q new h = h
    given more (Between s t) g ps q new h = h
    given more (ByOrder s t) g ps q new h = h
    given more (ByEquality s t) g ps q new h = h
    given more Lemma g ps q new h = h

    mutual
      elsewhere : (more : List Formula) (p : Plan) → Keeps p → HasNewNames gs p → Shows (hs ++ more) p → Shows (gs ++ more) p
      elsewhere more (Plan' way g s row) q new h =
          ((h.0.0, h.0.1, h.0.2, given more way g (all_shown row) q.0 new.0 h.0.3), each_elsewhere more (contexts_of way g (all_shown row)) row q.1 new.1 h.1)

      each_elsewhere : {n : _} (more : List Formula) (cs : List (List Formula)) (row : Row_of-Plans n) → EachKeeps row → EachHasNewNames gs row → EachShows (hs ++ more) cs row → EachShows (gs ++ more) cs row
      each_elsewhere more cs end_of-Plans q new h = tt
      each_elsewhere more [] (more_of-Plans s (shared p no_more) row) q new h = (elsewhere more p q.0 new.0 h.0, each_elsewhere more [] row q.1 new.1 h.1)
      each_elsewhere more (c ∷ cs) (more_of-Plans s (shared p no_more) row) q new h = (
        subst (λ xs. Shows xs p) (sym (append_assoc gs more c)) (elsewhere (more ++ c) p q.0 new.0 (subst (λ xs. Shows xs p) (append_assoc hs more c) h.0)),
        each_elsewhere more cs row q.1 new.1 h.1,
      )

-- ---- under more hypotheses

abbrev Any : Formula → Type 0
Any f = Unit {0}

way_any : (way : Way) (g : Formula) → IsAllowed Any way g
way_any Hypothesis g = tt
way_any way g = tt

mutual
  keeps_any : (p : Plan) → Keeps Any p
  keeps_any (Plan' way g s row) = (way_any way g, each_any row)

  each_any : {n : _} (row : Row_of-Plans n) → EachKeeps Any row
  each_any end_of-Plans = tt
  each_any (more_of-Plans s (shared p no_more) row) = (keeps_any p, each_any row)

pub more_hypotheses : (hs gs : List Formula) (p : Plan) → AreAmong hs gs → HasNewNames gs p → Shows hs p → Shows gs p
more_hypotheses hs gs p among new h = subst (λ xs. Shows xs p) (append-nil gs) (elsewhere Any hs gs (λ f q. among f) [] p (keeps_any p) new (subst (λ xs. Shows xs p) (sym (append-nil hs)) h))

-- ---- without a hypothesis that is not used

module _ (a : Formula) where
  abbrev Other : Formula → Type 0
  Other f = f ≡ a → ⊥

  way_other : (way : Way) (g : Formula) → (IsHypothesis a way g → ⊥) → IsAllowed Other way g
  way_other Hypothesis g n = n
  way_other way g n = tt

  mutual
    keeps_other : (p : Plan) → (Uses a p → ⊥) → Keeps Other p
    keeps_other (Plan' way g s row) n = (way_other way g (λ u. n (inl u)), each_other row (λ u. n (inr u)))

    each_other : {m : _} (row : Row_of-Plans m) → (SomeUses a row → ⊥) → EachKeeps Other row
    each_other end_of-Plans n = tt
    each_other (more_of-Plans s (shared p no_more) row) n = (keeps_other p (λ u. n (inl u)), each_other row (λ u. n (inr u)))

  behind_at : (f : Formula) (more : List Formula) → Other f → (k : ℕ) → k < length (a ∷ more) → slice_index_or (a ∷ more) k f ≡ f → Contains more f
  behind_at f more o zero lt e = absurd (o (sym e))
  behind_at f more o (suc k) lt e = (k, omega arith, e)

  without : (hs more : List Formula) (f : Formula) → Other f → Contains (hs ++ a ∷ more) f → Contains (hs ++ more) f
  without hs more f o c = ⊎_elim (λ x. Contains-append_left hs more f x) (λ y. Contains-append_right hs more f (behind_at f more o y.0 y.1 y.2)) (Contains-append_cases hs (a ∷ more) f c)

-- the new names of a plan stand in none of its hypotheses
module _ (hs : List Formula) where
  way_new : (more : List Formula) (way : Way) (g : Formula) (ps : List Formula) → Gives (hs ++ more) way g ps → IsNewName hs way
  unfolding IsNew
  way_new more (NewName k) g ps h = all_front (IsAbsent (Fresh k)) hs more h.3.0
  way_new more way g ps h = tt

  mutual
    names_new : (more : List Formula) (p : Plan) → Shows (hs ++ more) p → HasNewNames hs p
    names_new more (Plan' way g s row) h = (way_new more way g (all_shown row) h.0.3, each_new more (contexts_of way g (all_shown row)) row h.1)

    each_new : {n : _} (more : List Formula) (cs : List (List Formula)) (row : Row_of-Plans n) → EachShows (hs ++ more) cs row → EachHasNewNames hs row
    each_new more cs end_of-Plans h = tt
    each_new more [] (more_of-Plans s (shared p no_more) row) h = (names_new more p h.0, each_new more [] row h.1)
    each_new more (c ∷ cs) (more_of-Plans s (shared p no_more) row) h = (names_new (more ++ c) p (subst (λ xs. Shows xs p) (append_assoc hs more c) h.0), each_new more cs row h.1)

module _ (hs gs : List Formula) (among : AreAmong gs hs) where
  way_fewer : (way : Way) → IsNewName hs way → IsNewName gs way
  way_fewer (NewName k) h = all_among (IsAbsent (Fresh k)) hs gs h among
  way_fewer way h = tt

  mutual
    names_fewer : (p : Plan) → HasNewNames hs p → HasNewNames gs p
    names_fewer (Plan' way g s row) h = (way_fewer way h.0, each_fewer row h.1)

    each_fewer : {n : _} (row : Row_of-Plans n) → EachHasNewNames hs row → EachHasNewNames gs row
    each_fewer end_of-Plans h = tt
    each_fewer (more_of-Plans s (shared p no_more) row) h = (names_fewer p h.0, each_fewer row h.1)

behind_one : (more : List Formula) (a f : Formula) → Contains more f → Contains (a ∷ more) f
behind_one more a f c = let lt : c.0 < length more = c.1 in (suc c.0, omega arith, c.2)

still_among : (hs more : List Formula) (a f : Formula) → Contains (hs ++ more) f → Contains (hs ++ a ∷ more) f
still_among hs more a f c = ⊎_elim (λ x. Contains-append_left hs (a ∷ more) f x) (λ y. Contains-append_right hs (a ∷ more) f (behind_one more a f y)) (Contains-append_cases hs more f c)

pub unused_hypothesis : (hs more : List Formula) (a : Formula) (p : Plan) → (Uses a p → ⊥) → Shows (hs ++ a ∷ more) p → Shows (hs ++ more) p
unused_hypothesis hs more a p unused h =
    let old : List Formula = hs ++ a ∷ more in
    let new : List Formula = hs ++ more in
    let k : Shows (old ++ []) p = subst (λ xs. Shows xs p) (sym (append-nil old)) h in
    let names : HasNewNames new p = names_fewer old new (λ f c. still_among hs more a f c) p (names_new old [] p k) in
    subst (λ xs. Shows xs p) (append-nil new) (elsewhere (Other a) old new (λ f o c. without a hs more f o c) [] p (keeps_other a p unused) names k)
