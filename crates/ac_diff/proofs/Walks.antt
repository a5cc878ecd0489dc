-- The steps of the walk back, and of what is taken off it.
use Rattle.std.proofs.Common.{◌≡◌, ◌≢◌, ℕ, zero, suc, ◌+◌, ◌<◌, ◌≤◌, ℤ, pos, ◌+ℤ◌, ◌-ℤ◌, ◌≤ℤ◌, ◌⊎◌, inl, inr, ⊎_elim, List, [], ◌∷◌, Bool, true, false, length, get_or, set, replicate, refl, sym, ap, ◌∙◌, subst, arith, length-set}
use Rattle.std.proofs.lemmas.Int.{ints}
use Rattle.ac_diff.specs.declared.diff.Diff.{Diff}
use Rattle.ac_diff.specs.declared.node.Node.{Node}
use Rattle.ac_diff.specs.Differences.{AreFacts, fact, total}
use Rattle.ac_diff.specs.Nodes.{place, at, from, to, IsWay, IsReached, kept, marks, marked, span, IsMarking, IsWalking, IsWalked, IsTrimmed}
use Rattle.ac_diff.proofs.Totals.{mark, unmark, none_kept, marks_set, marks_unset, marks_length, marks_some, indicator, indicator_same, indicator_other, found}
use Rattle.ac_diff.proofs.Rounds.{fact_is, place_within}

-- marks that are set and taken back
set_kept : (bs : List Bool) (i j : ℕ) → get_or bs j false ≡ true → get_or (set bs i true) j false ≡ true
set_kept [] i j h = h
set_kept (b ∷ bs) zero zero h = refl
set_kept (b ∷ bs) zero (suc j) h = h
set_kept (b ∷ bs) (suc i) zero h = h
set_kept (b ∷ bs) (suc i) (suc j) h = set_kept bs i j h

set_here : (bs : List Bool) (i : ℕ) → i < length bs → get_or (set bs i true) i false ≡ true
set_here [] i lt = absurd (omega arith)
set_here (b ∷ bs) zero lt = refl
set_here (b ∷ bs) (suc i) lt = set_here bs i (omega arith)

set_back : (bs : List Bool) (i j : ℕ) → get_or (set bs i true) j false ≡ true → (j ≡ i) ⊎ (get_or bs j false ≡ true)
set_back [] i j h = inr h
set_back (b ∷ bs) zero zero h = inl refl
set_back (b ∷ bs) zero (suc j) h = inr h
set_back (b ∷ bs) (suc i) zero h = inr h
set_back (b ∷ bs) (suc i) (suc j) h = ⊎_elim (λ e. inl (ap suc e)) (λ k. inr k) (set_back bs i j h)

unset_back : (bs : List Bool) (i j : ℕ) → get_or (set bs i false) j false ≡ true → get_or bs j false ≡ true
unset_back [] i j h = h
unset_back (b ∷ bs) zero zero h = cc
unset_back (b ∷ bs) zero (suc j) h = h
unset_back (b ∷ bs) (suc i) zero h = h
unset_back (b ∷ bs) (suc i) (suc j) h = unset_back bs i j h

unset_other : (bs : List Bool) (i j : ℕ) → (j ≡ i → ⊥) → get_or bs j false ≡ true → get_or (set bs i false) j false ≡ true
unset_other [] i j n h = h
unset_other (b ∷ bs) zero zero n h = absurd (n refl)
unset_other (b ∷ bs) zero (suc j) n h = h
unset_other (b ∷ bs) (suc i) zero n h = h
unset_other (b ∷ bs) (suc i) (suc j) n h = unset_other bs i j (λ e. n (ap suc e)) h

none_marked : (n j : ℕ) → get_or (replicate n false) j false ≡ false
none_marked zero j = refl
none_marked (suc n) zero = refl
none_marked (suc n) (suc j) = none_marked n j

false_true : (b : Bool) → b ≡ false → b ≡ true → ⊥
false_true b h k = cc

is_false : (b : Bool) → (b ≡ true → ⊥) → b ≡ false
is_false true h = absurd (h refl)
is_false false h = refl

pub read_is : (bs : List Bool) (i : ℕ) (b : Bool) → i < length bs → b ≡ get_or bs i b → get_or bs i false ≡ b
read_is [] i b lt e = absurd (omega arith)
read_is (x ∷ bs) zero b lt e = sym e
read_is (x ∷ bs) (suc i) b lt e = read_is bs i b (omega arith) e

module _ (units : ℕ) (fs : List Diff) (nodes : List Node) (h : AreFacts units fs) (n : length nodes ≡ units + 1) where
  pub from_within : (j : ℕ) → j < length fs → from fs j < length nodes
  from_within j lt = let p : place (fact fs j).minus < units + 1 = place_within units (fact fs j).minus (fact_is units fs j h lt).minus in omega arith

  module _ (reached : IsReached fs (length nodes) nodes) (first : ℕ) where
    pub walk_start : (last : first < length nodes) → (at nodes first).round ≡ length nodes → (seen used : List Bool) → seen ≡ replicate (length nodes) false → used ≡ replicate (length fs) false → length seen ≡ length nodes → length used ≡ length fs → IsWalking fs nodes first first seen used
    walk_start lt e seen used s u ls lu = record {
      within = lt;
      same = ls;
      marking = record { same = lu; only = λ j l m. absurd (false_true _ (ap (λ x. get_or x j false) u ∙ none_marked (length fs) j) m) };
      deep = omega arith;
      used_seen = λ j l m. absurd (false_true _ (ap (λ x. get_or x j false) u ∙ none_marked (length fs) j) m);
      seen_used = λ v m. absurd (false_true _ (ap (λ x. get_or x v false) s ∙ none_marked (length nodes) v) m);
      leads = λ y. (let z : total (span y) (kept fs used) ≡ pos 0 = none_kept (span y) fs used (λ j. ap (λ x. get_or x j false) u ∙ none_marked (length fs) j) in omega (arith, ints, z));
    }

    module _ (node : ℕ) (seen used : List Bool) (w : IsWalking fs nodes first node seen used) (fresh : marked seen node ≡ false) where
      pub way_here : IsWay fs nodes node
      way_here =
          let a : marks (set seen node true) ≡ suc (marks seen) = marks_set seen node (omega (arith, w.within, w.same)) fresh in
          let b : marks (set seen node true) ≤ length (set seen node true) = marks_length (set seen node true) in
          let c : length (set seen node true) ≡ length seen = length-set seen node true in
          let d : 1 ≤ (at nodes node).round = omega (arith, w.deep, w.same) in
          ⊎_elim (λ z. absurd (omega arith)) (λ x. x) (reached.ways node w.within)

      abbrev i : ℕ
      i = (at nodes node).via

      unused : marked used i ≡ false
      unused = is_false (marked used i) (λ m. false_true (marked seen node) fresh (subst (λ v. marked seen v ≡ true) way_here.leads (w.used_seen i way_here.via m)))

      here : ((at nodes (to fs i)).via ≡ i) × IsWay fs nodes (to fs i)
      here = (ap (λ v. (at nodes v).via) way_here.leads, subst (IsWay fs nodes) (sym way_here.leads) way_here)

      walk_marking : IsMarking fs nodes (set used i true)
      walk_marking = record {
        same = length-set used i true ∙ w.marking.same;
        only = λ j l m. ⊎_elim (λ e. subst (λ k. ((at nodes (to fs k)).via ≡ k) × IsWay fs nodes (to fs k)) (sym e) here) (λ o. w.marking.only j l o) (set_back used i j m);
      }

      seen_here : marked (set seen node true) node ≡ true
      seen_here = set_here seen node (omega (arith, w.within, w.same))

      deep_next : length nodes ≤ (at nodes (from fs i)).round + marks (set seen node true)
      deep_next =
          let a : marks (set seen node true) ≡ suc (marks seen) = marks_set seen node (omega (arith, w.within, w.same)) fresh in
          let d : length nodes ≤ (at nodes node).round + marks seen = w.deep in
          ⊎_elim (λ p. (let q : (at nodes (from fs i)).round + 1 ≡ (at nodes node).round = p.0 in omega arith)) (λ p. (let q : (at nodes node).round ≤ (at nodes (from fs i)).round = p.0 in omega arith)) way_here.ages

      pub walk_step : IsWalking fs nodes first (from fs i) (set seen node true) (set used i true)
      walk_step = record {
        within = from_within i way_here.via;
        same = length-set seen node true ∙ w.same;
        marking = walk_marking;
        deep = deep_next;
        used_seen = λ j l m. ⊎_elim (λ e. subst (λ k. marked (set seen node true) (to fs k) ≡ true) (sym e) (subst (λ v. marked (set seen node true) v ≡ true) (sym way_here.leads) seen_here)) (λ o. set_kept seen node (to fs j) (w.used_seen j l o)) (set_back used i j m);
        seen_used = λ v m. ⊎_elim
            (λ e. subst (λ u. (marked (set used i true) (at nodes u).via ≡ true) × IsWay fs nodes u) (sym e) (set_here used i (omega (arith, way_here.via, w.marking.same)), way_here))
            (λ o. (set_kept used i (at nodes v).via (w.seen_used v o).0, (w.seen_used v o).1))
            (set_back seen node v m);
        leads = λ y. (
            let a : total (span y) (kept fs (set used i true)) ≡ total (span y) (kept fs used) +ℤ span y (fact fs i) = mark (span y) fs used i w.marking.same way_here.via unused in
            let b : total (span y) (kept fs used) ≡ y first -ℤ y node = w.leads y in
            let c : y (to fs i) ≡ y node = ap y way_here.leads in
            omega (arith, ints, a, b, c));
      }

    pub walk_end : (node : ℕ) (seen used : List Bool) → IsWalking fs nodes first node seen used → marked seen node ≡ true → IsWalked fs nodes first node used
    walk_end node seen used w m = record { end = w.within; way = (w.seen_used node m).1; marking = w.marking; ends = (w.seen_used node m).0; leads = w.leads }

  -- taking off
  module _ (node last : ℕ) (used : List Bool) (w : IsWalked fs nodes node last used) (apart : node ≡ last → ⊥) where
    abbrev k : ℕ
    k = (at nodes node).via

    leads_one : pos 1 ≤ℤ total (span (indicator node)) (kept fs used)
    leads_one =
        let a : total (span (indicator node)) (kept fs used) ≡ indicator node node -ℤ indicator node last = w.leads (indicator node) in
        let b : indicator node node ≡ pos 1 = indicator_same node in
        let c : indicator node last ≡ pos 0 = indicator_other node last apart in
        omega (arith, ints, a, b, c)

    here_used : (k < length fs) × (marked used k ≡ true) × (to fs k ≡ node)
    here_used =
        let f = found fs used node leads_one in
        let e : k ≡ f.0 = ap (λ v. (at nodes v).via) (sym f.3) ∙ (w.marking.only f.0 f.1 f.2).0 in
        (omega (arith, f.1), ap (λ j. get_or used j false) e ∙ f.2, ap (to fs) e ∙ f.3)

    pub trim_within : k < length fs
    trim_within = here_used.0

    pub trim_less : marks (set used k false) < marks used
    trim_less = (let a : suc (marks (set used k false)) ≡ marks used = marks_unset used k (omega (arith, here_used.0, w.marking.same)) here_used.1 in omega arith)

    last_other : (at nodes last).via ≡ k → ⊥
    last_other e = apart (sym here_used.2 ∙ (ap (to fs) (sym e) ∙ w.way.leads))

    pub trim_step : IsWalked fs nodes (from fs k) last (set used k false)
    trim_step = record {
      end = w.end;
      way = w.way;
      marking = record { same = length-set used k false ∙ w.marking.same; only = λ j l m. w.marking.only j l (unset_back used k j m) };
      ends = unset_other used k (at nodes last).via last_other w.ends;
      leads = λ y. (
          let a : total (span y) (kept fs (set used k false)) +ℤ span y (fact fs k) ≡ total (span y) (kept fs used) = unmark (span y) fs used k w.marking.same here_used.0 here_used.1 in
          let b : total (span y) (kept fs used) ≡ y node -ℤ y last = w.leads y in
          let c : y (to fs k) ≡ y node = ap y here_used.2 in
          omega (arith, ints, a, b, c));
    }

  pub trim_end : (node last : ℕ) (used : List Bool) → node ≡ last → IsWalked fs nodes node last used → IsTrimmed fs nodes used
  trim_end node last used e w = record {
    marking = w.marking;
    some = marks_some used (at nodes last).via w.ends;
    around = λ y. (let a : total (span y) (kept fs used) ≡ y node -ℤ y last = w.leads y in let b : y node ≡ y last = ap y e in omega (arith, ints, a, b));
  }
