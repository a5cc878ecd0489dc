-- All pairs of the targets and the cuts at some nodes, in order: by node, and the kinds at one node; no pair stands twice.
use Rattle.std.proofs.Common.{◌≡◌, ℕ, zero, suc, ◌+◌, ◌≤◌, List, [], ◌∷◌, ◌++◌, refl, sym, ◌∙◌, ap, subst, arith, append_assoc, inl, inr}
use Rattle.ac_tree.specs.declared.node.NodeId.{NodeId}
use Rattle.ac_tree.specs.declared.path.Cut.{Cut}
use Rattle.ac_tree.specs.declared.path.Cut.TheVariants.{Start, Head, Exit, After}
use Rattle.ac_tree.specs.declared.path.Pair.{Pair}
use Rattle.ac_tree.specs.declared.path.Target.{Target}
use Rattle.ac_tree.specs.declared.path.Target.TheVariants.{Entry, Keep, Barrier, Site}
use Rattle.ac_tree.specs.Preorder.{numbers_from}
use Rattle.ac_flow.specs.Listed.{IsListed}
use Rattle.ac_flow.specs.Pairs.{each}
use Rattle.ac_conditions.proofs.Parts.{split, from_each}
use Rattle.ac_conditions.proofs.Sublists.{IsSublist, late, joined, same, AreApart, apart_append, AreRisingFrom, rising_apart}

abbrev pub targets_at : List NodeId → List Target
targets_at [] = []
targets_at (n ∷ ns) = Entry n ∷ Keep n ∷ Barrier n ∷ Site n ∷ targets_at ns

abbrev pub cuts_at : List NodeId → List Cut
cuts_at [] = []
cuts_at (n ∷ ns) = Head n ∷ Exit n ∷ After n ∷ cuts_at ns

abbrev pub all_pairs : List Cut → List Target → List Pair
all_pairs cuts [] = []
all_pairs cuts (t ∷ ts) = each cuts t ++ all_pairs cuts ts

targets_append : (ns ms : List NodeId) → targets_at (ns ++ ms) ≡ targets_at ns ++ targets_at ms
targets_append [] ms = refl
targets_append (n ∷ ns) ms = ap (λ (l : List Target). Entry n ∷ Keep n ∷ Barrier n ∷ Site n ∷ l) (targets_append ns ms)

pub cuts_append : (ns ms : List NodeId) → cuts_at (ns ++ ms) ≡ cuts_at ns ++ cuts_at ms
cuts_append [] ms = refl
cuts_append (n ∷ ns) ms = ap (λ (l : List Cut). Head n ∷ Exit n ∷ After n ∷ l) (cuts_append ns ms)

all_append : (cuts : List Cut) (ts us : List Target) → all_pairs cuts (ts ++ us) ≡ all_pairs cuts ts ++ all_pairs cuts us
all_append cuts [] us = refl
all_append cuts (t ∷ ts) us = ap (λ (l : List Pair). each cuts t ++ l) (all_append cuts ts us) ∙ sym (append_assoc (each cuts t) (all_pairs cuts ts) (all_pairs cuts us))

-- fewer nodes have fewer of them
pub fewer_targets : (ns ms : List NodeId) → IsSublist ns ms → IsSublist (targets_at ns) (targets_at ms)
fewer_targets [] ms h = tt
fewer_targets (n ∷ ns) [] h = absurd h
fewer_targets (n ∷ ns) (m ∷ ms) (inl h) = inl (ap Entry h.0, inl (ap Keep h.0, inl (ap Barrier h.0, inl (ap Site h.0, fewer_targets ns ms h.1))))
fewer_targets (n ∷ ns) (m ∷ ms) (inr h) = inr (inr (inr (inr (fewer_targets (n ∷ ns) ms h))))

pub fewer_cuts : (ns ms : List NodeId) → IsSublist ns ms → IsSublist (cuts_at ns) (cuts_at ms)
fewer_cuts [] ms h = tt
fewer_cuts (n ∷ ns) [] h = absurd h
fewer_cuts (n ∷ ns) (m ∷ ms) (inl h) = inl (ap Head h.0, inl (ap Exit h.0, inl (ap After h.0, fewer_cuts ns ms h.1)))
fewer_cuts (n ∷ ns) (m ∷ ms) (inr h) = inr (inr (inr (fewer_cuts (n ∷ ns) ms h)))

pub fewer_pairs : (cuts : List Cut) (ts us : List Target) → IsSublist ts us → IsSublist (all_pairs cuts ts) (all_pairs cuts us)
fewer_pairs cuts [] us h = tt
fewer_pairs cuts (t ∷ ts) [] h = absurd h
fewer_pairs cuts (t ∷ ts) (u ∷ us) (inl h) =
    joined (each cuts t) (all_pairs cuts ts) (each cuts u) (all_pairs cuts us) (subst (λ (v : Target). IsSublist (each cuts t) (each cuts v)) h.0 (same (each cuts t))) (fewer_pairs cuts ts us h.1)
fewer_pairs cuts (t ∷ ts) (u ∷ us) (inr h) = late (all_pairs cuts (t ∷ ts)) (each cuts u) (all_pairs cuts us) (fewer_pairs cuts (t ∷ ts) us h)

pub targets_join : (ts us : List Target) (ns ms : List NodeId) → IsSublist ts (targets_at ns) → IsSublist us (targets_at ms) → IsSublist (ts ++ us) (targets_at (ns ++ ms))
targets_join ts us ns ms h k = subst (λ (l : List Target). IsSublist (ts ++ us) l) (sym (targets_append ns ms)) (joined ts us (targets_at ns) (targets_at ms) h k)

pub cuts_join : (ds es : List Cut) (ns ms : List NodeId) → IsSublist ds (cuts_at ns) → IsSublist es (cuts_at ms) → IsSublist (ds ++ es) (cuts_at (ns ++ ms))
cuts_join ds es ns ms h k = subst (λ (l : List Cut). IsSublist (ds ++ es) l) (sym (cuts_append ns ms)) (joined ds es (cuts_at ns) (cuts_at ms) h k)

pub pairs_join : (cuts : List Cut) (xs ys : List Pair) (ns ms : List NodeId) → IsSublist xs (all_pairs cuts (targets_at ns)) → IsSublist ys (all_pairs cuts (targets_at ms)) →
    IsSublist (xs ++ ys) (all_pairs cuts (targets_at (ns ++ ms)))
pairs_join cuts xs ys ns ms h k =
    subst (λ (l : List Pair). IsSublist (xs ++ ys) l) (sym (ap (λ (ts : List Target). all_pairs cuts ts) (targets_append ns ms) ∙ all_append cuts (targets_at ns) (targets_at ms)))
    (joined xs ys (all_pairs cuts (targets_at ns)) (all_pairs cuts (targets_at ms)) h k)

-- the numbers of targets and of cuts in their order
abbrev target_number : Target → ℕ
target_number (Entry n) = n.0 + n.0 + n.0 + n.0
target_number (Keep n) = n.0 + n.0 + n.0 + n.0 + 1
target_number (Barrier n) = n.0 + n.0 + n.0 + n.0 + 2
target_number (Site n) = n.0 + n.0 + n.0 + n.0 + 3

abbrev cut_number : Cut → ℕ
cut_number Start = 0
cut_number (Head n) = n.0 + n.0 + n.0 + 1
cut_number (Exit n) = n.0 + n.0 + n.0 + 2
cut_number (After n) = n.0 + n.0 + n.0 + 3

targets_rise : (count i least : ℕ) → least ≤ i + i + i + i → AreRisingFrom target_number least (targets_at (numbers_from i count))
targets_rise zero i least h = tt
targets_rise (suc count) i least h = (h, (omega arith, (omega arith, (omega arith, targets_rise count (i + 1) (i + i + i + i + 3 + 1) (omega arith)))))

cuts_rise : (count i least : ℕ) → least ≤ i + i + i + 1 → AreRisingFrom cut_number least (cuts_at (numbers_from i count))
cuts_rise zero i least h = tt
cuts_rise (suc count) i least h = (h, (omega arith, (omega arith, cuts_rise count (i + 1) (i + i + i + 3 + 1) (omega arith))))

each_apart : (t : Target) (cuts : List Cut) → AreApart cuts → AreApart (each cuts t)
each_apart t [] a = tt
each_apart t (c ∷ cuts) a = (λ h. a.0 ((from_each t cuts c t h).0), each_apart t cuts a.1)

target_listed : (cuts : List Cut) (ts : List Target) (x : Pair) → IsListed (all_pairs cuts ts) x → IsListed ts x.target
target_listed cuts [] x h = absurd h
target_listed cuts (t ∷ ts) x h = elim (split (each cuts t) (all_pairs cuts ts) x h) [ inl k ↦ inl ((from_each t cuts x.cut x.target k).1) | inr k ↦ inr (target_listed cuts ts x k) ]

all_apart : (cuts : List Cut) (ts : List Target) → AreApart cuts → AreApart ts → AreApart (all_pairs cuts ts)
all_apart cuts [] a b = tt
all_apart cuts (t ∷ ts) a b =
    apart_append (each cuts t) (all_pairs cuts ts) (each_apart t cuts a) (all_apart cuts ts a b.1)
    (λ z i j. b.0 (subst (λ (v : Target). IsListed ts v) ((from_each t cuts z.cut z.target i).1) (target_listed cuts ts z j)))

pub numbered_apart : (count : ℕ) → AreApart (all_pairs (Start ∷ cuts_at (numbers_from 0 count)) (targets_at (numbers_from 0 count)))
numbered_apart count =
    all_apart (Start ∷ cuts_at (numbers_from 0 count)) (targets_at (numbers_from 0 count)) (rising_apart cut_number 0 (Start ∷ cuts_at (numbers_from 0 count)) (omega arith, cuts_rise count 0 1 (omega arith)))
    (rising_apart target_number 0 (targets_at (numbers_from 0 count)) (targets_rise count 0 0 (omega arith)))
