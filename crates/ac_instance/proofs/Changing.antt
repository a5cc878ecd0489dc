-- Changes that are added one after the other.
use Rattle.std.proofs.Common.{◌≡◌, ℕ, zero, suc, ◌+◌, ◌<◌, ◌≤◌, List, [], ◌∷◌, ◌++◌, length, drop, get_or, zip, refl, sym, ◌∙◌, ap, append_assoc, append-nil, arith}
use Rattle.std.proofs.lemmas.List.{drop_more}
use denote.Ref.{Bor}
use Rattle.ac_tree.specs.declared.program.Item.{Item}
use Rattle.ac_tree.specs.declared.program.Program.{Program}
use Rattle.ac_tree.specs.Names.{NameBytes}
use Rattle.ac_logic.specs.declared.formula.Change.{Change}
use Rattle.ac_codes.specs.declared.pattern.MatchValue.{MatchValue}
use Rattle.ac_codes.specs.Listed.{texts_of}
use Rattle.ac_codes.specs.Values.{Values}
use Rattle.ac_instance.specs.Instances.{value_changes, values_changes, constant_change, constant_changes}

pub added_two : (from via to x y : List Change) → via ≡ from ++ x → to ≡ via ++ y → to ≡ from ++ (x ++ y)
added_two from via to x y h k = k ∙ (ap (λ l. l ++ y) h ∙ append_assoc from x y)

pub added_four : (from via past by_ to : List Change) (a b c d : Change) → via ≡ from ++ a ∷ [] → past ≡ via ++ b ∷ [] → by_ ≡ past ++ c ∷ [] → to ≡ by_ ++ d ∷ [] →
    to ≡ from ++ a ∷ b ∷ c ∷ d ∷ []
added_four from via past by_ to a b c d h k l m =
    added_two from via to (a ∷ []) (b ∷ c ∷ d ∷ []) h (added_two via past to (b ∷ []) (c ∷ d ∷ []) k (added_two past by_ to (c ∷ []) (d ∷ []) l m))

pub added_none : (from : List Change) → from ≡ from ++ []
added_none from = sym (append-nil from)

-- what is added for one thing goes from what is to come to what is there
pub moved : (now next all one rest : List Change) → now ++ (one ++ rest) ≡ all → next ≡ now ++ one → next ++ rest ≡ all
moved now next all one rest h k = ap (λ l. l ++ rest) k ∙ (append_assoc now one rest ∙ h)

pub constants-drop : (items : List Item) (i : ℕ) (d : Item) → i < length items → d ≡ get_or items i d →
    constant_changes (drop i items) ≡ constant_change d.name d.kind ++ constant_changes (drop (i + 1) items)
constants-drop items i d h e =
    ap constant_changes (drop_more items i d h)
    ∙ ap (λ (x : Item). constant_change x.name x.kind ++ constant_changes (drop (i + 1) items)) (sym e)

-- a metavariable and its value

pub values-drop : (p : Program) (metas : List (Bor NameBytes)) (values : List MatchValue) (i : ℕ) (x : Bor NameBytes) (v : MatchValue) →
    i < length metas → i < length values → x ≡ get_or metas i x → v ≡ get_or values i v →
    values_changes p (zip (texts_of (drop i metas)) (drop i values))
    ≡ value_changes p x.now v ++ values_changes p (zip (texts_of (drop (i + 1) metas)) (drop (i + 1) values))
values-drop p metas values i x v h k e f =
    ap (λ (xs : List (Bor NameBytes)). values_changes p (zip (texts_of xs) (drop i values))) (drop_more metas i x h)
    ∙ (ap (λ (vs : List MatchValue). values_changes p (zip (texts_of (get_or metas i x ∷ drop (i + 1) metas)) vs)) (drop_more values i v k)
    ∙ (ap (λ (y : Bor NameBytes). value_changes p y.now (get_or values i v) ++ values_changes p (zip (texts_of (drop (i + 1) metas)) (drop (i + 1) values))) (sym e)
    ∙ ap (λ (w : MatchValue). value_changes p x.now w ++ values_changes p (zip (texts_of (drop (i + 1) metas)) (drop (i + 1) values))) (sym f)))

abbrev nothing : List MatchValue
nothing = []

none-left : (xs : List NameBytes) → zip xs nothing ≡ []
none-left [] = refl
none-left (x ∷ xs) = refl

drop-end : (values : List MatchValue) (i : ℕ) → length values ≤ i → drop i values ≡ []
drop-end [] zero h = refl
drop-end [] (suc i) h = refl
drop-end (v ∷ values) zero h = absurd (omega (arith, h))
drop-end (v ∷ values) (suc i) h = drop-end values i (omega (arith, h))

-- behind the last value nothing is to come
pub values-end : (p : Program) (xs : List NameBytes) (values : List MatchValue) (i : ℕ) (now all : List Change) → length values ≤ i →
    now ++ values_changes p (zip xs (drop i values)) ≡ all → now ≡ all
values-end p xs values i now all h k =
    sym (append-nil now)
    ∙ (ap (λ (m : Values). now ++ values_changes p m) (sym (none-left xs) ∙ ap (λ (vs : List MatchValue). zip xs vs) (sym (drop-end values i h))) ∙ k)
