-- The members and items of TOML beside the entries and values of the code.
use Rattle.std.proofs.Common.{◌≡◌, ◌∙◌, sym, Less, nat_cmp, ◌&&◌, suc, length, Bool, true, false, not, cond, List, [], ◌∷◌, ap, refl, rules, map, string_bytes, Global, String, Option, Some, None, option_map, option_and_then}
use Rattle.std.specs.List.{find, list_all, cons_option, AllByRecursion}
use Rattle.std.specs.List.Sorted.{IsStrictlySortedBy}
use Rattle.std.specs.Cmp.Lexicographic.{slice_cmp}
use Rattle.std.specs.String.{string_cmp}
use Rattle.std.specs.Prelude.{filter_map, is_some, if◌then◌else◌}
use Rattle.std.proofs.lemmas.Bool.{and_parts}
use Rattle.std.specs.Map.{keys_of as entry_keys}
use Rattle.toml.specs.Data.{Members, as_table}
use Rattle.toml.specs.View.{view, items_view, members_view}
use Rattle.toml.specs.declared.value.Value.{Value}
use Rattle.ac_policy_table.specs.Keys.{Bytes, keys_of, least_unknown}
use Rattle.ac_policy_table.specs.Values.{list_of, each}
use Rattle.ac_policy_table.proofs.Least.{find-least}

found : {A B : Type 0} (f : A → B) (p : B → Bool) (x : A) (xs : List A) (rest : Option B) (b : Bool) → rest ≡ option_map f (find (λ y. p (f y)) xs)
    → cond b (Some (f x)) rest ≡ option_map f (cond b (Some x) (find (λ y. p (f y)) xs))
found f p x xs rest true h = refl
found f p x xs rest false h = h

first_unknown : (is_known : Bytes → Bool) (es : List (String Global × Value))
    → find (λ k. not (is_known k)) (keys_of (members_view es)) ≡ option_map string_bytes (find (λ k. not (is_known (string_bytes k))) (entry_keys es))
first_unknown is_known [] = refl
first_unknown is_known (e ∷ es) = found string_bytes (λ k. not (is_known k)) e.0 (entry_keys es) _ (not (is_known (string_bytes e.0))) (first_unknown is_known es)

-- the keys of a table ascend
above-view : (k : String Global) (es : List (String Global × Value)) → AllByRecursion (λ y. string_cmp k y ≡ Less) (entry_keys es)
    → AllByRecursion (λ y. slice_cmp nat_cmp (string_bytes k) y ≡ Less) (keys_of (members_view es))
above-view k [] h = h
above-view k (e ∷ es) h = (h.0, above-view k es h.1)

sorted-view : (es : List (String Global × Value)) → IsStrictlySortedBy string_cmp (entry_keys es) → IsStrictlySortedBy (slice_cmp nat_cmp) (keys_of (members_view es))
unfolding IsStrictlySortedBy
sorted-view [] h = h
sorted-view (e ∷ es) h = (above-view e.0 es h.0, sorted-view es h.1)

pub least_unknown-members_view : (is_known : Bytes → Bool) (es : List (String Global × Value)) → IsStrictlySortedBy string_cmp (entry_keys es)
    → least_unknown is_known (members_view es) ≡ option_map string_bytes (find (λ k. not (is_known (string_bytes k))) (entry_keys es))
least_unknown-members_view is_known es sorted = sym (find-least (λ k. not (is_known k)) (keys_of (members_view es)) (sorted-view es sorted)) ∙ first_unknown is_known es

pub list_of-items_view : (vs : List Value) → list_of (items_view vs) ≡ map view vs
list_of-items_view [] = refl
list_of-items_view (v ∷ vs) = ap (λ ds. view v ∷ ds) (list_of-items_view vs)

-- ---- lists of tables

abbrev are_tables : List Value → Bool
are_tables vs = list_all (λ v. is_some (as_table (view v))) vs

all_or_none : (o : Option Members) (b : Bool) (ms : List Members) (r : Option (List Members)) → r ≡ (if b then Some ms else None)
    → option_and_then (λ x. option_map (λ xs. x ∷ xs) r) o ≡ (if is_some o && b then Some (cons_option o ms) else None)
all_or_none None b ms r e = refl
all_or_none (Some m) true ms r e = rw e refl
all_or_none (Some m) false ms r e = rw e refl

pub each_table : (vs : List Value) → each as_table (map view vs) ≡ (if list_all (λ v. is_some (as_table (view v))) vs then Some (filter_map as_table (map view vs)) else None)
each_table [] = refl
each_table (v ∷ vs) = all_or_none (as_table (view v)) (are_tables vs) (filter_map as_table (map view vs)) (each as_table (map view vs)) (each_table vs)

one_more : (o : Option Members) (ms : List Members) → is_some o ≡ true → length (cons_option o ms) ≡ suc (length ms)
one_more None ms h = search rules
one_more (Some m) ms h = refl

pub as_many : (vs : List Value) → list_all (λ v. is_some (as_table (view v))) vs ≡ true → length (filter_map as_table (map view vs)) ≡ length vs
as_many [] h = refl
as_many (v ∷ vs) h =
    let (here, more) = and_parts (is_some (as_table (view v))) (are_tables vs) h in
    one_more (as_table (view v)) (filter_map as_table (map view vs)) here ∙ ap suc (as_many vs more)
