-- The table of first places, name by name.
use Rattle.std.proofs.Common.{◌≡◌, ℕ, suc, ◌+◌, ◌<◌, ◌≤◌, Bool, true, false, cond, List, [], ◌∷◌, ◌++◌, length, map, take, get_or, refl, ap, sym, ◌∙◌, subst, if◌then◌else◌, arith}
use Rattle.std.specs.Prelude.{Option, Some, None, is_some}
use Rattle.std.specs.Option.{option_map}
use Rattle.std.specs.Str.{bytes_eq}
use Rattle.std.specs.Map.{lookup}
use Rattle.indexmap.specs.IndexMap.{insert_entry}
use Rattle.std.proofs.lemmas.Bool.{false≢true}
use Rattle.std.proofs.lemmas.Cmp.{nat_list_eq_equiv}
use Rattle.std.proofs.lemmas.List.{take_all, map_more, length-map, length-take}
use Rattle.std.proofs.lemmas.Slice.Eq.{bytes_eq-Decides}
use Rattle.ac_run.specs.Declarations.{NameBytes}
use Rattle.ac_evaluation.specs.Places.{Entries, place_of, ArePlaces}

abbrev or_else : {A : Type 0} → Option A → Option A → Option A
or_else (Some a) o = Some a
or_else None o = o

place_of-snoc : (names : List NameBytes) (n x : NameBytes) → place_of (names ++ n ∷ []) x ≡ or_else (place_of names x) (if bytes_eq n x then Some (length names) else None)
place_of-snoc [] n x = refl
place_of-snoc (e ∷ es) n x = by (bytes_eq e x) (bytes_eq n x) (place_of es x) (place_of-snoc es n x)
  where
    by : (b d : Bool) (o : Option ℕ) → place_of (es ++ n ∷ []) x ≡ or_else o (if d then Some (length es) else None) →
        cond b (Some 0) (option_map (λ i. i + 1) (place_of (es ++ n ∷ []) x)) ≡ or_else (cond b (Some 0) (option_map (λ i. i + 1) o)) (if d then Some (suc (length es)) else None)
    by true d o rest = refl
    by false d (Some i) rest = ap (λ (q : Option ℕ). option_map (λ i. i + 1) q) rest
    by false true None rest = ap (λ (q : Option ℕ). option_map (λ i. i + 1) q) rest ∙ ap (λ (i : ℕ). Some i) (omega arith)
    by false false None rest = ap (λ (q : Option ℕ). option_map (λ i. i + 1) q) rest

lookup-snoc : (es : Entries) (k : NameBytes) (v : ℕ) (x : NameBytes) → lookup (bytes_eq x) (es ++ (k, v) ∷ []) ≡ or_else (lookup (bytes_eq x) es) (if bytes_eq x k then Some v else None)
lookup-snoc [] k v x = refl
lookup-snoc (e ∷ es) k v x = by (bytes_eq x e.0) (lookup-snoc es k v x)
  where
    by : (b : Bool) → lookup (bytes_eq x) (es ++ (k, v) ∷ []) ≡ or_else (lookup (bytes_eq x) es) (if bytes_eq x k then Some v else None) →
        cond b (Some e.1) (lookup (bytes_eq x) (es ++ (k, v) ∷ [])) ≡ or_else (cond b (Some e.1) (lookup (bytes_eq x) es)) (if bytes_eq x k then Some v else None)
    by true rest = refl
    by false rest = rest

insert_absent : (es : Entries) (k : NameBytes) (v : ℕ) → lookup (bytes_eq k) es ≡ None → insert_entry bytes_eq es k v ≡ es ++ (k, v) ∷ []
insert_absent [] k v h = refl
insert_absent (e ∷ es) k v h = by (bytes_eq k e.0) (insert_absent es k v) h
  where
    by : (b : Bool) → (lookup (bytes_eq k) es ≡ None → insert_entry bytes_eq es k v ≡ es ++ (k, v) ∷ []) → cond b (Some e.1) (lookup (bytes_eq k) es) ≡ None →
        cond b ((e.0, v) ∷ es) (e ∷ insert_entry bytes_eq es k v) ≡ e ∷ (es ++ (k, v) ∷ [])
    by true rest h = cc
    by false rest h = ap (λ (xs : Entries). e ∷ xs) (rest h)

still : (b : Bool) (o : Option ℕ) (v : ℕ) → (b ≡ true → o ≡ None → ⊥) → or_else o (if b then Some v else None) ≡ o
still b (Some k) v there = refl
still true None v there = absurd (there refl refl)
still false None v there = refl

absent_of : {A : Type 0} (o : Option A) (b : Bool) → b ≡ is_some o → b ≡ false → o ≡ None
absent_of None b e none = refl
absent_of (Some a) b e none = absurd (false≢true (sym none ∙ e))

there_of : {A : Type 0} (o : Option A) (b : Bool) → b ≡ is_some o → b ≡ true → o ≡ None → ⊥
there_of o b e there none = false≢true (sym (sym there ∙ e ∙ ap is_some none))

-- a new name goes into the table
pub entered : (names : List NameBytes) (n : NameBytes) (entries after : Entries) (key : NameBytes) (value : ℕ) (b : Bool) →
    ArePlaces names entries → key ≡ n → value ≡ length names → b ≡ is_some (lookup (bytes_eq n) entries) → b ≡ false → after ≡ insert_entry bytes_eq entries key value →
    ArePlaces (names ++ n ∷ []) after
entered names n entries after key value b so_far named placed found none inserted x =
    let absent : lookup (bytes_eq key) entries ≡ None = ap (λ (k : NameBytes). lookup (bytes_eq k) entries) named ∙ absent_of (lookup (bytes_eq n) entries) b found none in
    let is : after ≡ entries ++ (n, length names) ∷ [] =
    inserted ∙ insert_absent entries key value absent ∙ ap (λ (k : NameBytes). entries ++ (k, value) ∷ []) named ∙ ap (λ (v : ℕ). entries ++ (n, v) ∷ []) placed in
    ap (λ (es : Entries). lookup (bytes_eq x) es) is
    ∙ lookup-snoc entries n (length names) x
    ∙ ap (λ (o : Option ℕ). or_else o (if bytes_eq x n then Some (length names) else None)) (so_far x)
    ∙ ap (λ (b : Bool). or_else (place_of names x) (if b then Some (length names) else None)) (nat_list_eq_equiv.symm x n)
    ∙ sym (place_of-snoc names n x)

-- a name that has an entry keeps it
pub kept : (names : List NameBytes) (n : NameBytes) (entries after : Entries) (b : Bool) →
    ArePlaces names entries → b ≡ is_some (lookup (bytes_eq n) entries) → b ≡ true → after ≡ entries → ArePlaces (names ++ n ∷ []) after
kept names n entries after b so_far found there same x =
    let known : bytes_eq n x ≡ true → place_of names x ≡ None → ⊥ =
    λ is none. there_of (lookup (bytes_eq n) entries) b found there (so_far n ∙ ap (place_of names) ((bytes_eq-Decides n x).0 is) ∙ none) in
    ap (λ (es : Entries). lookup (bytes_eq x) es) same ∙ so_far x ∙ sym (place_of-snoc names n x ∙ still (bytes_eq n x) (place_of names x) (length names) known)

-- The same, for the names of a list of things.
module _ {A : Type 0} (name : A → NameBytes) (xs : List A) (i : ℕ) (d : A) (low : i < length xs) (e : d ≡ get_or xs i d) where
  next_names : map name (take (i + 1) xs) ≡ map name (take i xs) ++ name d ∷ []
  next_names = map_more name xs i d low ∙ ap (λ (y : A). map name (take i xs) ++ name y ∷ []) (sym e)

  pub entered_next : (entries after : Entries) (key : NameBytes) (b : Bool) → ArePlaces (map name (take i xs)) entries → key ≡ name d →
      b ≡ is_some (lookup (bytes_eq (name d)) entries) → b ≡ false → after ≡ insert_entry bytes_eq entries key i → ArePlaces (map name (take (i + 1) xs)) after
  entered_next entries after key b so_far named found none inserted =
      let count : i ≡ length (map name (take i xs)) = omega (arith, length-map (take i xs) name, length-take i xs) in
      subst (λ (ns : List NameBytes). ArePlaces ns after) (sym next_names) (entered (map name (take i xs)) (name d) entries after key i b so_far named count found none inserted)

  pub kept_next : (entries after : Entries) (b : Bool) → ArePlaces (map name (take i xs)) entries → b ≡ is_some (lookup (bytes_eq (name d)) entries) → b ≡ true → after ≡ entries →
      ArePlaces (map name (take (i + 1) xs)) after
  kept_next entries after b so_far found there same =
      subst (λ (ns : List NameBytes). ArePlaces ns after) (sym next_names) (kept (map name (take i xs)) (name d) entries after b so_far found there same)

pub all_entered : {A : Type 0} (name : A → NameBytes) (xs : List A) (i : ℕ) (entries : Entries) → length xs ≤ i → ArePlaces (map name (take i xs)) entries → ArePlaces (map name xs) entries
all_entered {A = A} name xs i entries all so_far = subst (λ (ds : List A). ArePlaces (map name ds) entries) (take_all i xs all) so_far
