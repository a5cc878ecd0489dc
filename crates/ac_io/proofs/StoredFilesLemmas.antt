-- A list of files by name, after one file changed or was added.
use Rattle.std.proofs.Common.{◌≡◌, ◌≢◌, ℕ, ◌+◌, Bool, true, false, List, [], ◌∷◌, ◌++◌, length, get_or, slice_get, nat_lt, inl, inr, find, position, Option, Some, None, refl, sym, ap, ◌∙◌}
use Rattle.std.proofs.Math.ListN.{set}
use Rattle.std.specs.List.{position_or_len}
use Rattle.std.specs.Str.{bytes_eq}
use Rattle.std.proofs.lemmas.Slice.Eq.{bytes_eq-Decides}
use Rattle.std.proofs.lemmas.List.Folds.{find_at, find-set, find_past, find-append}
use Rattle.std.proofs.lemmas.List.Quantifiers.{position-Some}
use Rattle.std.proofs.lemmas.Option.{slice_get-get_or, slice_get_past}
use Rattle.std.proofs.lemmas.Bool.{cases_Bool, cond-true, cond-false, ltb-false, false_from_ne_true}
use Rattle.std.proofs.lemmas.Bool.Decides.{not_from_Decides}
use Rattle.std.specs.Option.{option_or}
use Rattle.ac_io.specs.StoredFile.{StoredFile, has_name, bytes_of, room_of}
use Rattle.ac_io.specs.StoredFiles.{SameBytes}

-- a file has its name and no other
has_name-same : (name : List ℕ) (file : StoredFile) → file.name ≡ name → has_name name file ≡ true
has_name-same name file same = (bytes_eq-Decides file.name name).1 same

has_name-other : (name : List ℕ) (file : StoredFile) → name ≢ file.name → has_name name file ≡ false
has_name-other name file differ =
    false_from_ne_true (has_name name file) (λ t. differ (sym ((bytes_eq-Decides file.name name).0 t)))

-- the place of a name is the first of its files
place_is : (p : StoredFile → Bool) (files : List StoredFile) (place : ℕ) → position p files ≡ Some place → place ≡ position_or_len p files
place_is p files place at =
    let n = position_or_len p files in
    elim (cases_Bool (nat_lt n (length files))) [
      | inl t ↦ let e = cond-true (nat_lt n (length files)) (Some n) None t in cc
      | inr f ↦ let e = cond-false (nat_lt n (length files)) (Some n) None f in cc
    ]

-- the file at the place of a name has that name
pub name-at : (name : List ℕ) (files : List StoredFile) (place : ℕ) (file : StoredFile) → position (has_name name) files ≡ Some place → (get_or files place file).name ≡ name
name-at name files place file at = (bytes_eq-Decides (get_or files place file).name name).0 (position-Some (has_name name) files place file at).1

pub find-at : (name : List ℕ) (files : List StoredFile) (place : ℕ) (file : StoredFile) → position (has_name name) files ≡ Some place → find (has_name name) files ≡ Some (get_or files place file)
find-at name files place file at =
    find_at (has_name name) files ∙ ap (slice_get files) (sym (place_is (has_name name) files place at)) ∙ slice_get-get_or files place file (position-Some (has_name name) files place file at).0

pub find-none : (name : List ℕ) (files : List StoredFile) → position (has_name name) files ≡ None → find (has_name name) files ≡ None
find-none name files absent =
    let n = position_or_len (has_name name) files in
    elim (cases_Bool (nat_lt n (length files))) [
      | inl t ↦ let e = cond-true (nat_lt n (length files)) (Some n) None t in cc
      | inr f ↦ find_at (has_name name) files ∙ slice_get_past files n (ltb-false n (length files) f)
    ]

-- after a change of its file, a name has the new file
pub find-changed : (name : List ℕ) (files : List StoredFile) (place : ℕ) (file : StoredFile) → position (has_name name) files ≡ Some place → file.name ≡ name → find (has_name name) (set files place file) ≡ Some file
find-changed name files place file at same =
    find-set (has_name name) files place file (place_is (has_name name) files place at) (position-Some (has_name name) files place file at).0 (has_name-same name file same)

-- and every other name has the file that it had
pub find-changed_other : (name other : List ℕ) (files : List StoredFile) (place : ℕ) (file : StoredFile) → position (has_name name) files ≡ Some place → file.name ≡ name → other ≢ name → find (has_name other) (set files place file) ≡ find (has_name other) files
find-changed_other name other files place file at same differ =
    let old = name-at name files place file at in
    find_past (has_name other) files place file file (has_name-other other (get_or files place file) (λ e. differ (e ∙ old))) (has_name-other other file (λ e. differ (e ∙ same)))

-- the same for a file that was added
or_none : (o : Option StoredFile) → option_or o None ≡ o
or_none None = refl
or_none (Some file) = refl

pub find-pushed : (name : List ℕ) (files : List StoredFile) (file : StoredFile) → position (has_name name) files ≡ None → file.name ≡ name → find (has_name name) (files ++ file ∷ []) ≡ Some file
find-pushed name files file absent same =
    find-append (has_name name) files (file ∷ []) ∙ ap (λ o. option_or o (find (has_name name) (file ∷ []))) (find-none name files absent) ∙ cond-true (has_name name file) (Some file) None (has_name-same name file same)

pub find-pushed_other : (name other : List ℕ) (files : List StoredFile) (file : StoredFile) → file.name ≡ name → other ≢ name → find (has_name other) (files ++ file ∷ []) ≡ find (has_name other) files
find-pushed_other name other files file same differ =
    let fails = has_name-other other file (λ e. differ (e ∙ same)) in
    find-append (has_name other) files (file ∷ []) ∙ ap (λ o. option_or (find (has_name other) files) o) (cond-false (has_name other file) (Some file) None fails) ∙ or_none (find (has_name other) files)

-- what a name can take, by the place of its file
pub room-at : (name : List ℕ) (files : List StoredFile) (place : ℕ) (file : StoredFile) → position (has_name name) files ≡ Some place → file ≡ get_or files place file → room_of (find (has_name name) files) ≡ file.room + 1
room-at name files place file at is =
    ap room_of (find-at name files place file at) ∙ ap (λ (f : StoredFile). f.room + 1) (sym is)

pub room-none : (name : List ℕ) (files : List StoredFile) → position (has_name name) files ≡ None → room_of (find (has_name name) files) ≡ 0
room-none name files absent = ap room_of (find-none name files absent)

-- a change of a file that leaves its name and its bytes leaves all contents
pub bytes-changed : (name : List ℕ) (files : List StoredFile) (place : ℕ) (file old : StoredFile) → position (has_name name) files ≡ Some place → file.name ≡ name → old ≡ get_or files place old → file.bytes ≡ old.bytes → SameBytes files (set files place file)
bytes-changed name files place file old at same was stays other =
    elim (cases_Bool (bytes_eq other name)) [
      | inl t ↦
          let is = (bytes_eq-Decides other name).0 t in
          let here : bytes_of (find (has_name name) (set files place file)) ≡ bytes_of (find (has_name name) files) =
          ap bytes_of (find-changed name files place file at same) ∙ stays ∙ ap (λ (f : StoredFile). f.bytes) was ∙ ap bytes_of (sym (find-at name files place old at)) in
          rw is here
      | inr f ↦ ap bytes_of (find-changed_other name other files place file at same (not_from_Decides (bytes_eq other name) (bytes_eq-Decides other name) f))
    ]

pub room-changed : (name : List ℕ) (files : List StoredFile) (place : ℕ) (file : StoredFile) → position (has_name name) files ≡ Some place → file.name ≡ name → room_of (find (has_name name) (set files place file)) ≡ file.room + 1
room-changed name files place file at same = ap room_of (find-changed name files place file at same)

pub room-pushed : (name : List ℕ) (files : List StoredFile) (file : StoredFile) → position (has_name name) files ≡ None → file.name ≡ name → room_of (find (has_name name) (files ++ file ∷ [])) ≡ file.room + 1
room-pushed name files file absent same = ap room_of (find-pushed name files file absent same)

-- so does a file without contents that is added
pub bytes-pushed : (name : List ℕ) (files : List StoredFile) (file : StoredFile) → position (has_name name) files ≡ None → file.name ≡ name → file.bytes ≡ None → SameBytes files (files ++ file ∷ [])
bytes-pushed name files file absent same empty other =
    elim (cases_Bool (bytes_eq other name)) [
      | inl t ↦
          let is = (bytes_eq-Decides other name).0 t in
          let here : bytes_of (find (has_name name) (files ++ file ∷ [])) ≡ bytes_of (find (has_name name) files) =
          ap bytes_of (find-pushed name files file absent same) ∙ empty ∙ ap bytes_of (sym (find-none name files absent)) in
          rw is here
      | inr f ↦ ap bytes_of (find-pushed_other name other files file same (not_from_Decides (bytes_eq other name) (bytes_eq-Decides other name) f))
    ]
