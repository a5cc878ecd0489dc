-- What the value at a key says, or None where it has not the shape that its key asks for.
use Rattle.std.specs.Prelude.{◌==◌, List, [], ◌∷◌, codes, pos, filter, Bool, true, false, not, ◌&&◌, Option, Some, None, is_some, option_map, option_and_then, if◌then◌else◌, bytes_eq}
use Rattle.std.specs.List.{list_any, list_all}
use Rattle.ac_tree.specs.declared.policy.PolicyName.{PolicyName}
use Rattle.ac_tree.specs.declared.policy.PolicyName.TheVariants as policy
use Rattle.ac_tree.specs.declared.token.ByteKind.{ByteKind}
use Rattle.ac_tree.specs.declared.token.ByteKind.TheVariants.{Letter, Digit, Underscore}
use Rattle.ac_tree.specs.Tokens.{kind_of_byte, keyword_of}
use Rattle.toml.specs.Data.{Data, integer, Items, no_items, item, Members, as_str, as_array, as_table}
use Rattle.ac_policy_table.specs.Keys.{Bytes}
use Rattle.ac_policy_table.specs.declared.pattern_table.ApartPair.{ApartPair}

-- ---- values that may be left out, lists, and tests

abbrev pub or_absent : {A : Type 0} → A → (Data → Option A) → Option Data → Option A
or_absent absent read None = Some absent
or_absent absent read (Some d) = read d

abbrev pub list_of : Items → List Data
list_of no_items = []
list_of (item d ds) = d ∷ list_of ds

-- the items of a list
abbrev pub items_in : Data → Option (List Data)
items_in d = option_map list_of (as_array d)

-- what each item says, where each has its shape
abbrev pub each : {A : Type 0} → (Data → Option A) → List Data → Option (List A)
each read [] = Some []
each read (d ∷ ds) = option_and_then (λ x. option_map (λ xs. x ∷ xs) (each read ds)) (read d)

abbrev pub each_in : {A : Type 0} → (Data → Option A) → Data → Option (List A)
each_in read d = option_and_then (each read) (items_in d)

-- what passes the test
abbrev pub passing : {A : Type 0} → (A → Bool) → Option A → Option A
passing test None = None
passing test (Some x) = if test x then Some x else None

-- no two are the same
abbrev pub are_different : {A : Type 0} → (A → A → Bool) → List A → Bool
are_different same [] = true
are_different same (x ∷ xs) = not (list_any (λ y. same y x) xs) && are_different same xs

abbrev pub is_empty : {A : Type 0} → List A → Bool
is_empty [] = true
is_empty (x ∷ xs) = false

-- ---- policies

abbrev pub policy_named : Bytes → Option PolicyName
policy_named t = if bytes_eq t (codes "init") then Some policy.Init
    else if bytes_eq t (codes "bounds") then Some policy.Bounds
    else if bytes_eq t (codes "symm") then Some policy.Symm else None

abbrev pub same_policy : PolicyName → PolicyName → Bool
same_policy policy.Init policy.Init = true
same_policy policy.Bounds policy.Bounds = true
same_policy policy.Symm policy.Symm = true
same_policy _ _ = false

-- one policy or more, and so three at most, none of them twice, in the order in which they are written
abbrev pub policies_in : Data → Option (List PolicyName)
policies_in d = passing (λ ps. not (is_empty ps) && are_different same_policy ps) (each_in (λ d. option_and_then policy_named (as_str d)) d)

abbrev pub fixed_order : List PolicyName
fixed_order = policy.Init ∷ policy.Bounds ∷ policy.Symm ∷ []

-- the same policies in their fixed order
abbrev pub in_fixed_order : List PolicyName → List PolicyName
in_fixed_order ps = filter (λ p. list_any (λ q. same_policy q p) ps) fixed_order

-- ---- roles

-- a name goes on with letters, digits and _
abbrev pub goes_on : ByteKind → Bool
goes_on Letter = true
goes_on Digit = true
goes_on Underscore = true
goes_on _ = false

abbrev pub is_letter : ByteKind → Bool
is_letter Letter = true
is_letter _ = false

-- a letter, then letters, digits and _, and no reserved word
abbrev pub is_name : Bytes → Bool
is_name [] = false
is_name (b ∷ more) = is_letter (kind_of_byte b) && (list_all (λ c. goes_on (kind_of_byte c)) more && not (is_some (keyword_of (b ∷ more))))

-- names of the language, none of them twice
abbrev pub roles_in : Data → Option (List Bytes)
roles_in d = passing (are_different bytes_eq) (each_in (λ d. passing is_name (as_str d)) d)

-- ---- texts and tables

abbrev pub texts_in : Data → Option (List Bytes)
texts_in d = each_in as_str d

-- a list of two texts
abbrev pub paired : Option Bytes → Option Bytes → Option ApartPair
paired (Some metavariable) (Some name) = Some (record { metavariable = metavariable; name = name })
paired _ _ = None

abbrev pub pair_of : List Data → Option ApartPair
pair_of (d ∷ e ∷ []) = paired (as_str d) (as_str e)
pair_of _ = None

abbrev pub pairs_in : Data → Option (List ApartPair)
pairs_in d = each_in (λ d. option_and_then pair_of (items_in d)) d

abbrev pub tables_in : Data → Option (List Members)
tables_in d = each_in as_table d

-- the integer 1
abbrev pub is_one : Data → Bool
is_one (integer (pos n)) = n == 1
is_one _ = false
