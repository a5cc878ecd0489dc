-- The test of names decides what a name is.
use Rattle.std.proofs.Common.{◌≡◌, ◌↔◌, ℕ, true, not, ◌&&◌, List, [], ◌∷◌, Option, Some, None, IsTrue, refl, rules}
use Rattle.std.specs.List.{list_all}
use Rattle.std.specs.Prelude.{is_some}
use Rattle.std.proofs.lemmas.Bool.{and_parts}
use Rattle.ac_tree.specs.declared.token.ByteKind.{ByteKind}
use Rattle.ac_tree.specs.declared.token.ByteKind.TheVariants.{Newline, Blank, Letter, Digit, Underscore, Hash, At, Dot, Lone, Other}
use Rattle.ac_tree.specs.declared.token.Keyword.{Keyword}
use Rattle.ac_tree.specs.Tokens.{kind_of_byte, keyword_of, InName, Each, IsName}
use Rattle.ac_policy_table.specs.Keys.{Bytes}
use Rattle.ac_policy_table.specs.Values.{goes_on, is_letter, is_name}

letter-to : (k : ByteKind) → is_letter k ≡ true → k ≡ Letter
letter-to Letter h = refl
letter-to Newline h = search rules
letter-to Blank h = search rules
letter-to Digit h = search rules
letter-to Underscore h = search rules
letter-to Hash h = search rules
letter-to At h = search rules
letter-to Dot h = search rules
letter-to (Lone s) h = search rules
letter-to Other h = search rules

in_name-to : (k : ByteKind) → goes_on k ≡ true → InName k
in_name-to Letter h = search rules
in_name-to Digit h = search rules
in_name-to Underscore h = search rules
in_name-to Newline h = search rules
in_name-to Blank h = search rules
in_name-to Hash h = search rules
in_name-to At h = search rules
in_name-to Dot h = search rules
in_name-to (Lone s) h = search rules
in_name-to Other h = search rules

in_name-from : (k : ByteKind) → InName k → goes_on k ≡ true
in_name-from Letter h = refl
in_name-from Digit h = refl
in_name-from Underscore h = refl
in_name-from Newline h = absurd h
in_name-from Blank h = absurd h
in_name-from Hash h = absurd h
in_name-from At h = absurd h
in_name-from Dot h = absurd h
in_name-from (Lone s) h = absurd h
in_name-from Other h = absurd h

each-to : (bs : List ℕ) → list_all (λ b. goes_on (kind_of_byte b)) bs ≡ true → Each InName bs
each-to [] h = search rules
each-to (b ∷ bs) h =
    let (here, more) = and_parts (goes_on (kind_of_byte b)) (list_all (λ c. goes_on (kind_of_byte c)) bs) h in
    (in_name-to (kind_of_byte b) here, each-to bs more)

each-from : (bs : List ℕ) → Each InName bs → list_all (λ b. goes_on (kind_of_byte b)) bs ≡ true
each-from [] h = refl
each-from (b ∷ bs) h = rw (in_name-from (kind_of_byte b) h.0, each-from bs h.1)

none-to : (o : Option Keyword) → not (is_some o) ≡ true → o ≡ None
none-to None h = refl
none-to (Some k) h = search rules

name-to : (t : Bytes) → is_name t ≡ true → IsName t
name-to [] h = search rules
name-to (b ∷ more) h =
    let (first, rest) = and_parts (is_letter (kind_of_byte b)) (list_all (λ c. goes_on (kind_of_byte c)) more && not (is_some (keyword_of (b ∷ more)))) h in
    let (behind, free) = and_parts (list_all (λ c. goes_on (kind_of_byte c)) more) (not (is_some (keyword_of (b ∷ more)))) rest in
    (letter-to (kind_of_byte b) first, each-to more behind, none-to (keyword_of (b ∷ more)) free)

name-from : (t : Bytes) → IsName t → is_name t ≡ true
name-from [] h = absurd h
name-from (b ∷ more) h = rw (h.0, each-from more h.1, h.2)

pub name_test : (t : Bytes) → IsTrue (is_name t) ↔ IsName t
name_test t = (name-to t, name-from t)
