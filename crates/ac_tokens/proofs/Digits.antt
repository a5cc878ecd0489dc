-- The number that digits write, digit by digit.
use Rattle.std.proofs.Common.{◌≡◌, ℕ, ◌+◌, ◌*◌, ◌-◌, ◌≤◌, ◌<◌, List, [], ◌∷◌, ◌++◌, length, get_or, take, drop, arith, ap}
use Rattle.std.specs.List.{fold}
use Rattle.std.proofs.lemmas.List.{take-append-drop}
use Rattle.std.proofs.lemmas.List.Sums.{fold_more, fold-append}
use Rattle.ac_tree.specs.Tokens.{number_of}

pub number_more : (digits : List ℕ) (i : ℕ) → i < length digits → number_of (take (i + 1) digits) ≡ number_of (take i digits) * 10 + (get_or digits i 0 - 48)
number_more digits i h = fold_more (λ n d. n * 10 + (d - 48)) 0 digits i 0 h

number_grows : (n : ℕ) (digits : List ℕ) → n ≤ fold (λ n d. n * 10 + (d - 48)) n digits
number_grows n [] = omega arith
number_grows n (d ∷ digits) = omega (arith, number_grows (n * 10 + (d - 48)) digits)

pub number_front : (digits : List ℕ) (i : ℕ) → number_of (take i digits) ≤ number_of digits
number_front digits i =
    let e : number_of (take i digits ++ drop i digits) ≡ fold (λ n d. n * 10 + (d - 48)) (number_of (take i digits)) (drop i digits)
    = fold-append (λ n d. n * 10 + (d - 48)) 0 (take i digits) (drop i digits) in
    let f = ap number_of (take-append-drop i digits) in
    omega (arith, number_grows (number_of (take i digits)) (drop i digits))
