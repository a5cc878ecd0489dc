-- The runs that the code finds are those of the definitions, and what their bytes are.
use Rattle.std.proofs.Common.{◌≡◌, ℕ, zero, suc, ◌+◌, ◌≤◌, ◌<◌, ◌-◌, List, [], ◌∷◌, Bool, true, false, if◌then◌else◌, length, get_or, take, drop, refl, sym, ◌∙◌, ap, subst, arith, inl, inr}
use Rattle.std.specs.Str.{IsAscii}
use Rattle.std.proofs.lemmas.Bool.{cases_lt}
use Rattle.std.proofs.lemmas.List.{drop-drop, length-drop}
use Rattle.std.proofs.lemmas.Str.Ascii.{IsAscii-nil, IsAscii-cons}
use Rattle.ac_tree.specs.declared.token.ByteKind.{ByteKind}
use Rattle.ac_tree.specs.declared.token.ByteKind.TheVariants.{Newline, Blank, Letter, Digit, Underscore, Other}
use Rattle.ac_tree.specs.Tokens.{kind_of_byte, Each, Ends}
use Rattle.ac_tokens.specs.declared.run.Run.{Run}
use Rattle.ac_tokens.specs.declared.run.Run.TheVariants as run
use Rattle.ac_tokens.specs.Runs.{goes_on, front, behind, IsRun, GoesOn, IsRunFrom}
use Rattle.ac_tokens.proofs.ByteKinds.{high_is_other}

pub run_is : (r : Run) (bytes : List ℕ) (n : ℕ) → n ≤ length bytes → ((k : ℕ) → k < n → goes_on r (kind_of_byte (get_or bytes k 0)) ≡ true) →
    (n < length bytes → goes_on r (kind_of_byte (get_or bytes n 0)) ≡ false) → IsRun r bytes n
run_is r [] zero h all_ stop = record { inside = h; ahead = refl; after = refl }
run_is r [] (suc n) h all_ stop = absurd (omega arith)
run_is r (b ∷ bytes) zero h all_ stop =
    let f = stop (omega arith) in
    record { inside = h; ahead = ap (λ (t : Bool). if t then b ∷ front r bytes else []) f; after = ap (λ (t : Bool). if t then behind r bytes else b ∷ bytes) f }
run_is r (b ∷ bytes) (suc n) h all_ stop =
    let t = all_ 0 (omega arith) in
    let i = run_is r bytes n (omega arith) (λ k j. all_ (suc k) (omega arith)) (λ j. stop (omega arith)) in
    record {
      inside = h;
      ahead = ap (λ (t : Bool). if t then b ∷ front r bytes else []) t ∙ ap (λ l. b ∷ l) i.ahead;
      after = ap (λ (t : Bool). if t then behind r bytes else b ∷ bytes) t ∙ i.after;
    }

-- what a run goes on with, as a fact

on : (r : Run) (k : ByteKind) → goes_on r k ≡ true → GoesOn r k
on run.Name Letter e = tt
on run.Name Digit e = tt
on run.Name Underscore e = tt
on run.Name _ e = absurd (cc)
on run.Bound Letter e = tt
on run.Bound Digit e = tt
on run.Bound _ e = absurd (cc)
on run.Number Digit e = tt
on run.Number _ e = absurd (cc)
on run.Line Newline e = absurd (cc)
on run.Line _ e = tt
on run.Blank Blank e = tt
on run.Blank Newline e = tt
on run.Blank _ e = absurd (cc)

off : (r : Run) (k : ByteKind) → goes_on r k ≡ false → GoesOn r k → ⊥
off run.Name Letter e f = cc
off run.Name Digit e f = cc
off run.Name Underscore e f = cc
off run.Name _ e f = f
off run.Bound Letter e f = cc
off run.Bound Digit e f = cc
off run.Bound _ e f = f
off run.Number Digit e f = cc
off run.Number _ e f = f
off run.Line Newline e f = f
off run.Line _ e f = cc
off run.Blank Blank e f = cc
off run.Blank Newline e f = cc
off run.Blank _ e f = f

-- the front of a run has bytes of the kind alone, and what follows begins with none

each_front : (r : Run) (bytes : List ℕ) → Each (GoesOn r) (front r bytes)
each_front r [] = tt
each_front r (b ∷ bytes) =
    (elim (goes_on r (kind_of_byte b)) as (λ (t : Bool). t ≡ goes_on r (kind_of_byte b) → Each (GoesOn r) (if t then b ∷ front r bytes else [])) [
      | true ↦ λ e. (on r (kind_of_byte b) (sym e), each_front r bytes)
      | false ↦ λ e. tt
    ])
    refl

ends_behind : (r : Run) (bytes : List ℕ) → Ends (GoesOn r) (behind r bytes)
ends_behind r [] = tt
ends_behind r (b ∷ bytes) =
    (elim (goes_on r (kind_of_byte b)) as (λ (t : Bool). t ≡ goes_on r (kind_of_byte b) → Ends (GoesOn r) (if t then behind r bytes else b ∷ bytes)) [
      | true ↦ λ e. ends_behind r bytes
      | false ↦ λ e. off r (kind_of_byte b) (sym e)
    ])
    refl

-- a run at a place
pub run_from : (r : Run) (bytes : List ℕ) (from n : ℕ) → from ≤ length bytes → IsRun r (drop from bytes) n → IsRunFrom (GoesOn r) bytes from (from + n)
run_from r bytes from n h i =
    let inside : n ≤ length (drop from bytes) = i.inside in
    let m : from + n - from ≡ n = omega arith in
    record {
      ahead = omega arith;
      inside = omega (arith, length-drop from bytes);
      each = subst (λ k. Each (GoesOn r) (take k (drop from bytes))) (sym m) (subst (λ l. Each (GoesOn r) l) i.ahead (each_front r (drop from bytes)));
      ends = subst (λ l. Ends (GoesOn r) l) (i.after ∙ drop-drop n from bytes) (ends_behind r (drop from bytes));
    }

-- all but the run of a line are in ASCII

abbrev pub IsInAscii : Run → Type 0
IsInAscii run.Line = ⊥
IsInAscii _ = Unit {0}

other_stops : (r : Run) → IsInAscii r → goes_on r Other ≡ false
other_stops run.Line f = absurd f
other_stops _ f = refl

run_byte_ascii : (r : Run) (b : ℕ) → IsInAscii r → goes_on r (kind_of_byte b) ≡ true → b < 128
run_byte_ascii r b a h =
    elim (cases_lt b 128) [
      | inl i ↦ i
      | inr i ↦ absurd (let e = ap (goes_on r) (high_is_other b i) ∙ other_stops r a in cc)
    ]

front_ascii : (r : Run) (bytes : List ℕ) → IsInAscii r → IsAscii (front r bytes)
front_ascii r [] a = IsAscii-nil
front_ascii r (b ∷ bytes) a =
    (elim (goes_on r (kind_of_byte b)) as (λ (t : Bool). t ≡ goes_on r (kind_of_byte b) → IsAscii (if t then b ∷ front r bytes else [])) [
      | true ↦ λ e. IsAscii-cons b (front r bytes) (run_byte_ascii r b a (sym e)) (front_ascii r bytes a)
      | false ↦ λ e. IsAscii-nil
    ])
    refl

pub run_ascii : (r : Run) (bytes : List ℕ) (n : ℕ) → IsInAscii r → IsRun r bytes n → IsAscii (take n bytes)
run_ascii r bytes n a i = subst IsAscii i.ahead (front_ascii r bytes a)

pub letter_ascii : (b : ℕ) → kind_of_byte b ≡ Letter → b < 128
letter_ascii b h = run_byte_ascii run.Name b tt (ap (goes_on run.Name) h)
