-- A reader goes through a text: where it begins, goes on, is stuck and ends.
use Rattle.std.proofs.Common.{◌≡◌, ℕ, zero, suc, ◌+◌, ◌≤◌, ◌<◌, ◌⊎◌, inl, inr, List, [], ◌∷◌, length, take, drop, ◌-◌, Option, Some, None, Ok, Err, refl, sym, ◌∙◌, ap, subst, arith}
use Rattle.ac_formula_printer.specs.declared.mark.FormulaMark.{FormulaMark}
use Rattle.ac_formula_machine.specs.declared.machine_state.State.{State}
use Rattle.ac_formula_reader.specs.declared.read.Advance.{Advance}
use Rattle.ac_tokens.specs.declared.run.Run.TheVariants as run
use Rattle.ac_formula_reader.specs.declared.read.FormulaFault.{FormulaFault}
use Rattle.ac_formula_reader.specs.declared.read.FormulaFault.TheVariants.{At, OutOfMemory}
use Rattle.ac_formula_printer.specs.FormulaText.{Goal, Tree}
use Rattle.ac_tokens.specs.Runs.{behind, IsRun}
use Rattle.ac_formula_printer.specs.FormulaTokens.{IsRefusedAt, first_token}
use Rattle.ac_formula_reader.specs.Refusals.{IsFault}
use Rattle.ac_formula_machine.specs.FormulaMachine.{Stack, stepped, begun, ended}
use Rattle.ac_formula_reader.specs.FormulaReached.{IsReached}
use Rattle.ac_formula_reader.specs.FormulaPieces.{Advances, IsRead, IsFaultAt}
use Rattle.ac_formula_reader.proofs.Reading.{reached_start, reached_more, refused_token, refused_fault, refused_end, accepted_end, refusal_excludes}

-- what the reader keeps
abbrev pub Runs : State → List ℕ → Stack → State → ℕ → Type 0
Runs b bytes k s at = (g : Goal) → b ≡ begun g → IsReached g bytes k s (drop at bytes)

pub run_begins : (b : State) (bytes : List ℕ) (n : ℕ) → IsRun run.Blank bytes n → Runs b bytes [] b n
run_begins b bytes n r g e = subst (λ s. IsReached g bytes [] s (drop n bytes)) (sym e) (reached_start g bytes (drop n bytes) r.after)

drop_none : (n : ℕ) → ◌≡◌ {A = List ℕ} [] (drop n [])
drop_none zero = refl
drop_none (suc n) = refl

drop_more : (n m : ℕ) (bytes : List ℕ) → drop m (drop n bytes) ≡ drop (n + m) bytes
drop_more zero m bytes = let e : m ≡ 0 + m = omega arith in ap (λ n. drop n bytes) e
drop_more (suc n) m [] = sym (drop_none m) ∙ drop_none (suc n + m)
drop_more (suc n) m (b ∷ bytes) = let e : suc (n + m) ≡ suc n + m = omega arith in drop_more n m bytes ∙ ap (λ i. drop i (b ∷ bytes)) e

length_drop : (n : ℕ) (bytes : List ℕ) → n ≤ length bytes → n + length (drop n bytes) ≡ length bytes
length_drop zero bytes h = omega arith
length_drop (suc n) [] h = absurd (omega arith)
length_drop (suc n) (b ∷ bytes) h = let i = length_drop n bytes (omega arith) in omega (arith, i)

take_all : (n : ℕ) (bytes : List ℕ) → length bytes ≤ n → take n bytes ≡ bytes
take_all zero [] h = refl
take_all zero (b ∷ bytes) h = absurd (omega arith)
take_all (suc n) [] h = refl
take_all (suc n) (b ∷ bytes) h = ap (λ l. b ∷ l) (take_all n bytes (omega arith))

-- what the slice from a place on is
pub advances_at : (bytes : List ℕ) (k j : Stack) (s : State) (at : ℕ) (o a : Option Advance) → at ≤ length bytes → o ≡ a → Advances k s (take (length bytes - at) (drop at bytes)) j o → Advances k s (drop at bytes) j a
advances_at bytes k j s at o a h e v =
    let i = length_drop at bytes h in
    let same = take_all (length bytes - at) (drop at bytes) (omega (arith, i)) in
    subst (λ (q : Option Advance). Advances k s (drop at bytes) j q) e (subst (λ left. Advances k s left j o) same v)

pub run_goes_on : (b : State) (bytes : List ℕ) (k j : Stack) (s : State) (at : ℕ) (a : Advance) → Runs b bytes k s at → Advances k s (drop at bytes) j (Some a) → Runs b bytes j a.state (at + a.len)
run_goes_on b bytes k j s at a r (m, rest, f, u, n, p, q) g e =
    subst (λ left. IsReached g bytes j a.state left) (drop_more at a.len bytes) (reached_more g bytes (drop at bytes) rest (drop a.len (drop at bytes)) k j s a.state m (r g e) f u n)

pub run_inside : (bytes : List ℕ) (k j : Stack) (s : State) (at : ℕ) (a : Advance) → at ≤ length bytes → Advances k s (drop at bytes) j (Some a) → (0 < a.len) × (at + a.len ≤ length bytes)
run_inside bytes k j s at a h (m, rest, f, u, n, p, q) = let i = length_drop at bytes h in (p, omega (arith, i, q))

stuck : (g : Goal) (bytes left : List ℕ) (k j : Stack) (s : State) (place : ℕ) → IsReached g bytes k s left → 0 < length left → place + length left ≡ length bytes → Advances k s left j None → IsRefusedAt g bytes place
stuck g bytes left k j s place i h at (inl f) = refused_fault g bytes left k s place i h f at
stuck g bytes left k j s place i h at (inr (m, rest, f, u)) = refused_token g bytes left rest k s m place i f u at

pub run_stuck : (b : State) (bytes : List ℕ) (k j : Stack) (s : State) (at : ℕ) → at < length bytes → Runs b bytes k s at → Advances k s (drop at bytes) j None → (g : Goal) → b ≡ begun g → IsRefusedAt g bytes at
run_stuck b bytes k j s at h r n g e =
    let i = length_drop at bytes (omega arith) in
    stuck g bytes (drop at bytes) k j s at (r g e) (omega (arith, i)) i n

drop_all : (n : ℕ) (bytes : List ℕ) → length bytes ≤ n → drop n bytes ≡ []
drop_all zero [] h = refl
drop_all zero (b ∷ bytes) h = absurd (omega arith)
drop_all (suc n) [] h = refl
drop_all (suc n) (b ∷ bytes) h = drop_all n bytes (omega arith)

pub run_ends : (b : State) (bytes : List ℕ) (k : Stack) (s : State) (at : ℕ) → length bytes ≤ at → Runs b bytes k s at → (g : Goal) → b ≡ begun g → IsReached g bytes k s []
run_ends b bytes k s at h r g e = subst (λ left. IsReached g bytes k s left) (drop_all at bytes h) (r g e)

-- the end of a whole text, or of an unfinished one
pub text_ends : (g : Goal) (bytes : List ℕ) (k : Stack) (s : State) (o p : Option (Tree g)) → IsReached g bytes k s [] → o ≡ ended g k s → o ≡ p → IsRead g bytes (elim p [ None ↦ Err (length bytes) | Some t ↦ Ok t ])
text_ends g bytes k s o None i e n = refused_end g bytes k s i (sym e ∙ n)
text_ends g bytes k s o (Some t) i e n = accepted_end g bytes k s t i (sym e ∙ n)

-- a text that is refused is none
pub refused_is : (g : Goal) (bytes : List ℕ) (place : ℕ) (e : FormulaFault) → IsRefusedAt g bytes place → IsFaultAt place e → IsFault g bytes e
refused_is g bytes place (At at) r e = let q = subst (λ p. IsRefusedAt g bytes p) (sym e) r in (λ t. refusal_excludes g bytes at t q, q)
refused_is g bytes place OutOfMemory r e = tt
