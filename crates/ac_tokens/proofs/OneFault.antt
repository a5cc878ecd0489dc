-- The tokens of a text have at most one first fault.
use Rattle.std.proofs.Common.{◌≡◌, ℕ, ◌≤◌, ◌<◌, List, [], ◌∷◌, ◌++◌, length, refl, sym, ◌∙◌, ap, subst, arith, inl, inr, ◌⊎◌}
use Rattle.ac_tree.specs.declared.limit.LimitKind.TheVariants as limit
use Rattle.ac_tree.specs.Limits.{limit_of}
use Rattle.ac_tree.specs.declared.token.Mark.{Mark}
use Rattle.ac_tree.specs.declared.token.Mark.TheVariants as mark
use Rattle.ac_tree.specs.declared.token.Token.{Token}
use Rattle.ac_tree.specs.Tokens.{IsFault, token, Lexes}
use Rattle.ac_tokens.specs.declared.token_fault.TokenFault.{TokenFault}
use Rattle.ac_tokens.specs.declared.token_fault.TokenFault.TheVariants as fault
use Rattle.ac_tokens.specs.TokenFaults.{IsWithinLimits, AreWithinLimits, FaultsAt, IsFirstFault}
use Rattle.ac_tokens.proofs.OneCut.{Onward, meets, stuck, ahead, begins}

-- the fault of a token with this mark
abbrev large_fault : Mark → ℕ → TokenFault
large_fault (mark.Literal n) at = fault.Literal at
large_fault _ at = fault.Name at

-- a token above its limit begins here
record IsLarge (place : ℕ) (bytes : List ℕ) (f : TokenFault) : Type 0 where
  first : Token
  to : ℕ
  left : List ℕ
  start : first.span.start ≡ place
  large : IsWithinLimits first.mark → ⊥
  cut : Lexes place bytes (first ∷ []) to left
  told : f ≡ large_fault first.mark place

abbrev IsStuck : ℕ → List ℕ → TokenFault → Type 0
IsStuck place bytes f = (f ≡ fault.Token place) × IsFault bytes

known : (place : ℕ) (bytes : List ℕ) (f : TokenFault) → (f ≡ fault.OutOfMemory → ⊥) → FaultsAt place bytes f → IsStuck place bytes f ⊎ IsLarge place bytes f
known place bytes (fault.Token at) k h = inl (ap fault.Token h.0, h.1)
known place bytes (fault.Literal at) k h =
    let g = h.1 in
    let above : limit_of limit.Literal < g.0 = g.3 in
    inr (record { first = token (mark.Literal g.0) place g.1; to = g.1; left = g.2; start = refl; large = λ w. omega (arith, w, above); cut = g.4; told = ap fault.Literal h.0 })
known place bytes (fault.Name at) k h =
    let g = h.1 in
    let above : limit_of limit.NameLength < length g.0 = g.3 in
    inr (record { first = token (mark.Name g.0) place g.1; to = g.1; left = g.2; start = refl; large = λ w. omega (arith, w, above); cut = g.4; told = ap fault.Name h.0 })
known place bytes fault.OutOfMemory k h = absurd (k refl)

-- a cut within the limits from the same place stops there, before the large token
same_place : {place end_ to : ℕ} {bytes rest left : List ℕ} (t : Token) (ts us : List Token) → t.span.start ≡ place → (IsWithinLimits t.mark → ⊥) →
    Lexes place bytes ts end_ rest → AreWithinLimits ts → t ∷ [] ≡ ts ++ us → Lexes end_ rest us to left → (end_ ≡ place) × Lexes end_ rest (t ∷ []) to left
same_place {place = place} {end_ = end_} {to = to} {rest = rest} {left = left} t [] us s f c w e d =
    let cut : Lexes end_ rest (t ∷ []) to left = subst (λ vs. Lexes end_ rest vs to left) (sym e) d in
    let low : place ≤ end_ = ahead c in
    let high : end_ ≤ t.span.start = begins cut in
    (omega (arith, low, high, s), cut)
same_place t (u ∷ ts) us s f c w e d = let same : u ≡ t = cc in absurd (f (subst (λ (v : Token). IsWithinLimits v.mark) same w.0))

stops : {place end_ : ℕ} {bytes rest : List ℕ} {ts : List Token} (f : TokenFault) (l : IsLarge place bytes f) → Lexes place bytes ts end_ rest → AreWithinLimits ts →
    (end_ ≡ place) × Lexes end_ rest (l.first ∷ []) l.to l.left
stops {ts = ts} f l c w =
    elim (meets l.cut c) [
      | inl o ↦ absurd (l.large (subst (λ vs. AreWithinLimits vs) o.whole w).0)
      | inr o ↦ same_place l.first ts o.more l.start l.large c w o.whole o.cut
    ]

one_first : {place to end_ : ℕ} {bytes left rest : List ℕ} (t u : Token) → Lexes place bytes (t ∷ []) to left → Lexes place bytes (u ∷ []) end_ rest → t ≡ u
one_first t u c d = elim (meets c d) [ inl o ↦ (let e = o.whole in cc) | inr o ↦ (let e = o.whole in cc) ]

-- of two faults the second stands no earlier
agree : {place end_ : ℕ} {bytes rest : List ℕ} {ts : List Token} (f g : TokenFault) → IsStuck place bytes f ⊎ IsLarge place bytes f → IsStuck end_ rest g ⊎ IsLarge end_ rest g →
    Lexes place bytes ts end_ rest → AreWithinLimits ts → f ≡ g
agree f g (inl h) (inl i) c w = h.0 ∙ (ap fault.Token (sym (stuck h.1 c).1) ∙ sym i.0)
agree f g (inl h) (inr i) c w =
    let none = (stuck (subst (λ bs. IsFault bs) (sym (stuck h.1 c).2) h.1) i.cut).0 in
    absurd (cc)
agree f g (inr h) (inl i) c w = let none = (stuck i.1 (stops f h c w).1).0 in absurd (cc)
agree f g (inr h) (inr i) c w =
    let s = stops f h c w in
    let same = one_first h.first i.first s.1 i.cut in
    h.told ∙ (ap (λ at. large_fault h.first.mark at) (sym s.0) ∙ (ap (λ (t : Token). large_fault t.mark _) same ∙ sym i.told))

within_behind : (ts us : List Token) → AreWithinLimits (ts ++ us) → AreWithinLimits us
within_behind [] us f = f
within_behind (t ∷ ts) us f = within_behind ts us f.1

later : {bytes : List ℕ} (f g : TokenFault) (h : IsFirstFault bytes f) (i : IsFirstFault bytes g) → (f ≡ fault.OutOfMemory → ⊥) → (g ≡ fault.OutOfMemory → ⊥) →
    Onward h.tokens h.place h.left i.tokens i.place i.left → f ≡ g
later f g h i k l o =
    agree f g (known h.place h.left f k h.faults) (known i.place i.left g l i.faults) o.cut (within_behind h.tokens o.more (subst (λ ts. AreWithinLimits ts) o.whole i.within))

pub one_fault : {bytes : List ℕ} (f g : TokenFault) → (f ≡ fault.OutOfMemory → ⊥) → (g ≡ fault.OutOfMemory → ⊥) → IsFirstFault bytes f → IsFirstFault bytes g → f ≡ g
one_fault f g k l h i = elim (meets h.cut i.cut) [ inl o ↦ later f g h i k l o | inr o ↦ sym (later g f i h l k o) ]
