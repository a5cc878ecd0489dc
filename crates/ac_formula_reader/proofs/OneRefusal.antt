-- A text that is refused is refused at one place.
use Rattle.std.proofs.Common.{◌≡◌, ℕ, List, [], ◌∷◌, ◌++◌, length, Some, None, refl, sym, ◌∙◌, ap, subst, append_assoc, arith, inl, inr, ◌⊎◌}
use Rattle.ac_formula_printer.specs.declared.mark.FormulaMark.{FormulaMark}
use Rattle.ac_formula_printer.specs.FormulaText.{Tokens, Goal, IsTextOf, Continues}
use Rattle.ac_formula_printer.specs.FormulaTokens as cut
use Rattle.ac_formula_printer.specs.FormulaTokens.{Cutting, first_token, Lexes, NoneFollows, IsRefusedAt}

-- the first tokens are those of the others, whose next token is cut where they end
record GoesOn (ts : Tokens) (left : List ℕ) (us : Tokens) : Type 0 where
  pub next : FormulaMark
  pub rest : List ℕ
  pub more : Tokens
  pub whole : us ≡ ts ++ next ∷ more
  pub found : first_token left ≡ Some (next, rest)

-- two cuts of a text stop at the same place, or one goes on where the other stops
abbrev Compared : Tokens → List ℕ → Tokens → List ℕ → Type 0
Compared ts l us k = ((ts ≡ us) × (l ≡ k)) ⊎ (GoesOn ts l us ⊎ GoesOn us k ts)

with_first : (m : FormulaMark) (ts us : Tokens) (l k : List ℕ) → Compared ts l us k → Compared (m ∷ ts) l (m ∷ us) k
with_first m ts us l k (inl h) = inl (ap (λ vs. m ∷ vs) h.0, h.1)
with_first m ts us l k (inr (inl h)) = inr (inl (record { next = h.next; rest = h.rest; more = h.more; whole = ap (λ vs. m ∷ vs) h.whole; found = h.found }))
with_first m ts us l k (inr (inr h)) = inr (inr (record { next = h.next; rest = h.rest; more = h.more; whole = ap (λ vs. m ∷ vs) h.whole; found = h.found }))

abbrev mark_of : FormulaMark → Cutting → FormulaMark
mark_of m None = m
mark_of m (Some x) = x.0

abbrev rest_of : Cutting → List ℕ
rest_of None = []
rest_of (Some x) = x.1

compared : {bytes l k : List ℕ} {ts us : Tokens} → Lexes bytes ts l → Lexes bytes us k → Compared ts l us k
compared (cut.nothing p) (cut.nothing q) = inl (refl, sym p ∙ q)
compared (cut.nothing p) (cut.token {rest = rest} {m = m} {ts = ts} e d) =
    inr (inl (record { next = m; rest = rest; more = ts; whole = refl; found = ap first_token (sym p) ∙ e }))
compared (cut.token {rest = rest} {m = m} {ts = ts} e d) (cut.nothing q) =
    inr (inr (record { next = m; rest = rest; more = ts; whole = refl; found = ap first_token (sym q) ∙ e }))
compared (cut.token {rest = rest} {left = l} {m = m} {ts = ts} e c) (cut.token {rest = other} {left = k} {m = n} {ts = us} f d) =
    let same : m ≡ n = ap (mark_of m) (sym e ∙ f) in
    let behind : other ≡ rest = ap rest_of (sym f ∙ e) in
    let r = compared c (subst (λ (bs : List ℕ). Lexes bs us k) behind d) in
    subst (λ (o : FormulaMark). Compared (m ∷ ts) l (o ∷ us) k) same (with_first m ts us l k r)

-- what goes on isn't refused where it does
not_here : (g : Goal) (before : Tokens) (left : List ℕ) (m : FormulaMark) (rest : List ℕ) → first_token left ≡ Some (m, rest) → NoneFollows g before left → Continues g (before ++ m ∷ []) → ⊥
not_here g before [] m rest e h c = cc
not_here g before (b ∷ bytes) m rest e h c = h m rest e c

front_goes_on : (g : Goal) (before : Tokens) (m : FormulaMark) (more ts : Tokens) → ts ≡ before ++ m ∷ more → Continues g ts → Continues g (before ++ m ∷ [])
front_goes_on g before m more ts e c =
    let joined : ts ++ c.more ≡ (before ++ m ∷ []) ++ (more ++ c.more) = ap (λ us. us ++ c.more) e ∙ simp append_assoc in
    record { tree = c.tree; more = more ++ c.more; spelled = subst (λ us. IsTextOf g c.tree us) joined c.spelled }

stops_before : (g : Goal) (bytes : List ℕ) (a b : ℕ) (h : IsRefusedAt g bytes a) (i : IsRefusedAt g bytes b) → GoesOn h.before h.left i.before → ⊥
stops_before g bytes a b h i s = not_here g h.before h.left s.next s.rest s.found h.no_further (front_goes_on g h.before s.next s.more i.before s.whole i.so_far)

pub one_place : (g : Goal) (bytes : List ℕ) (a b : ℕ) → IsRefusedAt g bytes a → IsRefusedAt g bytes b → a ≡ b
one_place g bytes a b h i =
    elim (compared h.cut i.cut) [
      | inl e ↦ (let n : length h.left ≡ length i.left = ap length e.1 in omega (arith, n, h.at, i.at))
      | inr s ↦ elim s [ inl f ↦ absurd (stops_before g bytes a b h i f) | inr f ↦ absurd (stops_before g bytes b a i h f) ]
    ]
