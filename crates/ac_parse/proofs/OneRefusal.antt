-- Bytes have at most one cause of refusal beside want of memory: the stages exclude each other, and each tells one.
use Rattle.std.proofs.Common.{◌≡◌, ℕ, ◌≤◌, ◌<◌, List, [], ◌∷◌, ◌++◌, length, refl, sym, ◌∙◌, ap, subst, append_assoc, append-nil, arith, inl, inr, ◌⊎◌, IsUtf8}
use Rattle.std.proofs.Math.Seq.{take-length}
use Rattle.std.proofs.lemmas.Str.{utf8_valid_len-IsValidUpTo}
use Rattle.std.specs.Str.{IsValidUpTo}
use Rattle.ac_tree.specs.Limits.{limit_of}
use Rattle.ac_tree.specs.declared.limit.LimitKind.{LimitKind}
use Rattle.ac_tree.specs.declared.limit.LimitKind.TheVariants as limit
use Rattle.ac_tree.specs.declared.token.Token.{Token as TokenOf}
use Rattle.ac_tree.specs.Grammar.{Tokens, SpellsProgram, Continues}
use Rattle.ac_parse.specs.declared.parsing.ParseFault.{ParseFault}
use Rattle.ac_parse.specs.declared.parsing.ParseFault.TheVariants.{NotUtf8, Token, Unexpected, Limit, OutOfMemory}
use Rattle.ac_parse.specs.declared.refusal.Refusal.{Refusal}
use Rattle.ac_parse.specs.declared.refusal.Refusal.TheVariants as refusal
use Rattle.ac_tokens.specs.declared.token_fault.TokenFault.{TokenFault}
use Rattle.ac_tokens.specs.declared.token_fault.TokenFault.TheVariants as fault
use Rattle.ac_parse.specs.Limits.{nesting_of, operators_of, StaysWithin}
use Rattle.ac_parse.specs.Parsing.{IsShort, HasTokenFault, IsRefusedAfterCut, HasTooManyNodes, PassesLimit, IsParseFault}
use Rattle.ac_parse.specs.Refusals.{Refuses, IsRefused}
use Rattle.ac_tokens.specs.TokenFaults.{IsTokenized}
use Rattle.ac_tokens.proofs.Cuts.{cut_once, fault_excludes}
use Rattle.ac_tokens.proofs.OneFault.{one_fault}
use Rattle.ac_parse.proofs.Refused.{not_refused}

-- tokens are refused at one place, and so

behind_one : (before rest more : Tokens) (t : TokenOf) → (before ++ t ∷ rest) ++ more ≡ (before ++ t ∷ []) ++ (rest ++ more)
behind_one before rest more t = simp append_assoc

-- what is refused at a token isn't read past it
goes_past : (n : ℕ) (before rest after : Tokens) (t : TokenOf) (r : Refusal) → Refuses n before (t ∷ after) r → StaysWithin (before ++ t ∷ rest) → Continues (before ++ t ∷ rest) → ⊥
goes_past n before rest after t refusal.Nesting h s c = omega (arith, h, (s (before ++ t ∷ []) rest (sym (append_assoc before (t ∷ []) rest))).0)
goes_past n before rest after t refusal.Operators h s c = omega (arith, h.1, (s (before ++ t ∷ []) rest (sym (append_assoc before (t ∷ []) rest))).1)
goes_past n before rest after t (refusal.Unexpected a) h s c =
    h.1 (record { tree = c.tree; more = rest ++ c.more; spelled = subst (λ ts. SpellsProgram c.tree ts) (behind_one before rest c.more t) c.spelled })

whole_within : (ts : Tokens) → StaysWithin ts → (nesting_of ts ≤ limit_of limit.Nesting) × (operators_of ts ≤ limit_of limit.Operators)
whole_within ts s = s ts [] (sym (append-nil ts))

one_at_end : (n : ℕ) (before : Tokens) (r s : Refusal) → Refuses n before [] r → Refuses n before [] s → r ≡ s
one_at_end n before (refusal.Unexpected a) (refusal.Unexpected b) h i = ap refusal.Unexpected (h.0 ∙ sym i.0)
one_at_end n before (refusal.Unexpected a) refusal.Nesting h i = absurd i
one_at_end n before (refusal.Unexpected a) refusal.Operators h i = absurd i
one_at_end n before refusal.Nesting s h i = absurd h
one_at_end n before refusal.Operators s h i = absurd h

one_at_token : (n : ℕ) (before after : Tokens) (t : TokenOf) (r s : Refusal) → Refuses n before (t ∷ after) r → Refuses n before (t ∷ after) s → r ≡ s
one_at_token n before after t refusal.Nesting refusal.Nesting h i = refl
one_at_token n before after t refusal.Nesting refusal.Operators h i = absurd (omega (arith, h, i.0))
one_at_token n before after t refusal.Nesting (refusal.Unexpected b) h i = absurd (omega (arith, h, (whole_within (before ++ t ∷ []) i.2).0))
one_at_token n before after t refusal.Operators refusal.Nesting h i = absurd (omega (arith, h.0, i))
one_at_token n before after t refusal.Operators refusal.Operators h i = refl
one_at_token n before after t refusal.Operators (refusal.Unexpected b) h i = absurd (omega (arith, h.1, (whole_within (before ++ t ∷ []) i.2).1))
one_at_token n before after t (refusal.Unexpected a) refusal.Nesting h i = absurd (omega (arith, i, (whole_within (before ++ t ∷ []) h.2).0))
one_at_token n before after t (refusal.Unexpected a) refusal.Operators h i = absurd (omega (arith, i.1, (whole_within (before ++ t ∷ []) h.2).1))
one_at_token n before after t (refusal.Unexpected a) (refusal.Unexpected b) h i = ap refusal.Unexpected (h.0 ∙ sym i.0)

one_at : (n : ℕ) (before after : Tokens) (r s : Refusal) → Refuses n before after r → Refuses n before after s → r ≡ s
one_at n before [] r s h i = one_at_end n before r s h i
one_at n before (t ∷ after) r s h i = one_at_token n before after t r s h i

-- of two refusals the second stands no earlier
no_later : (n : ℕ) (before after between other behind : Tokens) (r s : Refusal) → other ≡ before ++ between → after ≡ between ++ behind → Refuses n before after r →
    StaysWithin other → Continues other → Refuses n other behind s → r ≡ s
no_later n before after [] other behind r s e f h w c i =
    one_at n before after r s h
    (subst (λ (us : Tokens). Refuses n before us s) (sym f) (subst (λ (ts : Tokens). Refuses n ts behind s) (e ∙ append-nil before) i))
no_later n before after (t ∷ between) other behind r s e f h w c i =
    absurd (goes_past n before between (between ++ behind) t r (subst (λ (us : Tokens). Refuses n before us r) f h) (subst (λ ts. StaysWithin ts) e w) (subst (λ ts. Continues ts) e c))

abbrev Fronts : Tokens → Tokens → Tokens → Tokens → Type 0
Fronts before after other behind = (between : Tokens) × (other ≡ before ++ between) × (after ≡ between ++ behind)

fronts : (before after other behind : Tokens) → before ++ after ≡ other ++ behind → Fronts before after other behind ⊎ Fronts other behind before after
fronts [] after other behind e = inl (other, refl, e)
fronts (t ∷ before) after [] behind e = inr (t ∷ before, refl, sym e)
fronts (t ∷ before) after (u ∷ other) behind e =
    let head : t ≡ u = cc in
    let tail : before ++ after ≡ other ++ behind = cc in
    elim (fronts before after other behind tail) [
      | inl f ↦ inl (f.0, ap (λ v. v ∷ other) (sym head) ∙ ap (λ ts. t ∷ ts) f.1, f.2)
      | inr f ↦ inr (f.0, ap (λ v. v ∷ before) head ∙ ap (λ ts. u ∷ ts) f.1, f.2)
    ]

one_refused : (n : ℕ) (ts : Tokens) (r s : Refusal) → IsRefused n ts r → IsRefused n ts s → r ≡ s
one_refused n ts r s h i =
    elim (fronts h.before h.after i.before i.after (sym h.whole ∙ i.whole)) [
      | inl f ↦ no_later n h.before h.after f.0 i.before i.after r s f.1 f.2 h.refuses i.within i.so_far i.refuses
      | inr f ↦ sym (no_later n i.before i.after f.0 h.before h.after s r f.1 f.2 i.refuses h.within h.so_far h.refuses)
    ]

-- the stages, each with what it tells

abbrev token_told : TokenFault → ParseFault
token_told (fault.Token at) = Token at
token_told (fault.Literal at) = Limit limit.Literal (limit_of limit.Literal)
token_told (fault.Name at) = Limit limit.NameLength (limit_of limit.NameLength)
token_told fault.OutOfMemory = OutOfMemory

abbrev refusal_told : Refusal → ParseFault
refusal_told refusal.Nesting = Limit limit.Nesting (limit_of limit.Nesting)
refusal_told refusal.Operators = Limit limit.Operators (limit_of limit.Operators)
refusal_told (refusal.Unexpected s) = Unexpected s

abbrev IsTooLong : List ℕ → ParseFault → Type 0
IsTooLong bytes f = (f ≡ Limit limit.ProgramBytes (limit_of limit.ProgramBytes)) × (limit_of limit.ProgramBytes < length bytes)

abbrev IsNoText : List ℕ → ParseFault → Type 0
IsNoText bytes f = (at : ℕ) × (f ≡ NotUtf8 at) × IsValidUpTo bytes at

abbrev IsNoToken : List ℕ → ParseFault → Type 0
IsNoToken bytes f = (t : TokenFault) × (f ≡ token_told t) × (t ≡ fault.OutOfMemory → ⊥) × HasTokenFault bytes t

abbrev IsNotRead : List ℕ → ParseFault → Type 0
IsNotRead bytes f = (r : Refusal) × (f ≡ refusal_told r) × IsRefusedAfterCut bytes r

abbrev IsTooLarge : List ℕ → ParseFault → Type 0
IsTooLarge bytes f = (f ≡ Limit limit.Nodes (limit_of limit.Nodes)) × HasTooManyNodes bytes

abbrev BehindTokens : List ℕ → ParseFault → Type 0
BehindTokens bytes f = IsNotRead bytes f ⊎ IsTooLarge bytes f

abbrev BehindText : List ℕ → ParseFault → Type 0
BehindText bytes f = IsNoToken bytes f ⊎ BehindTokens bytes f

abbrev BehindLength : List ℕ → ParseFault → Type 0
BehindLength bytes f = IsShort bytes × (IsNoText bytes f ⊎ BehindText bytes f)

abbrev Staged : List ℕ → ParseFault → Type 0
Staged bytes f = IsTooLong bytes f ⊎ BehindLength bytes f

staged_limit : (bytes : List ℕ) (which : LimitKind) (value : ℕ) → PassesLimit bytes which value → Staged bytes (Limit which value)
staged_limit bytes limit.ProgramBytes value h = inl (ap (Limit limit.ProgramBytes) h.0, h.1)
staged_limit bytes limit.Literal value h = inr (h.1, inr (inl (fault.Literal h.2.0, ap (Limit limit.Literal) h.0, λ e. cc, h.2.1)))
staged_limit bytes limit.NameLength value h = inr (h.1, inr (inl (fault.Name h.2.0, ap (Limit limit.NameLength) h.0, λ e. cc, h.2.1)))
staged_limit bytes limit.Nesting value h = inr (h.1, inr (inr (inl (refusal.Nesting, ap (Limit limit.Nesting) h.0, h.2))))
staged_limit bytes limit.Operators value h = inr (h.1, inr (inr (inl (refusal.Operators, ap (Limit limit.Operators) h.0, h.2))))
staged_limit bytes limit.Nodes value h = inr (h.1, inr (inr (inr (ap (Limit limit.Nodes) h.0, h.2))))
staged_limit bytes _ value h = absurd h

staged : (bytes : List ℕ) (f : ParseFault) → IsParseFault bytes f → (f ≡ OutOfMemory → ⊥) → Staged bytes f
staged bytes (NotUtf8 at) h k = inr (h.0, inl (at, refl, h.1))
staged bytes (Token at) h k = inr (h.0, inr (inl (fault.Token at, refl, λ e. cc, h.1)))
staged bytes (Unexpected s) h k = inr (h.0, inr (inr (inl (refusal.Unexpected s, refl, h.1))))
staged bytes (Limit which value) h k = staged_limit bytes which value h
staged bytes OutOfMemory h k = absurd (k refl)

-- a stage and those behind it: the first excludes the others
one_stage : (A B : ParseFault → Type 0) (f g : ParseFault) → ((h i : ParseFault) → A h → B i → ⊥) → (A f → A g → f ≡ g) → (B f → B g → f ≡ g) → A f ⊎ B f → A g ⊎ B g → f ≡ g
one_stage A B f g out first others (inl h) (inl i) = first h i
one_stage A B f g out first others (inl h) (inr i) = absurd (out f g h i)
one_stage A B f g out first others (inr h) (inl i) = absurd (out g f i h)
one_stage A B f g out first others (inr h) (inr i) = others h i

tokens_of : (bytes : List ℕ) (f : ParseFault) → BehindTokens bytes f → (ts : Tokens) × IsTokenized bytes ts
tokens_of bytes f (inl h) = (h.2.tokens, h.2.cut)
tokens_of bytes f (inr h) = (h.1.tokens, h.1.cut)

text_of : (bytes : List ℕ) (f : ParseFault) → BehindText bytes f → IsUtf8 bytes
text_of bytes f (inl h) = h.3.text
text_of bytes f (inr h) = (tokens_of bytes f h).1.cut.utf8

no_text : (bytes : List ℕ) (f g : ParseFault) → IsNoText bytes f → BehindText bytes g → ⊥
no_text bytes f g h i = h.2.longest (length bytes) h.2.short (subst (λ bs. IsUtf8 bs) (sym (take-length bytes)) (text_of bytes g i))

no_token : (bytes : List ℕ) (f g : ParseFault) → IsNoToken bytes f → BehindTokens bytes g → ⊥
no_token bytes f g h i = fault_excludes h.0 h.2 h.3.first (tokens_of bytes g i).1

not_read : (bytes : List ℕ) (f g : ParseFault) → IsNotRead bytes f → IsTooLarge bytes g → ⊥
not_read bytes f g h i =
    let r = h.2 in
    let m = i.1 in
    let e = cut_once m.cut.cut r.cut.cut in
    not_refused (length bytes) r.tokens r.refused.before r.refused.after h.0 m.tree r.refused.whole r.refused.refuses
    (subst (λ ts. SpellsProgram m.tree ts) e m.spelled) (subst (λ ts. StaysWithin ts) e m.stays)

one_text : (bytes : List ℕ) (f g : ParseFault) → IsNoText bytes f → IsNoText bytes g → f ≡ g
one_text bytes f g h i = h.1 ∙ (ap NotUtf8 (sym (utf8_valid_len-IsValidUpTo bytes h.0 h.2) ∙ utf8_valid_len-IsValidUpTo bytes i.0 i.2) ∙ sym i.1)

one_token : (bytes : List ℕ) (f g : ParseFault) → IsNoToken bytes f → IsNoToken bytes g → f ≡ g
one_token bytes f g h i = h.1 ∙ (ap token_told (one_fault h.0 i.0 h.2 i.2 h.3.first i.3.first) ∙ sym i.1)

one_reading : (bytes : List ℕ) (f g : ParseFault) → IsNotRead bytes f → IsNotRead bytes g → f ≡ g
one_reading bytes f g h i =
    let e = cut_once h.2.cut.cut i.2.cut.cut in
    h.1 ∙ (ap refusal_told (one_refused (length bytes) i.2.tokens h.0 i.0 (subst (λ ts. IsRefused (length bytes) ts h.0) e h.2.refused) i.2.refused) ∙ sym i.1)

one_behind_tokens : (bytes : List ℕ) (f g : ParseFault) → BehindTokens bytes f → BehindTokens bytes g → f ≡ g
one_behind_tokens bytes f g = one_stage (IsNotRead bytes) (IsTooLarge bytes) f g (not_read bytes) (one_reading bytes f g) (λ h i. h.0 ∙ sym i.0)

one_behind_text : (bytes : List ℕ) (f g : ParseFault) → BehindText bytes f → BehindText bytes g → f ≡ g
one_behind_text bytes f g = one_stage (IsNoToken bytes) (BehindTokens bytes) f g (no_token bytes) (one_token bytes f g) (one_behind_tokens bytes f g)

one_behind_length : (bytes : List ℕ) (f g : ParseFault) → BehindLength bytes f → BehindLength bytes g → f ≡ g
one_behind_length bytes f g h i = one_stage (IsNoText bytes) (BehindText bytes) f g (no_text bytes) (one_text bytes f g) (one_behind_text bytes f g) h.1 i.1

too_long : (bytes : List ℕ) (f g : ParseFault) → IsTooLong bytes f → BehindLength bytes g → ⊥
too_long bytes f g h i = omega (arith, h.1, i.0)

pub one_refusal : (bytes : List ℕ) (f g : ParseFault) → IsParseFault bytes f → IsParseFault bytes g → (f ≡ OutOfMemory → ⊥) → (g ≡ OutOfMemory → ⊥) → f ≡ g
one_refusal bytes f g h i k l =
    one_stage (IsTooLong bytes) (BehindLength bytes) f g (too_long bytes) (λ a b. a.0 ∙ sym b.0) (one_behind_length bytes f g) (staged bytes f h k) (staged bytes g i l)
