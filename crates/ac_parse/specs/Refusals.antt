-- Where reading stops: at the first token that passes a limit or at which no program continues.
use Rattle.std.specs.Prelude.{◌≡◌, ℕ, ◌≤◌, ◌<◌, [], ◌∷◌, ◌++◌}
use Rattle.ac_tree.specs.declared.limit.LimitKind.TheVariants as limit
use Rattle.ac_tree.specs.Limits.{limit_of}
use Rattle.ac_tree.specs.declared.node.Span.{Span}
use Rattle.ac_tree.specs.declared.program.Program.{Program}
use Rattle.ac_tree.specs.Grammar.{Tokens, SpellsProgram, Continues}
use Rattle.ac_parse.specs.declared.refusal.Refusal.{Refusal}
use Rattle.ac_parse.specs.declared.refusal.Refusal.TheVariants.{Nesting, Operators, Unexpected}
use Rattle.ac_parse.specs.Limits.{nesting_of, operators_of, StaysWithin}

-- no program begins with these tokens and the next, or these tokens at the end of the text are none
abbrev pub NoneGoesOn : Tokens → Tokens → Type 0
NoneGoesOn before [] = (p : Program) → SpellsProgram p before → ⊥
NoneGoesOn before (t ∷ after) = Continues (before ++ t ∷ []) → ⊥

-- the span of the next token, or the empty one at the end of a text of n bytes
abbrev pub next_span : ℕ → Tokens → Span
next_span n [] = record { start = n; end = n }
next_span n (t ∷ after) = t.span

-- at one token nesting comes first, then operators, then what is unexpected
abbrev pub Refuses : ℕ → Tokens → Tokens → Refusal → Type 0
Refuses n before [] Nesting = ⊥
Refuses n before [] Operators = ⊥
Refuses n before [] (Unexpected s) = (s ≡ next_span n []) × NoneGoesOn before []
Refuses n before (t ∷ after) Nesting = limit_of limit.Nesting < nesting_of (before ++ t ∷ [])
Refuses n before (t ∷ after) Operators = (nesting_of (before ++ t ∷ []) ≤ limit_of limit.Nesting) × (limit_of limit.Operators < operators_of (before ++ t ∷ []))
Refuses n before (t ∷ after) (Unexpected s) = (s ≡ t.span) × NoneGoesOn before (t ∷ after) × StaysWithin (before ++ t ∷ [])

-- the tokens of a text of n bytes are refused so: all before are read within the limits
pub record IsRefused (n : ℕ) (ts : Tokens) (r : Refusal) : Type 0 where
  pub before : Tokens
  pub after : Tokens
  pub whole : ts ≡ before ++ after
  pub so_far : Continues before
  pub within : StaysWithin before
  pub refuses : Refuses n before after r
