-- Reading tokens one by one: from a state, as far as its steps go.
-- No promise rests on this file: it says what the code keeps on the way.
use Rattle.std.specs.Prelude.{Option, Some, None, Bool, true, false, [], ◌∷◌}
use Rattle.ac_tree.specs.declared.token.Token.{Token}
use Rattle.ac_tree.specs.Grammar.{Tokens}

-- what the tokens lead to
abbrev pub runs : {S V : Type 0} → (S → Token → Option S) → (S → Option V) → S → Tokens → Option V
runs step value s [] = value s
runs step value s (t ∷ ts) = elim (step s t) [ None ↦ None | Some n ↦ runs step value n ts ]

-- A machine inside another takes its own tokens. Behind them its value is passed on.
abbrev pub taken : {M S : Type 0} → (M → S) → Option M → Option S
taken within None = None
taken within (Some m) = Some (within m)

abbrev pub passed : {V S : Type 0} → (V → Option S) → Option V → Option S
passed after None = None
passed after (Some v) = after v

abbrev pub inside : {M S V : Type 0} → (M → S) → (V → Option S) → Bool → Option M → Option V → Option S
inside within after true m v = taken within m
inside within after false m v = passed after v
