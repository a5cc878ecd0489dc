-- Reading with limits gives the program that is spelled, and stops where it is refused.
use Rattle.std.proofs.Common.{◌≡◌, ℕ, ◌≤◌, ◌<◌, nat_lt, true, false, if◌then◌else◌, [], ◌∷◌, ◌++◌, Option, Some, None, Result, Ok, Err, refl, sym, ◌∙◌, ap, subst, append_assoc, append-nil, arith, ◌↔◌}
use Rattle.std.proofs.lemmas.Bool.Decides.{nat_tests}
use Rattle.std.proofs.lemmas.List.Sums.{fold-append}
use Rattle.ac_tree.specs.declared.limit.LimitKind.TheVariants as limit
use Rattle.ac_tree.specs.Limits.{limit_of}
use Rattle.ac_tree.specs.declared.program.Program.{Program}
use Rattle.ac_tree.specs.declared.token.Token.{Token}
use Rattle.ac_tree.specs.Grammar.{Tokens, SpellsProgram, Continues}
use Rattle.ac_parse.specs.declared.declaration.ProgramReading.{ProgramReading}
use Rattle.ac_parse.specs.declared.refusal.Refusal.{Refusal}
use Rattle.ac_parse.specs.declared.refusal.Refusal.TheVariants.{Nesting, Operators, Unexpected}
use Rattle.ac_parse.specs.Limits.{nested, operated, nesting_of, operators_of, StaysWithin}
use Rattle.ac_parse.specs.ReadProgram.{start, step, value, runs}
use Rattle.ac_parse.specs.ReadTokens.{ended, reads, read_all}
use Rattle.ac_parse.specs.Refusals.{Refuses, IsRefused}
use Rattle.ac_expression_reader.proofs.Paths.{IsPath, reached, go_on, path_runs, path_more}
use Rattle.ac_parse.proofs.ProgramComplete.{complete, one_program}
use Rattle.ac_parse.proofs.ProgramEnds.{completed}
use Rattle.ac_parse.proofs.ProgramSound.{program_spelled}

path_joined : (ts us : Tokens) (m n o : ProgramReading) → IsPath step m ts n → IsPath step n us o → IsPath step m (ts ++ us) o
path_joined [] us m n o p q = subst (λ (j : ProgramReading). IsPath step j us o) (sym p) q
path_joined (t ∷ ts) us m n o p q = (p.0, p.1, path_joined ts us p.0 n o p.2 q)

-- what is read so far goes on
continues : (ts : Tokens) (m : ProgramReading) → IsPath step start ts m → Continues ts
continues ts m p =
    let c = completed m in
    let r = reached step value c.tokens m c.tree c.reads in
    record { tree = c.tree; more = c.tokens; spelled = program_spelled (ts ++ c.tokens) r.last c.tree (path_joined ts c.tokens start m r.last p r.path) r.gives }

-- what is refused doesn't
stuck : (ts : Tokens) (m : ProgramReading) (t : Token) → IsPath step start ts m → step m t ≡ None → Continues (ts ++ t ∷ []) → ⊥
stuck ts m t p h c =
    let q = complete c.spelled in
    let r : runs start ((ts ++ t ∷ []) ++ c.more) ≡ runs m (t ∷ c.more) = ap (runs start) (append_assoc ts (t ∷ []) c.more) ∙ path_runs step value ts (t ∷ c.more) start m p in
    let s : runs m (t ∷ c.more) ≡ None = ap (λ o. go_on step value o c.more) h in
    cc

unended : (ts : Tokens) (m : ProgramReading) → IsPath step start ts m → value m ≡ None → (p : Program) → SpellsProgram p ts → ⊥
unended ts m p h q d =
    let e = complete d in
    let r : runs start (ts ++ []) ≡ value m = path_runs step value ts [] start m p in
    let s : runs start (ts ++ []) ≡ runs start ts = ap (runs start) (append-nil ts) in
    cc

-- a front of these tokens and one more is a front of these, or all
front : (ts before after : Tokens) (t a : Token) → ts ++ t ∷ [] ≡ before ++ a ∷ after → (c : Tokens) × (ts ≡ before ++ c)
front ts [] after t a h = (ts, refl)
front [] (b ∷ []) after t a h = cc
front [] (b ∷ (c ∷ bs)) after t a h = cc
front (u ∷ ts) (b ∷ bs) after t a h =
    let tail : ts ++ t ∷ [] ≡ bs ++ a ∷ after = cc in
    let head : u ≡ b = cc in
    let r = front ts bs after t a tail in
    (r.0, ap (λ v. v ∷ ts) head ∙ ap (λ us. b ∷ us) r.1)

stays_more : (ts : Tokens) (t : Token) → StaysWithin ts → nesting_of (ts ++ t ∷ []) ≤ limit_of limit.Nesting → operators_of (ts ++ t ∷ []) ≤ limit_of limit.Operators → StaysWithin (ts ++ t ∷ [])
stays_more ts t s n o before [] h =
    let e : ts ++ t ∷ [] ≡ before = h ∙ append-nil before in
    (subst (λ us. nesting_of us ≤ limit_of limit.Nesting) e n, subst (λ us. operators_of us ≤ limit_of limit.Operators) e o)
stays_more ts t s n o before (a ∷ after) h = let r = front ts before after t a h in s before r.0 r.1

stays_nothing : StaysWithin []
stays_nothing [] after h = (omega arith, omega arith)
stays_nothing (b ∷ before) after h = cc

-- what comes out says this of the tokens
abbrev pub Says : ℕ → Tokens → Result Program Refusal → Type 0
Says n ts (Ok p) = SpellsProgram p ts × StaysWithin ts
Says n ts (Err r) = IsRefused n ts r

-- the numbers behind one token more
nested_more : (ts : Tokens) (t : Token) (d : ℕ) → d ≡ nesting_of ts → nested d t.mark ≡ nesting_of (ts ++ t ∷ [])
nested_more ts t d h = ap (λ n. nested n t.mark) h ∙ sym (fold-append (λ n t. nested n t.mark) 0 ts (t ∷ []))

operated_more : (ts : Tokens) (t : Token) (d : ℕ) → d ≡ operators_of ts → operated d t.mark ≡ operators_of (ts ++ t ∷ [])
operated_more ts t d h = ap (λ n. operated n t.mark) h ∙ sym (fold-append (λ n t. operated n t.mark) 0 ts (t ∷ []))

end_says : (n : ℕ) (ts : Tokens) (m : ProgramReading) (v : Option Program) → value m ≡ v → IsPath step start ts m → StaysWithin ts → Says n ts (ended n v)
end_says n ts m (Some p) v q s = (program_spelled ts m p q v, s)
end_says n ts m None v q s =
    record { before = ts; after = []; whole = sym (append-nil ts); so_far = continues ts m q; within = s; refuses = (refl, unended ts m q v) }

big : (b n : ℕ) → nat_lt b n ≡ true → b < n
big b n h = grind (arith, nat_tests)

small : (b n : ℕ) → nat_lt b n ≡ false → n ≤ b
small b n h = grind (arith, nat_tests)

refused : (n : ℕ) (ts us : Tokens) (m : ProgramReading) (t : Token) (r : Refusal) → IsPath step start ts m → StaysWithin ts → Refuses n ts (t ∷ us) r → Says n (ts ++ t ∷ us) (Err r)
refused n ts us m t r p s h = record { before = ts; after = t ∷ us; whole = refl; so_far = continues ts m p; within = s; refuses = h }

reads_say : (us : Tokens) (n : ℕ) (ts : Tokens) (m : ProgramReading) (d o : ℕ) → IsPath step start ts m → StaysWithin ts → d ≡ nesting_of ts → o ≡ operators_of ts → Says n (ts ++ us) (reads n m d o us)
reads_say [] n ts m d o p s dh oh = subst (λ vs. Says n vs (ended n (value m))) (sym (append-nil ts)) (end_says n ts m (value m) refl p s)
reads_say (t ∷ us) n ts m d o p s dh oh =
    let dn = nested_more ts t d dh in
    let on = operated_more ts t o oh in
    let stepped : Option ProgramReading → Result Program Refusal = λ x. elim x [ None ↦ Err (Unexpected t.span) | Some j ↦ reads n j (nested d t.mark) (operated o t.mark) us ] in
    (elim (nat_lt (limit_of limit.Nesting) (nested d t.mark)) as (λ b. nat_lt (limit_of limit.Nesting) (nested d t.mark) ≡ b → Says n (ts ++ t ∷ us) (if b then Err Nesting else (if nat_lt (limit_of limit.Operators) (operated o t.mark) then Err Operators else stepped (step m t)))) [
      | true ↦ λ e. refused n ts us m t Nesting p s (subst (λ k. limit_of limit.Nesting < k) dn (big (limit_of limit.Nesting) (nested d t.mark) e))
      | false ↦ λ e.
          let low = subst (λ k. k ≤ limit_of limit.Nesting) dn (small (limit_of limit.Nesting) (nested d t.mark) e) in
          (elim (nat_lt (limit_of limit.Operators) (operated o t.mark)) as (λ b. nat_lt (limit_of limit.Operators) (operated o t.mark) ≡ b → Says n (ts ++ t ∷ us) (if b then Err Operators else stepped (step m t))) [
            | true ↦ λ f. refused n ts us m t Operators p s (low, subst (λ k. limit_of limit.Operators < k) on (big (limit_of limit.Operators) (operated o t.mark) f))
            | false ↦ λ f.
                let few = subst (λ k. k ≤ limit_of limit.Operators) on (small (limit_of limit.Operators) (operated o t.mark) f) in
                let more = stays_more ts t s low few in
                (elim (step m t) as (λ (x : Option ProgramReading). step m t ≡ x → Says n (ts ++ t ∷ us) (stepped x)) [
                  | None ↦ λ g. refused n ts us m t (Unexpected t.span) p s (refl, stuck ts m t p g, more)
                  | Some j ↦ λ g.
                      subst (λ vs. Says n vs (reads n j (nested d t.mark) (operated o t.mark) us)) (append_assoc ts (t ∷ []) us)
                      (reads_say us n (ts ++ t ∷ []) j (nested d t.mark) (operated o t.mark) (path_more step ts start m j t p g) more dn on)
                ]) refl
          ]) refl
    ]) refl

pub all_say : (n : ℕ) (ts : Tokens) → Says n ts (read_all n ts)
all_say n ts = reads_say ts n [] start 0 0 refl stays_nothing refl refl

-- what is spelled within the limits is not refused
pub not_refused : (n : ℕ) (ts before after : Tokens) (r : Refusal) (p : Program) → ts ≡ before ++ after → Refuses n before after r → SpellsProgram p ts → StaysWithin ts → ⊥
not_refused n ts before [] Nesting p e h d s = h
not_refused n ts before [] Operators p e h d s = h
not_refused n ts before [] (Unexpected a) p e h d s = h.1 p (subst (λ us. SpellsProgram p us) (e ∙ append-nil before) d)
not_refused n ts before (t ∷ after) Nesting p e h d s =
    let low : nesting_of (before ++ t ∷ []) ≤ limit_of limit.Nesting = (s (before ++ t ∷ []) after (e ∙ sym (append_assoc before (t ∷ []) after))).0 in
    omega (arith, h, low)
not_refused n ts before (t ∷ after) Operators p e h d s =
    let low : operators_of (before ++ t ∷ []) ≤ limit_of limit.Operators = (s (before ++ t ∷ []) after (e ∙ sym (append_assoc before (t ∷ []) after))).1 in
    omega (arith, h.1, low)
not_refused n ts before (t ∷ after) (Unexpected a) p e h d s =
    h.1 (record { tree = p; more = after; spelled = subst (λ us. SpellsProgram p us) (e ∙ sym (append_assoc before (t ∷ []) after)) d })

exact_of : (n : ℕ) (ts : Tokens) (p : Program) (r : Result Program Refusal) → Says n ts r → SpellsProgram p ts → StaysWithin ts → r ≡ Ok p
exact_of n ts p (Ok q) h d s = ap Ok (one_program h.0 d)
exact_of n ts p (Err r) h d s = absurd (not_refused n ts h.before h.after r p h.whole h.refuses d s)

-- reading gives this program exactly where the tokens spell it within the limits
pub exact : (n : ℕ) (ts : Tokens) (p : Program) → (read_all n ts ≡ Ok p) ↔ (SpellsProgram p ts × StaysWithin ts)
exact n ts p = (λ e. subst (λ r. Says n ts r) e (all_say n ts), λ h. exact_of n ts p (read_all n ts) (all_say n ts) h.0 h.1)
