-- Reading with limits gives the block that is spelled, and nothing where there is none.
use Rattle.std.proofs.Common.{◌≡◌, ℕ, ◌≤◌, ◌<◌, nat_lt, true, false, if◌then◌else◌, List, [], ◌∷◌, ◌++◌, Option, Some, None, refl, sym, ◌∙◌, ap, subst, append_assoc, append-nil, arith}
use Rattle.std.proofs.lemmas.Bool.Decides.{nat_tests}
use Rattle.std.proofs.lemmas.List.Sums.{fold-append}
use Rattle.ac_tree.specs.declared.limit.LimitKind.TheVariants as limit
use Rattle.ac_tree.specs.Limits.{limit_of}
use Rattle.ac_tree.specs.declared.program.Stmt.{Stmt}
use Rattle.ac_tree.specs.declared.token.Token.{Token}
use Rattle.ac_tree.specs.Grammar.{Tokens, SpellsBlock}
use Rattle.ac_parse.specs.declared.statement.StmtReading.{StmtReading}
use Rattle.ac_parse.specs.Limits.{nested, operated, nesting_of, operators_of, StaysWithin}
use Rattle.ac_parse.specs.ReadStatement.{Block, start, step, value, runs}
use Rattle.ac_expression_reader.proofs.Paths.{reached, go_on}
use Rattle.ac_parse.proofs.StatementComplete.{complete}
use Rattle.ac_parse.proofs.StatementSound.{block_spelled}
use Rattle.ac_pattern_blocks.specs.Spread.{spread_token, spread, SpellsCodeBlock, SpellsNone}
use Rattle.ac_pattern_blocks.specs.ReadBlock.{then_step, feed, reads, read_all}

-- what tokens lead to

feed_none : (ts : Tokens) → feed None ts ≡ None
feed_none [] = refl
feed_none (t ∷ ts) = feed_none ts

abbrev runs_on : Option StmtReading → Tokens → Option Block
runs_on o ts = elim o [ None ↦ None | Some m ↦ runs m ts ]

feed_runs : (ts us : Tokens) (m : StmtReading) → runs m (ts ++ us) ≡ runs_on (feed (Some m) ts) us
feed_runs [] us m = refl
feed_runs (t ∷ ts) us m =
    (elim (step m t) as (λ (o : Option StmtReading). runs_on o (ts ++ us) ≡ runs_on (feed o ts) us) [
      | None ↦ ap (λ o. runs_on o us) (sym (feed_none ts))
      | Some j ↦ feed_runs ts us j
    ])

spread_joined : (ts us : Tokens) → spread (ts ++ us) ≡ spread ts ++ spread us
spread_joined [] us = refl
spread_joined (t ∷ ts) us = ap (λ ws. spread_token t ++ ws) (spread_joined ts us) ∙ sym (append_assoc (spread_token t) (spread ts) (spread us))

-- a front of these tokens and one more is a front of these, or all
front : (ts before after : Tokens) (t a : Token) → ts ++ t ∷ [] ≡ before ++ a ∷ after → (c : Tokens) × (ts ≡ before ++ c)
front ts [] after t a h = (ts, refl)
front [] (b ∷ []) after t a h = cc
front [] (b ∷ (c ∷ bs)) after t a h = cc
front (u ∷ ts) (b ∷ bs) after t a h =
    let tail : ts ++ t ∷ [] ≡ bs ++ a ∷ after = cc in
    let head : u ≡ b = cc in
    let r = front ts bs after t a tail in
    (r.0, ap (λ v. v ∷ ts) head ∙ ap (λ us. b ∷ us) r.1)

stays_more : (ts : Tokens) (t : Token) → StaysWithin ts → nesting_of (ts ++ t ∷ []) ≤ limit_of limit.Nesting → operators_of (ts ++ t ∷ []) ≤ limit_of limit.Operators → StaysWithin (ts ++ t ∷ [])
stays_more ts t s n o before [] h =
    let e : ts ++ t ∷ [] ≡ before = h ∙ append-nil before in
    (subst (λ us. nesting_of us ≤ limit_of limit.Nesting) e n, subst (λ us. operators_of us ≤ limit_of limit.Operators) e o)
stays_more ts t s n o before (a ∷ after) h = let r = front ts before after t a h in s before r.0 r.1

stays_nothing : StaysWithin []
stays_nothing [] after h = (omega arith, omega arith)
stays_nothing (b ∷ before) after h = cc

nested_more : (ts : Tokens) (t : Token) (d : ℕ) → d ≡ nesting_of ts → nested d t.mark ≡ nesting_of (ts ++ t ∷ [])
nested_more ts t d h = ap (λ n. nested n t.mark) h ∙ sym (fold-append (λ n t. nested n t.mark) 0 ts (t ∷ []))

operated_more : (ts : Tokens) (t : Token) (d : ℕ) → d ≡ operators_of ts → operated d t.mark ≡ operators_of (ts ++ t ∷ [])
operated_more ts t d h = ap (λ n. operated n t.mark) h ∙ sym (fold-append (λ n t. operated n t.mark) 0 ts (t ∷ []))

big : (b n : ℕ) → nat_lt b n ≡ true → b < n
big b n h = grind (arith, nat_tests)

small : (b n : ℕ) → nat_lt b n ≡ false → n ≤ b
small b n h = grind (arith, nat_tests)

-- what comes out says this of the tokens
abbrev pub Says : Tokens → Option Block → Type 0
Says ts None = SpellsNone ts
Says ts (Some xs) = SpellsCodeBlock xs ts

-- what has been read so far
abbrev Leads : Tokens → StmtReading → Type 0
Leads ts m = (us : Tokens) → runs start (spread ts ++ us) ≡ runs m us

spelled_of : (xs : Block) (ts : Tokens) → runs start ts ≡ Some xs → SpellsBlock xs ts
spelled_of xs ts h = let r = reached step value ts start xs h in block_spelled ts r.last xs r.path r.gives

end_says : (ts : Tokens) (m : StmtReading) (v : Option Block) → value m ≡ v → Leads ts m → StaysWithin ts → Says ts v
end_says ts m (Some xs) e l s = record { spelled = spelled_of xs (spread ts) (ap (runs start) (sym (append-nil (spread ts))) ∙ (l [] ∙ e)); stays = s }
end_says ts m None e l s = λ xs h.
    let k : runs start (spread ts) ≡ Some xs = complete h.spelled in
    let r : runs start (spread ts) ≡ None = ap (runs start) (sym (append-nil (spread ts))) ∙ (l [] ∙ e) in
    cc

many_nested : (ts us : Tokens) (t : Token) → limit_of limit.Nesting < nesting_of (ts ++ t ∷ []) → SpellsNone (ts ++ t ∷ us)
many_nested ts us t h = λ xs c.
    let low : nesting_of (ts ++ t ∷ []) ≤ limit_of limit.Nesting = (c.stays (ts ++ t ∷ []) us (sym (append_assoc ts (t ∷ []) us))).0 in
    omega (arith, h, low)

many_operators : (ts us : Tokens) (t : Token) → limit_of limit.Operators < operators_of (ts ++ t ∷ []) → SpellsNone (ts ++ t ∷ us)
many_operators ts us t h = λ xs c.
    let low : operators_of (ts ++ t ∷ []) ≤ limit_of limit.Operators = (c.stays (ts ++ t ∷ []) us (sym (append_assoc ts (t ∷ []) us))).1 in
    omega (arith, h, low)

stuck : (ts us : Tokens) (t : Token) (m : StmtReading) → Leads ts m → feed (Some m) (spread_token t) ≡ None → SpellsNone (ts ++ t ∷ us)
stuck ts us t m l h = λ xs c.
    let k : runs start (spread (ts ++ t ∷ us)) ≡ Some xs = complete c.spelled in
    let r : runs start (spread (ts ++ t ∷ us)) ≡ None =
    ap (runs start) (spread_joined ts (t ∷ us)) ∙ (l (spread_token t ++ spread us) ∙ (feed_runs (spread_token t) (spread us) m ∙ ap (λ o. runs_on o (spread us)) h)) in
    cc

leads_more : (ts : Tokens) (t : Token) (m j : StmtReading) → Leads ts m → feed (Some m) (spread_token t) ≡ Some j → Leads (ts ++ t ∷ []) j
leads_more ts t m j l h us =
    ap (λ ws. runs start (ws ++ us)) (spread_joined ts (t ∷ []))
    ∙ (ap (λ ws. runs start ((spread ts ++ ws) ++ us)) (append-nil (spread_token t))
    ∙ (ap (runs start) (append_assoc (spread ts) (spread_token t) us)
    ∙ (l (spread_token t ++ us) ∙ (feed_runs (spread_token t) us m ∙ ap (λ o. runs_on o us) h))))

reads_say : (us ts : Tokens) (m : StmtReading) (d o : ℕ) → Leads ts m → StaysWithin ts → d ≡ nesting_of ts → o ≡ operators_of ts → Says (ts ++ us) (reads m d o us)
reads_say [] ts m d o l s dh oh = subst (λ vs. Says vs (value m)) (sym (append-nil ts)) (end_says ts m (value m) refl l s)
reads_say (t ∷ us) ts m d o l s dh oh =
    let dn = nested_more ts t d dh in
    let on = operated_more ts t o oh in
    let stepped : Option StmtReading → Option Block = λ x. elim x [ None ↦ None | Some j ↦ reads j (nested d t.mark) (operated o t.mark) us ] in
    (elim (nat_lt (limit_of limit.Nesting) (nested d t.mark)) as (λ b. nat_lt (limit_of limit.Nesting) (nested d t.mark) ≡ b → Says (ts ++ t ∷ us) (if b then None else (if nat_lt (limit_of limit.Operators) (operated o t.mark) then None else stepped (feed (Some m) (spread_token t))))) [
      | true ↦ λ e. many_nested ts us t (subst (λ k. limit_of limit.Nesting < k) dn (big (limit_of limit.Nesting) (nested d t.mark) e))
      | false ↦ λ e.
          let low = subst (λ k. k ≤ limit_of limit.Nesting) dn (small (limit_of limit.Nesting) (nested d t.mark) e) in
          (elim (nat_lt (limit_of limit.Operators) (operated o t.mark)) as (λ b. nat_lt (limit_of limit.Operators) (operated o t.mark) ≡ b → Says (ts ++ t ∷ us) (if b then None else stepped (feed (Some m) (spread_token t)))) [
            | true ↦ λ f. many_operators ts us t (subst (λ k. limit_of limit.Operators < k) on (big (limit_of limit.Operators) (operated o t.mark) f))
            | false ↦ λ f.
                let few = subst (λ k. k ≤ limit_of limit.Operators) on (small (limit_of limit.Operators) (operated o t.mark) f) in
                let more = stays_more ts t s low few in
                (elim (feed (Some m) (spread_token t)) as (λ (x : Option StmtReading). feed (Some m) (spread_token t) ≡ x → Says (ts ++ t ∷ us) (stepped x)) [
                  | None ↦ λ g. stuck ts us t m l g
                  | Some j ↦ λ g.
                      subst (λ vs. Says vs (reads j (nested d t.mark) (operated o t.mark) us)) (append_assoc ts (t ∷ []) us)
                      (reads_say us (ts ++ t ∷ []) j (nested d t.mark) (operated o t.mark) (leads_more ts t m j l g) more dn on)
                ]) refl
          ]) refl
    ]) refl

pub all_say : (ts : Tokens) → Says ts (read_all ts)
all_say ts = reads_say ts [] start 0 0 (λ us. refl) stays_nothing refl refl

pub says_read : (ts : Tokens) (o : Option Block) → o ≡ read_all ts → Says ts o
says_read ts o e = subst (λ (q : Option Block). Says ts q) (sym e) (all_say ts)

pub one_block : (ts : Tokens) (xs ys : List Stmt) → SpellsCodeBlock xs ts → SpellsCodeBlock ys ts → xs ≡ ys
one_block ts xs ys c d =
    let p : runs start (spread ts) ≡ Some xs = complete c.spelled in
    let q : runs start (spread ts) ≡ Some ys = complete d.spelled in
    cc
