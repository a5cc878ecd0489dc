-- Metavariables as code lists them, one behind the other.
use Rattle.std.proofs.Common.{◌≡◌, ℕ, ◌+◌, ◌<◌, List, [], ◌∷◌, ◌++◌, length, take, get_or, filter, not, Bool, true, false, ◌||◌, if◌then◌else◌, bytes_eq, refl, sym, ◌∙◌, ap, append_assoc, append-nil, rules, arith}
use Rattle.std.proofs.lemmas.List.{map-append, take_more}
use Rattle.std.proofs.lemmas.Slice.Eq.{bytes_eq-Decides}
use denote.Ref.{Bor}
use mathlib.Core.Former.{Count}
use Rattle.ac_tree.specs.Names.{NameBytes}
use Rattle.ac_codes.specs.declared.code.CodeBlock.{the_lemmas as code_lemmas, Row_of-CodeStmt, end_of-CodeStmt, more_of-CodeStmt, items-the_row-CodeStmt}
use Rattle.ac_codes.specs.declared.code.CodeBlock.TheVariants as part
use Rattle.ac_codes.specs.declared.code.CodeStmt.{CodeStmt}
use Rattle.ac_codes.specs.Listed.{texts_of, has_text, with_text}
use Rattle.ac_codes.specs.Metavariables.{stmt_metas, block_metas, row_metas, run_metas, distinct}

pub texts-push : (metas : List (Bor NameBytes)) (x : Bor NameBytes) → texts_of (metas ++ x ∷ []) ≡ texts_of metas ++ x.now ∷ []
texts-push metas x = map-append (λ (m : Bor NameBytes). m.now) metas (x ∷ [])

-- lists added one after the other
pub added_two : (from via to x y : List NameBytes) → via ≡ from ++ x → to ≡ via ++ y → to ≡ from ++ (x ++ y)
added_two from via to x y h k = k ∙ (ap (λ l. l ++ y) h ∙ append_assoc from x y)

pub added_none : (from : List NameBytes) → from ≡ from ++ []
added_none from = sym (append-nil from)

row_metas-items : (n : Count) (row : Row_of-CodeStmt n) → row_metas row ≡ run_metas (items-the_row-CodeStmt n row)
row_metas-items _ end_of-CodeStmt = refl
row_metas-items _ (more_of-CodeStmt {n = n} a rest) = ap (λ l. stmt_metas a ++ l) (row_metas-items n rest)

pub block_metas-Whole : (xs : List CodeStmt) → block_metas (part.Whole xs) ≡ run_metas xs
block_metas-Whole xs = first_of (search (rules, code_lemmas, row_metas-items), grind (arith, code_lemmas, row_metas-items))

pub block_metas-Around : (xs : List CodeStmt) (x : NameBytes) (zs : List CodeStmt) → block_metas (part.Around xs x zs) ≡ run_metas xs ++ (x ∷ run_metas zs)
block_metas-Around xs x zs = first_of (search (rules, code_lemmas, row_metas-items), grind (arith, code_lemmas, row_metas-items))

-- what code adds for a block with a metavariable, part by part
pub added_around : (from via past to : List NameBytes) (xs ys zs ws : List CodeStmt) (x : NameBytes) → ys ≡ xs → via ≡ from ++ run_metas ys →
    past ≡ via ++ x ∷ [] → ws ≡ zs → to ≡ past ++ run_metas ws → to ≡ from ++ block_metas (part.Around xs x zs)
added_around from via past to xs ys zs ws x a h k b l =
    l ∙ (ap (λ (m : List NameBytes). m ++ run_metas ws) k
    ∙ (append_assoc via (x ∷ []) (run_metas ws)
    ∙ (ap (λ (m : List NameBytes). m ++ (x ∷ run_metas ws)) h
    ∙ (append_assoc from (run_metas ys) (x ∷ run_metas ws)
    ∙ (ap (λ (vs : List CodeStmt). from ++ (run_metas vs ++ (x ∷ run_metas ws))) a
    ∙ (ap (λ (vs : List CodeStmt). from ++ (run_metas xs ++ (x ∷ run_metas vs))) b
    ∙ ap (λ (m : List NameBytes). from ++ m) (sym (block_metas-Around xs x zs))))))))

pub ruleset listing_rules = (texts-push, added_two, added_none, code_lemmas, block_metas-Whole, block_metas-Around)

-- one text more

abbrev others : NameBytes → List NameBytes → List NameBytes
others y xs = filter (λ z. not (bytes_eq y z)) xs

other-has : (x y : NameBytes) (xs : List NameBytes) → bytes_eq y x ≡ false → has_text (others y xs) x ≡ has_text xs x
other-has x y [] h = refl
other-has x y (z ∷ xs) h = by (bytes_eq y z) (bytes_eq z x) refl refl (other-has x y xs h)
  where
    clash : bytes_eq y z ≡ true → bytes_eq z x ≡ true → ⊥
    clash e f = grind (arith, bytes_eq-Decides, h)

    by : (b c : Bool) → bytes_eq y z ≡ b → bytes_eq z x ≡ c → has_text (others y xs) x ≡ has_text xs x →
        has_text (if not b then z ∷ others y xs else others y xs) x ≡ (c || has_text xs x)
    by true true e f k = absurd (clash e f)
    by true false e f k = k
    by false true e f k = rw f refl
    by false false e f k = rw f k

others-append : (y : NameBytes) (xs ys : List NameBytes) → others y (xs ++ ys) ≡ others y xs ++ others y ys
others-append y [] ys = refl
others-append y (z ∷ xs) ys = by (bytes_eq y z) (others-append y xs ys)
  where
    by : (b : Bool) → others y (xs ++ ys) ≡ others y xs ++ others y ys →
        (if not b then z ∷ others y (xs ++ ys) else others y (xs ++ ys)) ≡ (if not b then z ∷ others y xs else others y xs) ++ others y ys
    by true k = k
    by false k = ap (λ l. z ∷ l) k

-- x behind the others than y: it is dropped where it is y

dropped : (y x : NameBytes) (f : List NameBytes) (c : Bool) → bytes_eq y x ≡ true → others y (if c then f else f ++ x ∷ []) ≡ others y f
dropped y x f true e = refl
dropped y x f false e = others-append y f (x ∷ []) ∙ gone
  where
    gone : others y f ++ others y (x ∷ []) ≡ others y f
    gone = rw e (append-nil (others y f))

stays : (y x : NameBytes) (f : List NameBytes) (c : Bool) → bytes_eq y x ≡ false →
    y ∷ others y (if c then f else f ++ x ∷ []) ≡ (if c then y ∷ others y f else y ∷ (others y f ++ x ∷ []))
stays y x f true e = refl
stays y x f false e = ap (λ l. y ∷ l) (others-append y f (x ∷ []) ∙ kept)
  where
    kept : others y f ++ others y (x ∷ []) ≡ others y f ++ x ∷ []
    kept = rw e refl

one-more : (y x : NameBytes) (f : List NameBytes) (b : Bool) → bytes_eq y x ≡ b → y ∷ others y (with_text f x) ≡ with_text (y ∷ others y f) x
one-more y x f true e = ap (λ l. y ∷ l) (dropped y x f (has_text f x) e) ∙ rw e refl
one-more y x f false e = rw (e, other-has x y f e) (stays y x f (has_text f x) e)

pub distinct-snoc : (xs : List NameBytes) (x : NameBytes) → distinct (xs ++ x ∷ []) ≡ with_text (distinct xs) x
distinct-snoc [] x = refl
distinct-snoc (y ∷ xs) x = ap (λ l. y ∷ others y l) (distinct-snoc xs x) ∙ one-more y x (distinct xs) (bytes_eq y x) refl

-- one place more
pub distinct-step : (places : List (Bor NameBytes)) (i : ℕ) (x : Bor NameBytes) → i < length places → x ≡ get_or places i x →
    distinct (texts_of (take (i + 1) places)) ≡ with_text (distinct (texts_of (take i places))) x.now
distinct-step places i x h e =
    ap (λ (ms : List (Bor NameBytes)). distinct (texts_of ms)) (take_more places i x h ∙ ap (λ (y : Bor NameBytes). take i places ++ y ∷ []) (sym e))
    ∙ (ap distinct (texts-push (take i places) x) ∙ distinct-snoc (texts_of (take i places)) x.now)

pub ruleset distinct_rules = (distinct-step)
