-- Lists read from their end.
use Rattle.std.proofs.Common.{◌≡◌, ℕ, ◌-◌, ◌<◌, ◌≤◌, List, [], ◌∷◌, ◌++◌, reverse, length, get_or, sym, ◌∙◌, ap, subst, arith}
use Rattle.std.proofs.lemmas.List.{get_or-reverse, get_or_past, get_or_read, length-reverse, reverse-append, append_assoc}

pub not_named : {X : Type 0} (xs : List X) (k : ℕ) (d : X) → length xs ≤ k → get_or (reverse xs) k d ≡ d
not_named xs k d h = get_or_past (reverse xs) k d (subst (λ n. n ≤ k) (sym (length-reverse xs)) h)

pub named_last : {X : Type 0} (xs : List X) (k : ℕ) (d x : X) → k < length xs → x ≡ get_or xs (length xs - 1 - k) x → get_or (reverse xs) k d ≡ x
named_last xs k d x h e = get_or-reverse xs k d h ∙ sym (get_or_read xs (length xs - 1 - k) x (omega arith) e d)

pub pushed : {X : Type 0} (xs : List X) (x : X) → reverse (xs ++ x ∷ []) ≡ x ∷ reverse xs
pushed xs x = reverse-append xs (x ∷ [])

-- two lists are added in front, the second one first
pub in_front : {X : Type 0} (xs ys ps qs rs : List X) → qs ≡ ys ++ ps → rs ≡ xs ++ qs → rs ≡ xs ++ ys ++ ps
in_front xs ys ps qs rs h k = k ∙ (ap (λ q. xs ++ q) h ∙ sym (append_assoc xs ys ps))
