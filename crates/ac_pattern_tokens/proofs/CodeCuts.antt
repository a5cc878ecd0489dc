-- Cuts of a code's text go on from piece to piece, and there is one at most.
use Rattle.std.proofs.Common.{◌≡◌, ℕ, ◌+◌, List, [], ◌∷◌, ◌++◌, true, refl, sym, ◌∙◌, ap, subst, append_assoc, append-nil, arith, inl, inr, ◌⊎◌}
use Rattle.std.proofs.lemmas.Bool.Decides.{nat_tests}
use Rattle.ac_tree.specs.declared.token.ByteKind.TheVariants.{At, Other}
use Rattle.ac_tree.specs.declared.token.Mark.{Mark}
use Rattle.ac_tree.specs.declared.token.Mark.TheVariants as mark
use Rattle.ac_tree.specs.declared.token.Token.{Token}
use Rattle.ac_tree.specs.Grammar.{Tokens}
use Rattle.ac_tree.specs.Names.{NameBytes}
use Rattle.ac_tree.specs.Tokens.{kind_of_byte, IsFault, token, Lexes}
use Rattle.ac_tree.specs.Tokens as cut
use Rattle.ac_tokens.specs.TokenFaults.{AreWithinLimits}
use Rattle.ac_tokens.proofs.OneCut.{Meet, meets, stuck, ahead}
use Rattle.ac_tokens.proofs.Placed.{cut_joined, within_joined}
use Rattle.ac_pattern_tokens.specs.Signs.{is_sign}
use Rattle.ac_pattern_tokens.specs.CodeText.{CutsCode, plain, metavariable}

within_front : (ts us : Tokens) → AreWithinLimits (ts ++ us) → AreWithinLimits ts
within_front [] us w = tt
within_front (t ∷ ts) us w = (w.0, within_front ts us w.1)

within_behind : (ts us : Tokens) → AreWithinLimits (ts ++ us) → AreWithinLimits us
within_behind [] us w = w
within_behind (t ∷ ts) us w = within_behind ts us w.1

sign_kind : (b : ℕ) → is_sign b ≡ true → kind_of_byte b ≡ Other ⊎ kind_of_byte b ≡ At
unfolding kind_of_byte
sign_kind b s = grind (arith, nat_tests)

-- at a sign no token begins
pub sign_fault : (b : ℕ) (bytes : List ℕ) → is_sign b ≡ true → IsFault (b ∷ bytes)
sign_fault b bytes s = elim (sign_kind b s) [
  | inl e ↦ inl (subst (λ k. cut.IsStray k bytes) (sym e) tt)
  | inr e ↦ inl (subst (λ k. cut.IsStray k bytes) (sym e) tt)
]

-- behind the end nothing is cut
end_stays : {at to : ℕ} {left : List ℕ} {ts : Tokens} → Lexes at [] ts to left → (ts ≡ []) × (to ≡ at) × (left ≡ [])
end_stays cut.nothing = (refl, refl, refl)

-- what goes nowhere leaves the bytes
stays : {at to : ℕ} {bytes left : List ℕ} {ts : Tokens} → Lexes at bytes ts to left → to ≡ at → left ≡ bytes
stays cut.nothing e = refl
stays (cut.blank f d) e = absurd (omega (arith, ahead d, e))
stays (cut.comment line f g h d) e = absurd (omega (arith, ahead d, e))
stays (cut.word more f g h d) e = absurd (omega (arith, ahead d, e))
stays (cut.literal more f g h z d) e = absurd (omega (arith, ahead d, e))
stays (cut.lone_sign s f g d) e = absurd (omega (arith, ahead d, e))
stays (cut.joined_sign s f d) e = absurd (omega (arith, ahead d, e))

pub cuts_nothing : {at : ℕ} {ts : Tokens} → CutsCode at [] ts → ts ≡ []
cuts_nothing (plain d w) = (end_stays d).0
cuts_nothing (metavariable d w s n l m) = let e = (end_stays d).2 in absurd (cc)

-- tokens before a cut
pub cut_behind : {at to : ℕ} {bytes left : List ℕ} {ts us : Tokens} → Lexes at bytes ts to left → AreWithinLimits ts → CutsCode to left us → CutsCode at bytes (ts ++ us)
cut_behind {ts = ts} c v (plain {ts = us} d w) = plain (cut_joined c d) (within_joined ts us v w)
cut_behind {at = at} {bytes = bytes} {ts = ts} c v (metavariable {to = to} {end_ = end_} {sign = sign} {x = x} {ts = us} {us = vs} d w s n l m) =
    subst (λ q. CutsCode at bytes q) (append_assoc ts us (token (mark.Name (sign ∷ x)) to end_ ∷ vs)) (metavariable (cut_joined c d) (within_joined ts us v w) s n l m)

-- a cut goes through wherever tokens end
pub record Through (ts : Tokens) (to : ℕ) (left : List ℕ) (vs : Tokens) : Type 0 where
  pub more : Tokens
  pub whole : vs ≡ ts ++ more
  pub within : AreWithinLimits ts
  pub cut : CutsCode to left more

plain_through : {to end_ : ℕ} {left : List ℕ} {ts us : Tokens} → AreWithinLimits us → Meet ts to left us end_ [] → Through ts to left us
plain_through {ts = ts} {us = us} w (inl o) =
    let v = subst (λ q. AreWithinLimits q) o.whole w in
    record { more = o.more; whole = o.whole; within = within_front ts o.more v; cut = plain o.cut (within_behind ts o.more v) }
plain_through {to = to} {ts = ts} {us = us} w (inr o) =
    let e = end_stays o.cut in
    let same : ts ≡ us = o.whole ∙ (ap (λ m. us ++ m) e.0 ∙ append-nil us) in
    record { more = []; whole = sym same ∙ sym (append-nil ts); within = subst (λ q. AreWithinLimits q) (sym same) w; cut = subst (λ l. CutsCode to l []) (sym e.2) (plain cut.nothing tt) }

meta_through : {to mid end_ sign : ℕ} {left middle rest : List ℕ} {x : NameBytes} {ts us ws : Tokens} → AreWithinLimits us → is_sign sign ≡ true →
    Lexes (mid + 1) middle (token (mark.Name x) (mid + 1) end_ ∷ []) end_ rest → AreWithinLimits (token (mark.Name x) (mid + 1) end_ ∷ []) → CutsCode end_ rest ws →
    Meet ts to left us mid (sign ∷ middle) → Through ts to left (us ++ token (mark.Name (sign ∷ x)) mid end_ ∷ ws)
meta_through {mid = mid} {end_ = end_} {sign = sign} {x = x} {ts = ts} {us = us} {ws = ws} w s n l m (inl o) =
    let t = token (mark.Name (sign ∷ x)) mid end_ in
    let v = subst (λ q. AreWithinLimits q) o.whole w in
    record { more = o.more ++ t ∷ ws; whole = ap (λ q. q ++ t ∷ ws) o.whole ∙ append_assoc ts o.more (t ∷ ws); within = within_front ts o.more v; cut = metavariable o.cut (within_behind ts o.more v) s n l m }
meta_through {to = to} {mid = mid} {end_ = end_} {sign = sign} {middle = middle} {x = x} {ts = ts} {us = us} {ws = ws} w s n l m (inr o) =
    let t = token (mark.Name (sign ∷ x)) mid end_ in
    let e = stuck (sign_fault sign middle s) o.cut in
    let same : ts ≡ us = o.whole ∙ (ap (λ q. us ++ q) e.0 ∙ append-nil us) in
    let here : CutsCode mid (sign ∷ middle) (t ∷ ws) = metavariable cut.nothing tt s n l m in
    record { more = t ∷ ws; whole = ap (λ q. q ++ t ∷ ws) (sym same); within = subst (λ q. AreWithinLimits q) (sym same) w; cut = subst (λ q. CutsCode to q (t ∷ ws)) (sym e.2) (subst (λ q. CutsCode q (sign ∷ middle) (t ∷ ws)) (sym e.1) here) }

pub goes_through : {at to : ℕ} {bytes left : List ℕ} {ts vs : Tokens} → Lexes at bytes ts to left → CutsCode at bytes vs → Through ts to left vs
goes_through c (plain d w) = plain_through w (meets c d)
goes_through c (metavariable d w s n l m) = meta_through w s n l m (meets c d)

-- where the last of the tokens ends
abbrev end_of : Tokens → ℕ
end_of [] = 0
end_of (t ∷ ts) = t.span.end

abbrev marked : Mark → NameBytes
marked (mark.Name x) = x
marked _ = []

-- the first of the tokens
abbrev pub first_mark : Tokens → Mark
first_mark [] = mark.Name []
first_mark (t ∷ ts) = t.mark

abbrev name_of : Tokens → NameBytes
name_of [] = []
name_of (t ∷ ts) = marked t.mark

-- one name is cut at a place at most
name_met : {e f : ℕ} {r q : List ℕ} (at : ℕ) (x y : NameBytes) → Meet (token (mark.Name x) at e ∷ []) e r (token (mark.Name y) at f ∷ []) f q → (y ≡ x) × (f ≡ e) × (q ≡ r)
name_met at x y (inl o) = (ap name_of o.whole, ap end_of o.whole, stays o.cut (ap end_of o.whole))
name_met at x y (inr o) = (sym (ap name_of o.whole), sym (ap end_of o.whole), sym (stays o.cut (ap end_of o.whole)))

-- two single tokens that begin at a place are the same
pub mark_met : {e f : ℕ} {r q : List ℕ} {at : ℕ} {m n : Mark} → Meet (token m at e ∷ []) e r (token n at f ∷ []) f q → m ≡ n
mark_met (inl o) = sym (ap first_mark o.whole)
mark_met (inr o) = ap first_mark o.whole

pub one_name : {at e f : ℕ} {bytes r q : List ℕ} {x y : NameBytes} → Lexes at bytes (token (mark.Name x) at e ∷ []) e r → Lexes at bytes (token (mark.Name y) at f ∷ []) f q → (y ≡ x) × (f ≡ e) × (q ≡ r)
one_name {at = at} {x = x} {y = y} c d = name_met at x y (meets c d)

-- at a sign a metavariable is cut
pub record Behind (t : Token) (end_ : ℕ) (rest : List ℕ) (vs : Tokens) : Type 0 where
  pub more : Tokens
  pub whole : vs ≡ t ∷ more
  pub cut : CutsCode end_ rest more

-- the name behind the sign
pub record Named (at : ℕ) (left : List ℕ) (sign : ℕ) (vs : Tokens) : Type 0 where
  pub name : NameBytes
  pub end_ : ℕ
  pub rest : List ℕ
  pub cut : Lexes (at + 1) left (token (mark.Name name) (at + 1) end_ ∷ []) end_ rest
  pub within : AreWithinLimits (token (mark.Name name) (at + 1) end_ ∷ [])
  pub behind : Behind (token (mark.Name (sign ∷ name)) at end_) end_ rest vs

pub sign_named : {at sign : ℕ} {left : List ℕ} {vs : Tokens} → is_sign sign ≡ true → CutsCode at (sign ∷ left) vs → Named at left sign vs
sign_named {sign = sign} {left = left} k (plain d w) = let e = (stuck (sign_fault sign left k) d).2 in absurd (cc)
sign_named {at = at} {sign = sign} {left = left} k (metavariable {to = to} {end_ = end_} {sign = other} {left = after} {rest = rest} {x = x} {ts = ts} {us = us} d w s n l m) =
    let e = stuck (sign_fault sign left k) d in
    let same : after ≡ left = let h = e.2 in cc in
    let sign_same : other ≡ sign = let h = e.2 in cc in
    record {
      name = x;
      end_ = end_;
      rest = rest;
      cut = subst (λ q. Lexes (q + 1) left (token (mark.Name x) (q + 1) end_ ∷ []) end_ rest) e.1 (subst (λ q. Lexes (to + 1) q (token (mark.Name x) (to + 1) end_ ∷ []) end_ rest) same n);
      within = l;
      behind = record { more = us; whole = ap (λ q. q ++ token (mark.Name (other ∷ x)) to end_ ∷ us) e.0 ∙ (ap (λ q. token (mark.Name (q ∷ x)) to end_ ∷ us) sign_same ∙ ap (λ q. token (mark.Name (sign ∷ x)) q end_ ∷ us) e.1); cut = m };
    }

pub sign_through : {at end_ sign : ℕ} {left rest : List ℕ} {x : NameBytes} {vs : Tokens} → is_sign sign ≡ true → Lexes (at + 1) left (token (mark.Name x) (at + 1) end_ ∷ []) end_ rest →
    CutsCode at (sign ∷ left) vs → Behind (token (mark.Name (sign ∷ x)) at end_) end_ rest vs
sign_through {at = at} {end_ = end_} {sign = sign} {rest = rest} {x = x} {vs = vs} k c d =
    let n = sign_named k d in
    let e = one_name c n.cut in
    record {
      more = n.behind.more;
      whole = n.behind.whole ∙ (ap (λ q. token (mark.Name (sign ∷ q)) at n.end_ ∷ n.behind.more) e.0 ∙ ap (λ q. token (mark.Name (sign ∷ x)) at q ∷ n.behind.more) e.1);
      cut = subst (λ q. CutsCode q rest n.behind.more) e.1 (subst (λ q. CutsCode n.end_ q n.behind.more) e.2 n.behind.cut);
    }

pub one_cut : {at : ℕ} {bytes : List ℕ} {ts us : Tokens} → CutsCode at bytes ts → CutsCode at bytes us → ts ≡ us
one_cut {us = us} (plain {ts = ts} d w) c =
    let t = goes_through d c in
    sym (t.whole ∙ (ap (λ q. ts ++ q) (cuts_nothing t.cut) ∙ append-nil ts))
one_cut {us = us} (metavariable {to = to} {end_ = end_} {sign = sign} {x = x} {ts = ts} {us = vs} d w s n l m) c =
    let t = goes_through d c in
    let b = sign_through s n t.cut in
    let e = one_cut m b.cut in
    sym (t.whole ∙ ap (λ q. ts ++ q) (b.whole ∙ ap (λ q. token (mark.Name (sign ∷ x)) to end_ ∷ q) (sym e)))
