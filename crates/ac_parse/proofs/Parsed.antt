-- What parsing comes to, stage by stage. What is spelled within the limits is refused for want of memory alone.
use Rattle.std.proofs.Common.{◌≡◌, ℕ, ◌≤◌, List, Some, None, Result, Ok, Err, length, sym, subst, arith, refl, IsUtf8}
use Rattle.std.proofs.Math.Seq.{take-length}
use Rattle.ac_tree.specs.Limits.{limit_of}
use Rattle.ac_tree.specs.declared.limit.LimitKind.{LimitKind}
use Rattle.ac_tree.specs.declared.limit.LimitKind.TheVariants as limit
use Rattle.ac_tree.specs.declared.program.Program.{Program}
use Rattle.ac_tree.specs.Grammar.{Tokens, SpellsProgram}
use Rattle.ac_tree.specs.Numbering.{program_nodes}
use Rattle.ac_parse.specs.declared.parsing.ParseFault.{ParseFault}
use Rattle.ac_parse.specs.declared.parsing.ParseFault.TheVariants.{NotUtf8, Token, Unexpected, Limit, OutOfMemory}
use Rattle.ac_parse.specs.declared.refusal.Refusal.{Refusal}
use Rattle.ac_parse.specs.declared.refusal.Refusal.TheVariants as refusal
use Rattle.ac_tokens.specs.declared.token_fault.TokenFault.{TokenFault}
use Rattle.ac_tokens.specs.declared.token_fault.TokenFault.TheVariants as fault
use Rattle.ac_parse.specs.Limits.{StaysWithin}
use Rattle.ac_numbering.specs.Numbers.{NumbersProgram}
use Rattle.ac_parse.specs.Parsing.{IsShort, SpellsWithin, HasTokenFault, IsRefusedAfterCut, HasTooManyNodes, PassesLimit, IsParseFault}
use Rattle.ac_parse.specs.ReadTokens.{read_all}
use Rattle.ac_tokens.specs.TokenFaults.{IsTokenized}
use Rattle.ac_tokens.proofs.Cuts.{cut_once, fault_excludes}
use Rattle.ac_parse.proofs.ProgramComplete.{one_program}
use Rattle.ac_parse.proofs.Refused.{Says, all_say, not_refused}

tokenized : (bytes : List ℕ) (p : Program) (s : SpellsWithin bytes p) → IsTokenized bytes s.spells.tokens
tokenized bytes p s = record { cut = s.spells.cut; within = s.words }

refuses_none : (bytes : List ℕ) (p : Program) (r : Refusal) → SpellsWithin bytes p → IsRefusedAfterCut bytes r → ⊥
refuses_none bytes p r s h =
    let e = cut_once s.spells.cut h.cut.cut in
    not_refused (length bytes) h.tokens h.refused.before h.refused.after r s.spells.tree h.refused.whole h.refused.refuses
    (subst (λ ts. SpellsProgram s.spells.tree ts) e s.spells.spelled) (subst (λ ts. StaysWithin ts) e s.stays)

few_nodes : (bytes : List ℕ) (p : Program) → SpellsWithin bytes p → HasTooManyNodes bytes → ⊥
few_nodes bytes p s h =
    let e = one_program (subst (λ ts. SpellsProgram s.spells.tree ts) (cut_once s.spells.cut h.cut.cut) s.spells.spelled) h.spelled in
    let few : program_nodes h.tree ≤ limit_of limit.Nodes = subst (λ q. program_nodes q ≤ limit_of limit.Nodes) e s.few in
    omega (arith, few, h.many)

first_fault : (bytes : List ℕ) (p : Program) (f : TokenFault) → (f ≡ fault.OutOfMemory → ⊥) → SpellsWithin bytes p → HasTokenFault bytes f → ⊥
first_fault bytes p f k s h = fault_excludes f k h.first (tokenized bytes p s)

limit_never : (bytes : List ℕ) (p : Program) (which : LimitKind) (value : ℕ) → SpellsWithin bytes p → PassesLimit bytes which value → ⊥
limit_never bytes p limit.ProgramBytes value s h = omega (arith, h.1, s.short)
limit_never bytes p limit.Literal value s h = first_fault bytes p (fault.Literal h.2.0) (λ e. cc) s h.2.1
limit_never bytes p limit.NameLength value s h = first_fault bytes p (fault.Name h.2.0) (λ e. cc) s h.2.1
limit_never bytes p limit.Nesting value s h = refuses_none bytes p refusal.Nesting s h.2
limit_never bytes p limit.Operators value s h = refuses_none bytes p refusal.Operators s h.2
limit_never bytes p limit.Nodes value s h = few_nodes bytes p s h.2
limit_never bytes p _ value s h = h

pub never_refused : (bytes : List ℕ) (p : Program) (f : ParseFault) → SpellsWithin bytes p → IsParseFault bytes f → f ≡ OutOfMemory
never_refused bytes p (NotUtf8 at) s h =
    absurd (h.1.longest (length bytes) h.1.short (subst (λ bs. IsUtf8 bs) (sym (take-length bytes)) s.spells.cut.utf8))
never_refused bytes p (Token at) s h = absurd (first_fault bytes p (fault.Token at) (λ e. cc) s h.1)
never_refused bytes p (Unexpected span) s h = absurd (refuses_none bytes p (refusal.Unexpected span) s h.1)
never_refused bytes p (Limit which value) s h = absurd (limit_never bytes p which value s h)
never_refused bytes p OutOfMemory s h = refl

-- what the stages behind the cut say of the bytes

read_says : (n : ℕ) (ts : Tokens) (r : Result Program Refusal) → r ≡ read_all n ts → Says n ts r
read_says n ts r e = subst (λ (x : Result Program Refusal). Says n ts x) (sym e) (all_say n ts)

pub numbered_within : (bytes : List ℕ) (ts : Tokens) (tree p : Program) → IsShort bytes → IsTokenized bytes ts → Ok tree ≡ read_all (length bytes) ts →
    NumbersProgram tree (Some p) → SpellsWithin bytes p
numbered_within bytes ts tree p short cut e h =
    let s = read_says (length bytes) ts (Ok tree) e in
    record { spells = record { tokens = ts; cut = cut.cut; tree = tree; spelled = s.0; numbers = h.0 }; short = short; words = cut.within; stays = s.1; few = h.1 }

pub too_many_nodes : (bytes : List ℕ) (ts : Tokens) (tree : Program) → IsTokenized bytes ts → Ok tree ≡ read_all (length bytes) ts → NumbersProgram tree None → HasTooManyNodes bytes
too_many_nodes bytes ts tree cut e h =
    let s = read_says (length bytes) ts (Ok tree) e in
    record { tokens = ts; cut = cut; tree = tree; spelled = s.0; stays = s.1; many = h }

pub refused_after_cut : (bytes : List ℕ) (ts : Tokens) (r : Refusal) → IsTokenized bytes ts → Err r ≡ read_all (length bytes) ts → IsRefusedAfterCut bytes r
refused_after_cut bytes ts r cut e = record { tokens = ts; cut = cut; refused = read_says (length bytes) ts (Err r) e }
