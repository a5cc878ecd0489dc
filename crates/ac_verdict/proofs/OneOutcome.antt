-- The outcome is determined: by the fault of the text, else by the program that is spelled and the policy.
use Rattle.std.proofs.Common.{◌≡◌, ◌≢◌, ◌⊎◌, inl, inr, ℕ, zero, suc, ◌≤◌, Bool, true, false, cond, List, [], ◌∷◌, ◌++◌, length, refl, ap, sym, ◌∙◌, arith, if◌then◌else◌}
use Rattle.std.specs.Prelude.{Option, Some, None, IsTrue, Result, Ok, Err}
use Rattle.std.proofs.lemmas.List.Elements.{All-head, All-tail}
use Rattle.ac_tree.specs.declared.node.Node.{Node}
use Rattle.ac_tree.specs.declared.node.NodeId.{NodeId}
use Rattle.ac_tree.specs.declared.program.Program.{Program}
use Rattle.ac_tree.specs.declared.program.Stmt.{Stmt}
use Rattle.ac_tree.specs.declared.static_rules.StaticFault.{StaticFault}
use Rattle.ac_tree.specs.StaticRules.{first_fault, faults, KeepsStaticRules}
use Rattle.ac_parse.specs.declared.parsing.ParseFault.{ParseFault}
use Rattle.ac_parse.specs.declared.parsing.ParseFault.TheVariants as parse_fault
use Rattle.ac_parse.specs.Parsing.{SpellsWithin, IsParseFault}
use Rattle.ac_policy_table.specs.declared.fault.TableFault.{TableFault}
use Rattle.ac_policy_table.specs.declared.fault.TableFault.TheVariants as table
use Rattle.ac_policy_table.specs.declared.pattern_table.PatternTable.{PatternTable}
use Rattle.ac_policy_table.specs.declared.policy_table.PolicyTable.{PolicyTable}
use Rattle.ac_policy_table.specs.PolicyFile.{file_says}
use Rattle.ac_verdict.specs.declared.count.Count.{Count}
use Rattle.ac_verdict.specs.declared.outcome.Outcome.{Outcome}
use Rattle.ac_verdict.specs.declared.outcome.Outcome.TheVariants.{Accepted, Rejected, Program as Refused, Limit, Policy, OutOfMemory}
use Rattle.ac_verdict.specs.declared.policy_fault.PatternFault.{PatternFault}
use Rattle.ac_verdict.specs.declared.policy_fault.PolicyFault.TheVariants.{NotToml, UnknownKey, MissingKey, BadValue, FirstPattern}
use Rattle.ac_verdict.specs.declared.program_fault.ProgramFault.TheVariants.{NotUtf8, Token, Unexpected, Rule, NotSupported}
use Rattle.ac_verdict.specs.Causes.{HasVerdict, IsSomeProgram, IsCause}
use Rattle.ac_verdict.specs.Policy.{HasTable, fault_of_first}
use Rattle.ac_verdict.specs.Sites.{counts, unproved}
use Rattle.ac_verdict.specs.Supported.{is_straight, AreStraight, IsSupported, IsFirstUnsupported}
use Rattle.ac_verdict.proofs.TextLaws.{only_one, one_refusal, never_refused}

-- the first statement without a verdict, where so many with one may stand before it
abbrev unsupported_in : Program → ℕ → List Stmt → Option NodeId
unsupported_in p most [] = None
unsupported_in p zero (st ∷ rest) = Some st.node.id
unsupported_in p (suc most) (st ∷ rest) = if is_straight p st.kind then unsupported_in p most rest else Some st.node.id

unsupported-first : (p : Program) (most : ℕ) (before after : List Stmt) (st : Stmt) → AreStraight p before → length before ≤ most → (IsTrue (is_straight p st.kind) → length before ≡ most) →
    unsupported_in p most (before ++ st ∷ after) ≡ Some st.node.id
unsupported-first p zero [] after st straight few last = refl
unsupported-first p (suc most) [] after st straight few last = by (is_straight p st.kind) last
  where
    by : (b : Bool) → (IsTrue b → 0 ≡ suc most) → cond b (unsupported_in p most after) (Some st.node.id) ≡ Some st.node.id
    by true last = absurd (omega (arith, last refl))
    by false last = refl
unsupported-first p zero (x ∷ before) after st straight few last = absurd (omega arith)
unsupported-first p (suc most) (x ∷ before) after st straight few last =
    ap (λ (b : Bool). cond b (unsupported_in p most (before ++ st ∷ after)) (Some x.node.id)) (All-head (λ (s : Stmt). IsTrue (is_straight p s.kind)) x before straight)
    ∙ unsupported-first p most before after st (All-tail (λ (s : Stmt). IsTrue (is_straight p s.kind)) x before straight) (omega arith) (λ s. omega (arith, last s))

unsupported-none : (p : Program) (most : ℕ) (body : List Stmt) → AreStraight p body → length body ≤ most → unsupported_in p most body ≡ None
unsupported-none p most [] straight few = refl
unsupported-none p zero (st ∷ body) straight few = absurd (omega arith)
unsupported-none p (suc most) (st ∷ body) straight few =
    ap (λ (b : Bool). cond b (unsupported_in p most body) (Some st.node.id)) (All-head (λ (s : Stmt). IsTrue (is_straight p s.kind)) st body straight)
    ∙ unsupported-none p most body (All-tail (λ (s : Stmt). IsTrue (is_straight p s.kind)) st body straight) (omega arith)

-- what a program and a policy determine, stage by stage
abbrev by_nodes : List Count → List Node → Outcome
by_nodes ks [] = Accepted ks
by_nodes ks (n ∷ ns) = Rejected ks (n ∷ ns)

abbrev after_patterns : Program → PolicyTable → Option PatternFault → Outcome
after_patterns p t (Some fault) = Policy (FirstPattern fault)
after_patterns p t None = by_nodes (counts t.policies p) (unproved t.policies p)

abbrev after_policy : Program → Result PolicyTable TableFault → Outcome
after_policy p (Ok t) = after_patterns p t (fault_of_first t.patterns)
after_policy p (Err (table.Limit which value)) = Limit which value
after_policy p (Err table.NotToml) = Policy NotToml
after_policy p (Err (table.UnknownKey key)) = Policy (UnknownKey key)
after_policy p (Err (table.MissingKey key)) = Policy (MissingKey key)
after_policy p (Err (table.BadValue key)) = Policy (BadValue key)
after_policy p (Err table.OutOfMemory) = OutOfMemory

abbrev after_forms : Program → List ℕ → Option NodeId → Outcome
after_forms p policy (Some node) = Refused (NotSupported node)
after_forms p policy None = after_policy p (file_says policy)

abbrev after_rules : Program → List ℕ → Option StaticFault → Outcome
after_rules p policy (Some fault) = Refused (Rule fault)
after_rules p policy None = after_forms p policy (unsupported_in p 1000 p.body)

outcome_of : Program → List ℕ → Outcome
outcome_of p policy = after_rules p policy (first_fault (faults p))

kept : (p : Program) (policy : List ℕ) → KeepsStaticRules p → outcome_of p policy ≡ after_forms p policy (unsupported_in p 1000 p.body)
unfolding outcome_of
kept p policy rules = ap (λ (o : Option StaticFault). after_rules p policy o) (ap first_fault rules)

supported : (p : Program) (policy : List ℕ) → KeepsStaticRules p → IsSupported p → outcome_of p policy ≡ after_policy p (file_says policy)
supported p policy rules s = kept p policy rules ∙ ap (λ (o : Option NodeId). after_forms p policy o) (unsupported-none p 1000 p.body s.straight s.few)

unsupported : (p : Program) (policy : List ℕ) (node : NodeId) → KeepsStaticRules p → IsFirstUnsupported p node → outcome_of p policy ≡ Refused (NotSupported node)
unsupported p policy node rules f =
    kept p policy rules
    ∙ ap (λ (o : Option NodeId). after_forms p policy o) (ap (λ (body : List Stmt). unsupported_in p 1000 body) f.split ∙ unsupported-first p 1000 f.before f.after f.first f.straight f.few f.last)
    ∙ ap (λ (n : NodeId). Refused (NotSupported n)) (sym f.named)

judged : (p : Program) (policy : List ℕ) (t : PolicyTable) → KeepsStaticRules p → IsSupported p → HasTable policy t → outcome_of p policy ≡ by_nodes (counts t.policies p) (unproved t.policies p)
judged p policy t rules s selected =
    supported p policy rules s ∙ ap (λ (r : Result PolicyTable TableFault). after_policy p r) selected.said
    ∙ ap (λ (ps : List PatternTable). after_patterns p t (fault_of_first ps)) selected.no_patterns

some_nodes : (ks : List Count) (nodes : List Node) → nodes ≢ [] → by_nodes ks nodes ≡ Rejected ks nodes
some_nodes ks [] some = absurd (some refl)
some_nodes ks (n ∷ ns) some = refl

-- what a fault of the text determines
abbrev outcome_of_fault : ParseFault → Outcome
outcome_of_fault (parse_fault.NotUtf8 at) = Refused (NotUtf8 at)
outcome_of_fault (parse_fault.Token at) = Refused (Token at)
outcome_of_fault (parse_fault.Unexpected span) = Refused (Unexpected span)
outcome_of_fault (parse_fault.Limit which value) = Limit which value
outcome_of_fault parse_fault.OutOfMemory = OutOfMemory

record OfText (program : List ℕ) (o : Outcome) : Type 0 where
  fault : ParseFault
  cause : IsParseFault program fault
  is : o ≡ outcome_of_fault fault

record OfProgram (program policy : List ℕ) (o : Outcome) : Type 0 where
  tree : Program
  within : SpellsWithin program tree
  is : o ≡ outcome_of tree policy

of_verdict : (program policy : List ℕ) (p : Program) (t : PolicyTable) (o : Outcome) → HasVerdict program p → HasTable policy t → o ≡ by_nodes (counts t.policies p) (unproved t.policies p) →
    OfProgram program policy o
of_verdict program policy p t o v selected is = record { tree = p; within = v.within; is = is ∙ sym (judged p policy t v.rules v.supported selected) }

of_policy : (program policy : List ℕ) (s : IsSomeProgram program) (r : Result PolicyTable TableFault) (o : Outcome) → file_says policy ≡ r → o ≡ after_policy s.0 r → OfProgram program policy o
of_policy program policy s r o said is = record {
  tree = s.0;
  within = s.1.within;
  is = is ∙ sym (supported s.0 policy s.1.rules s.1.supported ∙ ap (λ (r : Result PolicyTable TableFault). after_policy s.0 r) said);
}

stage : (program policy : List ℕ) (o : Outcome) → IsCause program policy o → o ≢ OutOfMemory → OfText program o ⊎ OfProgram program policy o
unfolding outcome_of
stage program policy (Accepted ks) a ne =
    inr (of_verdict program policy a.tree a.table (Accepted ks) a.verdict a.selected
    (ap Accepted a.counted ∙ sym (ap (λ (ns : List Node). by_nodes (counts a.table.policies a.tree) ns) a.proved)))
stage program policy (Rejected ks nodes) r ne =
    inr (of_verdict program policy r.tree r.table (Rejected ks nodes) r.verdict r.selected
    (sym (some_nodes ks nodes r.some) ∙ ap (λ (js : List Count). by_nodes js nodes) r.counted ∙ ap (λ (ns : List Node). by_nodes (counts r.table.policies r.tree) ns) r.sites))
stage program policy (Refused (NotUtf8 at)) h ne = inl (record { fault = parse_fault.NotUtf8 at; cause = h; is = refl })
stage program policy (Refused (Token at)) h ne = inl (record { fault = parse_fault.Token at; cause = h; is = refl })
stage program policy (Refused (Unexpected span)) h ne = inl (record { fault = parse_fault.Unexpected span; cause = h; is = refl })
stage program policy (Refused (Rule fault)) h ne =
    inr (record { tree = h.0; within = h.1; is = sym (ap (λ (o : Option StaticFault). after_rules h.0 policy o) h.2) })
stage program policy (Refused (NotSupported node)) h ne = inr (record { tree = h.0; within = h.1; is = sym (unsupported h.0 policy node h.2 h.3) })
stage program policy (Limit which value) h ne =
    elim h [
      | inl text ↦ inl (record { fault = parse_fault.Limit which value; cause = text; is = refl })
      | inr file ↦ inr (of_policy program policy file.0 (Err (table.Limit which value)) (Limit which value) file.1 refl)
    ]
stage program policy (Policy NotToml) h ne = inr (of_policy program policy h.0 (Err table.NotToml) (Policy NotToml) h.1 refl)
stage program policy (Policy (UnknownKey key)) h ne = inr (of_policy program policy h.0 (Err (table.UnknownKey key)) (Policy (UnknownKey key)) h.1 refl)
stage program policy (Policy (MissingKey key)) h ne = inr (of_policy program policy h.0 (Err (table.MissingKey key)) (Policy (MissingKey key)) h.1 refl)
stage program policy (Policy (BadValue key)) h ne = inr (of_policy program policy h.0 (Err (table.BadValue key)) (Policy (BadValue key)) h.1 refl)
stage program policy (Policy (FirstPattern fault)) h ne =
    inr (of_policy program policy h.0 (Ok h.1.0) (Policy (FirstPattern fault)) h.1.1 (sym (ap (λ (o : Option PatternFault). after_patterns h.0.0 h.1.0 o) h.1.2)))
stage program policy OutOfMemory h ne = absurd (ne refl)

-- the fault of the text is not want of memory
is_fault : (program : List ℕ) (o : Outcome) (t : OfText program o) → o ≢ OutOfMemory → t.fault ≡ parse_fault.OutOfMemory → ⊥
is_fault program o t ne e = ne (t.is ∙ ap outcome_of_fault e)

one_text : (program : List ℕ) (a b : Outcome) → OfText program a → OfText program b → a ≢ OutOfMemory → b ≢ OutOfMemory → a ≡ b
one_text program a b s t na nb =
    s.is ∙ ap outcome_of_fault (one_refusal program s.fault t.fault s.cause t.cause (is_fault program a s na) (is_fault program b t nb)) ∙ sym t.is

not_both : (program policy : List ℕ) (a b : Outcome) → OfText program a → OfProgram program policy b → a ≢ OutOfMemory → ⊥
not_both program policy a b s t na = is_fault program a s na (never_refused program t.tree s.fault t.within s.cause)

one_judged : (program policy : List ℕ) (a b : Outcome) → OfProgram program policy a → OfProgram program policy b → a ≡ b
one_judged program policy a b s t = s.is ∙ ap (λ (p : Program). outcome_of p policy) (only_one program t.tree t.within s.tree s.within.spells) ∙ sym t.is

pub one_outcome : (program policy : List ℕ) (a b : Outcome) → IsCause program policy a → IsCause program policy b → a ≢ OutOfMemory → b ≢ OutOfMemory → a ≡ b
one_outcome program policy a b ca cb na nb =
    elim (stage program policy a ca na) [
      | inl s ↦ elim (stage program policy b cb nb) [
        | inl t ↦ one_text program a b s t na nb
        | inr t ↦ absurd (not_both program policy a b s t na)
      ]
      | inr s ↦ elim (stage program policy b cb nb) [
        | inl t ↦ absurd (not_both program policy b a t s nb)
        | inr t ↦ one_judged program policy a b s t
      ]
    ]
