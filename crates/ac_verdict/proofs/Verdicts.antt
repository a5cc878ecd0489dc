-- From a program that has a verdict to its outcome and to the headline.
use Rattle.std.proofs.Common.{◌≡◌, ◌≢◌, ℕ, Bool, true, false, not, cond, List, [], ◌∷◌, ◌++◌, map, refl, sym, subst, inl, inr, ◌<◌, length, nat_lt, arith}
use Rattle.std.specs.Prelude.{All, filter, IsTrue}
use Rattle.std.proofs.lemmas.Bool.Decides.{nat_tests}
use Rattle.std.proofs.lemmas.List.Elements.{All-nil, All-cons, All-contains}
use Rattle.ac_tree.specs.declared.node.Node.{Node}
use Rattle.ac_tree.specs.declared.policy.PolicyName.{PolicyName}
use Rattle.ac_tree.specs.declared.policy.PolicyName.TheVariants.{Init, Bounds, Symm}
use Rattle.ac_tree.specs.declared.program.Program.{Program}
use Rattle.ac_tree.specs.declared.program.Stmt.{Stmt}
use Rattle.ac_tree.specs.Limits.{limit_of}
use Rattle.ac_tree.specs.declared.limit.LimitKind.TheVariants.{PolicyBytes}
use Rattle.ac_run.proofs.WritesWithin.{straight_safe}
use Rattle.ac_run.specs.Run.{run}
use Rattle.ac_run.specs.Safety.{Policies, Safe}
use Rattle.ac_run.specs.StraightWrites.{is_write_within}
use Rattle.ac_run.specs.Violation.{Violates}
use Rattle.ac_policy_table.specs.declared.policy_table.PolicyTable.{PolicyTable}
use Rattle.ac_verdict.specs.declared.count.Count.{Count}
use Rattle.ac_verdict.specs.declared.outcome.Outcome.{Outcome}
use Rattle.ac_verdict.specs.declared.outcome.Outcome.TheVariants.{Accepted, Rejected, Program as Refused, Limit, Policy, OutOfMemory}
use Rattle.ac_verdict.specs.Causes.{HasVerdict, IsAccepted, IsRefusal, IsCause}
use Rattle.ac_verdict.specs.Headline.{IsCertified}
use Rattle.ac_verdict.specs.Policy.{HasTable, policies_of, IsPolicyRefusal}
use Rattle.ac_verdict.specs.Sites.{counts, unproved_under, unproved}
use Rattle.ac_verdict.specs.Supported.{AreStraight}
use Rattle.ac_verdict.proofs.OnlyWrites.{never_violates}
use Rattle.ac_verdict.proofs.TextLaws.{only_one}

all_within : (p : Program) (body : List Stmt) → map (λ st. st.node) (filter (λ st. not (is_write_within p st.kind)) body) ≡ [] → All (λ st. IsTrue (is_write_within p st.kind)) body
all_within p [] e = All-nil (λ (st : Stmt). IsTrue (is_write_within p st.kind))
all_within p (st ∷ body) e = by (is_write_within p st.kind) refl (all_within p body) e
  where
    by : (b : Bool) → is_write_within p st.kind ≡ b → (map (λ st. st.node) (filter (λ st. not (is_write_within p st.kind)) body) ≡ [] → All (λ st. IsTrue (is_write_within p st.kind)) body) →
        map (λ (s : Stmt). s.node) (cond (not b) (st ∷ filter (λ st. not (is_write_within p st.kind)) body) (filter (λ st. not (is_write_within p st.kind)) body)) ≡ [] →
        All (λ st. IsTrue (is_write_within p st.kind)) (st ∷ body)
    by true within rest e = All-cons (λ (st : Stmt). IsTrue (is_write_within p st.kind)) st body within (rest e)
    by false within rest e = cc

empty-parts : (xs ys : List Node) → xs ++ ys ≡ [] → (xs ≡ []) × (ys ≡ [])
empty-parts [] ys e = (refl, e)
empty-parts (x ∷ xs) ys e = cc

none-under : (p : Program) (policies : List PolicyName) → unproved policies p ≡ [] → All (λ policy. unproved_under policy p ≡ []) policies
none-under p [] e = All-nil (λ (policy : PolicyName). unproved_under policy p ≡ [])
none-under p (policy ∷ policies) e =
    let (here, more) = empty-parts (unproved_under policy p) (unproved policies p) e in
    All-cons (λ (policy : PolicyName). unproved_under policy p ≡ []) policy policies here (none-under p policies more)

-- a supported program without an unproved condition is safe
safe_under : (p : Program) → AreStraight p p.body → (q : Policies) → unproved q.selected p ≡ [] → Safe p q
safe_under p straight q none start n policy fits selected = by policy refl
  where
    by : (it : PolicyName) → policy ≡ it → ¬ Violates p start q.roles policy (run p start n).trace
    by Bounds e =
        let here = All-contains (λ (policy : PolicyName). unproved_under policy p ≡ []) q.selected policy (none-under p q.selected none) selected in
        straight_safe p (all_within p p.body (subst (λ (it : PolicyName). unproved_under it p ≡ []) e here)) q start n policy fits selected
    by Init e = never_violates p straight start n q.roles policy (λ b. cc)
    by Symm e = never_violates p straight start n q.roles policy (λ b. cc)

-- what is accepted is certified
pub certified : (program policy : List ℕ) (ks : List Count) → IsAccepted program policy ks → IsCertified program policy
certified program policy ks a = record {
  tree = a.tree;
  spells = record { spelled = a.verdict.within.spells; only = only_one program a.tree a.verdict.within };
  rules = a.verdict.rules;
  policies = policies_of a.table;
  selected = record { table = a.table; of_bytes = a.selected; policies = refl };
  safe = safe_under a.tree a.verdict.supported.straight (policies_of a.table) a.proved;
}

pub headline : (program policy : List ℕ) (o : Outcome) (ks : List Count) → IsCause program policy o → o ≡ Accepted ks → IsCertified program policy
headline program policy o ks cause e = certified program policy ks (subst (λ (o : Outcome). IsCause program policy o) e cause)

-- a refusal of the program is an outcome whatever the policy file is
pub refusal_cause : (program policy : List ℕ) (o : Outcome) → IsRefusal program o → IsCause program policy o
refusal_cause program policy (Accepted ks) h = absurd h
refusal_cause program policy (Rejected ks nodes) h = absurd h
refusal_cause program policy (Refused fault) h = h
refusal_cause program policy (Limit which value) h = inl h
refusal_cause program policy (Policy fault) h = absurd h
refusal_cause program policy OutOfMemory h = h

-- a refusal of the policy file is one whatever the accepted program is
pub policy_cause : (program policy : List ℕ) (p : Program) (o : Outcome) → HasVerdict program p → IsPolicyRefusal policy o → IsCause program policy o
policy_cause program policy p (Accepted ks) verdict h = absurd h
policy_cause program policy p (Rejected ks nodes) verdict h = absurd h
policy_cause program policy p (Refused fault) verdict h = absurd h
policy_cause program policy p (Limit which value) verdict h = inr ((p, verdict), h)
policy_cause program policy p (Policy fault) verdict h = ((p, verdict), h)
policy_cause program policy p OutOfMemory verdict h = h

longer : (n : ℕ) → 262144 < n → nat_lt 262144 n ≡ true
longer n long = grind (arith, nat_tests)

-- a policy file that is longer than its limit
pub long_policy_cause : (program policy : List ℕ) (p : Program) (value : ℕ) → HasVerdict program p → value ≡ limit_of PolicyBytes → limit_of PolicyBytes < length policy →
    IsCause program policy (Limit PolicyBytes value)
long_policy_cause program policy p value verdict value_is long =
    inr ((p, verdict), rw (longer (length policy) long, value_is) refl)

-- the outcome of a program that has a verdict, by its unproved conditions
pub judged : (program policy : List ℕ) (p : Program) (t : PolicyTable) (ks : List Count) (nodes : List Node) (o : Outcome) → HasVerdict program p → HasTable policy t →
    ks ≡ counts t.policies p → nodes ≡ unproved t.policies p → (nodes ≡ [] → o ≡ Accepted ks) → (nodes ≢ [] → o ≡ Rejected ks nodes) → IsCause program policy o
judged program policy p t ks [] o verdict selected counted sites accepted rejected =
    subst (λ (o : Outcome). IsCause program policy o) (sym (accepted refl)) (record { tree = p; verdict = verdict; table = t; selected = selected; counted = counted; proved = sym sites })
judged program policy p t ks (n ∷ ns) o verdict selected counted sites accepted rejected =
    let some : n ∷ ns ≢ [] = λ e. cc in
    subst (λ (o : Outcome). IsCause program policy o) (sym (rejected some)) (record { tree = p; verdict = verdict; table = t; selected = selected; counted = counted; sites = sites; some = some })
