-- Where the first is a negation and the second none, and so on.
use Rattle.std.proofs.Common.{◌≡◌, false, sym, subst}
use Rattle.ac_tree.specs.declared.program.CondKind.{CondKind}
use Rattle.ac_codes.specs.Sameness.{same_cond as same_cond_of}
use Rattle.ac_sameness.proofs.Others.{unlike_negation, unlike_conjunction, unlike_disjunction}
use Rattle.ac_sameness.proofs.sameness.+same_cond.Goals as goal

pub returns-in_default-4 : goal.returns-in_default-4
returns-in_default-4 t c =
    subst (λ (k : CondKind). false ≡ same_cond_of k c.args.b.now.kind) (sym c.in_default.is-0) (unlike_negation c.in_default.field-0-0 c.args.b.now.kind c.in_default.not-Not-1)

pub returns-in_default-5 : goal.returns-in_default-5
returns-in_default-5 t c =
    subst (λ (k : CondKind). false ≡ same_cond_of k c.args.b.now.kind) (sym c.in_default.is-0) (unlike_conjunction c.in_default.field-0-0 c.in_default.field-1-0 c.args.b.now.kind c.in_default.not-And-1)

pub returns-in_default-6 : goal.returns-in_default-6
returns-in_default-6 t c =
    subst (λ (k : CondKind). false ≡ same_cond_of k c.args.b.now.kind) (sym c.in_default.is-0) (unlike_disjunction c.in_default.field-0-0 c.in_default.field-1-0 c.args.b.now.kind c.in_default.not-Or-1)
