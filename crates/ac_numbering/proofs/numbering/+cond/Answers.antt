use Rattle.ac_tree.specs.declared.program.CondKind.TheVariants as cond
use Rattle.ac_numbering.proofs.NumberRules.{nodes-True, nodes-False, nodes-And, nodes-Or, numbered-True, numbered-False, numbered-And, numbered-Or, truth_numbered, relation_numbered, not_numbered, connective_numbered, whole_cond_numbered}
use Rattle.ac_numbering.proofs.numbering.+cond.Goals as goal

pub number_cond-returns : goal.number_cond-returns
number_cond-returns t c =
    whole_cond_numbered c.args.cond.now c.numbered-node.result c.in_ok-kind.kind c.args.first c.in_ok-kind.next c.numbered-node.ensures c.in_ok-kind.ensures

pub number_cond_kind-returns-in-True : goal.number_cond_kind-returns-in-True
number_cond_kind-returns-in-True t c = truth_numbered cond.True nodes-True numbered-True c.args.kind.now c.args.first c.behind-second.result c.in-True.is c.behind-second.ensures

pub number_cond_kind-returns-in-False : goal.number_cond_kind-returns-in-False
number_cond_kind-returns-in-False t c = truth_numbered cond.False nodes-False numbered-False c.args.kind.now c.args.first c.behind-second.result c.in-False.is c.behind-second.ensures

pub number_cond_kind-returns-in_ok-right-in-Rel : goal.number_cond_kind-returns-in_ok-right-in-Rel
number_cond_kind-returns-in_ok-right-in-Rel t c =
    relation_numbered c.args.kind.now _ c.in-Rel.left c.in_ok-left-in-Rel.left c.in-Rel.right c.in_ok-right-in-Rel.right c.args.first c.behind-second.result c.in_ok-left-in-Rel.third c.in_ok-right-in-Rel.next c.in-Rel.is c.behind-second.ensures c.in_ok-left-in-Rel.ensures c.in_ok-right-in-Rel.ensures

pub number_cond_kind-returns-in_ok-inner-in-Not : goal.number_cond_kind-returns-in_ok-inner-in-Not
number_cond_kind-returns-in_ok-inner-in-Not t c =
    not_numbered c.args.kind.now c.in-Not.inner c.in_ok-inner-in-Not.inner c.args.first c.behind-second.result c.in_ok-inner-in-Not.next c.in-Not.is c.behind-second.ensures c.in_ok-inner-in-Not.ensures

pub number_cond_kind-returns-in_ok-right-in-And : goal.number_cond_kind-returns-in_ok-right-in-And
number_cond_kind-returns-in_ok-right-in-And t c =
    connective_numbered cond.And nodes-And numbered-And c.args.kind.now c.in-And.left c.in_ok-left-in-And.left c.in-And.right c.in_ok-right-in-And.right c.args.first c.behind-second.result c.in_ok-left-in-And.third c.in_ok-right-in-And.next c.in-And.is c.behind-second.ensures c.in_ok-left-in-And.ensures c.in_ok-right-in-And.ensures

pub number_cond_kind-returns-in_ok-right-in-Or : goal.number_cond_kind-returns-in_ok-right-in-Or
number_cond_kind-returns-in_ok-right-in-Or t c =
    connective_numbered cond.Or nodes-Or numbered-Or c.args.kind.now c.in-Or.left c.in_ok-left-in-Or.left c.in-Or.right c.in_ok-right-in-Or.right c.args.first c.behind-second.result c.in_ok-left-in-Or.third c.in_ok-right-in-Or.next c.in-Or.is c.behind-second.ensures c.in_ok-left-in-Or.ensures c.in_ok-right-in-Or.ensures
