use Rattle.std.proofs.Common.{arith, ap, sym, ◌∙◌, Vec, Global}
use Rattle.ac_tree.specs.declared.node.Node.{Node}
use Rattle.ac_verdict.proofs.Statements.{outside_next, inside_next, all_outside}
use Rattle.ac_verdict.proofs.sites.outside.Goals as goal
use Rattle.ac_verdict.proofs.sites.outside.Goals.{then-not-is_within+in_ok-push, else-not-is_within}

pub loop-statement-preserved : goal.loop-statement-preserved
loop-statement-preserved c =
    let within = c.is_within.ensures c.args.program.now (c.in_ok-names.ensures ∙ c.as_slice.ensures) in
    elim c.if-not-is_within.branch [
      | then-not-is_within+in_ok-push w ↦
          outside_next c.args.program.now _ _ c.statement-item.result c.loop-statement.nodes.items _ (omega arith) c.statement-item.is (sym within ∙ w.if-not-is_within.true) c.loop-statement.invariant
          (ap (λ (v : Vec Node Global). v.items) w.nodes-is ∙ w.in_ok-push.ensures.items)
      | else-not-is_within w ↦
          ap (λ (v : Vec Node Global). v.items) w.nodes-is
          ∙ inside_next c.args.program.now _ _ c.statement-item.result c.loop-statement.nodes.items (omega arith) c.statement-item.is (sym within ∙ w.if-not-is_within.false) c.loop-statement.invariant
    ]

pub returns : goal.returns
returns c = all_outside c.args.program.now _ _ _ c.as_slice-statement-items.ensures (omega arith) c.loop-statement.invariant
