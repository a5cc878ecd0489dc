use Rattle.std.proofs.Common.{rules}
use Rattle.ac_numbering.proofs.NumberLists.{item_numbered}
use Rattle.ac_numbering.proofs.numbering.number_item.Goals as goal

pub returns : goal.returns
returns c =
    item_numbered c.args.item.now c.numbered-node.result c.in_ok-name.name c.in_ok-kind.kind c.args.number c.behind-next.result c.numbered-node.ensures (search rules) c.in_ok-kind.ensures c.behind-next.ensures
