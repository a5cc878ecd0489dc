use Rattle.std.proofs.Common.{◌≡◌, List, Bool, refl, ◌∙◌, ap}
use Rattle.ac_flow.specs.Marks.{mark_at}
use Rattle.ac_pair_count.proofs.Statements.{all_counted}
use Rattle.ac_pair_count.proofs.pair_count.count_pairs.Goals as goal

pub returns : goal.returns
returns c =
    all_counted _ _ _ _ _ _ _ _ (λ n. ap (λ (w : List Bool). mark_at w n) c.as_slice.ensures.value ∙ c.in_ok-barriers.ensures n) (λ n. ap (λ (w : List Bool). mark_at w n) c.as_slice-2.ensures.value ∙ c.in_ok-subject.ensures n) refl
    c.new.ensures.items c.as_slice-body.ensures c.in_ok-count_block.ensures.pairs
