use Rattle.std.proofs.Common.{◌≡◌, ℕ, ◌+◌, ◌<◌, ◌≤◌, List, length, take, get_or, ap, sym, ◌∙◌, subst, arith}
use Rattle.std.specs.Prelude.{slice_get}
use Rattle.std.specs.List.{AllZip}
use Rattle.std.specs.Option.{option_copied, option_map}
use Rattle.std.proofs.lemmas.Bool.{false≢true}
use Rattle.ac_tree.specs.declared.program.Item.{Item}
use Rattle.ac_run.specs.declared.start.StartCell.{StartCell}
use Rattle.ac_run.specs.Start.{FitsItem}
use Rattle.ac_evaluation.specs.Shapes.{shape_of}
use Rattle.ac_evaluation.specs.Misfit.{held_of}
use Rattle.ac_evaluation.proofs.Fitting.{shape_there, skipped, fits_more, first_misfit_at, too_many}
use Rattle.ac_evaluation.proofs.fits.first_misfit.Goals as goal
use Rattle.ac_evaluation.proofs.fits.first_misfit.Goals.{then-is_held+else-not-fits_at, else-is_held}

pub returns-then-not-fits_at : goal.returns-then-not-fits_at
returns-then-not-fits_at c =
    let p = c.args.program.now in
    let low : c.loop-i.i < length c.args.program.now.items = omega (arith, ap (λ (xs : List Item). length xs) c.as_slice-item-items.ensures) in
    let read : c.item-item.result ≡ get_or c.args.program.now.items c.loop-i.i c.item-item.result = cc in
    let there : option_copied c.at-then-is_held.result ≡ slice_get c.args.start.now.cells c.loop-i.next = cc in
    first_misfit_at p c.args.start.now c.loop-i.i c.item-item.result low read c.loop-i.next (sym c.is_held.ensures ∙ c.if-is_held.true) (option_map shape_of (option_copied c.at.result))
    (shape_there p c.args.start.now c.loop-i.i c.item-item.result low read c.args.shapes.now (option_copied c.at.result) c.requires c.at.ensures) (option_copied c.at-then-is_held.result) there
    (λ fits. false≢true (sym c.if-not-fits_at.true ∙ c.fits_at.ensures.1 fits)) c.loop-i.invariant.within c.loop-i.invariant.fit

pub loop-i-preserved : goal.loop-i-preserved
loop-i-preserved c =
    let p = c.args.program.now in
    let low : c.loop-i.i < length c.args.program.now.items = omega (arith, ap (λ (xs : List Item). length xs) c.as_slice-item-items.ensures) in
    let read : c.item-item.result ≡ get_or c.args.program.now.items c.loop-i.i c.item-item.result = cc in
    elim c.if-is_held.branch [
      | then-is_held+else-not-fits_at w ↦
          let there : option_copied w.at-then-is_held.result ≡ slice_get c.args.start.now.cells c.loop-i.next = cc in
          let more =
          fits_more p c.args.start.now c.loop-i.i c.item-item.result low read c.loop-i.next (sym c.is_held.ensures ∙ w.if-is_held.true) (option_map shape_of (option_copied w.at.result))
          (shape_there p c.args.start.now c.loop-i.i c.item-item.result low read c.args.shapes.now (option_copied w.at.result) c.requires w.at.ensures) (option_copied w.at-then-is_held.result) there
          (w.fits_at.ensures.0 w.if-not-fits_at.false) c.loop-i.invariant.fit in
          record {
            fit = subst (λ (n : ℕ). AllZip (FitsItem p c.args.start.now) (held_of (take (c.loop-i.i + 1) p.items)) (take n c.args.start.now.cells)) (sym w.next-is) more.0;
            within = subst (λ (n : ℕ). n ≤ length c.args.start.now.cells) (sym w.next-is) more.1;
          }
      | else-is_held w ↦ record {
        fit =
            subst (λ (n : ℕ). AllZip (FitsItem p c.args.start.now) (held_of (take (c.loop-i.i + 1) p.items)) (take n c.args.start.now.cells)) (sym w.next-is)
            (skipped p c.args.start.now c.loop-i.i c.item-item.result low read c.loop-i.next (sym c.is_held.ensures ∙ w.if-is_held.false) c.loop-i.invariant.fit);
        within = subst (λ (n : ℕ). n ≤ length c.args.start.now.cells) (sym w.next-is) c.loop-i.invariant.within;
      }
    ]

pub returns-then-next-cells : goal.returns-then-next-cells
returns-then-next-cells c =
    let all : length c.args.program.now.items ≤ c.loop-i.i = omega (arith, ap (λ (xs : List Item). length xs) c.as_slice-item-items.ensures) in
    let more : c.loop-i.next < length c.args.start.now.cells = omega (arith, ap (λ (xs : List StartCell). length xs) c.as_slice-cells.ensures) in
    too_many c.args.program.now c.args.start.now c.loop-i.i c.loop-i.next all c.loop-i.invariant.fit more
