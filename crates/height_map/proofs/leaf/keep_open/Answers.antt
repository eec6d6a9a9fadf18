use Rattle.std.proofs.Common.{◌≡◌, ◌<◌, get_or, length, set, ap, arith, subst, sym, ◌∙◌}
use Rattle.std.specs.List.{All, refill}
use Rattle.std.proofs.lemmas.List.Elements.{All-get_or, All-set}
use Rattle.arrayvec.specs.ArrayVec.{ArrayVec}
use Rattle.height_map.specs.Layers.{nth}
use Rattle.height_map.specs.declared.column.Column.{Column}
use Rattle.height_map.proofs.Leaves.{kept-less, kept-more, written}
use Rattle.height_map.proofs.leaf.keep_open.Goals.{then-tops-column-eq0, else-tops-column-eq0}
use Rattle.height_map.proofs.leaf.keep_open.Goals as goal

pub loop-n-preserved : goal.loop-n-preserved
loop-n-preserved c =
    let tops = c.args.tops.now in
    let xs = c.loop-n.columns.items in
    let n = c.loop-n.n in
    let none : Column = record { i = 0; j = 0; place = 0 } in
    let was = c.loop-n.invariant in
    let There = λ (column : Column). column.place < length tops in
    let within : n < length xs = omega (arith, c.loop-n-test.true, c.loop-n.auto.n-end, c.len-n-end.ensures.value, was.kept.long) in
    let read : get_or c.deref.result.now n none ≡ nth xs n = ap (λ l. get_or l n none) c.deref.ensures.0 in
    let top = ap (λ (column : Column). get_or tops column.place 0) read in
    elim c.if-tops-column-eq0.branch [
      | then-tops-column-eq0 w ↦
          let is = written xs w.deref_mut.result.now c.if-tops-column-eq0.columns.items n c.loop-n.kept none w.deref_mut.ensures.value
          (ap (λ (v : ArrayVec Column). v.items) w.columns-is ∙ ap (λ column. refill (length xs) xs (set w.deref_mut.result.now c.loop-n.kept column)) (read ∙ ap (λ l. get_or l n none) (sym w.deref_mut.ensures.value))) in
          record {
            there = subst (All There) (sym is) (All-set There xs c.loop-n.kept (nth xs n) (All-get_or There xs n none within was.there) was.there);
            kept = kept-more tops c.args.columns.now.items xs c.if-tops-column-eq0.columns.items c.loop-n.kept n c.if-tops-column-eq0.kept none was.kept within (sym top ∙ w.if-tops-column-eq0.true) is w.kept-is;
          }
      | else-tops-column-eq0 w ↦
          let is = ap (λ (v : ArrayVec Column). v.items) w.columns-is in
          record {
            there = subst (All There) (sym is) was.there;
            kept = kept-less tops c.args.columns.now.items xs c.if-tops-column-eq0.columns.items c.loop-n.kept n c.if-tops-column-eq0.kept none was.kept within (λ e. w.if-tops-column-eq0.false (top ∙ e)) is w.kept-is;
          }
    ]
