use Rattle.std.proofs.Common.{List, [], subst, arith}
use Rattle.tree_page.specs.Page.{Extent, AreFreeblocks}
use Rattle.tree_page.proofs.FindLemmas.{block_more, free_broken, free_rest}
use Rattle.tree_page.proofs.read.mark_free.Goals as goal

pub returns-then-not-mark_block-clause-broken : goal.returns-then-not-mark_block-clause-broken
returns-then-not-mark_block-clause-broken c = λ _ free are clear.
    let l = c.loop-place in
    let rest = l.invariant.complete free are clear in
    free_broken c.args.bytes.now c.args.head.content l.last l.place l.marks rest.0 (λ none. absurd (omega arith)) (c.mark_block.ensures.broken c.if-not-mark_block.true) rest.1 rest.2

pub loop-place-preserved : goal.loop-place-preserved
loop-place-preserved c =
    let l = c.loop-place in
    let bytes = c.args.bytes.now in
    let block = c.mark_block.ensures in
    let ok = c.if-not-mark_block.false in
    let marks = block.marked ok in
    record {
      size = omega (arith, marks.size, l.invariant.size);
      small = c.short_at-place.ensures.small;
      sound = λ rest are clear.
          let more = block_more bytes c.args.head.content l.last l.place l.marks c.mark_block.new.marks rest (block.stands ok) (block.clear ok) marks
          (subst (λ n. AreFreeblocks bytes c.args.head.content l.place n rest) c.short_at-place.ensures.value are) clear in
          l.invariant.sound _ more.0 more.1;
      complete = λ free are clear.
          let rest = l.invariant.complete free are clear in
          free_rest bytes c.args.head.content l.last l.place c.short_at-place.result l.marks c.mark_block.new.marks rest.0 (λ none. absurd (omega arith)) c.short_at-place.ensures.value marks rest.1 rest.2;
    }

pub returns-clause-sound : goal.returns-clause-sound
returns-clause-sound c = λ _.
    let l = c.loop-place in
    let none : List Extent = [] in
    l.invariant.sound none (omega arith) (record { apart = tt; clear = λ place covered. absurd covered })
