use Rattle.std.proofs.Common.{arith, ◌+◌, drop, List, sym, ◌∙◌, subst}
use Rattle.journal_format.specs.Undo.{Paged}
use Rattle.journal_format.specs.Values.{all_paged, undo_of}
use Rattle.journal_file.specs.Content.{initial_size, cleared, all_cleared, with_reserve}
use Rattle.journal_file.proofs.PlaceLemmas.{among_play, in_room, rest_is, end_laid}
use Rattle.journal_file.proofs.PlayLemmas.{Played, reserve_fits, is_page, page_gone, page_played}
use Rattle.journal_file.proofs.playback.write_originals.Goals as goal

pub write_page-requires-clause-whole : goal.write_page-requires-clause-whole
write_page-requires-clause-whole g c =
    (among_play c.args.play.now c.args.reserve c.as_slice-pages.result.now c.loop-page.page-index c.page-item.result c.as_slice-pages.ensures c.loop-page-test.true c.page-item.is c.requires.playable).whole

pub write_page-requires-clause-one : goal.write_page-requires-clause-one
write_page-requires-clause-one g c =
    (among_play c.args.play.now c.args.reserve c.as_slice-pages.result.now c.loop-page.page-index c.page-item.result c.as_slice-pages.ensures c.loop-page-test.true c.page-item.is c.requires.playable).one

pub write_page-requires-clause-room : goal.write_page-requires-clause-room
write_page-requires-clause-room g c =
    let m = among_play c.args.play.now c.args.reserve c.as_slice-pages.result.now c.loop-page.page-index c.page-item.result c.as_slice-pages.ensures c.loop-page-test.true c.page-item.is c.requires.playable in
    omega (arith, in_room c.args.play.now.page c.page-item.result.number c.args.play.now.initial m.within, c.requires.playable.small)

pub write_page-requires-clause-inside : goal.write_page-requires-clause-inside
write_page-requires-clause-inside g c = λ told.
    let m = among_play c.args.play.now c.args.reserve c.as_slice-pages.result.now c.loop-page.page-index c.page-item.result c.as_slice-pages.ensures c.loop-page-test.true c.page-item.is c.requires.playable in
    let told0 = sym c.loop-page.invariant.gone.steady.tells ∙ told in
    omega (arith, in_room c.args.play.now.page c.page-item.result.number c.args.play.now.initial m.within, (c.requires.long told0).long, (c.loop-page.invariant.come told0).size)

pub returns-in_err-write_page-clause-kept : goal.returns-in_err-write_page-clause-kept
returns-in_err-write_page-clause-kept g c =
    let state = g.V.Vfs.state in
    let u = with_reserve c.args.reserve (undo_of c.args.play.now) in
    let p = c.page-item.result in
    let pages = c.as_slice-pages.result.now in
    let m = among_play c.args.play.now c.args.reserve pages c.loop-page.page-index p c.as_slice-pages.ensures c.loop-page-test.true c.page-item.is c.requires.playable in
    (page_gone c.looser_twice.ensures c.pages_cover.ensures u p.number (cleared c.args.reserve p.bytes) (all_cleared c.args.reserve (all_paged (drop c.loop-page.page-index pages)))
    (state c.args.stack.now) (state c.loop-page.stack) (state c.write_page.new.stack) c.args.db.0 (initial_size (undo_of c.args.play.now)) c.write_page.result c.loop-page.invariant
    c.write_page.ensures.steady c.write_page.ensures.rests c.write_page.ensures.leaves c.write_page.ensures.stands
    (is_page c.args.play.now c.args.reserve p (reserve_fits _ _ c.args.reserve c.requires.reserves) c.requires.playable m) (λ told. (c.requires.long told).long)).kept

pub returns-in_err-write_page-clause-tame : goal.returns-in_err-write_page-clause-tame
returns-in_err-write_page-clause-tame g c =
    let state = g.V.Vfs.state in
    let u = with_reserve c.args.reserve (undo_of c.args.play.now) in
    let p = c.page-item.result in
    let pages = c.as_slice-pages.result.now in
    let m = among_play c.args.play.now c.args.reserve pages c.loop-page.page-index p c.as_slice-pages.ensures c.loop-page-test.true c.page-item.is c.requires.playable in
    (page_gone c.looser_twice.ensures c.pages_cover.ensures u p.number (cleared c.args.reserve p.bytes) (all_cleared c.args.reserve (all_paged (drop c.loop-page.page-index pages)))
    (state c.args.stack.now) (state c.loop-page.stack) (state c.write_page.new.stack) c.args.db.0 (initial_size (undo_of c.args.play.now)) c.write_page.result c.loop-page.invariant
    c.write_page.ensures.steady c.write_page.ensures.rests c.write_page.ensures.leaves c.write_page.ensures.stands
    (is_page c.args.play.now c.args.reserve p (reserve_fits _ _ c.args.reserve c.requires.reserves) c.requires.playable m) (λ told. (c.requires.long told).long)).tame

pub loop-page-preserved : goal.loop-page-preserved
loop-page-preserved g c =
    let state = g.V.Vfs.state in
    let u = with_reserve c.args.reserve (undo_of c.args.play.now) in
    let p = c.page-item.result in
    let pages = c.as_slice-pages.result.now in
    let m = among_play c.args.play.now c.args.reserve pages c.loop-page.page-index p c.as_slice-pages.ensures c.loop-page-test.true c.page-item.is c.requires.playable in
    let P : List Paged → Type 0 = λ rest. Played u rest (state c.args.stack.now) (state c.loop-page.stack) c.args.db.0 (initial_size (undo_of c.args.play.now)) in
    page_played c.looser_twice.ensures c.pages_cover.ensures u p.number (cleared c.args.reserve p.bytes) (all_cleared c.args.reserve (all_paged (drop (c.loop-page.page-index + 1) pages)))
    (state c.args.stack.now) (state c.loop-page.stack) (state c.write_page.new.stack) c.args.db.0 (initial_size (undo_of c.args.play.now)) c.in_ok-write_page.field-0
    (subst P (rest_is c.args.reserve pages c.loop-page.page-index p c.loop-page-test.true c.page-item.is) c.loop-page.invariant)
    c.write_page.ensures.steady c.write_page.ensures.rests c.in_ok-write_page.ensures.leaves c.write_page.ensures.stands
    (is_page c.args.play.now c.args.reserve p (reserve_fits _ _ c.args.reserve c.requires.reserves) c.requires.playable m) (λ told. (c.requires.long told).long)

pub returns-clause-laid : goal.returns-clause-laid
returns-clause-laid g c = λ told. end_laid (with_reserve c.args.reserve (undo_of c.args.play.now)) c.args.reserve c.as_slice-pages.result.now c.loop-page.page-index _ _ (omega arith) (c.loop-page.invariant.come told)
