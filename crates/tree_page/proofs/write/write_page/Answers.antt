use Rattle.std.proofs.Common.{◌≡◌, ◌+◌, ap, ◌∙◌, arith}
use Rattle.tree_page.specs.Page.{cells_of, page_kind, header_size}
use Rattle.tree_page.proofs.WrittenLemmas.{count_fits, cleared_blank, page_steps, written_page, written_back}
use Rattle.tree_page.proofs.write.write_page.Goals as goal

pub put_cells-content-requires-clause-blank : goal.put_cells-content-requires-clause-blank
put_cells-content-requires-clause-blank c =
    let head : c.header_size.result ≡ header_size (page_kind c.args.cells.now) = c.header_size.ensures ∙ ap header_size c.kind.ensures in
    cleared_blank c.args.page.now c.clear.new.page c.begin_of-begin.result (c.begin_of-begin.result + c.header_size.result) c.args.usable
    (omega arith) (omega (arith, c.requires.fits.room, c.begin_of-begin.ensures)) c.requires.within c.clear.ensures

pub put_header-requires-clause-count : goal.put_header-requires-clause-count
put_header-requires-clause-count c = omega (arith, count_fits (cells_of c.args.cells.now), c.requires.fits.room)

pub returns-clause-written : goal.returns-clause-written
returns-clause-written c =
    let head : c.header_size.result ≡ header_size (page_kind c.args.cells.now) = c.header_size.ensures ∙ ap header_size c.kind.ensures in
    page_steps c.args.page.now c.clear.new.page c.put_cells-content.new.page c.put_header.new.page c.args.number c.args.usable c.put_cells-content.result
    c.begin_of-begin.result (c.begin_of-begin.result + c.header_size.result) c.args.cells.now c.begin_of-begin.ensures
    (omega (arith, head, c.begin_of-begin.ensures)) (omega (arith, head, c.requires.fits.room, c.begin_of-begin.ensures)) c.requires.within c.clear.ensures c.put_cells-content.ensures c.put_header.ensures.lays

pub returns-clause-reads : goal.returns-clause-reads
returns-clause-reads c =
    written_page c.args.page.now c.put_header.new.page c.args.number c.args.usable c.args.cells.now c.requires.fits c.put_header.ensures.numbered
    (omega (arith, c.requires.fits.room, c.requires.within)) (omega (arith, c.requires.within, c.requires.most)) (returns-clause-written c)

pub returns-clause-back : goal.returns-clause-back
returns-clause-back c =
    written_back c.args.page.now c.put_header.new.page c.args.number c.args.usable c.args.cells.now
    (omega (arith, c.requires.fits.room, c.requires.within)) (returns-clause-written c)
