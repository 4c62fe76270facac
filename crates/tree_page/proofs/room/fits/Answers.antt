use Rattle.std.proofs.Common.{arith}
use Rattle.std.specs.Int.{w64}
use Rattle.std.proofs.lemmas.Int.{to_z-of_z}
use Rattle.tree_page.specs.Page.{cells_of}
use Rattle.tree_page.proofs.FitLemmas.{fits_from, fit_step, fit_none}
use Rattle.tree_page.proofs.room.fits.Goals as goal

pub returns-in_default : goal.returns-in_default
returns-in_default c =
    let l = c.loop-at in (
      λ yes. cc,
      λ fit. absurd (fit_none c.args.usable l.at l.room l.last (cells_of c.args.cells.now) (omega arith) c.in_default.ensures.none (l.invariant.rest (fits_from _ _ _ fit))),
    )

pub loop-at-preserved : goal.loop-at-preserved
loop-at-preserved c =
    let l = c.loop-at in
    let step = fit_step c.args.usable l.at l.room c.in-Some.left l.last _ c.rowid.result (cells_of c.args.cells.now) (omega arith) (to_z-of_z w64 c.rowid.result (search c)) c.in-Some.ensures.joins c.rowid.ensures in
    record { more = λ fit. l.invariant.more (step.0 fit); rest = λ fit. step.1 (l.invariant.rest fit) }
