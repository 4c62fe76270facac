use Rattle.std.proofs.Common.{rules}
use Rattle.pager_core.proofs.ReadLemmas.{begin_cause, begun, begun_clean}
use Rattle.pager_core.proofs.SharedLemmas.{fits_shared}
use Rattle.pager_core.proofs.pager.Pager.begin_read.Goals as goal

pub returns-in-Ok-clause-cause : goal.returns-in-Ok-clause-cause
returns-in-Ok-clause-cause g c =
    let state = g.V.Vfs.state in
    begin_cause (state c.args.stack.now) (state c.lock.new.self) (state c.read_if_free.new.stack) c.args.self.now.name c.args.self.now.pages.page_size c.read_if_free.result c.lock.ensures.steady
    c.read_if_free.ensures.looks.steady c.lock.ensures.files c.read_if_free.ensures.cause

pub returns-in-Ok-clause-reads : goal.returns-in-Ok-clause-reads
returns-in-Ok-clause-reads g c =
    let state = g.V.Vfs.state in
    begun (state c.args.stack.now) (state c.lock.new.self) c.args.self.now c.read_if_free.new.self c.read_if_free.result c.lock.ensures.steady c.lock.ensures.files c.read_if_free.ensures.reads

pub returns-in-Ok-clause-fits : goal.returns-in-Ok-clause-fits
returns-in-Ok-clause-fits g c =
    let state = g.V.Vfs.state in
    let b = state c.lock.new.self in
    fits_shared c.args.self.now c.read_if_free.new.self (state c.args.stack.now) b (state c.read_if_free.new.stack) c.args.who (search rules) c.read_if_free.ensures.same
    (begun_clean b c.args.self.now c.read_if_free.new.self c.read_if_free.result c.read_if_free.ensures.reads) c.lock.ensures.opens c.in-Ok.ensures.rule c.read_if_free.ensures.looks.opens c.read_if_free.ensures.looks.levels
    c.requires.fits
