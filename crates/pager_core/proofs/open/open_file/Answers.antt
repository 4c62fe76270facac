use Rattle.std.proofs.Common.{◌≡◌, ℕ, List, refl, sym, ◌∙◌, ap, subst}
use Rattle.vfs_model.specs.Effect.{NoLooser, Opened, Closed}
use Rattle.vfs_trait.specs.State.{name_at}
use Rattle.vfs_trait.specs.Calls.{Leaves, Takes}
use Rattle.pager_core.specs.Open.{BeginsAs, StaysOrEmpty}
use Rattle.pager_core.proofs.StackLemmas.{steady_twice, name_stays, leaves_then, taken_named, takes_then, given_back}
use Rattle.pager_core.proofs.OpenLemmas.{opened_then, opened_closed, file_refused, one_of_none, taken_free}
use Rattle.pager_core.proofs.open.open_file.Goals as goal

pub returns-in-Ok-first_pages-clause-opens : goal.returns-in-Ok-first_pages-clause-opens
returns-in-Ok-first_pages-clause-opens g c =
    let state = g.V.Vfs.state in
    (takes_then (state c.args.stack.now) (state c.open.new.self) (state c.first_pages.new.stack) c.args.name c.in-Ok.fid.0 c.in-Ok.ensures.numbers c.first_pages.ensures.opens c.first_pages.ensures.broken, refl)

pub returns-in-Ok-first_pages-clause-leaves : goal.returns-in-Ok-first_pages-clause-leaves
returns-in-Ok-first_pages-clause-leaves g c =
    let state = g.V.Vfs.state in
    let a = state c.args.stack.now in
    let b = state c.open.new.self in
    let d = state c.first_pages.new.stack in
    let name = c.args.name in
    let left : Leaves b d name NoLooser = subst (λ n. Leaves b d n NoLooser) (taken_named a b name c.in-Ok.fid.0 c.in-Ok.ensures.numbers) c.first_pages.ensures.leaves in
    leaves_then c.looser_twice.ensures a b d name Opened NoLooser Opened (opened_then c.looser_twice.ensures (a.files name) (b.files name) (d.files name)) c.open.ensures.steady c.in-Ok.ensures.leaves left

pub returns-in-Ok-first_pages-clause-fits : goal.returns-in-Ok-first_pages-clause-fits
returns-in-Ok-first_pages-clause-fits g c =
    let state = g.V.Vfs.state in
    let a = state c.args.stack.now in
    let b = state c.open.new.self in
    let d = state c.first_pages.new.stack in
    let takes : Takes a d c.args.name c.in-Ok.fid.0 = takes_then a b d c.args.name c.in-Ok.fid.0 c.in-Ok.ensures.numbers c.first_pages.ensures.opens c.first_pages.ensures.broken in
    record {
      named = takes.named;
      one = one_of_none (d.levels c.in-Ok.fid.0) (taken_free a d c.args.name c.in-Ok.fid.0 c.requires.stands takes (record { each = λ fid. c.first_pages.ensures.levels.each fid ∙ c.open.ensures.levels.each fid }));
      owned = c.in-Ok-first_pages.ensures.unread.clean;
    }

pub returns-in-Err-first_pages-clause-opens : goal.returns-in-Err-first_pages-clause-opens
returns-in-Err-first_pages-clause-opens g c =
    let state = g.V.Vfs.state in
    let a = state c.args.stack.now in
    let b = state c.open.new.self in
    let d = state c.first_pages.new.stack in
    given_back c.apart_back.ensures a d (state c.close.new.self) c.args.name c.in-Ok.fid.0 c.requires.free c.requires.stands
    (takes_then a b d c.args.name c.in-Ok.fid.0 c.in-Ok.ensures.numbers c.first_pages.ensures.opens c.first_pages.ensures.broken) c.close.ensures.closes c.close.ensures.stands

pub returns-in-Err-first_pages-clause-leaves : goal.returns-in-Err-first_pages-clause-leaves
returns-in-Err-first_pages-clause-leaves g c =
    let state = g.V.Vfs.state in
    let a = state c.args.stack.now in
    let b = state c.open.new.self in
    let d = state c.first_pages.new.stack in
    let e = state c.close.new.self in
    let name = c.args.name in
    let fid = c.in-Ok.fid.0 in
    let named : name_at b fid ≡ name = taken_named a b name fid c.in-Ok.ensures.numbers in
    let left : Leaves b d name NoLooser = subst (λ n. Leaves b d n NoLooser) named c.first_pages.ensures.leaves in
    let opened : Leaves a d name Opened = leaves_then c.looser_twice.ensures a b d name Opened NoLooser Opened (opened_then c.looser_twice.ensures (a.files name) (b.files name) (d.files name)) c.open.ensures.steady c.in-Ok.ensures.leaves left in
    let closed : Leaves d e name Closed = subst (λ n. Leaves d e n Closed) (name_stays b d fid c.first_pages.ensures.opens ∙ named) c.close.ensures.leaves in
    leaves_then c.looser_twice.ensures a d e name Opened Closed StaysOrEmpty (opened_closed c.looser_twice.ensures (a.files name) (d.files name) (e.files name))
    (steady_twice a b d c.open.ensures.steady c.first_pages.ensures.steady) opened closed

pub returns-in-Err-first_pages-clause-cause : goal.returns-in-Err-first_pages-clause-cause
returns-in-Err-first_pages-clause-cause g c =
    let state = g.V.Vfs.state in
    let a = state c.args.stack.now in
    let b = state c.open.new.self in
    let d = state c.first_pages.new.stack in
    let rule = c.args.rule.now in
    let fault = c.in-Err-first_pages.fault in
    file_refused a b d (state c.close.new.self) c.args.name rule fault c.open.ensures.steady c.close.ensures.steady c.in-Ok.ensures.leaves.file
    (subst (λ n. BeginsAs b d n rule (Rattle.std.proofs.Common.Err fault)) (taken_named a b c.args.name c.in-Ok.fid.0 c.in-Ok.ensures.numbers) c.in-Err-first_pages.ensures.cause)
