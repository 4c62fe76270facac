use Rattle.std.proofs.Common.{rules, arith, ◌≡◌, ◌∙◌, ap, length, refl}
use Rattle.std.proofs.lemmas.Grind.{common_steps}
use Rattle.vfs_trait.specs.State.{name_at}
use Rattle.pager_core.proofs.ReadLemmas.{good_page, fault_meets, bad_page}
use Rattle.pager_core.proofs.read.read_page.Goals as goal

pub returns-in-Ok-read-clause-page : goal.returns-in-Ok-read-clause-page
returns-in-Ok-read-clause-page g c =
    let state = g.V.Vfs.state in
    let a = state c.args.stack.now in
    let long : length c.deref_mut.result.now ≡ c.args.page_size = ap length c.deref_mut.ensures.value ∙ c.in-Ok.ensures in
    good_page a (state c.read.new.self) (name_at a c.args.fid.0) c.args.page_size c.args.number _ (length c.deref_mut.result.now) c.in-Ok-read.field-0 c.read.new.buf c.from_vec.result
    c.requires.one refl long (search rules) (grind (arith, common_steps)) c.in-Ok-read.ensures.reads c.in-Ok-read.ensures.cause

pub returns-in-Err-BadPage-clause-page : goal.returns-in-Err-BadPage-clause-page
returns-in-Err-BadPage-clause-page g c =
    let state = g.V.Vfs.state in
    let a = state c.args.stack.now in
    let long : length c.deref_mut.result.now ≡ c.args.page_size = ap length c.deref_mut.ensures.value ∙ c.in-Ok.ensures in
    bad_page a (name_at a c.args.fid.0) c.args.page_size c.args.number _ (length c.deref_mut.result.now) c.in-Err-BadPage.kept c.in-Err-BadPage.found _ refl long
    (fault_meets a (state c.read.new.self) (name_at a c.args.fid.0) _ _ c.in-Err-BadPage.field-0 c.in-Err-BadPage.field-0-0 c.in-Err-BadPage.kept c.in-Err-BadPage.found c.in-Err-BadPage.field-0-is
    c.view_holds.ensures.stands c.in-Err-BadPage.ensures.cause)
