use Rattle.std.proofs.Common.{arith, rules, ◌≡◌, ◌∙◌, ap, subst}
use Rattle.vfs_trait.specs.State.{file_at, name_at}
use Rattle.vfs_trait.specs.Calls.{Reads}
use Rattle.pager_core.proofs.StackLemmas.{told_next, name_stays}
use Rattle.pager_core.proofs.OpenLemmas.{sizes_read, begins}
use Rattle.pager_core.proofs.open.first_pages.Goals as goal

pub returns-in-Ok-read-clause-cause : goal.returns-in-Ok-read-clause-cause
returns-in-Ok-read-clause-cause g c =
    let state = g.V.Vfs.state in
    let a = state c.args.stack.now in
    let b = state c.length.new.self in
    let fid = c.args.fid.0 in
    let name = name_at a fid in
    begins a (state c.read.new.self) name c.args.rule.now _ c.by_header.result
    (λ told.
    let same : (b.files name).now ≡ (a.files name).now = (c.length.ensures.leaves.file told).now in
    let reads : Reads (file_at a fid).now.bytes 0 c.read.new.buf c.in-Ok-read.field-0 =
    subst (λ f. Reads f.bytes 0 c.read.new.buf c.in-Ok-read.field-0) (ap (λ n. (b.files n).now) (name_stays a b fid c.length.ensures.rests.opens) ∙ same) (c.in-Ok-read.ensures.reads (told_next a b c.length.ensures.steady told)) in
    sizes_read c.header_in_front.ensures c.args.rule.now (file_at a fid).now.bytes c.read.new.buf c.in-Ok-read.field-0 c.in-Ok.length (search rules) (c.in-Ok.ensures.length_of told) (omega arith) reads)
    c.by_header.ensures.gives
