use Rattle.std.proofs.Common.{◌≡◌, ◌*◌, List, Some, arith, sym, subst}
use Rattle.vfs_model.specs.Name.{kind_of}
use Rattle.vfs_model.specs.declared.layer.Layer.{Layer}
use Rattle.vfs_trait.specs.State.{name_at}
use Rattle.vfs_trait.specs.Calls.{checked}
use Rattle.layer_tests.specs.Given.{page_size}
use Rattle.layer_tests.proofs.MayLemmas.{may_write}
use Rattle.layer_tests.proofs.opened.Opened.write.Goals as goal

pub write-requires-clause-pages : goal.write-requires-clause-pages
write-requires-clause-pages g c =
    let new = g.V.Vfs.state c.length.new.self in
    let L : List Layer → Type 0 = λ l. page_size l ≡ Some 512 in
    may_write (kind_of (name_at new c.args.self.now.file.0)) (checked new.layers) (512 * c.from-off.result) c.args.page.now (subst L (sym c.length.ensures.steady.layers) c.args.self.now.page)
    (omega arith) c.requires.size c.requires.zeros
