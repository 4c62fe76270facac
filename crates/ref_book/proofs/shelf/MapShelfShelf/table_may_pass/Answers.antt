use Rattle.std.proofs.Common.{ap, ◌∙◌}
use Rattle.std.specs.List.{list_any}
use Rattle.ref_book.specs.Shelf.{book_of}
use Rattle.ref_book.proofs.Becomes.{mapped}
use Rattle.ref_book.proofs.Needs.{passes_at, some_root}
use Rattle.ref_book.proofs.shelf.MapShelfShelf.table_may_pass.Goals as goal

pub returns : goal.returns
returns c =
    let book = book_of c.args.self.now in
    let name = c.args.name.now in
    let columns = c.args.columns.now in
    mapped c.some_root_may_pass.result (λ may is. some_root c.roots_of_each_size.ensures book name columns may (is ∙ ap (list_any (passes_at book name columns)) c.roots.ensures)) c.some_root_may_pass.ensures
