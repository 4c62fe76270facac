use Rattle.std.proofs.Common.{ℕ, ℤ, ◌-◌, List, sym, ap, ◌∙◌}
use Rattle.tree_model.specs.Need.{need_of_rows}
use Rattle.book_model.specs.Book.{Row}
use Rattle.ref_book.proofs.Needs.{sizes, rows_need}
use Rattle.ref_book.proofs.table.KeptTable.left.Goals as goal

pub returns : goal.returns
returns c =
    let usable = c.args.usable in
    rw (← c.self.view_is) (c.left_of_rows.ensures ∙ ap (λ (n : ℕ). c.args.bound - n) (ap (λ (l : List (ℤ × Row)). need_of_rows usable (sizes l)) c.deref.ensures.value ∙ sym (rows_need usable c.self.inside.rows.items c.self.invariant)))
