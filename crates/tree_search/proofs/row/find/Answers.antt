use Rattle.std.proofs.Common.{◌≡◌, List, ℕ, None, Option, subst, sym}
use Rattle.std.proofs.lemmas.Int.{to_z-of_z}
use Rattle.std.proofs.lemmas.Result.{err_from_is_err_and}
use Rattle.tree_model.specs.Tree.{rows_of}
use Rattle.tree_model.specs.declared.ends.Fault.{Fault}
use Rattle.tree_model.specs.declared.ends.PathEnd.TheVariants.{Ends}
use Rattle.tree_model.specs.Whole.{most_depth}
use Rattle.tree_model.specs.Walk.{Path}
use Rattle.tree_model.specs.Laws.{row_at}
use Rattle.tree_search.specs.Search.{PathIs, EndsAlways, SearchRefused, path_end}
use Rattle.tree_search.specs.Steps.{Leads}
use Rattle.tree_search.proofs.StateLemmas.{refused_as}
use Rattle.tree_search.proofs.RowLemmas.{path_is, whole_row, row_clean}
use Rattle.tree_search.proofs.row.find.Goals as goal

pub returns-clause-found : goal.returns-clause-found
returns-clause-found g c = λ t.
    let pages = (g.S.PageSpace.state c.args.space.now).pages in
    let key_fits = c.ranges.rowid in
    let P : Option (List ℕ) → Type 0 = λ payload. Leads most_depth None pages c.args.root c.args.root c.args.rowid (path_end payload) in
    let found : PathIs pages c.args.root c.args.rowid c.in_ok-row.row = simp to_z-of_z at (c.in_ok-row.ensures.found t) in
    (subst P (sym c.payload_in.ensures) (path_is pages c.args.root c.args.rowid c.in_ok-row.row found)).leads

pub returns-clause-whole : goal.returns-clause-whole
returns-clause-whole g c = λ t tree whole.
    let pages = (g.S.PageSpace.state c.args.space.now).pages in
    let key_fits = c.ranges.rowid in
    let P : Option (List ℕ) → Type 0 = λ payload. path_end payload ≡ row_at c.args.rowid (rows_of tree) in
    let found : PathIs pages c.args.root c.args.rowid c.in_ok-row.row = simp to_z-of_z at (c.in_ok-row.ensures.found t) in
    subst P (sym c.payload_in.ensures)
    (whole_row c.one_path.ensures c.path_finds.ensures pages c.args.root c.args.rowid _ (path_is pages c.args.root c.args.rowid c.in_ok-row.row found) tree whole)

pub returns-in_err-row-clause-refused : goal.returns-in_err-row-clause-refused
returns-in_err-row-clause-refused g c =
    let state = g.S.PageSpace.state in
    let old = state c.args.space.now in
    let new = state c.find_on_leaf.new.space in
    let key_fits = c.ranges.rowid in
    let A : Fault → Type 0 = λ fault. EndsAlways old.pages c.args.root c.args.rowid (Ends fault) in
    let B : Fault → Type 0 = λ fault. Path None old.pages c.args.root c.args.rowid (Ends fault) in
    let p = err_from_is_err_and c.from_residual.result c.from_residual.ensures.1 in
    let refused : SearchRefused old new A c.in_err-row.field-0.0 = simp to_z-of_z at c.in_err-row.ensures.refused in
    rw (p.1, p.2) (refused_as old new A B c.in_err-row.field-0.0 (λ t f ends. ends.path None) refused)

pub returns-in_err-row-clause-clean : goal.returns-in_err-row-clause-clean
returns-in_err-row-clause-clean g c = λ t.
    let state = g.S.PageSpace.state in
    let old = state c.args.space.now in
    let new = state c.find_on_leaf.new.space in
    let key_fits = c.ranges.rowid in
    let A : Fault → Type 0 = λ fault. EndsAlways old.pages c.args.root c.args.rowid (Ends fault) in
    let B : Fault → Type 0 = λ fault. Leads most_depth None old.pages c.args.root c.args.root c.args.rowid (Ends fault) in
    let p = err_from_is_err_and c.from_residual.result c.from_residual.ensures.1 in
    let refused : SearchRefused old new A c.in_err-row.field-0.0 = simp to_z-of_z at c.in_err-row.ensures.refused in
    rw (p.1, p.2)
    (row_clean c.one_path.ensures c.path_finds.ensures old new c.args.root c.args.rowid c.in_err-row.field-0.0 t
    (refused_as old new A B c.in_err-row.field-0.0 (λ t f ends. record { leads = ends.path None }) refused))
