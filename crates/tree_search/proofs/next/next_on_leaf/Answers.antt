use Rattle.std.proofs.Common.{◌∙◌, subst, IsTrue, None, Option, SFits, w64, rules}
use Rattle.std.proofs.lemmas.Int.{to_z-of_z}
use Rattle.std.proofs.lemmas.Result.{err_from_is_err_and}
use Rattle.page_list.specs.Pages.{Pages}
use Rattle.tree_model.specs.declared.ends.Fault.{Fault}
use Rattle.tree_model.specs.declared.ends.Next.TheVariants.{Meets}
use Rattle.tree_model.specs.Whole.{most_depth}
use Rattle.tree_model.specs.Walk.{IsReadable}
use Rattle.tree_search.specs.declared.next.Place.{Place}
use Rattle.tree_search.specs.Search.{SearchRefused}
use Rattle.tree_search.specs.Steps.{HasSought, next_of}
use Rattle.tree_search.proofs.NextRowLemmas.{way_refused, payload_refused}
use Rattle.tree_search.proofs.next.next_on_leaf.Goals as goal

pub returns-in_err-leaf-clause-refused : goal.returns-in_err-leaf-clause-refused
returns-in_err-leaf-clause-refused g c =
    let state = g.S.PageSpace.state in
    let old = state c.args.space.now in
    let new = state c.seek.new.space in
    let key_fits = c.ranges.from in
    let p = err_from_is_err_and c.from_residual-in_err-leaf.result c.from_residual-in_err-leaf.ensures.1 in
    let A : Fault → Type 0 = λ f. HasSought most_depth old.pages c.args.from c.args.root c.args.from c.args.root (Meets f) in
    let refused : SearchRefused old new A c.in_err-leaf.field-0.0 = simp to_z-of_z at c.in_err-leaf.ensures.refused in
    rw (p.1, p.2) (way_refused old new c.args.root c.args.from c.in_err-leaf.field-0.0 refused)

pub returns-in_default-clause-found : goal.returns-in_default-clause-found
returns-in_default-clause-found g c = λ t.
    let old = g.S.PageSpace.state c.args.space.now in
    let key_fits = c.ranges.from in
    let P : Option Place → Type 0 = λ found. HasSought most_depth old.pages c.args.from c.args.root c.args.from c.args.root (next_of found) in
    let sought : P c.in_ok-leaf.field-0 = simp to_z-of_z at (c.in_ok-leaf.ensures.found t) in
    (subst P c.in_default.is sought).seeks

pub returns-in_err-payload-clause-refused : goal.returns-in_err-payload-clause-refused
returns-in_err-payload-clause-refused g c =
    let state = g.S.PageSpace.state in
    let old = state c.args.space.now in
    let key_fits = c.ranges.from in
    let place = c.in-Some.field-0 in
    let P : Option Place → Type 0 = λ found. HasSought most_depth old.pages c.args.from c.args.root c.args.from c.args.root (next_of found) in
    let sought : IsTrue old.tells → P c.in_ok-leaf.field-0 = simp to_z-of_z at c.in_ok-leaf.ensures.found in
    let p = err_from_is_err_and c.from_residual-in_err-payload.result c.from_residual-in_err-payload.ensures.1 in
    rw (p.1, p.2)
    (payload_refused old (state c.seek.new.space) (state c.payload_of.new.space) c.args.root c.args.from place.leaf place.cell c.in_err-payload.field-0.0 c.in_ok-leaf.ensures.steady
    c.in_ok-leaf.ensures.stays (λ t. subst P c.in-Some.is (sought t)) c.in_err-payload.ensures.refused)

pub returns-clause-found : goal.returns-clause-found
returns-clause-found g c = λ t.
    let state = g.S.PageSpace.state in
    let old = state c.args.space.now in
    let key_fits = c.ranges.from in
    let place = c.in-Some.field-0 in
    let rowid_fits : SFits w64 place.cell.rowid = search rules in
    let P : Option Place → Type 0 = λ found. HasSought most_depth old.pages c.args.from c.args.root c.args.from c.args.root (next_of found) in
    let sought : P c.in_ok-leaf.field-0 = simp to_z-of_z at (c.in_ok-leaf.ensures.found t) in
    let Q : Pages → Type 0 = λ p. IsReadable None p place.cell c.in_ok-payload.payload in
    record {
      cell = place.cell;
      sought = (subst P c.in-Some.is sought).seeks;
      keyed = to_z-of_z w64 place.cell.rowid rowid_fits;
      readable = subst Q (c.in_ok-leaf.ensures.stays.pages_stay t) (c.in_ok-payload.ensures.found (c.in_ok-leaf.ensures.steady.told ∙ t));
    }
