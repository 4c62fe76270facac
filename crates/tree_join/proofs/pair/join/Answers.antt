use Rattle.std.proofs.Common.{◌≡◌, ◌≤◌, ◌*◌, ◌-◌, List, map, sym, ap, subst, ◌∙◌, add-one, suc}
use Rattle.std.proofs.lemmas.Result.{IfOk-weaker}
use Rattle.tree_page.specs.declared.cell.InnerCell.{InnerCell}
use Rattle.tree_page.specs.Page.{inner}
use Rattle.tree_page.specs.Written.{space_of}
use Rattle.tree_join.specs.Join.{child_of, left_page, right_page, sibling_of}
use Rattle.tree_join.proofs.PairLemmas.{joined_room, join_is}
use Rattle.tree_join.proofs.pair.join.Goals as goal

pub cut_rising-requires-clause-room : goal.cut_rising-requires-clause-room
cut_rising-requires-clause-room c =
    let P : List InnerCell → Type 0 = λ l. space_of (map inner l) ≤ 2 * (c.args.usable - 12) in
    subst P (sym c.in_ok-joined.ensures.cells)
    (joined_room c.args.usable c.args.child c.args.right (sibling_of c.args.level) c.args.level c.args.cells c.requires.least c.requires.beside).1

pub returns : goal.returns
returns c =
    let level = c.args.level in
    let left : c.child_at-left_page.result ≡ left_page level = c.child_at-left_page.ensures ∙ ap (child_of level) c.pair_at.ensures.is in
    let right : c.child_at-right_page.result ≡ right_page level = c.child_at-right_page.ensures ∙ ap (child_of level) (add-one _ ∙ ap (λ n. suc n) c.pair_at-2.ensures.is) in
    IfOk-weaker c.plan_above.result _ _
    (λ result above. join_is c.args.usable c.args.child c.args.right c.child_at-right_page.result c.child_at-left_page.result level c.args.cells c.in_ok-joined.joined
    c.in_ok-sheets.field-0 c.in-Some.sheets result right left c.in_ok-joined.ensures.cells c.in_ok-joined.ensures.right c.in_ok-sheets.ensures c.in-Some.is above) c.plan_above.ensures
