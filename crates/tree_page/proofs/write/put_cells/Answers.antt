use Rattle.std.proofs.Common.{◌≡◌, ◌+◌, ◌*◌, ◌≤◌, ◌∷◌, take, drop, length, subst, sym, ◌∙◌, arith}
use Rattle.std.specs.List.{AllByRecursion}
use Rattle.std.proofs.lemmas.List.{drop_all}
use Rattle.tree_page.specs.Page.{cells_of}
use Rattle.tree_page.specs.Written.{IsSound, space_of}
use Rattle.tree_page.specs.Steps.{Fills, IsBlank, LaysNext}
use Rattle.tree_page.proofs.CellLemmas.{is_some}
use Rattle.tree_page.proofs.FitLemmas.{cell_at}
use Rattle.tree_page.proofs.FillLemmas.{next_blank, fills_more, fills_end}
use Rattle.tree_page.proofs.write.put_cells.Goals as goal

pub put_next-end-requires-clause-room : goal.put_next-end-requires-clause-room
put_next-end-requires-clause-room c = λ cell here.
    let l = c.loop-at in
    let cells = cells_of c.args.cells.now in
    let found = cell_at cells l.at (omega arith) in
    let same : found.0 ≡ cell = let e = sym found.1 ∙ here in cc in
    let room : c.args.first + 2 * l.at + space_of (cell ∷ drop (l.at + 1) cells) ≤ l.end =
    subst (λ x. c.args.first + 2 * l.at + space_of (x ∷ drop (l.at + 1) cells) ≤ l.end) same
    (subst (λ xs. c.args.first + 2 * l.at + space_of xs ≤ l.end) found.2 l.invariant.room) in
    omega arith

pub loop-at-preserved : goal.loop-at-preserved
loop-at-preserved c =
    let l = c.loop-at in
    let cells = cells_of c.args.cells.now in
    let usable = c.args.usable in
    let pointer = c.args.first + 2 * l.at in
    let new = c.put_next-end.new.page in
    let place = c.put_next-end.result in
    let here = cell_at cells l.at (omega arith) in
    let cell = here.0 in
    let rest = drop (l.at + 1) cells in
    let within : l.end ≤ length l.page = omega (arith, l.invariant.order, l.auto.page) in
    let next : LaysNext l.page new pointer l.end place cell = is_some _ _ cell here.1 c.put_next-end.ensures in
    let room : pointer + space_of (cell ∷ rest) ≤ l.end = subst (λ xs. pointer + space_of xs ≤ l.end) here.2 l.invariant.room in
    let sound : AllByRecursion (IsSound usable) (cell ∷ rest) = subst (AllByRecursion (IsSound usable)) here.2 l.invariant.sound in
    let forward : pointer + 2 ≡ c.args.first + 2 * (l.at + 1) = omega arith in
    record {
      order = omega (arith, next.place_is, l.invariant.order);
      room = omega (arith, room, next.extent_is);
      sound = sound.1;
      blank = subst (λ p. IsBlank new p place) forward (next_blank l.page new pointer l.end place cell within next);
      fills = λ content final fills. l.invariant.fills content final
          (subst (λ xs. Fills usable pointer l.end (take pointer l.page) (drop l.end l.page) xs content final) (sym here.2)
          (fills_more usable l.page new final pointer l.end place content cell rest within sound.0 next
          (subst (λ p. Fills usable p place (take p new) (drop place new) rest content final) (sym forward) fills)));
    }

pub returns : goal.returns
returns c =
    let l = c.loop-at in
    let cells = cells_of c.args.cells.now in
    let pointer = c.args.first + 2 * l.at in
    l.invariant.fills l.end l.page
    (subst (λ xs. Fills c.args.usable pointer l.end (take pointer l.page) (drop l.end l.page) xs l.end l.page) (sym (drop_all l.at cells (omega arith)))
    (fills_end c.args.usable l.page pointer l.end (omega (arith, l.invariant.room)) l.invariant.blank))
