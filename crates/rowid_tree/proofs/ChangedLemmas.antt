-- A put in whole pages writes a page, so that the space says that it was changed.
use Rattle.std.proofs.Common.{inl, inr, ℕ, ◌≤◌, ℤ, ◌<ℤ◌, ◌≤ℤ◌, Bool, List, [], ◌∷◌, ◌++◌, length, IsTrue, sym, subst, arith}
use Rattle.std.proofs.lemmas.Bool.{cases_lt}
use Rattle.std.specs.List.{AllByRecursion}
use Rattle.page_list.specs.Pages.{Pages, HasPage, times, Among}
use Rattle.page_list.specs.Freelist.{Trunk}
use Rattle.page_list.specs.Edits.{taken_numbers, after_takes}
use Rattle.page_list.proofs.TimesLemmas.{times-append, among-back}
use Rattle.page_pool.specs.Space.{SpaceState}
use Rattle.tree_page.specs.Laws.{FrontApart}
use Rattle.tree_page.specs.Page.{OnePage}
use Rattle.tree_model.specs.Tree.{Tree, pages_of}
use Rattle.tree_model.specs.Whole.{below_all, greatest, IsWholeFor}
use Rattle.tree_model.proofs.OthersLemmas.{split_named}
use Rattle.page_cut.specs.declared.parts.Sheet.{Sheet}
use Rattle.tree_laws.proofs.RangeLemmas.{named_there}
use Rattle.tree_put.specs.Puts.{HasPlace}
use Rattle.tree_put.proofs.FitLemmas.{climb_fits}
use Rattle.tree_write.specs.Write.{MayStand}
use Rattle.tree_removed.proofs.StopLemmas.{climbed_some}
use Rattle.rowid_tree.specs.Puts.{PutDone, HasWholeTree}
use Rattle.rowid_tree.proofs.SoundLemmas.{climbing, grown, left_of}

-- the first of the sheets may stand where it is to
pub one_stands : (pages : Pages) (tree : Tree) (taken : List ℕ) (out : List Sheet) (changed : Bool) → 1 ≤ length out
    → ((n : ℕ) → Among (pages_of tree ++ taken) n → HasPage pages n) → AllByRecursion (HasPlace pages tree taken) out
    → AllByRecursion (λ sheet. MayStand pages sheet → IsTrue changed) out → IsTrue changed
one_stands pages tree taken [] changed some there places notes = absurd (omega (arith, some))
one_stands pages tree taken (s ∷ more) changed some there places notes = notes.0 (record { there = there s.number places.0.among; fits = places.0.fits })

pub put_changes : FrontApart → OnePage → (old new : SpaceState) (root : ℕ) (key : ℤ) (payload : List ℕ) (replaced : Bool) → IsTrue old.tells → below_all <ℤ key
    → key ≤ℤ greatest → PutDone old new root key payload replaced → HasWholeTree old.pages root → IsTrue new.changed
put_changes front_apart one_page old new root key payload replaced told above below done h =
    let put = done.before in
    let w = put.before in
    let p = put.placed in
    let d = put.descent in
    let searched : Pages = w.searched.pages in
    let count : ℕ = p.climbed.count in
    let taken : List ℕ = taken_numbers old.page_size count put.written.pages in
    let full : Pages = after_takes old.page_size count put.written.pages in
    let left : List Trunk = left_of count searched payload h.trunks in
    let W : Pages → Type 0 = λ q. IsWholeFor q h.roots (h.before ++ h.tree ∷ h.behind) h.trunks in
    let now = subst W (sym (w.way.stays.pages_stay told)) h.whole in
    let c = climbing old put.written p.met root key payload d put.cell p.plan p.sheets told above below w p.planned p.climbed in
    let g = grown front_apart one_page old.page_size searched put.written.pages root key payload d.levels.items d.leaf d.cells put.cell p.plan count p.sheets
    h.roots h.before h.behind h.tree h.trunks c now h.rooted in
    let fits = climb_fits full h.roots h.before h.behind h.tree left put.cell p.plan taken p.sheets g.climb in
    let there : (n : ℕ) → Among (pages_of h.tree ++ taken) n → HasPage full n = λ n some. elim (cases_lt 0 (times n taken)) [
      | inl fresh ↦ g.made_ready.there n (among-back n _ taken (omega (arith, fresh)))
      | inr none ↦ named_there full h.roots (h.before ++ h.tree ∷ h.behind) left g.climb.whole n
          (omega (arith, some, none, times-append n (pages_of h.tree) taken, split_named h.roots h.before h.behind h.tree left n))
    ] in
    let N : Pages → Type 0 = λ q. AllByRecursion (λ sheet. MayStand q sheet → IsTrue done.placed.changed) p.sheets in
    done.noted
    (one_stands full h.tree taken p.sheets done.placed.changed (climbed_some _ _ _ _ _ _ g.climb.climbed) there fits.1 (subst N (p.climbed.took.pages_are told) p.notes))
