-- A row taken out of rows.
use Rattle.std.proofs.Common.{◌≡◌, ◌≢◌, ℕ, ◌+◌, ℤ, ◌≤ℤ◌, ◌<ℤ◌, List, [], ◌∷◌, refl, sym, ap, subst, ◌∙◌, arith}
use Rattle.std.specs.List.{AllByRecursion}
use Rattle.page_list.specs.Pages.{times}
use Rattle.page_list.proofs.TimesLemmas.{times-append}
use Rattle.tree_model.specs.Tree.{Row, rowid}
use Rattle.tree_model.specs.Held.{HasRow}
use Rattle.tree_model.specs.declared.ends.PathEnd.TheVariants.{NoRow}
use Rattle.tree_model.specs.Laws.{Rises, row_at, chains_of}
use Rattle.tree_model.proofs.IntLemmas.{le_lt_ℤ, le_trans_ℤ, lt_le_ℤ, by_le}
use Rattle.tree_run.specs.Edit.{chain_at, without}
use Rattle.tree_run.specs.Laws.{last_rowid}
use Rattle.tree_run.proofs.PutLemmas.{by_place, no_row, passed, behind_first}
use Rattle.tree_run.proofs.EditLemmas.{taken_later, taken_here, not_taken}
use Rattle.tree_shrink.specs.Laws.{RowTakenOut}

none_below : (low key : ℤ) (rows : List Row) → Rises low rows → key ≤ℤ low → row_at key rows ≡ NoRow
none_below low key [] rises less = refl
none_below low key (r ∷ more) rises less = no_row key r more (le_lt_ℤ key low (rowid r) less rises.0)

-- it is gone, and every other row as before

taken_gone : (low key : ℤ) (rows : List Row) → Rises low rows → row_at key (without key rows) ≡ NoRow
taken_gone low key [] rises = refl
taken_gone low key (r ∷ more) rises = by_place key r
    (λ past. ap (row_at key) (taken_later key r more past).0 ∙ passed key r (without key more) past ∙ taken_gone (rowid r) key more rises.1)
    (λ at back. ap (row_at key) (taken_here key r more at back).0 ∙ none_below (rowid r) key more rises.1 at)
    (λ above. ap (row_at key) (not_taken key r more above).0 ∙ no_row key r more above)

less_other : (key other k : ℤ) → key ≤ℤ k → k ≤ℤ key → other ≢ key → other ≤ℤ k → other <ℤ k
less_other key other k at back differ less = grind (arith, at, back, differ, less)

taken_beside : (low key other : ℤ) (rows : List Row) → Rises low rows → other ≢ key → row_at other (without key rows) ≡ row_at other rows
taken_beside low key other [] rises differ = refl
taken_beside low key other (r ∷ more) rises differ = by_place key r
    (λ past. ap (row_at other) (taken_later key r more past).0 ∙ behind_first other r (without key more) more (taken_beside (rowid r) key other more rises.1 differ))
    (λ at back. ap (row_at other) (taken_here key r more at back).0 ∙ by_le other (rowid r)
    (λ less. none_below (rowid r) other more rises.1 less ∙ sym (no_row other r more (less_other key other (rowid r) at back differ less)))
    (λ above. sym (passed other r more above)))
    (λ above. ap (row_at other) (not_taken key r more above).0)

-- they are rows of a leaf still

rises_less : (low last : ℤ) (rows : List Row) → low ≤ℤ last → Rises last rows → Rises low rows
rises_less low last [] less rises = tt
rises_less low last (r ∷ more) less rises = (le_lt_ℤ low last (rowid r) less rises.0, rises.1)

taken_rises : (low key : ℤ) (rows : List Row) → Rises low rows → Rises low (without key rows)
taken_rises low key [] rises = tt
taken_rises low key (r ∷ more) rises =
    let P : List Row → Type 0 = Rises low in
    by_place key r
    (λ past. subst P (sym (taken_later key r more past).0) (rises.0, taken_rises (rowid r) key more rises.1))
    (λ at back. subst P (sym (taken_here key r more at back).0) (rises_less low (rowid r) more (lt_le_ℤ low (rowid r) rises.0) rises.1))
    (λ above. subst P (sym (not_taken key r more above).0) rises)

last_less : (low last high : ℤ) (rows : List Row) → low ≤ℤ last → last_rowid last rows ≤ℤ high → last_rowid low rows ≤ℤ high
last_less low last high [] less most = le_trans_ℤ low last high less most
last_less low last high (r ∷ more) less most = most

taken_most : (low high key : ℤ) (rows : List Row) → Rises low rows → last_rowid low rows ≤ℤ high → last_rowid low (without key rows) ≤ℤ high
taken_most low high key [] rises most = most
taken_most low high key (r ∷ more) rises most =
    let P : List Row → Type 0 = λ l. last_rowid low l ≤ℤ high in
    by_place key r
    (λ past. subst P (sym (taken_later key r more past).0) (taken_most (rowid r) high key more rises.1 most))
    (λ at back. subst P (sym (taken_here key r more at back).0) (last_less low (rowid r) high more (lt_le_ℤ low (rowid r) rises.0) most))
    (λ above. subst P (sym (not_taken key r more above).0) most)

taken_each : (P : Row → Type 0) (key : ℤ) (rows : List Row) → AllByRecursion P rows → AllByRecursion P (without key rows)
taken_each P key [] each = tt
taken_each P key (r ∷ more) each =
    let Q : List Row → Type 0 = AllByRecursion P in
    by_place key r
    (λ past. subst Q (sym (taken_later key r more past).0) (each.0, taken_each P key more each.1))
    (λ at back. subst Q (sym (taken_here key r more at back).0) each.1)
    (λ above. subst Q (sym (not_taken key r more above).0) each)

taken_chains : (n : ℕ) (key : ℤ) (rows : List Row) → times n (chains_of (without key rows)) + times n (chain_at key rows) ≡ times n (chains_of rows)
taken_chains n key [] = omega arith
taken_chains n key (r ∷ more) =
    let inner = taken_chains n key more in
    let C : List Row → ℕ = λ l. times n (chains_of l) in
    by_place key r
    (λ past. let h = taken_later key r more past in
    omega (arith, ap C h.0, ap (times n) h.1, times-append n r.chain (chains_of (without key more)), times-append n r.chain (chains_of more), inner))
    (λ at back. let h = taken_here key r more at back in
    omega (arith, ap C h.0, ap (times n) h.1, times-append n r.chain (chains_of more)))
    (λ above. let h = not_taken key r more above in omega (arith, ap C h.0, ap (times n) h.1))

pub row_taken_out : RowTakenOut
row_taken_out = record {
  here = taken_gone;
  beside = taken_beside;
  rises = taken_rises;
  are = λ pages low high key rows are less. record {
    each = taken_each (HasRow pages) key rows are.each;
    rises = taken_rises low key rows are.rises;
    most = taken_most low high key rows are.rises are.most;
  };
  chains = taken_chains;
}
