-- A row put among rows.
use Rattle.std.proofs.Common.{◌≡◌, ◌≢◌, ℤ, ◌≤ℤ◌, ◌<ℤ◌, List, [], ◌∷◌, sym, ap, subst, ◌∙◌, arith}
use Rattle.std.specs.Int.Signed.{≤ℤ_refl}
use Rattle.tree_model.specs.Tree.{Row, rowid}
use Rattle.tree_model.specs.declared.ends.PathEnd.TheVariants.{HasPayload, NoRow}
use Rattle.tree_model.specs.Laws.{Rises, row_at}
use Rattle.tree_model.proofs.IntLemmas.{le_lt_ℤ, lt_trans_ℤ, lt_le_ℤ, antisym_ℤ, le_is, not_le_is, by_le}
use Rattle.tree_model.proofs.PathLemmas.{row_behind}
use Rattle.tree_run.specs.Edit.{put_row, PutFinds}

-- where a row goes by the first row that it meets

pub put_later : (row r : Row) (more : List Row) → rowid r <ℤ rowid row → put_row row (r ∷ more) ≡ r ∷ put_row row more
put_later row r more less = let a = not_le_is (rowid row) (rowid r) less in cc

pub put_between : (row r : Row) (more : List Row) → rowid row <ℤ rowid r → put_row row (r ∷ more) ≡ row ∷ r ∷ more
put_between row r more less =
    let a = le_is (rowid row) (rowid r) (lt_le_ℤ (rowid row) (rowid r) less) in
    let b = not_le_is (rowid r) (rowid row) less in
    cc

pub put_same : (row r : Row) (more : List Row) → rowid row ≤ℤ rowid r → rowid r ≤ℤ rowid row → put_row row (r ∷ more) ≡ row ∷ more
put_same row r more at same = let a = le_is (rowid row) (rowid r) at in let b = le_is (rowid r) (rowid row) same in cc

pub by_place : {P : Type 0} (key : ℤ) (r : Row) → (rowid r <ℤ key → P) → (key ≤ℤ rowid r → rowid r ≤ℤ key → P) → (key <ℤ rowid r → P) → P
by_place key r later same between = by_le key (rowid r) (λ at. by_le (rowid r) key (same at) between) later

-- it is found, and every other row as before

row_here : (key : ℤ) (row : Row) (more : List Row) → key ≤ℤ rowid row → rowid row ≤ℤ key → row_at key (row ∷ more) ≡ HasPayload row.payload
row_here key row more at same = let a = le_is key (rowid row) at in let b = le_is (rowid row) key same in cc

pub no_row : (key : ℤ) (row : Row) (more : List Row) → key <ℤ rowid row → row_at key (row ∷ more) ≡ NoRow
no_row key row more less = let a = le_is key (rowid row) (lt_le_ℤ key (rowid row) less) in let b = not_le_is (rowid row) key less in cc

pub passed : (key : ℤ) (row : Row) (more : List Row) → rowid row <ℤ key → row_at key (row ∷ more) ≡ row_at key more
passed key row more less = row_behind key (row ∷ []) more (less, tt)

put_here : (row : Row) (rows : List Row) → row_at (rowid row) (put_row row rows) ≡ HasPayload row.payload
put_here row [] = row_here (rowid row) row [] (≤ℤ_refl (rowid row)) (≤ℤ_refl (rowid row))
put_here row (r ∷ more) =
    let at : (rest : List Row) → row_at (rowid row) (row ∷ rest) ≡ HasPayload row.payload =
    λ rest. row_here (rowid row) row rest (≤ℤ_refl (rowid row)) (≤ℤ_refl (rowid row)) in
    by_place (rowid row) r
    (λ a. ap (row_at (rowid row)) (put_later row r more a) ∙ passed (rowid row) r (put_row row more) a ∙ put_here row more)
    (λ a b. ap (row_at (rowid row)) (put_same row r more a b) ∙ at more)
    (λ a. ap (row_at (rowid row)) (put_between row r more a) ∙ at (r ∷ more))

pub behind_first : (key : ℤ) (r : Row) (xs ys : List Row) → row_at key xs ≡ row_at key ys → row_at key (r ∷ xs) ≡ row_at key (r ∷ ys)
behind_first key r xs ys same = cc

put_above : (key : ℤ) (row : Row) (rows : List Row) → key <ℤ rowid row → row_at key (put_row row rows) ≡ row_at key rows
put_above key row [] less = no_row key row [] less
put_above key row (r ∷ more) less = by_place (rowid row) r
    (λ a. ap (row_at key) (put_later row r more a) ∙ behind_first key r (put_row row more) more (put_above key row more less))
    (λ a b. ap (row_at key) (put_same row r more a b) ∙ no_row key row more less ∙ sym (no_row key r more (lt_le_lt key (rowid row) (rowid r) less a)))
    (λ a. ap (row_at key) (put_between row r more a) ∙ no_row key row (r ∷ more) less ∙ sym (no_row key r more (lt_trans_ℤ key (rowid row) (rowid r) less a)))
  where
    lt_le_lt : (a b c : ℤ) → a <ℤ b → b ≤ℤ c → a <ℤ c
    lt_le_lt a b c h k = grind (arith, h, k)

put_below : (key : ℤ) (row : Row) (rows : List Row) → rowid row <ℤ key → row_at key (put_row row rows) ≡ row_at key rows
put_below key row [] less = passed key row [] less
put_below key row (r ∷ more) less = by_place (rowid row) r
    (λ a. ap (row_at key) (put_later row r more a) ∙ behind_first key r (put_row row more) more (put_below key row more less))
    (λ a b. ap (row_at key) (put_same row r more a b) ∙ passed key row more less ∙ sym (passed key r more (le_lt_ℤ (rowid r) (rowid row) key b less)))
    (λ a. ap (row_at key) (put_between row r more a) ∙ passed key row (r ∷ more) less)

put_beside : (key : ℤ) (row : Row) (rows : List Row) → key ≢ rowid row → row_at key (put_row row rows) ≡ row_at key rows
put_beside key row rows other = by_le key (rowid row)
    (λ a. put_above key row rows (grind (arith, a, other)))
    (λ a. put_below key row rows a)

put_rises : (low : ℤ) (row : Row) (rows : List Row) → low <ℤ rowid row → Rises low rows → Rises low (put_row row rows)
put_rises low row [] less rises = (less, tt)
put_rises low row (r ∷ more) less rises =
    let P : List Row → Type 0 = Rises low in
    let Q : ℤ → Type 0 = λ k. Rises k more in
    by_place (rowid row) r
    (λ a. subst P (sym (put_later row r more a)) (rises.0, put_rises (rowid r) row more a rises.1))
    (λ a b. subst P (sym (put_same row r more a b)) (less, subst Q (antisym_ℤ (rowid r) (rowid row) b a) rises.1))
    (λ a. subst P (sym (put_between row r more a)) (less, (a, rises.1)))

pub put_finds : PutFinds
put_finds = record { here = put_here; beside = put_beside; rises = put_rises }
