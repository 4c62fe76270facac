-- A cell whose chain is broken, or fails, has no row.
use Rattle.std.proofs.Common.{◌≡◌, ℕ, ◌+◌, ◌<◌, List, length, ap, subst, arith, length-append}
use Rattle.page_list.specs.Pages.{Pages}
use Rattle.page_list.specs.Chain.{IsChain, BreaksAt, FailsAt, OneChain}
use Rattle.tree_page.specs.declared.cell.LeafCell.{LeafCell}
use Rattle.tree_model.specs.Tree.{Row}
use Rattle.tree_model.specs.Held.{HasRow}

-- the rest of the payload has so many bytes
rest_len : (pages : Pages) (row : Row) (cell : LeafCell) (h : HasRow pages row) → row.cell ≡ cell → length h.rest + length cell.local ≡ cell.payload_len
rest_len pages row cell h same =
    omega (arith, h.whole, ap (λ (l : List ℕ). length l) h.joined, length-append row.cell.local h.rest, ap (λ (c : LeafCell). length c.local) same, ap (λ (c : LeafCell). c.payload_len) same)

pub no_row_long : (pages : Pages) (cell : LeafCell) → cell.payload_len < length cell.local → (row : Row) → row.cell ≡ cell → ¬ (HasRow pages row)
no_row_long pages cell long row same h = omega (arith, rest_len pages row cell h same)

chain_is : (pages : Pages) (row : Row) (cell : LeafCell) (h : HasRow pages row) → row.cell ≡ cell → IsChain pages cell.overflow row.chain h.rest
chain_is pages row cell h same = let P : LeafCell → Type 0 = λ c. IsChain pages c.overflow row.chain h.rest in subst P same h.chained

pub no_row_broken : OneChain → (pages : Pages) (cell : LeafCell) (len page : ℕ) → len + length cell.local ≡ cell.payload_len
    → BreaksAt pages cell.overflow len page → (row : Row) → row.cell ≡ cell → ¬ (HasRow pages row)
no_row_broken one pages cell len page len_is breaks row same h =
    let P : ℕ → Type 0 = λ n. BreaksAt pages cell.overflow n page in
    one.whole pages cell.overflow page row.chain h.rest (chain_is pages row cell h same) (subst P (omega (arith, rest_len pages row cell h same)) breaks)

pub no_row_failing : OneChain → (pages : Pages) (cell : LeafCell) (len page : ℕ) (sums : ℕ × ℕ) → len + length cell.local ≡ cell.payload_len
    → FailsAt pages cell.overflow len page sums → (row : Row) → row.cell ≡ cell → ¬ (HasRow pages row)
no_row_failing one pages cell len page sums len_is fails row same h =
    let P : ℕ → Type 0 = λ n. FailsAt pages cell.overflow n page sums in
    one.good pages cell.overflow page sums row.chain h.rest (chain_is pages row cell h same) (subst P (omega (arith, rest_len pages row cell h same)) fails)
