use Rattle.std.proofs.Common.{◌≡◌, ℕ, ◌+◌, ◌<◌, max, Bool, ℤ, List, [], ◌∷◌, ◌++◌, length, map, Option, Some, None, sym, subst, ap, ◌∙◌, arith, append_assoc}
use Rattle.std.proofs.lemmas.List.{map_push}
use Rattle.byte_base.specs.Numbers.{number_at}
use Rattle.tree_page.specs.declared.cell.Kind.{Kind}
use Rattle.tree_page.specs.Page.{Cell, rowid_of, Extent, Placed, extent_of, IsFreeblock, AreFreeblocks}
use Rattle.tree_page.specs.Steps.{IsClear, Marks, AreClear, RiseFrom, IsNext, TakesNext, AreCells}
use Rattle.tree_page.proofs.FitLemmas.{rise_more, rise_rest, rise_above}
use Rattle.tree_page.proofs.ClearLemmas.{clear_more, clear_rest, clear_first}

-- a cell in front of others
pub cells_more : (bytes : List ℕ) (content pointer place : ℕ) (kind : Kind) (last : Option ℤ) (old new : List Bool) (cell : Cell) (rest : List Placed) (free : List Extent)
    → number_at 2 bytes pointer ≡ place → (t : TakesNext bytes content kind place last old new cell)
    → AreCells bytes content kind (pointer + 2) (Some (rowid_of cell)) new rest free
    → AreCells bytes content kind pointer last old (record { place = place; size = t.size; cell = cell } ∷ rest) free
cells_more bytes content pointer place kind last old new cell rest free place_is t more = record {
  pointers = (place_is, more.pointers);
  stand = (t.next.stands, more.stand);
  kinds = (t.next.kind_is, more.kinds);
  rising = rise_more last (rowid_of cell) (map (λ p. rowid_of p.cell) rest) t.next.above more.rising;
  clear = clear_more old new (record { place = place; size = max 4 t.size }) (map extent_of rest ++ free) t.next.clear t.marked more.clear;
}

same_placed : (place size : ℕ) (cell : Cell) (p : Placed) → p.place ≡ place → p.size ≡ size → p.cell ≡ cell → p ≡ record { place = place; size = size; cell = cell }
same_placed place size cell p place_is size_is cell_is =
    let one : Path Placed p (record { place = place; size = p.size; cell = p.cell }) = ap (λ n. let r : Placed = record { place = n; size = p.size; cell = p.cell } in r) place_is in
    one
    ∙ ap (λ n. let r : Placed = record { place = place; size = n; cell = p.cell } in r) size_is
    ∙ ap (λ c. let r : Placed = record { place = place; size = size; cell = c } in r) cell_is

-- of such cells the first is the one that was read, and the rest follows
pub cells_rest : (bytes : List ℕ) (content pointer place : ℕ) (kind : Kind) (last : Option ℤ) (old new : List Bool) (cell : Cell) (first : Placed) (rest : List Placed) (free : List Extent)
    → number_at 2 bytes pointer ≡ place → (t : TakesNext bytes content kind place last old new cell)
    → AreCells bytes content kind pointer last old (first ∷ rest) free → AreCells bytes content kind (pointer + 2) (Some (rowid_of cell)) new rest free
cells_rest bytes content pointer place kind last old new cell first rest free place_is t all =
    let here : first.place ≡ place = sym all.pointers.0 ∙ place_is in
    let only = t.only first here all.stand.0 all.kinds.0 in
    let extent : Extent = record { place = place; size = max 4 t.size } in
    let same : extent_of first ≡ extent =
    ap (λ n. let e : Extent = record { place = n; size = max 4 first.size } in e) here ∙ ap (λ n. let e : Extent = record { place = place; size = max 4 n } in e) only.0 in
    record {
      pointers = all.pointers.1;
      stand = all.stand.1;
      kinds = all.kinds.1;
      rising = subst (λ c. RiseFrom (Some (rowid_of c)) (map (λ p. rowid_of p.cell) rest)) only.1 (rise_rest last (rowid_of first.cell) (map (λ p. rowid_of p.cell) rest) all.rising);
      clear = clear_rest old new extent (map extent_of rest ++ free) t.marked (subst (λ e. AreClear old (e ∷ (map extent_of rest ++ free))) same all.clear);
    }

-- the first of such cells is the next one
pub cells_first : (bytes : List ℕ) (content pointer place : ℕ) (kind : Kind) (last : Option ℤ) (old : List Bool) (first : Placed) (rest : List Placed) (free : List Extent)
    → number_at 2 bytes pointer ≡ place → AreCells bytes content kind pointer last old (first ∷ rest) free → IsNext bytes content kind place last old first
cells_first bytes content pointer place kind last old first rest free place_is all = record {
  here = sym all.pointers.0 ∙ place_is;
  stands = all.stand.0;
  kind_is = all.kinds.0;
  above = rise_above last (rowid_of first.cell) (map (λ p. rowid_of p.cell) rest) all.rising;
  clear = clear_first old (extent_of first) (map extent_of rest ++ free) all.clear;
}

-- how the freeblocks from a place on go on
pub block_more : (bytes : List ℕ) (content last place : ℕ) (old new : List Bool) (blocks : List Extent)
    → IsFreeblock bytes content last place (record { place = place; size = number_at 2 bytes (place + 2) })
    → IsClear old (record { place = place; size = number_at 2 bytes (place + 2) }) → Marks old new (record { place = place; size = number_at 2 bytes (place + 2) })
    → AreFreeblocks bytes content place (number_at 2 bytes place) blocks → AreClear new blocks
    → AreFreeblocks bytes content last place (record { place = place; size = number_at 2 bytes (place + 2) } ∷ blocks) × AreClear old (record { place = place; size = number_at 2 bytes (place + 2) } ∷ blocks)
block_more bytes content last place old new blocks is clear marks rest apart =
    ((is, rest), clear_more old new (record { place = place; size = number_at 2 bytes (place + 2) }) blocks clear marks apart)

pub block_rest : (bytes : List ℕ) (content last place : ℕ) (old new : List Bool) (block : Extent) (blocks : List Extent)
    → Marks old new (record { place = place; size = number_at 2 bytes (place + 2) })
    → AreFreeblocks bytes content last place (block ∷ blocks) → AreClear old (block ∷ blocks)
    → AreFreeblocks bytes content place (number_at 2 bytes place) blocks × AreClear new blocks
block_rest bytes content last place old new block blocks marks are apart =
    let extent : Extent = record { place = place; size = number_at 2 bytes (place + 2) } in
    let same : block ≡ extent =
    ap (λ n. let e : Extent = record { place = n; size = block.size } in e) are.0.here ∙ ap (λ n. let e : Extent = record { place = place; size = n } in e) are.0.size_is in
    (are.1, clear_rest old new extent blocks marks (subst (λ e. AreClear old (e ∷ blocks)) same apart))

-- where the next freeblock is malformed or not clear, there are no freeblocks of the page
pub free_broken : (bytes : List ℕ) (content last place : ℕ) (old : List Bool) (blocks : List Extent) → (place ≡ 0 → ⊥)
    → ((block : Extent) → IsFreeblock bytes content last place block → ¬ (IsClear old block)) → AreFreeblocks bytes content last place blocks → AreClear old blocks → ⊥
free_broken bytes content last place old [] some broken are clear = some are
free_broken bytes content last place old (block ∷ blocks) some broken are clear = broken block are.0 (clear_first old block blocks clear)

pub free_rest : (bytes : List ℕ) (content last place next : ℕ) (old new : List Bool) (blocks : List Extent) → (place ≡ 0 → ⊥) → next ≡ number_at 2 bytes place
    → Marks old new (record { place = place; size = number_at 2 bytes (place + 2) }) → AreFreeblocks bytes content last place blocks → AreClear old blocks
    → (rest : List Extent) × AreFreeblocks bytes content place next rest × AreClear new rest
free_rest bytes content last place next old new [] some next_is marks are clear = absurd (some are)
free_rest bytes content last place next old new (block ∷ blocks) some next_is marks are clear =
    let rest = block_rest bytes content last place old new block blocks marks are clear in
    (blocks, subst (λ n. AreFreeblocks bytes content place n blocks) (sym next_is) rest.0, rest.1)

-- where the next cell is none, the page has no cells
pub find_none : (bytes : List ℕ) (content pointer place at count : ℕ) (kind : Kind) (last : Option ℤ) (old : List Bool) (rest : List Placed) (free : List Extent)
    → number_at 2 bytes pointer ≡ place → ((placed : Placed) → ¬ (IsNext bytes content kind place last old placed)) → at < count → at + length rest ≡ count
    → ¬ (AreCells bytes content kind pointer last old rest free)
find_none bytes content pointer place at count kind last old [] free place_is none before counted are = absurd (omega arith)
find_none bytes content pointer place at count kind last old (first ∷ rest) free place_is none before counted are =
    none first (cells_first bytes content pointer place kind last old first rest free place_is are)

pub find_rest : (bytes : List ℕ) (content pointer next place at count : ℕ) (kind : Kind) (last : Option ℤ) (key : ℤ) (old new : List Bool) (cell : Cell) (rest : List Placed) (free : List Extent)
    → number_at 2 bytes pointer ≡ place → pointer + 2 ≡ next → rowid_of cell ≡ key → TakesNext bytes content kind place last old new cell → at < count → at + length rest ≡ count
    → AreCells bytes content kind pointer last old rest free
    → (more : List Placed) × (at + 1 + length more ≡ count) × AreCells bytes content kind next (Some key) new more free
find_rest bytes content pointer next place at count kind last key old new cell [] free place_is next_is key_is takes before counted are = absurd (omega arith)
find_rest bytes content pointer next place at count kind last key old new cell (first ∷ rest) free place_is next_is key_is takes before counted are = (
  rest,
  omega arith,
  subst (λ k. AreCells bytes content kind next (Some k) new rest free) key_is
      (subst (λ n. AreCells bytes content kind n (Some (rowid_of cell)) new rest free) next_is
      (cells_rest bytes content pointer place kind last old new cell first rest free place_is takes are)),
)

pub find_more : (bytes : List ℕ) (content pointer next place : ℕ) (kind : Kind) (last : Option ℤ) (key : ℤ) (old new : List Bool) (cell : Cell) (rest : List Placed) (free : List Extent)
    → number_at 2 bytes pointer ≡ place → pointer + 2 ≡ next → rowid_of cell ≡ key → (t : TakesNext bytes content kind place last old new cell)
    → AreCells bytes content kind next (Some key) new rest free
    → AreCells bytes content kind pointer last old (record { place = place; size = t.size; cell = cell } ∷ rest) free
find_more bytes content pointer next place kind last key old new cell rest free place_is next_is key_is t are =
    cells_more bytes content pointer place kind last old new cell rest free place_is t
    (subst (λ n. AreCells bytes content kind n (Some (rowid_of cell)) new rest free) (sym next_is)
    (subst (λ k. AreCells bytes content kind next (Some k) new rest free) (sym key_is) are))

rise_end : (last : Option ℤ) → RiseFrom last []
rise_end None = tt
rise_end (Some last) = tt

pub find_end : (bytes : List ℕ) (content pointer : ℕ) (kind : Kind) (last : Option ℤ) (marks : List Bool) (free : List Extent) → AreClear marks free
    → AreCells bytes content kind pointer last marks [] free
find_end bytes content pointer kind last marks free clear = record { pointers = tt; stand = tt; kinds = tt; rising = rise_end last; clear = clear }

pub clear_free : (marks : List Bool) (rest : List Placed) (free : List Extent) → length rest ≡ 0 → AreClear marks (map extent_of rest ++ free) → AreClear marks free
clear_free marks [] free none clear = clear
clear_free marks (first ∷ rest) free none clear = absurd (omega arith)

pub cells_push : {X : Type 0} (f : X → Cell) (items pushed : List X) (item : X) (rest : List Cell) → pushed ≡ items ++ item ∷ [] → map f items ++ (f item ∷ rest) ≡ map f pushed ++ rest
cells_push f items pushed item rest pushed_is =
    sym (ap (λ xs. map f xs ++ rest) pushed_is ∙ ap (λ xs. xs ++ rest) (map_push f items item) ∙ append_assoc (map f items) (f item ∷ []) rest)
