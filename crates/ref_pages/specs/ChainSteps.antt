-- Overflow chains, gone over page by page: how far a walk has come, and why it stops or goes on. Only the steps of the
-- plain program speak by these words.
use Rattle.std.specs.Prelude.{◌≡◌, ℕ, ◌-◌, ◌*◌, ◌<◌, List, length}
use Rattle.std.specs.List.{flat_map}
use Rattle.page_list.specs.Pages.{Pages, HasPage, IsGood, Among}
use Rattle.page_list.specs.Chain.{pages_needed, piece, HasWalked, holder}
use Rattle.ref_pages.specs.declared.chain.ChainEnd.{ChainEnd}
use Rattle.ref_pages.specs.AsPages.{ChainEnds}

-- a walk has come over these pages, which hold these bytes; `last` holds the number behind them
pub record IsCourse (pages : Pages) (first : ℕ) (numbers : List ℕ) (last next : ℕ) (payload : List ℕ) : Type 0 where
  pub walked : HasWalked pages first numbers next
  pub held : last ≡ holder first numbers
  pub holds : payload ≡ flat_map (piece pages) numbers
  pub long : length payload ≡ length numbers * (pages.usable - 4)

-- every walk that has come over these pages and needs more ends like this
abbrev pub StopsAll : Pages → List ℕ → ℕ → ℕ → ChainEnd → Type 0
StopsAll pages numbers last next end =
    (first len : ℕ) → HasWalked pages first numbers next → last ≡ holder first numbers → length numbers < pages_needed pages.usable len
    → ChainEnds pages first len end

-- the walk may go on to a page
pub record GoesOn (pages : Pages) (numbers : List ℕ) (next : ℕ) : Type 0 where
  pub there : HasPage pages next
  pub good : IsGood pages next
  pub new : ¬ (Among numbers next)
