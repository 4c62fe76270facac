-- What the answers of the plain program mean.
-- After sqlite.org, "Database File Format", sections 1.2 and 1.6.
use Rattle.std.specs.Prelude.{◌≡◌, ℕ, length}
use Rattle.page_list.specs.Pages.{Pages}
use Rattle.page_list.specs.Chain.{IsChain, BreaksAt, FailsAt}
use Rattle.ref_pages.specs.Listed.{listed}
use Rattle.ref_pages.specs.declared.pages.RefPages.{RefPages}
use Rattle.ref_pages.specs.declared.chain.ChainEnd.{ChainEnd}
use Rattle.ref_pages.specs.declared.chain.ChainEnd.TheVariants.{Whole, Breaks, Fails}

-- the pages that stand in memory, as pages
abbrev pub pages_of : RefPages → Pages
pages_of plain = listed plain.usable plain.items.items

-- the chain from a first page on, of a payload of so many bytes, ends like this
abbrev pub ChainEnds : Pages → ℕ → ℕ → ChainEnd → Type 0
ChainEnds pages first len (Whole numbers payload) = IsChain pages first numbers payload × (length payload ≡ len)
ChainEnds pages first len (Breaks page) = BreaksAt pages first len page
ChainEnds pages first len (Fails page sums) = FailsAt pages first len page sums
