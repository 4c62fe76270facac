-- Overflow chains: the pages that hold the part of a payload that its b-tree page does not.
-- After sqlite.org, "Database File Format", section 1.6, "Cell Payload Overflow Pages".
use Rattle.std.specs.Prelude.{◌≡◌, ◌≢◌, ◌⊎◌, ℕ, ◌+◌, ◌-◌, ◌/◌, ◌<◌, List, [], ◌∷◌, length, take, drop, Some}
use Rattle.std.specs.List.{flat_map}
use Rattle.page_list.specs.Pages.{Pages, HasPage, IsGood, word, Among, AllDifferent}

-- how many pages a chain of so many bytes has: each page gives all its usable bytes but the four of the next number
abbrev pub pages_needed : ℕ → ℕ → ℕ
pages_needed usable len = (len + (usable - 5)) / (usable - 4)

-- the next page of the chain, 0 at its end, and the bytes that a page of it holds
abbrev pub next_page : Pages → ℕ → ℕ
next_page pages number = word pages number 0

abbrev pub piece : Pages → ℕ → List ℕ
piece pages number = take (pages.usable - 4) (drop 4 (pages.bytes number))

-- the numbers are linked from a first one on, each page to the next, and `next` is the number behind them
abbrev pub AreLinked : Pages → ℕ → List ℕ → ℕ → Type 0
AreLinked pages first [] next = next ≡ first
AreLinked pages first (number ∷ more) next = (number ≡ first) × AreLinked pages (next_page pages number) more next

-- a walk along a chain has come over these pages, all there, good and different, and `next` is the number behind them
pub record HasWalked (pages : Pages) (first : ℕ) (numbers : List ℕ) (next : ℕ) : Type 0 where
  pub linked : AreLinked pages first numbers next
  pub each : (number : ℕ) → Among numbers number → HasPage pages number × IsGood pages number
  pub different : AllDifferent numbers

-- the chain from a first page on, 0 for none, has just these pages and holds just these bytes
pub record IsChain (pages : Pages) (first : ℕ) (numbers payload : List ℕ) : Type 0 where
  pub walked : HasWalked pages first numbers 0
  pub enough : length numbers ≡ pages_needed pages.usable (length payload)
  pub holds : payload ≡ take (length payload) (flat_map (piece pages) numbers)

-- the page that holds the number behind these: the last of them, or the first number itself where there is none
abbrev pub holder : ℕ → List ℕ → ℕ
holder first [] = first
holder first (number ∷ more) = holder number more

-- why a walk ends before it has the bytes: the next page is not there (also where the chain is at its end)
abbrev pub LeavesPages : Pages → ℕ → List ℕ → ℕ → ℕ → Type 0
LeavesPages pages first numbers next page = ¬ (HasPage pages next) × (page ≡ holder first numbers)

-- or was met before
abbrev pub MeetsAgain : List ℕ → ℕ → ℕ → Type 0
MeetsAgain numbers next page = Among numbers next × (page ≡ next)

-- a chain of so many bytes is broken at a page: a page that it needs is not there or was met before, or it goes on
-- behind the pages that it needs
pub record BreaksAt (pages : Pages) (first len page : ℕ) : Type 0 where
  pub numbers : List ℕ
  pub next : ℕ
  pub walked : HasWalked pages first numbers next
  pub why : ((length numbers < pages_needed pages.usable len) × (LeavesPages pages first numbers next page ⊎ MeetsAgain numbers next page))
      ⊎ ((length numbers ≡ pages_needed pages.usable len) × (next ≢ 0) × (page ≡ holder first numbers))

-- a page that a chain of so many bytes needs fails its checksum: the first such
pub record FailsAt (pages : Pages) (first len page : ℕ) (sums : ℕ × ℕ) : Type 0 where
  pub numbers : List ℕ
  pub walked : HasWalked pages first numbers page
  pub needed : length numbers < pages_needed pages.usable len
  pub there : HasPage pages page
  pub again : ¬ (Among numbers page)
  pub fails : pages.bad page ≡ Some sums

-- for a first page and a length there is at most one chain, and a chain that is there breaks nowhere and fails nowhere
pub record OneChain : Type 0 where
  pub one : (pages : Pages) (first : ℕ) (numbers numbers' payload payload' : List ℕ) → IsChain pages first numbers payload
      → IsChain pages first numbers' payload' → length payload ≡ length payload' → (numbers ≡ numbers') × (payload ≡ payload')
  pub whole : (pages : Pages) (first page : ℕ) (numbers payload : List ℕ) → IsChain pages first numbers payload → ¬ (BreaksAt pages first (length payload) page)
  pub good : (pages : Pages) (first page : ℕ) (sums : ℕ × ℕ) (numbers payload : List ℕ) → IsChain pages first numbers payload
      → ¬ (FailsAt pages first (length payload) page sums)

-- a chain of so many bytes that is not there ends in one way: broken at one page, or by one page that fails
pub record OneEnd : Type 0 where
  pub breaks_once : (pages : Pages) (first len page page' : ℕ) → BreaksAt pages first len page → BreaksAt pages first len page' → page ≡ page'
  pub fails_once : (pages : Pages) (first len page page' : ℕ) (sums sums' : ℕ × ℕ) → FailsAt pages first len page sums → FailsAt pages first len page' sums' → page ≡ page'
  pub not_both : (pages : Pages) (first len page page' : ℕ) (sums : ℕ × ℕ) → BreaksAt pages first len page → ¬ (FailsAt pages first len page' sums)
