-- Whole pages stay whole while pages are taken and given, and while roots come and go.
use Rattle.std.specs.Prelude.{◌≡◌, ◌≢◌, ℕ, ◌+◌, ◌≤◌, ◌<◌, nat_lt, if◌then◌else◌, zero, suc, List, [], ◌∷◌, ◌++◌, length}
use Rattle.page_list.specs.Pages.{Pages, HasPage, IsGood, SamePage, times, Among, AllDifferent, AreSized}
use Rattle.page_list.specs.Freelist.{Trunk, free_pages, take_each, give_each}
use Rattle.page_list.specs.Edits.{taken_numbers, after_takes, after_gives}
use Rattle.tree_model.specs.Tree.{Tree, pages_of}
use Rattle.tree_model.specs.Whole.{IsWholeFor, named_pages}
use Rattle.tree_model.specs.Laws.{Admits}
use Rattle.tree_model.specs.Need.{use_of}

-- no page is one that the roots name, and each is there and good
pub record AreUnnamed (pages : Pages) (named numbers : List ℕ) : Type 0 where
  pub each : (n : ℕ) → Among numbers n → (2 ≤ n) × HasPage pages n × ¬ (Among named n)
  pub different : AllDifferent numbers

-- so many pages are taken: the trees stay, the freelist is what is left of it, and nothing names the pages taken
abbrev pub WholeTakes : Type 0
WholeTakes = (page_size count : ℕ) (old : Pages) (roots : List ℕ) (trees : List Tree) (trunks : List Trunk) → AreSized page_size old →
    old.size + count < 4294967296 → IsWholeFor old roots trees trunks → Admits old (after_takes page_size count old) →
    IsWholeFor (after_takes page_size count old) roots trees (take_each count trunks)
    × AreUnnamed (after_takes page_size count old) (named_pages roots trees (take_each count trunks)) (taken_numbers page_size count old)

-- pages that nothing names are given, all of them good: the trees stay, and the freelist has them
abbrev pub WholeGives : Type 0
WholeGives = (page_size : ℕ) (old : Pages) (roots : List ℕ) (trees : List Tree) (trunks : List Trunk) (numbers : List ℕ) → AreSized page_size old →
    IsWholeFor old roots trees trunks → AreUnnamed old (named_pages roots trees trunks) numbers → ((n : ℕ) → Among numbers n → IsGood old n) →
    IsWholeFor (after_gives page_size numbers old) roots trees (give_each old.usable numbers trunks)

-- a page that nothing named is still named by nothing, and holds what it held
pub record StaysUnnamed (old new : Pages) (named : List ℕ) (n : ℕ) : Type 0 where
  pub unnamed : ¬ (Among named n)
  pub same : SamePage old new n

-- a root other than page 1 is left out, and then nothing names the pages of its tree
abbrev pub RootRemoved : Type 0
RootRemoved = (pages : Pages) (front back : List ℕ) (root : ℕ) (before behind : List Tree) (tree : Tree) (trunks : List Trunk) →
    length front ≡ length before → root ≢ 1 → IsWholeFor pages (front ++ root ∷ back) (before ++ tree ∷ behind) trunks →
    IsWholeFor pages (front ++ back) (before ++ behind) trunks
    × ((n : ℕ) → Among (pages_of tree) n → ¬ (Among (named_pages (front ++ back) (before ++ behind) trunks) n))

-- the pages up to a number that do not stand in a list
abbrev pub missing_in : List ℕ → ℕ → List ℕ
missing_in named zero = []
missing_in named (suc n) = if nat_lt 0 (times (suc n) named) then missing_in named n else suc n ∷ missing_in named n

-- the pages in use, those of the freelist and those that nothing names are all pages
abbrev pub PagesAddUp : Type 0
PagesAddUp = (pages : Pages) (roots : List ℕ) (trees : List Tree) (trunks : List Trunk) → IsWholeFor pages roots trees trunks →
    use_of roots trees + (length (free_pages trunks) + length (missing_in (named_pages roots trees trunks) pages.size)) ≡ pages.size
