-- Pages, edited: what taking a page from the freelist and giving one to it leave, as functions of the pages before. They
-- hold of damaged pages too.
-- After sqlite.org, "Database File Format", section 1.5, "The Freelist".
use Rattle.std.specs.Prelude.{ℕ, zero, suc, ◌+◌, ◌*◌, ◌-◌, nat_eq, nat_lt, if◌then◌else◌, List, [], ◌∷◌, ◌++◌, length, take, replicate, min, None}
use Rattle.byte_base.specs.Numbers.{with_number}
use Rattle.page_list.specs.Pages.{Pages}
use Rattle.page_list.specs.Freelist.{first_trunk, free_count, next_trunk, leaf_count, leaf_at, full}

-- the pages with this content on one of them, which is good then; all others stay
abbrev pub with_page : ℕ → List ℕ → Pages → Pages
with_page at content pages = record pages {
  bytes = λ n. if nat_eq n at then content else pages.bytes n;
  bad = λ n. if nat_eq n at then None else pages.bad n;
}

-- a page more, of zeros
abbrev pub grown : ℕ → Pages → Pages
grown page_size pages = record (with_page (pages.size + 1) (replicate page_size 0) pages) { size = pages.size + 1 }

-- a page is written anew: its bytes, and zeros from the usable size on
abbrev pub cleared : ℕ → List ℕ → List ℕ
cleared usable bytes = take usable bytes ++ replicate (length bytes - usable) 0

abbrev pub rewritten : ℕ → List ℕ → Pages → Pages
rewritten at bytes pages = with_page at (cleared pages.usable bytes) pages

-- page 1 with one free page fewer, or more. In a damaged database 0 stays, and so does the greatest count
abbrev pub count_less : Pages → List ℕ → List ℕ
count_less pages first = with_number 4 36 (free_count pages - 1) first

abbrev pub count_more : Pages → List ℕ → List ℕ
count_more pages first = with_number 4 36 (min (free_count pages + 1) 4294967295) first

-- the last leaf of the first trunk is taken; that trunk is taken
abbrev pub leaf_taken : ℕ → Pages → Pages
leaf_taken trunk pages =
    rewritten 1 (count_less pages (pages.bytes 1))
    (rewritten trunk (with_number 4 4 (leaf_count pages trunk - 1) (pages.bytes trunk)) pages)

abbrev pub trunk_taken : ℕ → Pages → Pages
trunk_taken trunk pages = rewritten 1 (count_less pages (with_number 4 32 (next_trunk pages trunk) (pages.bytes 1))) pages

-- a page becomes the last leaf of the first trunk; it becomes the first trunk
abbrev pub leaf_given : ℕ → ℕ → Pages → Pages
leaf_given trunk number pages =
    rewritten 1 (count_more pages (pages.bytes 1))
    (rewritten trunk (with_number 4 (8 + 4 * leaf_count pages trunk) number (with_number 4 4 (leaf_count pages trunk + 1) (pages.bytes trunk))) pages)

abbrev pub trunk_given : ℕ → ℕ → Pages → Pages
trunk_given page_size number pages =
    rewritten 1 (count_more pages (with_number 4 32 number (pages.bytes 1)))
    (rewritten number (with_number 4 0 (first_trunk pages) (replicate page_size 0)) pages)

-- the page that is taken: behind the last one where page 1 names no trunk, else the last leaf of the first trunk, or
-- that trunk where it has no leaf; and the pages then
unfoldable pub taken_number : Pages → ℕ
taken_number pages =
    if nat_eq (first_trunk pages) 0 then pages.size + 1
    else if nat_eq (leaf_count pages (first_trunk pages)) 0 then first_trunk pages
    else leaf_at pages (first_trunk pages) (leaf_count pages (first_trunk pages) - 1)

unfoldable pub after_take : ℕ → Pages → Pages
after_take page_size pages =
    if nat_eq (first_trunk pages) 0 then grown page_size pages
    else if nat_eq (leaf_count pages (first_trunk pages)) 0 then trunk_taken (first_trunk pages) pages
    else leaf_taken (first_trunk pages) pages

-- the pages after one of them is given: a leaf of the first trunk where that has room, else the first trunk
unfoldable pub after_give : ℕ → ℕ → Pages → Pages
after_give page_size number pages =
    if nat_eq (first_trunk pages) 0 then trunk_given page_size number pages
    else if nat_lt (leaf_count pages (first_trunk pages)) (full pages.usable) then leaf_given (first_trunk pages) number pages
    else trunk_given page_size number pages

-- the same of so many pages, one after the other: those taken, in order, and the pages then; the pages after these are given
abbrev pub taken_numbers : ℕ → ℕ → Pages → List ℕ
taken_numbers page_size zero pages = []
taken_numbers page_size (suc count) pages = taken_number pages ∷ taken_numbers page_size count (after_take page_size pages)

abbrev pub after_takes : ℕ → ℕ → Pages → Pages
after_takes page_size zero pages = pages
after_takes page_size (suc count) pages = after_takes page_size count (after_take page_size pages)

abbrev pub after_gives : ℕ → List ℕ → Pages → Pages
after_gives page_size [] pages = pages
after_gives page_size (number ∷ more) pages = after_gives page_size more (after_give page_size number pages)
