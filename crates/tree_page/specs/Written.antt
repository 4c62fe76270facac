-- Table b-tree pages as they are written: the very bytes, and when cells fit on a page.
-- After sqlite.org, "Database File Format", section 1.6, "B-tree Pages".
use Rattle.std.specs.Prelude.{◌≡◌, ℕ, ◌+◌, ◌-◌, ◌*◌, ◌%◌, ◌^◌, ◌≤◌, max, nat_lt, if◌then◌else◌, List, [], ◌∷◌, ◌++◌, length, map, take, drop, replicate}
use Rattle.std.specs.List.{AllByRecursion}
use Rattle.std.specs.Int.{w64, cast_unsigned}
use Rattle.byteorder.specs.Endian.{big_bytes}
use Rattle.db_format.specs.Spill.{local_size}
use Rattle.tree_page.specs.declared.cell.LeafCell.{LeafCell}
use Rattle.tree_page.specs.declared.cell.PageCells.{PageCells}
use Rattle.tree_page.specs.declared.cell.PageCells.TheVariants.{Leaf, Interior}
use Rattle.tree_page.specs.Page.{Cell, leaf, inner, rowid_of, cells_of, page_kind, type_byte, begin_of, first_pointer, Spells, AreRising}

-- how many bytes the shortest varint of these 64 bits has: seven bits in each of the first eight
unfoldable pub varint_size : ℕ → ℕ
varint_size bits =
    if nat_lt bits (128 ^ 1) then 1 else (if nat_lt bits (128 ^ 2) then 2 else (if nat_lt bits (128 ^ 3) then 3
    else (if nat_lt bits (128 ^ 4) then 4 else (if nat_lt bits (128 ^ 5) then 5 else (if nat_lt bits (128 ^ 6) then 6
    else (if nat_lt bits (128 ^ 7) then 7 else (if nat_lt bits (128 ^ 8) then 8 else 9)))))))

-- how many bytes a cell has as it is written
abbrev pub written_size : Cell → ℕ
written_size (leaf cell) =
    varint_size cell.payload_len + varint_size (cast_unsigned w64 cell.rowid) + length cell.local
    + (if nat_lt (length cell.local) cell.payload_len then 4 else 0)
written_size (inner cell) = 4 + varint_size (cast_unsigned w64 cell.rowid)

-- what the cells take as they are written: each two bytes for its pointer, and itself at least four
abbrev pub space_of : List Cell → ℕ
space_of [] = 0
space_of (cell ∷ cells) = 2 + max 4 (written_size cell) + space_of cells

-- the cell of a leaf has the local part of its payload, and an overflow page only where that is not all
pub record KeepsLocal (usable : ℕ) (cell : LeafCell) : Type 0 where
  pub kept : length cell.local ≡ local_size usable cell.payload_len
  pub whole : cell.payload_len ≤ length cell.local → cell.overflow ≡ 0

-- a cell as a page of so many usable bytes can have it
abbrev pub IsSound : ℕ → Cell → Type 0
IsSound usable (leaf cell) = KeepsLocal usable cell
IsSound usable (inner cell) = Unit {0}

-- the cells can be written on the page of this number: their keys rise, each is sound, and there is room
pub record Fits (cells : PageCells) (number usable : ℕ) : Type 0 where
  pub rising : AreRising (map rowid_of (cells_of cells))
  pub sound : AllByRecursion (IsSound usable) (cells_of cells)
  pub room : first_pointer number (page_kind cells) + space_of (cells_of cells) ≤ usable

-- the text is the cell, and no shorter one is
pub record IsText (usable : ℕ) (text : List ℕ) (cell : Cell) : Type 0 where
  pub spelled : Spells usable text cell
  pub shortest : (other : List ℕ) → Spells usable other cell → length text ≤ length other

-- the texts are those of the cells, in this order
abbrev pub AreTexts : ℕ → List (List ℕ) → List Cell → Type 0
AreTexts usable [] [] = Unit {0}
AreTexts usable [] (cell ∷ cells) = ⊥
AreTexts usable (text ∷ texts) [] = ⊥
AreTexts usable (text ∷ texts) (cell ∷ cells) = IsText usable text cell × AreTexts usable texts cells

-- the text with zeros behind it up to four bytes
abbrev pub padded : List ℕ → List ℕ
padded text = text ++ replicate (4 - length text) 0

-- the cells without gaps, the first one last
abbrev pub content_of : List (List ℕ) → List ℕ
content_of [] = []
content_of (text ∷ texts) = content_of texts ++ padded text

-- the pointers to cells that end at a place, each cell before the one that was written ahead of it
abbrev pub pointers_to : ℕ → List (List ℕ) → List ℕ
pointers_to end [] = []
pointers_to end (text ∷ texts) = big_bytes 2 (end - length (padded text)) ++ pointers_to (end - length (padded text)) texts

-- the number of the right-most child, on an interior page
abbrev pub right_bytes : PageCells → List ℕ
right_bytes (Leaf cells) = []
right_bytes (Interior cells right) = big_bytes 4 right

-- the header: the kind, no freeblock, the number of cells, the content start, for which 0 stands where it is 65536,
-- no fragments, and the right-most child
abbrev pub header_of : PageCells → ℕ → List ℕ
header_of cells content =
    type_byte (page_kind cells) ∷ 0 ∷ 0 ∷ (big_bytes 2 (length (cells_of cells)) ++ (big_bytes 2 (content % 65536) ++ (0 ∷ right_bytes cells)))

-- The page is as before but from where the b-tree page begins to the end of its usable bytes. There stand the
-- header, the pointers, zeros, and the cells at the end.
pub record IsWritten (old new : List ℕ) (number usable : ℕ) (cells : PageCells) : Type 0 where
  pub texts : List (List ℕ)
  pub each : AreTexts usable texts (cells_of cells)
  pub gap : ℕ
  pub filled : first_pointer number (page_kind cells) + 2 * length texts + gap + length (content_of texts) ≡ usable
  pub bytes : new ≡ take (begin_of number) old
      ++ (header_of cells (usable - length (content_of texts)) ++ (pointers_to usable texts ++ (replicate gap 0 ++ (content_of texts ++ drop usable old))))
