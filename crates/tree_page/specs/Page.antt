-- Table b-tree pages: which cells the bytes of a page spell. Places count from the start of the page, on page 1
-- too, and numbers are big-endian.
-- After sqlite.org, "Database File Format", section 1.6, "B-tree Pages".
use Rattle.std.specs.Prelude.{◌≡◌, ◌⊎◌, ◌==◌, ℕ, ◌+◌, ◌*◌, ◌^◌, ◌≤◌, ◌<◌, max, if◌then◌else◌, ℤ, ◌<ℤ◌, List, [], ◌∷◌, ◌++◌, length, map, take, drop, slice_index}
use Rattle.std.specs.List.{AllByRecursion}
use Rattle.std.specs.Int.{w64, cast_signed}
use Rattle.byteorder.specs.Endian.{big_number}
use Rattle.byte_base.specs.Numbers.{number_at}
use Rattle.db_format.specs.Spill.{local_size}
use Rattle.db_format.specs.Varint.{IsVarint}
use Rattle.tree_page.specs.declared.cell.Kind.{Kind}
use Rattle.tree_page.specs.declared.cell.Kind.TheVariants as kinds
use Rattle.tree_page.specs.declared.cell.LeafCell.{LeafCell}
use Rattle.tree_page.specs.declared.cell.InnerCell.{InnerCell}
use Rattle.tree_page.specs.declared.cell.PageCells.{PageCells}
use Rattle.tree_page.specs.declared.cell.PageCells.TheVariants.{Leaf, Interior}

-- a cell of a leaf, or one of an interior page
pub data Cell : Type 0 where
  leaf : LeafCell → Cell
  inner : InnerCell → Cell

-- the kind of page that a cell stands on
abbrev pub kind_of : Cell → Kind
kind_of (leaf cell) = kinds.Leaf
kind_of (inner cell) = kinds.Interior

-- the rowid of a cell, which is its key
abbrev pub rowid_of : Cell → ℤ
rowid_of (leaf cell) = cell.rowid
rowid_of (inner cell) = cell.rowid

-- the kind of a page
abbrev pub page_kind : PageCells → Kind
page_kind (Leaf cells) = kinds.Leaf
page_kind (Interior cells right) = kinds.Interior

-- the cells of a page in the order of their pointers
abbrev pub cells_of : PageCells → List Cell
cells_of (Leaf cells) = map leaf cells
cells_of (Interior cells right) = map inner cells

-- the byte that tells the kind of a page (section 1.6, offset 0 of the header)
abbrev pub type_byte : Kind → ℕ
type_byte kinds.Leaf = 13
type_byte kinds.Interior = 5

-- how many bytes the header of a b-tree page has
abbrev pub header_size : Kind → ℕ
header_size kinds.Leaf = 8
header_size kinds.Interior = 12

-- where the b-tree page begins: on page 1 behind the header of the database
abbrev pub begin_of : ℕ → ℕ
begin_of number = if number == 1 then 100 else 0

-- where the cell pointers begin
abbrev pub first_pointer : ℕ → Kind → ℕ
first_pointer number kind = begin_of number + header_size kind

-- where the cell content begins: two bytes, of which 0 stands for 65536 (offset 5)
unfoldable pub content_start : List ℕ → ℕ → ℕ
content_start bytes number = if number_at 2 bytes (begin_of number + 5) == 0 then 65536 else number_at 2 bytes (begin_of number + 5)

-- The text is a cell of a leaf, of so many usable bytes: the varint of the payload's length, whose 64 bits are an
-- unsigned number, that of the rowid, the local part of the payload, and where that is not all four bytes with
-- the number of the first overflow page.
pub record SpellsLeaf (usable : ℕ) (text : List ℕ) (cell : LeafCell) : Type 0 where
  pub length_text : List ℕ
  pub rowid_text : List ℕ
  pub overflow_text : List ℕ
  pub sized : IsVarint length_text (cast_signed w64 cell.payload_len)
  pub unsigned : cell.payload_len < 2 ^ 64
  pub keyed : IsVarint rowid_text cell.rowid
  pub kept : length cell.local ≡ local_size usable cell.payload_len
  pub whole : cell.payload_len ≤ length cell.local → (length overflow_text ≡ 0) × (cell.overflow ≡ 0)
  pub spilled : length cell.local < cell.payload_len → (length overflow_text ≡ 4) × (cell.overflow ≡ big_number 4 overflow_text)
  pub joined : text ≡ length_text ++ (rowid_text ++ (cell.local ++ overflow_text))

-- the text is a cell of an interior page: four bytes with the number of the left child, and the varint of the rowid
pub record SpellsInner (text : List ℕ) (cell : InnerCell) : Type 0 where
  pub child_text : List ℕ
  pub rowid_text : List ℕ
  pub four : length child_text ≡ 4
  pub child : cell.child ≡ big_number 4 child_text
  pub keyed : IsVarint rowid_text cell.rowid
  pub joined : text ≡ child_text ++ rowid_text

-- the text is the cell
abbrev pub Spells : ℕ → List ℕ → Cell → Type 0
Spells usable text (leaf cell) = SpellsLeaf usable text cell
Spells usable text (inner cell) = SpellsInner text cell

-- bytes one after the other that a cell or a freeblock takes
pub record Extent : Type 0 where
  pub place : ℕ
  pub size : ℕ

-- the place is one of an extent
abbrev pub Within : Extent → ℕ → Type 0
Within extent place = (extent.place ≤ place) × (place < extent.place + extent.size)

-- the place is one of some of the extents
abbrev pub Covered : List Extent → ℕ → Type 0
Covered [] place = ⊥
Covered (extent ∷ extents) place = Within extent place ⊎ Covered extents place

-- no two of the extents have a place in common
abbrev pub AreApart : List Extent → Type 0
AreApart [] = Unit {0}
AreApart (extent ∷ extents) = ((place : ℕ) → Within extent place → ¬ (Covered extents place)) × AreApart extents

-- a cell at a place, and how many bytes spell it there
pub record Placed : Type 0 where
  pub place : ℕ
  pub size : ℕ
  pub cell : Cell

-- what a cell takes: at least four bytes
abbrev pub extent_of : Placed → Extent
extent_of placed = record { place = placed.place; size = max 4 placed.size }

-- so many bytes from a place on are the cell
pub record IsAt (bytes : List ℕ) (place size : ℕ) (cell : Cell) : Type 0 where
  pub text : List ℕ
  pub behind : List ℕ
  pub spelled : Spells (length bytes) text cell
  pub size_is : length text ≡ size
  pub joined : drop place bytes ≡ text ++ behind

-- the cell is spelled at its place, behind the content start and within the usable bytes
pub record Stands (bytes : List ℕ) (content : ℕ) (placed : Placed) : Type 0 where
  pub cell_is : IsAt bytes placed.place placed.size placed.cell
  pub low : content ≤ placed.place
  pub within : placed.place + max 4 placed.size ≤ length bytes

-- the cell pointers from a place on, two bytes each, are the places of the cells in this order
abbrev pub ArePointers : List ℕ → ℕ → List Placed → Type 0
ArePointers bytes pointer [] = Unit {0}
ArePointers bytes pointer (placed ∷ more) = (number_at 2 bytes pointer ≡ placed.place) × ArePointers bytes (pointer + 2) more

-- each is greater than the one before it
abbrev pub AreAbove : ℤ → List ℤ → Type 0
AreAbove last [] = Unit {0}
AreAbove last (key ∷ keys) = (last <ℤ key) × AreAbove key keys

-- the keys rise
abbrev pub AreRising : List ℤ → Type 0
AreRising [] = Unit {0}
AreRising (key ∷ keys) = AreAbove key keys

-- A freeblock stands at a place: it has at least four bytes, of which the second two have its size. It stands
-- behind the freeblock before it, if there is one, behind the content start and within the usable bytes.
pub record IsFreeblock (bytes : List ℕ) (content last place : ℕ) (block : Extent) : Type 0 where
  pub here : block.place ≡ place
  pub size_is : block.size ≡ number_at 2 bytes (place + 2)
  pub least : 4 ≤ block.size
  pub rises : last < place
  pub low : content ≤ place
  pub within : place + block.size ≤ length bytes

-- the freeblocks from a place on, each of which has the place of the next one in its first two bytes; 0 is none
abbrev pub AreFreeblocks : List ℕ → ℕ → ℕ → ℕ → List Extent → Type 0
AreFreeblocks bytes content last place [] = place ≡ 0
AreFreeblocks bytes content last place (block ∷ blocks) =
    IsFreeblock bytes content last place block × AreFreeblocks bytes content place (number_at 2 bytes place) blocks

-- an interior page has the number of its right-most child in four bytes (offset 8)
abbrev pub HasRight : List ℕ → ℕ → PageCells → Type 0
HasRight bytes number (Leaf cells) = Unit {0}
HasRight bytes number (Interior cells right) = right ≡ number_at 4 bytes (begin_of number + 8)

-- The usable bytes of the page of this number are a table b-tree page with these cells. Each field but the first
-- two is one way of being well formed, and there is no other.
pub record IsTreePage (bytes : List ℕ) (number : ℕ) (cells : PageCells) : Type 0 where
  pub placed : List Placed
  pub free : List Extent
  pub kind : slice_index bytes (begin_of number) ≡ type_byte (page_kind cells)
  pub right : HasRight bytes number cells
  pub count : number_at 2 bytes (begin_of number + 3) ≡ length placed
  pub pointers_within : first_pointer number (page_kind cells) + 2 * length placed ≤ length bytes
  pub content_behind : first_pointer number (page_kind cells) + 2 * length placed ≤ content_start bytes number
  pub content_within : content_start bytes number ≤ length bytes
  pub cells_are : cells_of cells ≡ map (λ p. p.cell) placed
  pub pointers : ArePointers bytes (first_pointer number (page_kind cells)) placed
  pub stand : AllByRecursion (Stands bytes (content_start bytes number)) placed
  pub blocks : AreFreeblocks bytes (content_start bytes number) 0 (number_at 2 bytes (begin_of number + 1)) free
  pub apart : AreApart (map extent_of placed ++ free)
  pub rising : AreRising (map (λ p. rowid_of p.cell) placed)

-- the page of this number, of which so many bytes are usable, has these cells; the bytes behind are no part of it
abbrev pub IsPage : List ℕ → ℕ → ℕ → PageCells → Type 0
IsPage page number usable cells = IsTreePage (take usable page) number cells

-- a page has one list of cells at most
abbrev pub OnePage : Type 0
OnePage = (page : List ℕ) (number usable : ℕ) (some other : PageCells) → IsPage page number usable some → IsPage page number usable other → some ≡ other
