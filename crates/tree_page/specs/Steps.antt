-- What the steps of reading and writing a page leave. Only these steps speak by these words.
use Rattle.std.specs.Prelude.{◌≡◌, ◌⊎◌, ℕ, ◌+◌, ◌-◌, ◌*◌, ◌^◌, ◌≤◌, ◌<◌, Bool, true, false, ℤ, ◌<ℤ◌, List, ◌++◌, length, map, take, drop, replicate, max, Option, Some, None, slice_index, slice_index_or}
use Rattle.std.specs.List.{AllByRecursion, All}
use Rattle.std.specs.Int.{w64, cast_unsigned}
use Rattle.byteorder.specs.Endian.{big_bytes, big_number}
use Rattle.byte_base.specs.Numbers.{number_at}
use Rattle.db_format.specs.Varint.{IsVarint, IsShortest}
use Rattle.tree_page.specs.declared.cell.Kind.{Kind}
use Rattle.tree_page.specs.declared.cell.Kind.TheVariants as kinds
use Rattle.tree_page.specs.declared.cell.PageCells.{PageCells}
use Rattle.tree_page.specs.declared.cell.PageCells.TheVariants as pages
use Rattle.tree_page.specs.declared.cell.InnerCell.{InnerCell}
use Rattle.tree_page.specs.declared.read.Head.{Head}
use Rattle.tree_page.specs.declared.read.Found.{Found}
use Rattle.tree_page.specs.declared.read.Found.TheVariants as found
use Rattle.tree_page.specs.Page.{Cell, leaf, inner, kind_of, rowid_of, page_kind, cells_of, type_byte, begin_of, first_pointer, content_start, Extent, Within, Covered, AreApart, Placed, extent_of, Stands, ArePointers, AreFreeblocks, AreAbove, AreRising}
use Rattle.tree_page.specs.Written.{written_size, varint_size, IsSound, IsText, AreTexts, padded, pointers_to, content_of}

-- the header says so, and its bounds hold
pub record IsHead (bytes : List ℕ) (number : ℕ) (head : Head) : Type 0 where
  pub kind : slice_index bytes (begin_of number) ≡ type_byte head.kind
  pub right : head.kind ≡ kinds.Interior → head.right ≡ number_at 4 bytes (begin_of number + 8)
  pub pointers : head.pointers ≡ first_pointer number head.kind
  pub count : head.count ≡ number_at 2 bytes (begin_of number + 3)
  pub content : head.content ≡ content_start bytes number
  pub free : head.free ≡ number_at 2 bytes (begin_of number + 1)
  pub behind : head.pointers + 2 * head.count ≤ head.content
  pub within : head.content ≤ length bytes
  pub small : head.free < 65536

-- what was found is of a page of this kind, and its local part is within the bytes
abbrev pub IsFound : List ℕ → Kind → Found → Type 0
IsFound bytes kind (found.Leaf spot) = (kinds.Leaf ≡ kind) × (spot.place + spot.size ≤ length bytes)
IsFound bytes kind (found.Inner cell) = kinds.Interior ≡ kind

-- the cell that was found, whose local part stands in the bytes
abbrev pub cell_of : List ℕ → Found → Cell
cell_of bytes (found.Leaf spot) =
    leaf (record { rowid = spot.rowid; payload_len = spot.payload_len; local = take spot.size (drop spot.place bytes); overflow = spot.overflow })
cell_of bytes (found.Inner cell) = inner cell

-- none of the places is marked
abbrev pub IsClear : List Bool → Extent → Type 0
IsClear marks extent = (place : ℕ) → Within extent place → slice_index_or marks place false ≡ false

-- the places of the extent were marked, and no others
pub record Marks (old new : List Bool) (extent : Extent) : Type 0 where
  pub size : length new ≡ length old
  pub inside : (place : ℕ) → Within extent place → slice_index_or new place false ≡ true
  pub beside : (place : ℕ) → (place < extent.place) ⊎ (extent.place + extent.size ≤ place) → slice_index_or new place false ≡ slice_index_or old place false

-- the extents are apart from each other and from what is marked
pub record AreClear (marks : List Bool) (extents : List Extent) : Type 0 where
  pub apart : AreApart extents
  pub clear : (place : ℕ) → Covered extents place → slice_index_or marks place false ≡ false

-- the key is greater than the last one, if there is one
abbrev pub IsAbove : Option ℤ → ℤ → Type 0
IsAbove None key = Unit {0}
IsAbove (Some last) key = last <ℤ key

-- each key is greater than the one before it, and the first one than the last one, if there is one
abbrev pub RiseFrom : Option ℤ → List ℤ → Type 0
RiseFrom None keys = AreRising keys
RiseFrom (Some last) keys = AreAbove last keys

-- the next cell: at a place, behind the cells before it, and clear of what they take
pub record IsNext (bytes : List ℕ) (content : ℕ) (kind : Kind) (place : ℕ) (last : Option ℤ) (marks : List Bool) (placed : Placed) : Type 0 where
  pub here : placed.place ≡ place
  pub stands : Stands bytes content placed
  pub kind_is : kind_of placed.cell ≡ kind
  pub above : IsAbove last (rowid_of placed.cell)
  pub clear : IsClear marks (extent_of placed)

-- the next cell is this one, and what it takes was marked
pub record TakesNext (bytes : List ℕ) (content : ℕ) (kind : Kind) (place : ℕ) (last : Option ℤ) (old new : List Bool) (cell : Cell) : Type 0 where
  pub size : ℕ
  pub next : IsNext bytes content kind place last old (record { place = place; size = size; cell = cell })
  pub marked : Marks old new (record { place = place; size = max 4 size })
  pub only : (other : Placed) → other.place ≡ place → Stands bytes content other → kind_of other.cell ≡ kind → (other.size ≡ size) × (other.cell ≡ cell)

-- the cells from a pointer on, behind the cells before them, and clear of what these take, as are the extents
pub record AreCells (bytes : List ℕ) (content : ℕ) (kind : Kind) (pointer : ℕ) (last : Option ℤ) (marks : List Bool) (placed : List Placed) (free : List Extent) : Type 0 where
  pub pointers : ArePointers bytes pointer placed
  pub stand : AllByRecursion (Stands bytes content) placed
  pub kinds : AllByRecursion (λ p. kind_of p.cell ≡ kind) placed
  pub rising : RiseFrom last (map (λ p. rowid_of p.cell) placed)
  pub clear : AreClear marks (map extent_of placed ++ free)

-- The cells of the pointers were found, and what they take was marked: extents that are clear of the marks now are
-- those that are clear of the marks before and of the cells.
pub record HasFound (bytes : List ℕ) (head : Head) (old new : List Bool) (found : List Found) : Type 0 where
  pub each : All (IsFound bytes head.kind) found
  pub sound : (free : List Extent) → AreClear new free
      → (placed : List Placed) × (AreCells bytes head.content head.kind head.pointers None old placed free) × (length placed ≡ head.count) × (map (λ p. p.cell) placed ≡ map (cell_of bytes) found)
  pub complete : (placed : List Placed) (free : List Extent) → length placed ≡ head.count
      → AreCells bytes head.content head.kind head.pointers None old placed free → AreClear new free

-- a cell comes behind the last one, a page of so many usable bytes can have it, and it leaves so much of the room
pub record Joins (usable : ℕ) (last : Option ℤ) (room left : ℕ) (cell : Cell) : Type 0 where
  pub above : IsAbove last (rowid_of cell)
  pub sound : IsSound usable cell
  pub room_is : left + (2 + max 4 (written_size cell)) ≡ room

-- the text stands at the place, and beside it nothing has changed
pub record Lays (old new : List ℕ) (place : ℕ) (text : List ℕ) : Type 0 where
  pub room : place + length text ≤ length old
  pub bytes : new ≡ take place old ++ (text ++ drop (place + length text) old)

-- the shortest varint of a number stands at the place, so many bytes
pub record LaysVarint (old new : List ℕ) (place : ℕ) (value : ℤ) (size : ℕ) : Type 0 where
  pub text : List ℕ
  pub spelled : IsVarint text value
  pub shortest : IsShortest text value
  pub length_is : length text ≡ size
  pub size_is : size ≡ varint_size (cast_unsigned w64 value)
  pub lays : Lays old new place text

-- a cell stands at the place in its shortest spelling, where a page can have it
pub record LaysCell (old new : List ℕ) (place : ℕ) (cell : Cell) : Type 0 where
  pub text : List ℕ
  pub is : (usable : ℕ) → IsSound usable cell → IsText usable text cell
  pub length_is : length text ≡ written_size cell
  pub lays : Lays old new place text

-- all bytes from a place to an end are zero
abbrev pub IsBlank : List ℕ → ℕ → ℕ → Type 0
IsBlank bytes from end = bytes ≡ take from bytes ++ (replicate (end - from) 0 ++ drop end bytes)

-- a cell stands before the end in its shortest spelling, and the two bytes of the pointer have its place; between
-- them is zero, and beside them nothing has changed
pub record LaysNext (old new : List ℕ) (pointer end place : ℕ) (cell : Cell) : Type 0 where
  pub text : List ℕ
  pub is : (usable : ℕ) → IsSound usable cell → IsText usable text cell
  pub behind : pointer + 2 ≤ place
  pub place_is : place + length (padded text) ≡ end
  pub extent_is : place + max 4 (written_size cell) ≡ end
  pub bytes : new ≡ take pointer old ++ (big_bytes 2 place ++ (replicate (place - (pointer + 2)) 0 ++ (padded text ++ drop end old)))

-- The pointers stand from a place on and the cells before the end, each in its shortest spelling and the first one
-- last; between them is zero, and they are between these front and back bytes.
pub record Fills (usable pointer end : ℕ) (front back : List ℕ) (cells : List Cell) (content : ℕ) (bytes : List ℕ) : Type 0 where
  pub texts : List (List ℕ)
  pub each : AreTexts usable texts cells
  pub gap : ℕ
  pub filled : pointer + 2 * length texts + gap + length (content_of texts) ≡ end
  pub content_is : content + length (content_of texts) ≡ end
  pub joined : bytes ≡ front ++ (pointers_to end texts ++ (replicate gap 0 ++ (content_of texts ++ back)))

-- the number of the right-most child is one of 32 bits
abbrev pub IsNumbered : PageCells → Type 0
IsNumbered (pages.Leaf cells) = Unit {0}
IsNumbered (pages.Interior cells right) = right < 2 ^ 32

-- the bytes begin with the varint of a number, so many bytes, and with no other
pub record ReadsVarint (bytes : List ℕ) (size : ℕ) (value : ℤ) : Type 0 where
  pub within : size ≤ length bytes
  pub spelled : IsVarint (take size bytes) value
  pub only : (text behind : List ℕ) (other : ℤ) → IsVarint text other → bytes ≡ text ++ behind → (length text ≡ size) × (other ≡ value)

-- the bytes begin with the varint of no number
abbrev pub ReadsNone : List ℕ → Type 0
ReadsNone bytes = (text behind : List ℕ) (value : ℤ) → IsVarint text value → bytes ≡ text ++ behind → ⊥

-- behind so many bytes of a payload stand so many with the number of its overflow page, none where that is all
pub record HasOverflow (bytes : List ℕ) (size payload over over_size : ℕ) : Type 0 where
  pub within : size + over_size ≤ length bytes
  pub whole : payload ≤ size → (over_size ≡ 0) × (over ≡ 0)
  pub spilled : size < payload → (over_size ≡ 4) × (over ≡ big_number 4 (drop size bytes))

-- the cells of the page are those that were found
pub record Owns (bytes : List ℕ) (head : Head) (found : List Found) (cells : PageCells) : Type 0 where
  pub kind : page_kind cells ≡ head.kind
  pub cells_are : cells_of cells ≡ map (cell_of bytes) found
  pub right : (inners : List InnerCell) (right : ℕ) → cells ≡ pages.Interior inners right → right ≡ head.right

-- there are cells of this header, clear of the marks
pub record IsSpelled (bytes : List ℕ) (head : Head) (marks : List Bool) : Type 0 where
  pub placed : List Placed
  pub free : List Extent
  pub count : length placed ≡ head.count
  pub cells : AreCells bytes head.content head.kind head.pointers None marks placed free
  pub blocks : AreFreeblocks bytes head.content 0 head.free free

-- and they are the cells of the page
pub record ReadsAs (bytes : List ℕ) (head : Head) (marks : List Bool) (cells : PageCells) : Type 0 where
  pub spelled : IsSpelled bytes head marks
  pub kind : page_kind cells ≡ head.kind
  pub cells_are : cells_of cells ≡ map (λ p. p.cell) spelled.placed
  pub right : (inners : List InnerCell) (right : ℕ) → cells ≡ pages.Interior inners right → right ≡ head.right
