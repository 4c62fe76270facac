use Rattle.std.proofs.Common.{◌≡◌, ℕ, zero, suc, ◌+◌, Bool, false, List, [], ◌∷◌, map, get_or, replicate, refl, sym, subst, ap, ◌∙◌, arith}
use Rattle.std.specs.List.{AllByRecursion, All}
use Rattle.byte_base.specs.Numbers.{number_at}
use Rattle.tree_page.specs.declared.cell.Kind.{Kind}
use Rattle.tree_page.specs.declared.cell.Kind.TheVariants as kinds
use Rattle.tree_page.specs.declared.cell.LeafCell.{LeafCell}
use Rattle.tree_page.specs.declared.cell.InnerCell.{InnerCell}
use Rattle.tree_page.specs.declared.cell.PageCells.{PageCells}
use Rattle.tree_page.specs.declared.cell.PageCells.TheVariants.{Leaf, Interior}
use Rattle.tree_page.specs.declared.read.Head.{Head}
use Rattle.tree_page.specs.declared.read.Found.{Found}
use Rattle.tree_page.specs.declared.read.Found.TheVariants as found
use Rattle.tree_page.specs.Page.{leaf, inner, kind_of, page_kind, cells_of, type_byte, begin_of, first_pointer, content_start, Extent, Placed, Stands, ArePointers, AreFreeblocks, HasRight, IsTreePage}
use Rattle.tree_page.specs.Steps.{cell_of, IsHead, IsFound, HasFound, Owns, IsSpelled, ReadsAs, AreClear}

-- no place of marks that were just made is marked
pub unmarked : (n place : ℕ) → get_or (replicate n false) place false ≡ false
unmarked zero place = refl
unmarked (suc n) zero = refl
unmarked (suc n) (suc place) = unmarked n place

pub same_kind : (a b : Kind) → type_byte a ≡ type_byte b → a ≡ b
same_kind kinds.Leaf kinds.Leaf same = refl
same_kind kinds.Leaf kinds.Interior same = absurd (omega arith)
same_kind kinds.Interior kinds.Leaf same = absurd (omega arith)
same_kind kinds.Interior kinds.Interior same = refl

leaves_kind : (cells : List LeafCell) → AllByRecursion (λ c. kind_of c ≡ kinds.Leaf) (map leaf cells)
leaves_kind [] = tt
leaves_kind (cell ∷ cells) = (refl, leaves_kind cells)

inners_kind : (cells : List InnerCell) → AllByRecursion (λ c. kind_of c ≡ kinds.Interior) (map inner cells)
inners_kind [] = tt
inners_kind (cell ∷ cells) = (refl, inners_kind cells)

pub page_kinds : (cells : PageCells) → AllByRecursion (λ c. kind_of c ≡ page_kind cells) (cells_of cells)
page_kinds (Leaf cells) = leaves_kind cells
page_kinds (Interior cells right) = inners_kind cells

pub all_unmap : (kind : Kind) (placed : List Placed) → AllByRecursion (λ c. kind_of c ≡ kind) (map (λ p. p.cell) placed) → AllByRecursion (λ p. kind_of p.cell ≡ kind) placed
all_unmap kind [] all = tt
all_unmap kind (p ∷ placed) all = (all.0, all_unmap kind placed all.1)

-- the cells of a page are spelled
pub page_reads : (bytes : List ℕ) (number n : ℕ) (head : Head) (marks : List Bool) (cells : PageCells) → IsHead bytes number head → marks ≡ replicate n false
    → IsTreePage bytes number cells → IsSpelled bytes head marks
page_reads bytes number n head marks cells is marks_are page =
    let kind : page_kind cells ≡ head.kind = same_kind _ _ (sym page.kind ∙ is.kind) in
    let first : first_pointer number (page_kind cells) ≡ head.pointers = ap (first_pointer number) kind ∙ sym is.pointers in
    let kinds_of : AllByRecursion (λ c. kind_of c ≡ page_kind cells) (map (λ p. p.cell) page.placed) =
    subst (AllByRecursion (λ c. kind_of c ≡ page_kind cells)) page.cells_are (page_kinds cells) in
    record {
      placed = page.placed;
      free = page.free;
      count = sym page.count ∙ sym is.count;
      cells = record {
        pointers = subst (λ p. ArePointers bytes p page.placed) first page.pointers;
        stand = subst (λ n. AllByRecursion (Stands bytes n) page.placed) (sym is.content) page.stand;
        kinds = subst (λ k. AllByRecursion (λ p. kind_of p.cell ≡ k) page.placed) kind (all_unmap (page_kind cells) page.placed kinds_of);
        rising = page.rising;
        clear = record { apart = page.apart; clear = λ place covered. ap (λ m. get_or m place false) marks_are ∙ unmarked n place };
      };
      blocks = subst (λ n. AreFreeblocks bytes head.content 0 n page.free) (sym is.free)
          (subst (λ n. AreFreeblocks bytes n 0 (number_at 2 bytes (begin_of number + 1)) page.free) (sym is.content) page.blocks);
    }

has_right : (bytes : List ℕ) (number : ℕ) (head : Head) (cells : PageCells) → IsHead bytes number head → page_kind cells ≡ head.kind
    → ((inners : List InnerCell) (right : ℕ) → cells ≡ Interior inners right → right ≡ head.right) → HasRight bytes number cells
has_right bytes number head (Leaf cells) is kind right_is = tt
has_right bytes number head (Interior cells right) is kind right_is = right_is cells right refl ∙ is.right (sym kind)

-- and what was read is the page
pub page_found : (bytes : List ℕ) (number : ℕ) (head : Head) (marks : List Bool) (cells : PageCells) → IsHead bytes number head → ReadsAs bytes head marks cells → IsTreePage bytes number cells
page_found bytes number head marks cells is r =
    let placed = r.spelled.placed in
    let free = r.spelled.free in
    let are = r.spelled.cells in
    let first : first_pointer number (page_kind cells) ≡ head.pointers = ap (first_pointer number) r.kind ∙ sym is.pointers in
    record {
      placed = placed;
      free = free;
      kind = is.kind ∙ ap type_byte (sym r.kind);
      right = has_right bytes number head cells is r.kind r.right;
      count = sym is.count ∙ sym r.spelled.count;
      pointers_within = omega (arith, first, r.spelled.count, is.behind, is.within);
      content_behind = omega (arith, first, r.spelled.count, is.behind, is.content);
      content_within = omega (arith, is.content, is.within);
      cells_are = r.cells_are;
      pointers = subst (λ p. ArePointers bytes p placed) (sym first) are.pointers;
      stand = subst (λ n. AllByRecursion (Stands bytes n) placed) is.content are.stand;
      blocks = subst (λ n. AreFreeblocks bytes (content_start bytes number) 0 n free) is.free
          (subst (λ n. AreFreeblocks bytes n 0 head.free free) is.content r.spelled.blocks);
      apart = are.clear.apart;
      rising = are.rising;
    }

-- what was found, with freeblocks that are clear of it
pub reads_as : (bytes : List ℕ) (head : Head) (old new : List Bool) (items : List Found) (cells : PageCells) → HasFound bytes head old new items
    → (free : List Extent) × AreFreeblocks bytes head.content 0 head.free free × AreClear new free → Owns bytes head items cells → ReadsAs bytes head old cells
reads_as bytes head old new items cells has free owns =
    let all = has.sound free.0 free.2 in
    record {
      spelled = record { placed = all.0; free = free.0; count = all.2; cells = all.1; blocks = free.1 };
      kind = owns.kind;
      cells_are = owns.cells_are ∙ sym all.3;
      right = owns.right;
    }

-- without such freeblocks nothing is spelled
pub spelled_none : (bytes : List ℕ) (head : Head) (old new : List Bool) (items : List Found) → HasFound bytes head old new items
    → ((free : List Extent) → AreFreeblocks bytes head.content 0 head.free free → ¬ (AreClear new free)) → ¬ (IsSpelled bytes head old)
spelled_none bytes head old new items has none s = none s.free s.blocks (has.complete s.placed s.free s.count s.cells)

pub other_kind : kinds.Leaf ≡ kinds.Interior → ⊥
other_kind same = cc

-- what of an interior page was found is found as such whatever the bytes are
pub inner_found : (bytes : List ℕ) (f : Found) → IsFound bytes kinds.Interior f → IsFound [] kinds.Interior f
inner_found bytes (found.Inner cell) is = is
inner_found bytes (found.Leaf spot) is = absurd (other_kind is.0)

pub inners_found : (bytes : List ℕ) (kind : Kind) (items : List Found) → kind ≡ kinds.Interior → All (IsFound bytes kind) items → All (IsFound [] kinds.Interior) items
inners_found bytes kind items kind_is all = λ k d within. inner_found bytes (get_or items k d) (subst (λ n. IsFound bytes n (get_or items k d)) kind_is (all k d within))

pub owns_inners : (bytes : List ℕ) (head : Head) (items : List Found) (cells : List InnerCell) → head.kind ≡ kinds.Interior → ((any : List ℕ) → map inner cells ≡ map (cell_of any) items)
    → Owns bytes head items (Interior cells head.right)
owns_inners bytes head items cells kind_is are = record { kind = sym kind_is; cells_are = are bytes; right = λ inners right same. let e : right ≡ head.right = cc in e }
