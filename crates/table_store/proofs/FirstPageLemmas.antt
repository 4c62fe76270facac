-- Page 1 of a database that had no pages: its bytes, and what putting them leaves.
use Rattle.std.proofs.Common.{◌≡◌, inr, ℕ, ◌+◌, ◌-◌, ◌≤◌, List, [], length, get_or, take, drop, replicate, Some, Result, Ok, Err, OnOk, IfErr, sym, ap, subst, ◌∙◌, arith}
use Rattle.std.proofs.lemmas.List.{drop-take, get_or-drop, get_or-replicate, length-take-le}
use Rattle.std.proofs.lemmas.Option.{slice_get-get_or}
use Rattle.db_format.specs.Header.{IsPageSize, IsNew, ReadsNew}
use Rattle.db_format.specs.declared.fault.SpaceFault.{SpaceFault}
use Rattle.page_list.specs.Pages.{Pages}
use Rattle.page_list.specs.Edits.{with_page}
use Rattle.page_pool.specs.Space.{SpaceState, HasSizes, Steady, Stays, Put, Grew, PutLeaves, PageCause}
use Rattle.payload_chain.proofs.StateLemmas.{here, stays-here}
use Rattle.tree_page.specs.Page.{IsPage}
use Rattle.tree_page.specs.Laws.{FrontApart}
use Rattle.tree_page.specs.declared.cell.PageCells.{PageCells}
use Rattle.tree_page.specs.declared.cell.PageCells.TheVariants.{Leaf as LeafPage}
use Rattle.book_changes.specs.First.{IsFirstPage}
use Rattle.table_store.specs.Made.{FirstMade, StopsAtZeros, Begins, BeginRefused}
use Rattle.table_store.specs.MakeSteps.{BeginsWith}
use Rattle.table_store.proofs.DropStepLemmas.{cause-moved}

-- ---- its bytes

-- lists that are the same from a place on are so at each place behind it
same_behind : (n : ℕ) (xs ys : List ℕ) → drop n xs ≡ drop n ys → (k : ℕ) → n ≤ k → get_or xs k 0 ≡ get_or ys k 0
same_behind n xs ys same k low =
    let there : n + (k - n) ≡ k = omega arith in
    let at : (l : List ℕ) → get_or (drop n l) (k - n) 0 ≡ get_or l k 0 = λ l. get_or-drop n l (k - n) 0 ∙ ap (λ i. get_or l i 0) there in
    sym (at xs) ∙ ap (λ (l : List ℕ). get_or l (k - n) 0) same ∙ at ys

same_within : (n usable : ℕ) (xs ys : List ℕ) → n ≤ usable → drop n xs ≡ drop n ys → drop n (take usable xs) ≡ drop n (take usable ys)
same_within n usable xs ys low same =
    let there : n + (usable - n) ≡ usable = omega arith in
    let at : (l : List ℕ) → drop n (take usable l) ≡ take (usable - n) (drop n l) = λ l. ap (λ i. drop n (take i l)) (sym there) ∙ drop-take n (usable - n) l in
    at xs ∙ ap (take (usable - n)) same ∙ sym (at ys)

-- a leaf without a row written to a page of zeros, and then a new header in front of it
pub begins_with : FrontApart → (page_size usable : ℕ) (mid new : List ℕ) (cells : PageCells) → IsPageSize page_size → 480 ≤ usable → usable ≤ page_size → cells ≡ LeafPage []
    → length mid ≡ page_size → length new ≡ page_size → drop usable mid ≡ drop usable (replicate page_size 0) → IsPage mid 1 usable cells → drop 100 new ≡ drop 100 mid
    → IsNew page_size (page_size - usable) new → ReadsNew page_size (page_size - usable) new → BeginsWith page_size usable new
begins_with apart page_size usable mid new cells size least most is mid_long long back page rest header reads =
    let P : PageCells → Type 0 = λ c. IsPage mid 1 usable c in
    record {
      long = long;
      header = header;
      reads = reads;
      cells =
          apart mid new usable (LeafPage []) (length-take-le usable new (omega (arith, long, most)) ∙ sym (length-take-le usable mid (omega (arith, mid_long, most))))
          (same_within 100 usable new mid (omega (arith, least)) rest) (subst P is page);
      zeros = record {
        zeros = λ place low within.
            slice_get-get_or new place 0 within
            ∙ ap (λ b. Some b)
            (same_behind 100 new mid rest place (omega (arith, least, low)) ∙ same_behind usable mid (replicate page_size 0) back place low
            ∙ get_or-replicate page_size place 0 0 (omega (arith, within, long)));
      };
    }

-- ---- what is left

page_long : (old : SpaceState) (page : List ℕ) → HasSizes old → BeginsWith old.page_size old.pages.usable page → 100 ≤ length page
page_long old page sizes begins = omega (arith, begins.long, sizes.size_of_page.least)

first_page : (old : SpaceState) (middle new : Pages) (page : List ℕ) → HasSizes old → new ≡ with_page 1 page middle → new.size ≡ 1 → new.usable ≡ old.pages.usable
    → BeginsWith old.page_size old.pages.usable page → IsFirstPage old.page_size (old.page_size - old.pages.usable) new
first_page old middle new page sizes are size used begins =
    let usable : ℕ = old.pages.usable in
    let bytes_are : new.bytes 1 ≡ page = ap (λ (p : Pages). p.bytes 1) are in
    let N : List ℕ → Type 0 = λ l. IsNew old.page_size (old.page_size - usable) l in
    let R : List ℕ → Type 0 = λ l. ReadsNew old.page_size (old.page_size - usable) l in
    let C : List ℕ → Type 0 = λ l. IsPage l 1 usable (LeafPage []) in
    let U : ℕ → Type 0 = λ n. IsPage (new.bytes 1) 1 n (LeafPage []) in
    record {
      size = size;
      page_is = sizes.size_of_page;
      used = omega (arith, used, sizes.most);
      least = omega (arith, used, sizes.least);
      few = omega (arith, sizes.spare);
      long = omega (arith, ap (λ (l : List ℕ). length l) bytes_are, page_long old page sizes begins);
      header = subst N (sym bytes_are) begins.header;
      reads = subst R (sym bytes_are) begins.reads;
      cells = record {
        there = record { least = omega arith; most = omega (arith, size) };
        good = ap (λ (p : Pages). p.bad 1) are;
        reads = subst U (sym used) (subst C (sym bytes_are) begins.cells);
      };
    }

first_made : {old mid new : SpaceState} (number : ℕ) (page : List ℕ) → HasSizes old → old.pages.size ≡ 0 → Steady old mid → Steady mid new → Grew old mid number → Put mid new number page
    → BeginsWith old.page_size old.pages.usable page → FirstMade old new
first_made {old = old} {mid = mid} {new = new} number page sizes none first second grew put begins =
    let size : new.pages.size ≡ 1 = omega (arith, none, grew.size, put.size) in
    let one : number ≡ 1 = omega (arith, none, grew.next) in
    let P : ℕ → Type 0 = λ n. new.pages ≡ with_page n page mid.pages in
    record {
      none = none;
      size = size;
      change = put.change;
      first = λ t. first_page old mid.pages new.pages page sizes (subst P one (put.pages_are (first.told ∙ t))) size (second.used ∙ first.used) begins;
    }

stops_at_zeros : {old mid new : SpaceState} (number : ℕ) (fault : SpaceFault) → old.pages.size ≡ 0 → Steady old mid → Grew old mid number → Stays mid new
    → PageCause {T = Unit} mid new number (Err fault) → StopsAtZeros old new fault
stops_at_zeros {old = old} {mid = mid} {new = new} number fault none first grew stays cause =
    let one : number ≡ 1 = omega (arith, none, grew.next) in
    let C : ℕ → Type 0 = λ n. PageCause {T = Unit} mid new n (Err fault) in
    record {
      met = here mid;
      grew = record { next = omega (arith, none); size = grew.size; change = grew.change; pages_are = grew.pages_are };
      stays = stays-here first stays;
      cause = cause-moved old mid new fault first.told (subst C one cause);
    }

pub begins_after : {old mid new : SpaceState} (number : ℕ) (page : List ℕ) (result : Result Unit SpaceFault) → HasSizes old → old.pages.size ≡ 0 → Steady old mid → Steady mid new → Grew old mid number
    → PutLeaves mid new number page result → BeginsWith old.page_size old.pages.usable page → OnOk result (Begins old new)
begins_after number page (Ok u) sizes none first second grew put begins = inr (first_made number page sizes none first second grew put begins)
begins_after number page (Err fault) sizes none first second grew stays begins = tt

pub begin_stops : {old mid : SpaceState} (new : SpaceState) (number : ℕ) (page : List ℕ) (result : Result Unit SpaceFault) → old.pages.size ≡ 0 → Steady old mid → Grew old mid number
    → PutLeaves mid new number page result → PageCause {T = Unit} mid new number result → IfErr result (BeginRefused old new)
begin_stops new number page (Ok u) none first grew put cause = tt
begin_stops new number page (Err fault) none first grew stays cause = (none, inr (stops_at_zeros number fault none first grew stays cause))
