-- What the schema cookie, raised, leaves of the pages.
use Rattle.std.proofs.Common.{◌≡◌, ◌⊎◌, inl, inr, ℕ, ◌+◌, ◌-◌, ◌%◌, ◌≤◌, ◌<◌, if◌then◌else◌, List, ◌++◌, length, slice_index, take, drop, replicate, IsTrue, Ok, Err, Result, OnOk, sym, ap, subst, ◌∙◌, arith, length-append, length-drop}
use Rattle.std.proofs.lemmas.List.{get_or-take, get_or-drop, length-take, length-take-le, length-replicate}
use Rattle.std.proofs.lemmas.Grind.{same_number_lists}
use Rattle.std.proofs.lemmas.Bool.{ne_eqb}
use Rattle.byteorder.specs.Endian.{big_bytes}
use Rattle.byteorder.specs.Numbers.{length-bytes_high_first}
use Rattle.byte_base.specs.Numbers.{number_at, with_number}
use Rattle.page_list.specs.Pages.{Pages, IsGood, SamePage, AreSized, word}
use Rattle.page_list.specs.Edits.{with_page, cleared}
use Rattle.page_list.proofs.NumberLemmas.{with-long, with-there, with-beside, with-other, cleared-long, cleared-below, cleared-number}
use Rattle.page_list.proofs.EditLemmas.{page-here, page-beside}
use Rattle.page_pool.specs.Space.{SpaceState, Steady, Stays, PutLeaves}
use Rattle.db_format.specs.declared.fault.SpaceFault.{SpaceFault}
use Rattle.book_changes.specs.Changes.{CookieChanges}
use Rattle.table_store.specs.Cookie.{next_cookie, cookie_of, with_next_cookie, CookieRaised}

-- bytes that are long with a number put into them were long before
long_before : (number : ℕ) (bytes : List ℕ) → 45 ≤ length (with_number 4 40 number bytes) → 45 ≤ length bytes
unfolding with_number
long_before number bytes long =
    let rest : List ℕ = drop 44 bytes in
    let count : length (big_bytes 4 number) ≡ 4 = length-bytes_high_first 4 number in
    omega (arith, long, count, length-append (take 40 bytes) (big_bytes 4 number ++ rest), length-append (big_bytes 4 number) rest, length-take 40 bytes, length-drop 44 bytes)

cleared_as_long : (usable : ℕ) (bytes : List ℕ) → length (cleared usable bytes) ≡ length bytes
cleared_as_long usable bytes =
    omega (arith, length-append (take usable bytes) (replicate (length bytes - usable) 0), length-take usable bytes, (let z : ℕ = 0 in length-replicate (length bytes - usable) z))

-- parts of two lists are the same where their places are
same_behind : (from usable : ℕ) (new old : List ℕ) → from ≤ usable → usable ≤ length old → length new ≡ length old
    → ((k : ℕ) → k < usable → from ≤ k → slice_index new k ≡ slice_index old k) → drop from (take usable new) ≡ drop from (take usable old)
same_behind from usable new old least most long same =
    let a : length (take usable new) ≡ usable = length-take-le usable new (omega arith) in
    let b : length (take usable old) ≡ usable = length-take-le usable old most in
    let c = length-drop from (take usable new) in
    let d = length-drop from (take usable old) in
    same_number_lists (drop from (take usable new)) (drop from (take usable old)) (omega arith)
    (λ k within.
    let low : from + k < usable = omega arith in
    get_or-drop from (take usable new) k 0 ∙ get_or-take usable new (from + k) 0 low ∙ same (from + k) low (omega arith)
    ∙ sym (get_or-take usable old (from + k) 0 low) ∙ sym (get_or-drop from (take usable old) k 0))

-- page 1 with another number at 40: what it says beside that
record FirstSays (usable : ℕ) (old new : List ℕ) (number : ℕ) : Type 0 where
  long : length new ≡ length old
  at : (k : ℕ) → k < usable → (k < 40) ⊎ (44 ≤ k) → slice_index new k ≡ slice_index old k
  before : (place : ℕ) → place + 4 ≤ 40 → number_at 4 new place ≡ number_at 4 old place
  is : number_at 4 new 40 ≡ number

first_says : (usable : ℕ) (bytes : List ℕ) (number : ℕ) → 480 ≤ usable → usable ≤ length bytes → number < 4294967296
    → FirstSays usable bytes (cleared usable (with_number 4 40 number bytes)) number
first_says usable bytes number least most fits =
    let all : List ℕ = with_number 4 40 number bytes in
    let room : 40 + 4 ≤ length bytes = omega arith in
    let all_long : length all ≡ length bytes = with-long 40 number bytes room in
    let all_most : usable ≤ length all = omega arith in
    record {
      long = cleared-long usable all all_most ∙ all_long;
      at = λ k below out. cleared-below usable all k all_most below ∙ with-beside 40 number bytes k room out;
      before = λ place low. cleared-number usable all place all_most (omega (arith, low, least)) ∙ with-other 40 number bytes place room (inl low);
      is = cleared-number usable all 40 all_most (omega (arith, least)) ∙ with-there 40 number bytes fits room;
    }

record IsRaised (old new : Pages) : Type 0 where
  some : 1 ≤ old.size
  least : 480 ≤ old.usable
  most : old.usable ≤ length (old.bytes 1)
  are : new ≡ with_page 1 (with_next_cookie old) old

is_raised : (page_size : ℕ) (old new : SpaceState) → IsTrue old.tells → AreSized page_size new.pages → CookieRaised old new → IsRaised old.pages new.pages
is_raised page_size old new t sized raised =
    let are = raised.pages_are t in
    let used : new.pages.usable ≡ old.pages.usable = ap (λ (p : Pages). p.usable) are in
    let all : List ℕ = with_number 4 40 (next_cookie (word old.pages 1 40)) (old.pages.bytes 1) in
    let long : length (new.pages.bytes 1) ≡ page_size = sized.each 1 (record { least = omega arith; most = omega (arith, raised.some, raised.size) }) in
    let page_is : new.pages.bytes 1 ≡ cleared old.pages.usable all = ap (λ (p : Pages). p.bytes 1) are ∙ page-here 1 (with_next_cookie old.pages) old.pages in
    let as_long : length all ≡ page_size = sym (cleared_as_long old.pages.usable all) ∙ sym (ap (λ (l : List ℕ). length l) page_is) ∙ long in
    let before : 45 ≤ length (old.pages.bytes 1) = long_before (next_cookie (word old.pages 1 40)) (old.pages.bytes 1) (omega (arith, as_long, sized.least, sized.most)) in
    let stays : length all ≡ length (old.pages.bytes 1) = with-long 40 (next_cookie (word old.pages 1 40)) (old.pages.bytes 1) (omega (arith, before)) in
    record {
      some = raised.some;
      least = omega (arith, sized.least, used);
      most = omega (arith, sized.most, used, as_long, stays);
      are = are;
    }

below : (n : ℕ) → (n + 1) % 4294967296 < 4294967296
below n = omega arith

says_of : (old new : Pages) → IsRaised old new → FirstSays old.usable (old.bytes 1) (new.bytes 1) (next_cookie (word old 1 40))
says_of old new is =
    let F : List ℕ → Type 0 = λ l. FirstSays old.usable (old.bytes 1) l (next_cookie (word old 1 40)) in
    subst F (sym (ap (λ (p : Pages). p.bytes 1) is.are ∙ page-here 1 (with_next_cookie old) old))
    (first_says old.usable (old.bytes 1) (next_cookie (word old 1 40)) is.least is.most (below (word old 1 40)))

changes_of : (old new : Pages) → IsRaised old new → CookieChanges old new
changes_of old new is =
    let says = says_of old new is in
    let least = is.least in
    record {
      size = ap (λ (p : Pages). p.size) is.are;
      used = ap (λ (p : Pages). p.usable) is.are;
      front = record {
        there = record { least = omega arith; most = omega (arith, is.some, ap (λ (p : Pages). p.size) is.are) };
        good = ap (λ (p : Pages). p.bad 1) is.are;
        fields = record {
          long = says.long;
          same = λ place stays. elim stays [
            | inl before ↦ says.at place (omega (arith, before, least)) (inl (omega (arith, before)))
            | inr between ↦ says.at place (omega (arith, between.1, least)) (inr between.0)
          ];
        };
        behind = same_behind 100 old.usable (new.bytes 1) (old.bytes 1) (omega (arith, least)) is.most says.long (λ k below behind. says.at k below (inr (omega (arith, behind))));
      };
      counter = says.before 24 (omega arith);
      trunk = says.before 32 (omega arith);
      count = says.before 36 (omega arith);
      others = λ n other.
          let P : Pages → Type 0 = λ p. SamePage old p n in subst P (sym is.are) (page-beside 1 (with_next_cookie old) old n other);
    }

-- of page 1 no more has changed than the cookie, and no other page has
pub cookie_changes : (page_size : ℕ) (old new : SpaceState) → IsTrue old.tells → AreSized page_size new.pages → CookieRaised old new → CookieChanges old.pages new.pages
cookie_changes page_size old new t sized raised = changes_of old.pages new.pages (is_raised page_size old new t sized raised)

some_cookie : (pages : Pages) → 1 ≤ pages.size → cookie_of pages ≡ word pages 1 40
some_cookie pages some = ap (λ b. if b then 0 else word pages 1 40) (ne_eqb pages.size 0 (λ none. omega (arith, some, none)))

-- and the cookie is the next one
pub cookie_next : (page_size : ℕ) (old new : SpaceState) → IsTrue old.tells → AreSized page_size new.pages → CookieRaised old new → cookie_of new.pages ≡ next_cookie (cookie_of old.pages)
cookie_next page_size old new t sized raised =
    let is = is_raised page_size old new t sized raised in
    some_cookie new.pages (omega (arith, raised.some, raised.size)) ∙ (says_of old.pages new.pages is).is ∙ sym (ap next_cookie (some_cookie old.pages raised.some))

-- page 1 was read, and put with the next cookie
pub cookie_raised : (old mid new : SpaceState) (page bytes : List ℕ) (result : Result Unit SpaceFault) → 1 ≤ old.pages.size → Steady old mid → Stays old mid → (IsTrue old.tells → IsGood old.pages 1)
    → (IsTrue old.tells → page ≡ old.pages.bytes 1) → bytes ≡ with_number 4 40 (next_cookie (number_at 4 page 40)) page → PutLeaves mid new 1 (cleared mid.pages.usable bytes) result
    → OnOk result (CookieRaised old new)
cookie_raised old mid new page bytes (Err fault) some steady stays good is raised leaves = tt
cookie_raised old mid new page bytes (Ok u) some steady stays good is raised leaves =
    let P : Pages → List ℕ → Type 0 = λ pages content. new.pages ≡ with_page 1 (cleared pages.usable content) pages in
    let N : List ℕ → Type 0 = λ first. P old.pages (with_number 4 40 (next_cookie (number_at 4 first 40)) first) in
    record {
      some = some;
      size = leaves.size ∙ stays.number;
      change = leaves.change;
      good = good;
      pages_are = λ t.
          let there : P mid.pages bytes = leaves.pages_are (steady.told ∙ t) in
          subst N (is t) (subst (P old.pages) raised (subst (λ (pages : Pages). P pages bytes) (stays.pages_stay t) there));
    }
