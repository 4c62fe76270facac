-- What the edits of page 1, and of one page beside it, leave of the pages.
use Rattle.std.proofs.Common.{◌≡◌, ◌≢◌, ◌⊎◌, inl, inr, ℕ, ◌+◌, ◌≤◌, ◌<◌, nat_eq, Bool, true, false, if◌then◌else◌}
use Rattle.std.proofs.Common.{List, length, slice_index, take, drop, None, refl, sym, ap, ◌∙◌, subst, arith, length-drop}
use Rattle.std.proofs.lemmas.List.{get_or-take, get_or-drop, length-take-le}
use Rattle.std.proofs.lemmas.Grind.{same_number_lists}
use Rattle.std.proofs.lemmas.Bool.{cases_eq, eq-eqb, ne_eqb}
use Rattle.byte_base.specs.Numbers.{number_at, with_number}
use Rattle.page_list.specs.Pages.{Pages, HasPage, IsGood, SamePage, AreSized}
use Rattle.page_list.specs.Edits.{with_page, cleared, rewritten}
use Rattle.page_list.specs.Laws.{OnlyHead}
use Rattle.page_list.proofs.NumberLemmas.{with-long, with-there, with-beside, with-other, cleared-long, cleared-below, cleared-number}

-- the bytes of page 1, edited: no more than the first trunk and the count of free pages has changed, and they are these
pub record HeadFrom (usable : ℕ) (old new : List ℕ) (trunk count : ℕ) : Type 0 where
  pub long : length new ≡ length old
  pub front : take 32 new ≡ take 32 old
  pub rest : drop 40 (take usable new) ≡ drop 40 (take usable old)
  pub trunk_is : number_at 4 new 32 ≡ trunk
  pub count_is : count < 4294967296 → number_at 4 new 36 ≡ count

-- parts of two lists are the same where their places are
same_front : (n : ℕ) (new old : List ℕ) → n ≤ length old → length new ≡ length old → ((k : ℕ) → k < n → slice_index new k ≡ slice_index old k) → take n new ≡ take n old
same_front n new old most long same =
    let a : length (take n new) ≡ n = length-take-le n new (omega arith) in
    let b : length (take n old) ≡ n = length-take-le n old most in
    same_number_lists (take n new) (take n old) (a ∙ sym b)
    (λ k within. let low : k < n = omega arith in get_or-take n new k 0 low ∙ same k low ∙ sym (get_or-take n old k 0 low))

same_behind : (from usable : ℕ) (new old : List ℕ) → from ≤ usable → usable ≤ length old → length new ≡ length old
    → ((k : ℕ) → from ≤ k → k < usable → slice_index new k ≡ slice_index old k) → drop from (take usable new) ≡ drop from (take usable old)
same_behind from usable new old least most long same =
    let a : length (take usable new) ≡ usable = length-take-le usable new (omega arith) in
    let b : length (take usable old) ≡ usable = length-take-le usable old most in
    let c = length-drop from (take usable new) in
    let d = length-drop from (take usable old) in
    same_number_lists (drop from (take usable new)) (drop from (take usable old)) (omega arith)
    (λ k within.
    let low : from + k < usable = omega arith in
    get_or-drop from (take usable new) k 0 ∙ get_or-take usable new (from + k) 0 low ∙ same (from + k) (omega arith) low
    ∙ sym (get_or-take usable old (from + k) 0 low) ∙ sym (get_or-drop from (take usable old) k 0))

-- the count is put into bytes that differ from the old ones in the first trunk alone
counted : (usable : ℕ) (old mid : List ℕ) (trunk count : ℕ) → 40 ≤ usable → usable ≤ length old → length mid ≡ length old
    → ((k : ℕ) → (k < 32) ⊎ (40 ≤ k) → slice_index mid k ≡ slice_index old k) → number_at 4 mid 32 ≡ trunk
    → HeadFrom usable old (cleared usable (with_number 4 36 count mid)) trunk count
counted usable old mid trunk count least most long same named =
    let all : List ℕ = with_number 4 36 count mid in
    let room : 36 + 4 ≤ length mid = omega arith in
    let all_long : length all ≡ length mid = with-long 36 count mid room in
    let all_most : usable ≤ length all = omega arith in
    let new_long : length (cleared usable all) ≡ length old = cleared-long usable all all_most ∙ all_long ∙ long in
    let at : (k : ℕ) → k < usable → (k < 32) ⊎ (40 ≤ k) → slice_index (cleared usable all) k ≡ slice_index old k =
    λ k below out. cleared-below usable all k all_most below
    ∙ with-beside 36 count mid k room (elim out as (λ _. (k < 36) ⊎ (36 + 4 ≤ k)) [ inl before ↦ inl (omega arith) | inr behind ↦ inr behind ])
    ∙ same k out in
    record {
      long = new_long;
      front = same_front 32 (cleared usable all) old (omega arith) new_long (λ k below. at k (omega arith) (inl below));
      rest = same_behind 40 usable (cleared usable all) old least most new_long (λ k low below. at k below (inr low));
      trunk_is = cleared-number usable all 32 all_most (omega arith) ∙ with-other 36 count mid 32 room (inl (omega arith)) ∙ named;
      count_is = λ fits. cleared-number usable all 36 all_most (omega arith) ∙ with-there 36 count mid fits room;
    }

pub head_counted : (usable : ℕ) (old : List ℕ) (count : ℕ) → 40 ≤ usable → usable ≤ length old
    → HeadFrom usable old (cleared usable (with_number 4 36 count old)) (number_at 4 old 32) count
head_counted usable old count least most = counted usable old old (number_at 4 old 32) count least most refl (λ k out. refl) refl

pub head_named : (usable : ℕ) (old : List ℕ) (trunk count : ℕ) → 40 ≤ usable → usable ≤ length old → trunk < 4294967296
    → HeadFrom usable old (cleared usable (with_number 4 36 count (with_number 4 32 trunk old))) trunk count
head_named usable old trunk count least most fits =
    let room : 32 + 4 ≤ length old = omega arith in
    counted usable old (with_number 4 32 trunk old) trunk count least most (with-long 32 trunk old room)
    (λ k out. with-beside 32 trunk old k room (elim out as (λ _. (k < 32) ⊎ (32 + 4 ≤ k)) [ inl before ↦ inl before | inr behind ↦ inr (omega arith) ]))
    (with-there 32 trunk old fits room)

-- a page that was written, another one, and both at once
pub page-here : (at : ℕ) (content : List ℕ) (pages : Pages) → (with_page at content pages).bytes at ≡ content
page-here at content pages = ap (λ (b : Bool). if b then content else pages.bytes at) (eq-eqb at at refl)

pub page-beside : (at : ℕ) (content : List ℕ) (pages : Pages) (n : ℕ) → n ≢ at → SamePage pages (with_page at content pages) n
page-beside at content pages n other =
    let e : nat_eq n at ≡ false = ne_eqb n at other in
    record {
      bytes_stay = ap (λ (b : Bool). if b then content else pages.bytes n) e;
      mark_stays = ap (λ (b : Bool). if b then None else pages.bad n) e;
    }

pub page-good : (at : ℕ) (content : List ℕ) (pages : Pages) (n : ℕ) → IsGood pages n → IsGood (with_page at content pages) n
page-good at content pages n good = elim (nat_eq n at) as (λ b. (if b then None else pages.bad n) ≡ None) [ true ↦ refl | false ↦ good ]

pub page-long : (at : ℕ) (content : List ℕ) (pages : Pages) (n size : ℕ) → length content ≡ size
    → (n ≢ at → length (pages.bytes n) ≡ size) → length ((with_page at content pages).bytes n) ≡ size
page-long at content pages n size here beside = elim (cases_eq n at) as (λ _. length ((with_page at content pages).bytes n) ≡ size) [
  | inl same ↦ let P : ℕ → Type 0 = λ m. length ((with_page at content pages).bytes m) ≡ size in
      subst P (sym same) (ap (λ (b : List ℕ). length b) (page-here at content pages) ∙ here)
  | inr other ↦ ap (λ (b : List ℕ). length b) (page-beside at content pages n other).bytes_stay ∙ beside other
]

pub same-on : (old mid new : Pages) (n : ℕ) → SamePage old mid n → SamePage mid new n → SamePage old new n
same-on old mid new n a b = record { bytes_stay = b.bytes_stay ∙ a.bytes_stay; mark_stays = b.mark_stays ∙ a.mark_stays }

-- page 1 and one page beside it were written anew, and page 1 as the freelist does
pub record Edited (page_size : ℕ) (old new : Pages) (at : ℕ) : Type 0 where
  pub size : new.size ≡ old.size
  pub used : new.usable ≡ old.usable
  pub each : (n : ℕ) → n ≢ 1 → n ≢ at → SamePage old new n
  pub good : (n : ℕ) → IsGood old n → IsGood new n
  pub first : OnlyHead old new
  pub sized : (n : ℕ) → HasPage new n → length (new.bytes n) ≡ page_size

first_there : (pages : Pages) → 1 ≤ pages.size → HasPage pages 1
first_there pages some = record { least = omega arith; most = some }

head_edited : (old : Pages) (mid : Pages) (first : List ℕ) (trunk count : ℕ) → mid.usable ≡ old.usable
    → HeadFrom old.usable (old.bytes 1) (cleared mid.usable first) trunk count → OnlyHead old (rewritten 1 first mid)
head_edited old mid first trunk count used head = record { good = refl; long = head.long; front = head.front; rest = head.rest }

pub edited_one : (page_size : ℕ) (old : Pages) (first : List ℕ) (trunk count : ℕ) → AreSized page_size old → 1 ≤ old.size
    → HeadFrom old.usable (old.bytes 1) (cleared old.usable first) trunk count → Edited page_size old (rewritten 1 first old) 1
edited_one page_size old first trunk count sized some head = record {
  size = refl;
  used = refl;
  each = λ n not_1 other. page-beside 1 (cleared old.usable first) old n not_1;
  good = λ n good. page-good 1 (cleared old.usable first) old n good;
  first = head_edited old old first trunk count refl head;
  sized = λ n there. page-long 1 (cleared old.usable first) old n page_size (head.long ∙ sized.each 1 (first_there old some))
      (λ _. sized.each n (record { least = there.least; most = there.most }));
}

pub edited_both : (page_size : ℕ) (old : Pages) (at : ℕ) (content first : List ℕ) (trunk count : ℕ) → AreSized page_size old → 1 ≤ old.size → length content ≡ page_size
    → HeadFrom old.usable (old.bytes 1) (cleared old.usable first) trunk count → Edited page_size old (rewritten 1 first (rewritten at content old)) at
edited_both page_size old at content first trunk count sized some long head =
    let mid : Pages = rewritten at content old in
    let most : old.usable ≤ length content = omega (arith, sized.most) in
    record {
      size = refl;
      used = refl;
      each = λ n not_1 other.
          same-on old mid (rewritten 1 first mid) n (page-beside at (cleared old.usable content) old n other) (page-beside 1 (cleared old.usable first) mid n not_1);
      good = λ n good. page-good 1 (cleared old.usable first) mid n (page-good at (cleared old.usable content) old n good);
      first = head_edited old mid first trunk count refl head;
      sized = λ n there. page-long 1 (cleared old.usable first) mid n page_size (head.long ∙ sized.each 1 (first_there old some))
          (λ _. page-long at (cleared old.usable content) old n page_size (cleared-long old.usable content most ∙ long)
          (λ _. sized.each n (record { least = there.least; most = there.most })));
    }

-- what stands on the other page then
pub other_page : (old : Pages) (at : ℕ) (content first : List ℕ) → at ≢ 1 → (rewritten 1 first (rewritten at content old)).bytes at ≡ cleared old.usable content
other_page old at content first other =
    (page-beside 1 (cleared old.usable first) (rewritten at content old) at other).bytes_stay ∙ page-here at (cleared old.usable content) old
