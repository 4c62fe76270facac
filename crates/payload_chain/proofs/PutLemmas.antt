-- A chain that is put, from its last page to its first.
use Rattle.std.proofs.Common.{◌≡◌, ◌≢◌, ◌⊎◌, inl, inr, ℕ, ◌+◌, ◌-◌, ◌*◌, ◌≤◌, min, replicate, List, [], ◌∷◌, ◌++◌, length, take, drop, refl, sym, ap, ◌∙◌, subst, arith, append_assoc, append-nil, mul_comm, length-append, length-drop, IsTrue, Some, Err}
use Rattle.std.proofs.lemmas.Bool.{cases_lt}
use Rattle.std.proofs.lemmas.Bool.Decides.{nat_tests}
use Rattle.std.proofs.lemmas.List.{drop-replicate, drop_at, drop-drop, take_min, drop_min, length-take-le, length-replicate}
use borrow.Rule.Slice.PartMut.{put_mid}
use Rattle.byteorder.specs.Endian.{big_bytes}
use Rattle.byte_base.specs.Numbers.{with_number}
use Rattle.page_list.specs.Pages.{Pages, IsGood, SamePage, Among, times}
use Rattle.page_list.specs.Chain.{pages_needed}
use Rattle.page_list.specs.Edits.{with_page}
use Rattle.page_list.proofs.ChainLemmas.{among-here, among-cons, among-front, among-back, same_or_other}
use Rattle.page_pool.specs.Space.{SpaceState, HasSizes, Steady, Stays, Put, PageCause}
use Rattle.page_pool.specs.Pool.{NotesChange}
use Rattle.payload_chain.specs.Chains.{OnlyThese, PutRefused, chain_page, first_of, with_chain}
use Rattle.payload_chain.specs.Steps.{StopsPuttingEach}
use Rattle.payload_chain.proofs.StateLemmas.{steady-same, steady-on, stays-same, rose-on}
use Rattle.payload_chain.proofs.CountLemmas.{needed_enough, needed-above}
use Rattle.db_format.specs.declared.fault.SpaceFault.{SpaceFault}
use Rattle.db_format.specs.declared.fault.SpaceFault.TheVariants.{Failed, Memory, Bad, Corrupt, Large}

-- a page that was filled
pub filled : (len a : ℕ) (next : ℕ) (blank mid bytes : List ℕ) → blank ≡ replicate len 0 → 4 + length bytes ≤ len → a ≡ length bytes
    → mid ≡ put_mid 4 a blank bytes → with_number 4 0 next mid ≡ chain_page len next bytes
unfolding with_number
filled len a next blank mid bytes blank_is fits a_is mid_is =
    let front : length (take 4 blank) ≡ 4 = length-take-le 4 blank (omega (arith, ap (λ l. length l) blank_is, length-replicate {A = ℕ} len 0)) in
    let k : len - 4 - a ≡ len - (4 + length bytes) = omega arith in
    let zeros : drop a (drop 4 blank) ≡ replicate (len - (4 + length bytes)) 0 =
    ap (λ l. drop a (drop 4 l)) blank_is ∙ ap (λ l. drop a l) (drop-replicate 4 len 0) ∙ drop-replicate a (len - 4) 0 ∙ ap (λ k. replicate k 0) k in
    let behind : drop 4 mid ≡ bytes ++ drop a (drop 4 blank) = ap (λ l. drop 4 l) mid_is ∙ drop_at (take 4 blank) (bytes ++ drop a (drop 4 blank)) 4 front in
    ap (λ l. big_bytes 4 next ++ l) (behind ∙ ap (λ l. bytes ++ l) zeros)

-- a page that was written, and the others
pub page-written : (at : ℕ) (content : List ℕ) (pages : Pages) → (with_page at content pages).bytes at ≡ content
page-written at content pages = grind (arith, nat_tests)

pub page-good : (at : ℕ) (content : List ℕ) (pages : Pages) → IsGood (with_page at content pages) at
page-good at content pages = grind (arith, nat_tests)

pub page-stays : (at n : ℕ) (content : List ℕ) (pages : Pages) → n ≢ at → SamePage pages (with_page at content pages) n
page-stays at n content pages other = record { bytes_stay = grind (arith, nat_tests); mark_stays = grind (arith, nat_tests) }

-- the first of a list is in it, and any other is behind it
pub among-first : (x n : ℕ) (numbers : List ℕ) → Among (x ∷ numbers) n → (n ≡ x) ⊎ ((n ≢ x) × Among numbers n)
among-first x n numbers among =
    elim (same_or_other n x) as (λ _. (n ≡ x) ⊎ ((n ≢ x) × Among numbers n)) [
      | inl same ↦ inl (sym same.0)
      | inr other ↦ inr ((λ e. other.0 (sym e)), let none = other.1 in omega arith)
    ]

-- no page beside a chain's changes, and none becomes bad
pub chain-stays : (page_size n : ℕ) (numbers bytes : List ℕ) (pages : Pages) → ¬ (Among numbers n) → SamePage pages (with_chain page_size numbers bytes pages) n
chain-stays page_size n [] bytes pages out = record { bytes_stay = refl; mark_stays = refl }
chain-stays page_size n (x ∷ more) bytes pages out =
    let rest = chain-stays page_size n more (drop (pages.usable - 4) bytes) pages (λ among. out (among-cons n x more among)) in
    let P : ℕ → Type 0 = λ k. Among (x ∷ more) k in
    let last = page-stays x n _ (with_chain page_size more (drop (pages.usable - 4) bytes) pages) (λ e. out (subst P (sym e) (among-here x more))) in
    record { bytes_stay = last.bytes_stay ∙ rest.bytes_stay; mark_stays = last.mark_stays ∙ rest.mark_stays }

pub chain-size : (page_size : ℕ) (numbers bytes : List ℕ) (pages : Pages) → (with_chain page_size numbers bytes pages).size ≡ pages.size
chain-size page_size [] bytes pages = refl
chain-size page_size (x ∷ more) bytes pages = chain-size page_size more (drop (pages.usable - 4) bytes) pages

pub chain-used : (page_size : ℕ) (numbers bytes : List ℕ) (pages : Pages) → (with_chain page_size numbers bytes pages).usable ≡ pages.usable
chain-used page_size [] bytes pages = refl
chain-used page_size (x ∷ more) bytes pages = chain-used page_size more (drop (pages.usable - 4) bytes) pages

pub chain-good : (page_size n : ℕ) (numbers bytes : List ℕ) (pages : Pages) → Among numbers n → IsGood (with_chain page_size numbers bytes pages) n
chain-good page_size n [] bytes pages among = absurd (omega arith)
chain-good page_size n (x ∷ more) bytes pages among =
    let content : List ℕ = chain_page page_size (first_of more) (take (pages.usable - 4) bytes) in
    let rest : Pages = with_chain page_size more (drop (pages.usable - 4) bytes) pages in
    elim (among-first x n more among) as (λ _. IsGood (with_page x content rest) n) [
      | inl same ↦ let P : ℕ → Type 0 = λ k. IsGood (with_page x content rest) k in subst P (sym same) (page-good x content rest)
      | inr other ↦ (page-stays x n content rest other.0).mark_stays ∙ chain-good page_size n more (drop (pages.usable - 4) bytes) pages other.1
    ]

-- a page that is good then, or bad, was so before, where those written were good
pub good-before : (page_size n : ℕ) (numbers bytes : List ℕ) (pages : Pages) → ((m : ℕ) → Among numbers m → IsGood pages m)
    → IsGood (with_chain page_size numbers bytes pages) n → IsGood pages n
good-before page_size n numbers bytes pages good now = elim (cases_lt 0 (times n numbers)) as (λ _. IsGood pages n) [
  | inl among ↦ good n (omega arith)
  | inr out ↦ sym (chain-stays page_size n numbers bytes pages (λ among. omega arith)).mark_stays ∙ now
]

pub bad-before : (page_size n : ℕ) (sums : ℕ × ℕ) (numbers bytes : List ℕ) (pages : Pages)
    → (with_chain page_size numbers bytes pages).bad n ≡ Some sums → pages.bad n ≡ Some sums
bad-before page_size n sums numbers bytes pages bad = elim (cases_lt 0 (times n numbers)) as (λ _. pages.bad n ≡ Some sums) [
  | inl among ↦ let good = chain-good page_size n numbers bytes pages (omega arith) in cc
  | inr out ↦ sym (chain-stays page_size n numbers bytes pages (λ among. omega arith)).mark_stays ∙ bad
]

-- what holds while pages are put: those left are the front of all, and the bytes behind a place are on the others
pub record PutsAlong (old now : SpaceState) (all left : List ℕ) (next end : ℕ) (rest : List ℕ) : Type 0 where
  pub steady : Steady old now
  pub size : now.pages.size ≡ old.pages.size
  pub noted : NotesChange old now
  pub done : List ℕ
  pub parts : all ≡ left ++ done
  pub next_is : next ≡ first_of done
  pub change : 1 ≤ length done → IsTrue now.changed
  pub end_is : end ≡ min (length rest) ((old.pages.usable - 4) * length left)
  pub good : IsTrue old.tells → (n : ℕ) → Among done n → IsGood old.pages n
  pub pages_are : IsTrue old.tells → now.pages ≡ with_chain old.page_size done (drop end rest) old.pages

pub puts-begin : {old : SpaceState} (all rest : List ℕ) → HasSizes old → length all ≡ pages_needed old.pages.usable (length rest)
    → PutsAlong old old all all 0 (length rest) rest
puts-begin {old = old} all rest sizes enough =
    let least = sizes.least in
    let holds = needed_enough old.pages.usable (length rest) (omega arith) in
    let product = ap (λ n. (old.pages.usable - 4) * n) enough in
    record {
      steady = steady-same sizes;
      size = refl;
      noted = inr stays-same;
      done = [];
      parts = sym (append-nil all);
      next_is = refl;
      change = λ some. absurd (omega arith);
      end_is = omega arith;
      good = λ t n among. absurd (omega arith);
      pages_are = λ t. refl;
    }

-- the page that comes next, and the bytes that go there
pub record Piece (usable start end : ℕ) (all left left' rest : List ℕ) (x : ℕ) : Type 0 where
  pub among : Among all x
  pub before : start ≤ end
  pub within : end ≤ length rest
  pub few : end - start ≤ usable - 4
  pub start_is : start ≡ min (length rest) ((usable - 4) * length left')
  pub bytes : take (end - start) (drop start rest) ≡ take (usable - 4) (drop start rest)
  pub behind : drop (usable - 4) (drop start rest) ≡ drop end rest

pub piece-of : {old now : SpaceState} {all left : List ℕ} {next end : ℕ} {rest : List ℕ} (left' : List ℕ) (x count room : ℕ) → HasSizes old
    → length all ≡ pages_needed old.pages.usable (length rest) → PutsAlong old now all left next end rest → left ≡ left' ++ x ∷ []
    → count ≡ length left' → room ≡ old.pages.usable - 4 → Piece old.pages.usable (count * room) end all left left' rest x
piece-of {old = old} {all = all} {left = left} {end = end} {rest = rest} left' x count room sizes enough along pop count_is room_is =
    let start : ℕ = count * room in
    let usable : ℕ = old.pages.usable in
    let least = sizes.least in
    let long : length left ≡ length left' + 1 = ap (λ l. length l) pop ∙ length-append left' (x ∷ []) in
    let whole : length all ≡ length left + length along.done = ap (λ l. length l) along.parts ∙ length-append left along.done in
    let above = needed-above usable (length rest) (length left') (omega arith) (omega arith) in
    let turned : start ≡ (usable - 4) * length left' = (λ i. count_is i * room_is i) ∙ mul_comm (length left') (usable - 4) in
    let product : (usable - 4) * length left ≡ (usable - 4) * (length left' + 1) = ap (λ n. (usable - 4) * n) long in
    let ends = along.end_is in
    let size : length (drop start rest) ≡ length rest - start = length-drop start rest in
    let part : end - start ≡ min (usable - 4) (length (drop start rest)) = omega arith in
    let up : end ≡ min (start + (usable - 4)) (length rest) = omega arith in
    let P : List ℕ → Type 0 = λ l. Among l x in
    let Q : List ℕ → Type 0 = λ l. Among (l ++ along.done) x in
    record {
      among = subst P (sym along.parts) (subst Q (sym pop) (among-front x (left' ++ x ∷ []) along.done (among-back x left' (x ∷ []) (among-here x []))));
      before = omega arith;
      within = omega arith;
      few = omega arith;
      start_is = omega arith;
      bytes = ap (λ n. take n (drop start rest)) part ∙ take_min (usable - 4) (drop start rest);
      behind = drop-drop (usable - 4) start rest ∙ sym (ap (λ n. drop n rest) up ∙ drop_min (start + (usable - 4)) rest);
    }

pub puts-on : {old now : SpaceState} {all left left' : List ℕ} {next end start : ℕ} {rest : List ℕ} {x : ℕ} (new : SpaceState)
    → PutsAlong old now all left next end rest → left ≡ left' ++ x ∷ [] → Piece old.pages.usable start end all left left' rest x → Steady now new
    → (IsTrue now.tells → IsGood now.pages x) → Put now new x (chain_page now.page_size next (take (end - start) (drop start rest)))
    → PutsAlong old new all left' x start rest
puts-on {old = old} {now = now} {left' = left'} {end = end} {start = start} {rest = rest} {x = x} new along pop piece steady good put = record {
  steady = steady-on along.steady steady;
  size = put.size ∙ along.size;
  noted = inl put.change;
  done = x ∷ along.done;
  parts = along.parts ∙ ap (λ l. l ++ along.done) pop ∙ append_assoc left' (x ∷ []) along.done;
  next_is = refl;
  change = λ some. put.change;
  end_is = piece.start_is;
  good = λ t n among.
      let P : Pages → Type 0 = λ p. IsGood p x in
      let Q : ℕ → Type 0 = λ k. IsGood old.pages k in
      elim (among-first x n along.done among) as (λ _. IsGood old.pages n) [
        | inl same ↦ subst Q (sym same) (good-before old.page_size x along.done (drop end rest) old.pages (along.good t)
            (subst P (along.pages_are t) (good (along.steady.told ∙ t))))
        | inr other ↦ along.good t n other.1
      ];
  pages_are = λ t.
      put.pages_are (along.steady.told ∙ t)
      ∙ (λ i. with_page x (chain_page (along.steady.sized i) (along.next_is i) (piece.bytes i)) (along.pages_are t i))
      ∙ (λ i. with_page x (chain_page old.page_size (first_of along.done) (take (old.pages.usable - 4) (drop start rest)))
      (with_chain old.page_size along.done (sym piece.behind i) old.pages));
}

-- one page could not be put
put-refused : {old now : SpaceState} (new : SpaceState) (all done bytes : List ℕ) (x : ℕ) (fault : SpaceFault) → Steady old now → Among all x
    → (IsTrue old.tells → now.pages ≡ with_chain old.page_size done bytes old.pages) → PageCause {T = Unit {0}} now new x (Err fault) → PutRefused old new all fault
put-refused {old = old} {now = now} new all done bytes x Failed steady among are cause = rose-on old.faults now.faults new.faults steady.counted cause
put-refused new all done bytes x Memory steady among are cause = tt
put-refused {old = old} new all done bytes x (Bad page kept found) steady among are cause = λ t.
    let P : ℕ → Type 0 = λ n. Among all n × (old.pages.bad n ≡ Some (kept, found)) in
    subst P (sym cause.0)
    (among, bad-before old.page_size x (kept, found) done bytes old.pages (ap (λ p. p.bad x) (sym (are t)) ∙ cause.1 (steady.told ∙ t)))
put-refused new all done bytes x (Corrupt page) steady among are cause = absurd cause
put-refused new all done bytes x (Large pages) steady among are cause = absurd cause

pub stops-putting : {old now : SpaceState} {all left : List ℕ} {next end : ℕ} {rest : List ℕ} (new : SpaceState) (x : ℕ) (fault : SpaceFault)
    → PutsAlong old now all left next end rest → Among all x → Stays now new → PageCause {T = Unit {0}} now new x (Err fault) → StopsPuttingEach old new all fault
stops-putting {old = old} {all = all} {left = left} {end = end} {rest = rest} new x fault along among stays cause = record {
  size = stays.number ∙ along.size;
  only = λ t.
      let P : Pages → Type 0 = λ p. OnlyThese old.pages p all in
      let Q : List ℕ → Type 0 = λ l. (n : ℕ) → ¬ (Among l n) → ¬ (Among along.done n) in
      let apart = subst Q (sym along.parts) (λ n out behind. out (among-back n left along.done behind)) in
      subst P (sym (stays.pages_stay (along.steady.told ∙ t) ∙ along.pages_are t)) (record {
        size = chain-size old.page_size along.done (drop end rest) old.pages;
        each = λ n out. chain-stays old.page_size n along.done (drop end rest) old.pages (apart n out);
      });
  refused = put-refused new all along.done (drop end rest) x fault along.steady among along.pages_are cause;
}
