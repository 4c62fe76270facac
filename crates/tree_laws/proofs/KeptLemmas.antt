-- The header of the database beside the freelist.
use Rattle.std.proofs.Common.{◌≡◌, ◌⊎◌, inl, inr, ℕ, ◌+◌, ◌≤◌, ◌<◌, nat_eq, cond, List, take, drop, slice_index, sym, ap, ◌∙◌, arith}
use Rattle.std.proofs.lemmas.List.{take-take, drop-take}
use Rattle.byte_base.specs.Numbers.{number_at}
use Rattle.db_format.specs.Header.{page_of}
use Rattle.db_format.proofs.PutLemmas.{same_number}
use Rattle.page_list.specs.Pages.{Pages, SamePage}
use Rattle.page_list.specs.Freelist.{free_pages}
use Rattle.page_list.specs.Laws.{OnlyHead, TakesEach, GivesEach}
use Rattle.page_list.proofs.ChainLemmas.{among-back}
use Rattle.tree_model.specs.Whole.{used_pages}
use Rattle.tree_laws.specs.Front.{FreelistFront, FrontKept}
use Rattle.tree_laws.proofs.TakeLemmas.{byte_before, byte_after}

-- where no more of page 1 changes than the head of the freelist, and what is behind the usable size
pub head_front : (old new : Pages) → OnlyHead old new → 480 ≤ old.usable → FreelistFront old new
head_front old new head least = record { front = head.front; rest = part (new.bytes 1) ∙ ap (take 60) head.rest ∙ sym (part (old.bytes 1)) }
  where
    part : (l : List ℕ) → drop 40 (take 100 l) ≡ take 60 (drop 40 (take old.usable l))
    part l = ap (drop 40) (sym (take-take 100 old.usable l (omega (arith, least)))) ∙ drop-take 40 60 (take old.usable l)

pub header_front : (old new : Pages) → take 100 (new.bytes 1) ≡ take 100 (old.bytes 1) → FreelistFront old new
header_front old new same = record {
  front = sym (take-take 32 100 (new.bytes 1) (omega arith)) ∙ ap (take 32) same ∙ take-take 32 100 (old.bytes 1) (omega arith);
  rest = ap (drop 40) same;
}

pub same_front : (old new : Pages) → SamePage old new 1 → FreelistFront old new
same_front old new same = header_front old new (ap (take 100) same.bytes_stay)

pub front_steps : (old mid new : Pages) → FreelistFront old mid → FreelistFront mid new → FreelistFront old new
front_steps old mid new first then = record { front = then.front ∙ first.front; rest = then.rest ∙ first.rest }

byte_same : (old new : Pages) → FreelistFront old new → (place : ℕ) → (place < 32) ⊎ ((40 ≤ place) × (place < 100)) → slice_index (new.bytes 1) place ≡ slice_index (old.bytes 1) place
byte_same old new kept place (inl before) = byte_before (new.bytes 1) (old.bytes 1) place kept.front before
byte_same old new kept place (inr behind) = byte_after 100 (new.bytes 1) (old.bytes 1) place kept.rest behind.0 behind.1

number_same : (old new : Pages) → FreelistFront old new → (width place : ℕ) → (place + width ≤ 32) ⊎ ((40 ≤ place) × (place + width ≤ 100))
    → number_at width (new.bytes 1) place ≡ number_at width (old.bytes 1) place
number_same old new kept width place (inl before) = same_number width place (new.bytes 1) (old.bytes 1) (λ k low high. byte_same old new kept k (inl (omega arith)))
number_same old new kept width place (inr behind) = same_number width place (new.bytes 1) (old.bytes 1)
    (λ k low high. let low' = behind.0 in let high' = behind.1 in byte_same old new kept k (inr (omega arith, omega arith)))

page_same : (old new : Pages) → FreelistFront old new → page_of (new.bytes 1) ≡ page_of (old.bytes 1)
unfolding page_of
page_same old new kept = ap (λ n. cond (nat_eq n 1) 65536 n) (number_same old new kept 2 16 (inl (omega arith)))

pub front_kept : TakesEach → GivesEach → FrontKept
front_kept takes gives = record {
  says = λ old new kept. record { number = number_same old new kept; page = page_same old new kept };
  same = same_front;
  header = header_front;
  steps = front_steps;
  takes = λ page_size count old roots trees trunks sized few whole.
      let taken = takes page_size count old trunks sized few whole.header.there.most whole.header.good whole.freelist in
      head_front old _ taken.leaves.first sized.least;
  gives = λ page_size old roots trees trunks numbers sized whole unnamed.
      let given = gives page_size old trunks numbers sized whole.header.good whole.freelist record {
        each = λ n some. let is = unnamed.each n some in (is.0, is.1, λ free. is.2 (among-back n (used_pages roots trees) (free_pages trunks) free));
        different = unnamed.different;
      } in
      head_front old _ given.leaves.first sized.least;
}
