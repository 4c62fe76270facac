-- The chain of the payload is written, and the pages for the parts are taken: the pages are still whole.
use Rattle.std.proofs.Common.{◌≡◌, ◌≢◌, ◌⊎◌, inl, inr, ℕ, zero, suc, ◌+◌, ◌*◌, ◌≤◌, ◌<◌, List, [], ◌∷◌, ◌++◌, length, refl, sym, ap, subst, ◌∙◌, arith, mul-le-mul_right}
use Rattle.std.proofs.lemmas.Bool.{cases_lt}
use Rattle.db_format.specs.Header.{page_of, IsPageSize, greatest_length}
use Rattle.page_list.specs.Pages.{Pages, HasPage, SamePage, times, Among, AreSized}
use Rattle.page_list.specs.Freelist.{Trunk, free_pages, take_each}
use Rattle.page_list.specs.Chain.{IsChain, pages_needed}
use Rattle.page_list.specs.Edits.{taken_number, taken_numbers, after_takes}
use Rattle.page_list.proofs.EditLemmas.{same-on}
use Rattle.page_list.proofs.TimesLemmas.{times-append}
use Rattle.payload_chain.specs.Chains.{with_chain, first_of}
use Rattle.payload_chain.proofs.CountLemmas.{needed-above, needed-some}
use Rattle.payload_chain.proofs.PutLemmas.{chain-used, chain-size}
use Rattle.payload_chain.proofs.LawLemmas.{chain-written}
use Rattle.tree_page.specs.Laws.{FrontApart}
use Rattle.tree_model.specs.Tree.{Tree, pages_of}
use Rattle.tree_model.specs.Whole.{IsWholeFor, unsized_header, named_pages}
use Rattle.tree_model.specs.Laws.{Keeps}
use Rattle.tree_model.proofs.StayLemmas.{chain_stays}
use Rattle.tree_model.proofs.OthersLemmas.{others, split_named}
use Rattle.tree_model.proofs.WholeLemmas.{one_named, whole_stays}
use Rattle.tree_laws.specs.Front.{FreelistFront}
use Rattle.tree_laws.proofs.KeptLemmas.{front_steps, head_front, same_front}
use Rattle.tree_laws.proofs.TakeLemmas.{not_too_long}
use Rattle.tree_put.specs.Keeps.{IsChained}
use Rattle.tree_put.proofs.TookLemmas.{takes_mono, as_many_taken, none_after, Took, took}

-- the chain of a payload, spilled or not, as one

pub none_needed : (usable : ℕ) → 480 ≤ usable → pages_needed usable 0 ≡ 0
none_needed usable least = elim (cases_lt 0 (pages_needed usable 0)) [
  | inl some ↦ absurd (omega (arith, needed-above usable 0 0 (omega (arith, least)) some))
  | inr none ↦ omega (arith, none)
]

first_taken : (page_size count : ℕ) (pages : Pages) → 1 ≤ count → first_of (taken_numbers page_size count pages) ≡ taken_number pages
first_taken page_size zero pages some = absurd (omega (arith, some))
first_taken page_size (suc count) pages some = refl

abbrev pub chain_count : Pages → List ℕ → ℕ
chain_count old rest = pages_needed old.usable (length rest)

abbrev pub chain_numbers : ℕ → Pages → List ℕ → List ℕ
chain_numbers page_size old rest = taken_numbers page_size (chain_count old rest) old

abbrev Wrote : ℕ → Pages → Pages → List ℕ → ℕ → ℕ → Type 0
Wrote page_size old new rest first count = (first ≡ first_of (taken_numbers page_size count old)) ×
    (new ≡ with_chain page_size (taken_numbers page_size count old) rest (after_takes page_size count old))

as_one : (page_size : ℕ) (old new : Pages) (rest : List ℕ) (first : ℕ) → 480 ≤ old.usable → IsChained page_size old new rest first
    → Wrote page_size old new rest first (chain_count old rest)
as_one page_size old new rest first least (inl none) =
    let P : ℕ → Type 0 = Wrote page_size old new rest first in
    let count : chain_count old rest ≡ 0 = ap (λ (l : List ℕ). pages_needed old.usable (length l)) none.0 ∙ none_needed old.usable least in
    subst P (sym count) (none.1, none.2)
as_one page_size old new rest first least (inr spilled) =
    (spilled.first_is ∙ sym (first_taken page_size (chain_count old rest) old (needed-some old.usable (length rest) (omega (arith, least)) spilled.some)), spilled.pages_are)

-- the chain is written

pub record HasChain (page_size : ℕ) (old new : Pages) (rest : List ℕ) (first : ℕ) (roots : List ℕ) (trees : List Tree) (trunks : List Trunk) : Type 0 where
  pub took_these : Took page_size (chain_count old rest) old roots trees trunks
  pub whole : IsWholeFor new roots trees (take_each (chain_count old rest) trunks)
  pub chain : IsChain new first (chain_numbers page_size old rest) rest
  pub size : new.size ≡ (after_takes page_size (chain_count old rest) old).size
  pub used : new.usable ≡ old.usable
  pub only : (n : ℕ) → ¬ (Among (chain_numbers page_size old rest) n) → SamePage (after_takes page_size (chain_count old rest) old) new n
  pub front : FreelistFront old new

pub has_chain : FrontApart → (page_size : ℕ) (old new : Pages) (rest : List ℕ) (first : ℕ) (roots : List ℕ) (trees : List Tree) (trunks : List Trunk) → IsPageSize page_size
    → page_size ≤ old.usable + 255
    → AreSized page_size old → IsWholeFor old roots trees trunks → IsChained page_size old new rest first → new.size * page_size ≤ greatest_length
    → HasChain page_size old new rest first roots trees trunks
has_chain front_apart page_size old new rest first roots trees trunks size spare sized whole chained few =
    let count : ℕ = chain_count old rest in
    let numbers : List ℕ = chain_numbers page_size old rest in
    let mid : Pages = after_takes page_size count old in
    let wrote = as_one page_size old new rest first sized.least chained in
    let laid : Pages = with_chain page_size numbers rest mid in
    let E : Pages → Type 0 = λ p. p.size * page_size ≤ greatest_length in
    let used_mid : laid.usable ≡ mid.usable = chain-used page_size numbers rest mid in
    let size_mid : laid.size ≡ mid.size = chain-size page_size numbers rest mid in
    let few_mid : mid.size * page_size ≤ greatest_length = let product = ap (λ s. s * page_size) size_mid in omega (arith, product, subst E wrote.1 few) in
    let first_took = took front_apart page_size count old roots trees trunks size spare sized whole few_mid in
    let there : (n : ℕ) → Among numbers n → HasPage mid n = λ n some. (first_took.unnamed.each n some).1 in
    let same_count : length numbers ≡ pages_needed mid.usable (length rest) =
    as_many_taken page_size count old ∙ ap (λ u. pages_needed u (length rest)) (sym first_took.many.leaves.used) in
    let written = chain-written page_size mid numbers rest first_took.sized first_took.unnamed.different there same_count in
    let C : Pages → Type 0 = λ p. IsChain p first numbers rest in
    let F : ℕ → Type 0 = λ f. IsChain laid f numbers rest in
    let O : Pages → Type 0 = λ p. (n : ℕ) → ¬ (Among numbers n) → SamePage mid p n in
    let only : (n : ℕ) → ¬ (Among numbers n) → SamePage mid new n = subst O (sym wrote.1) written.1.each in
    let size_is : new.size ≡ mid.size = ap (λ (p : Pages). p.size) wrote.1 ∙ size_mid in
    let used_is : new.usable ≡ mid.usable = ap (λ (p : Pages). p.usable) wrote.1 ∙ used_mid in
    record {
      took_these = first_took;
      whole = whole_stays mid new roots trees (take_each count trunks) first_took.whole
          (record {
            used = used_is;
            there = λ n named has. record { least = has.least; most = omega (arith, has.most, size_is) };
            same = λ n named. only n (λ some. (first_took.unnamed.each n some).2 named);
          })
          (omega (arith, size_is), (let product = ap (λ s. page_of (unsized_header mid) * s) size_is in omega (arith, product, not_too_long mid first_took.whole.header)));
      chain = subst C (sym wrote.1) (subst F (sym wrote.0) written.0.chain);
      size = size_is;
      used = used_is ∙ first_took.many.leaves.used;
      only = only;
      front = front_steps old mid new (head_front old mid first_took.many.leaves.first sized.least)
          (same_front mid new (only 1 (λ some. omega (arith, (first_took.unnamed.each 1 some).0))));
    }

-- and the pages for the parts are taken

pub record Prepared (page_size count : ℕ) (old mid : Pages) (rest : List ℕ) (first : ℕ) (roots : List ℕ) (before : List Tree) (tree : Tree) (behind : List Tree)
    (trunks left : List Trunk) : Type 0 where
  pub whole : IsWholeFor (after_takes page_size count mid) roots (before ++ tree ∷ behind) left
  pub used : (after_takes page_size count mid).usable ≡ old.usable
  pub chain : IsChain (after_takes page_size count mid) first (chain_numbers page_size old rest) rest
  pub once : (n : ℕ) → others roots before behind left n + times n (pages_of tree) + times n (chain_numbers page_size old rest) + times n (taken_numbers page_size count mid) ≤ 1
  pub least : (n : ℕ) → Among (taken_numbers page_size count mid) n → 2 ≤ n
  pub there : (n : ℕ) → Among (chain_numbers page_size old rest ++ taken_numbers page_size count mid) n → HasPage (after_takes page_size count mid) n
  pub new_ones : (n : ℕ) → HasPage old n → ¬ (Among (named_pages roots (before ++ tree ∷ behind) trunks) n)
      → (others roots before behind left n + times n (pages_of tree) + times n (chain_numbers page_size old rest) + times n (taken_numbers page_size count mid) ≡ 0)
      × SamePage old (after_takes page_size count mid) n × (n ≢ 1)
  pub were_new : (n : ℕ) → HasPage (after_takes page_size count mid) n
      → others roots before behind left n + times n (pages_of tree) + times n (chain_numbers page_size old rest) + times n (taken_numbers page_size count mid) ≡ 0
      → HasPage old n × ¬ (Among (named_pages roots (before ++ tree ∷ behind) trunks) n)
  pub front : FreelistFront old (after_takes page_size count mid)
  pub no_fewer : old.size ≤ (after_takes page_size count mid).size
  pub counted : chain_count old rest + count + length (free_pages left) + old.size ≡ length (free_pages trunks) + (after_takes page_size count mid).size
  pub empty : (left ≡ []) ⊎ ((after_takes page_size count mid).size ≡ old.size)

pub prepared : FrontApart → (page_size count : ℕ) (old mid : Pages) (rest : List ℕ) (first : ℕ) (roots : List ℕ) (before behind : List Tree) (tree : Tree) (trunks : List Trunk)
    → IsPageSize page_size → page_size ≤ old.usable + 255 → AreSized page_size old → AreSized page_size mid → IsWholeFor old roots (before ++ tree ∷ behind) trunks
    → IsChained page_size old mid rest first → (after_takes page_size count mid).size * page_size ≤ greatest_length
    → Prepared page_size count old mid rest first roots before tree behind trunks (take_each count (take_each (chain_count old rest) trunks))
prepared front_apart page_size count old mid rest first roots before behind tree trunks size spare sized mid_sized whole chained few =
    let trees : List Tree = before ++ tree ∷ behind in
    let count0 : ℕ = chain_count old rest in
    let numbers0 : List ℕ = chain_numbers page_size old rest in
    let numbers1 : List ℕ = taken_numbers page_size count mid in
    let new : Pages = after_takes page_size count mid in
    let between : List Trunk = take_each count0 trunks in
    let left : List Trunk = take_each count between in
    let grows = takes_mono page_size count mid in
    let few_mid : mid.size * page_size ≤ greatest_length = omega (arith, few, mul-le-mul_right page_size grows) in
    let c = has_chain front_apart page_size old mid rest first roots trees trunks size spare sized whole chained few_mid in
    let first_took = c.took_these in
    let then_took = took front_apart page_size count mid roots trees between size (omega (arith, spare, c.used)) mid_sized c.whole few in
    let was0 = split_named roots before behind tree trunks in
    let was1 = split_named roots before behind tree between in
    let was2 = split_named roots before behind tree left in
    let from_first : (n : ℕ) → Among numbers0 n → times n (named_pages roots trees between) < 1 = λ n some. not_named n (named_pages roots trees between)
    ((first_took.unnamed.each n some).2) in
    let from_then : (n : ℕ) → Among numbers1 n → times n (named_pages roots trees left) < 1 = λ n some. not_named n (named_pages roots trees left)
    ((then_took.unnamed.each n some).2) in
    let less : (n : ℕ) → times n (free_pages left) ≤ times n (free_pages between) = λ n. left_less n numbers1 (free_pages left) (free_pages between)
    (λ some. (then_took.many.each n some).3) (then_took.many.rest n) in
    let less0 : (n : ℕ) → times n (free_pages between) ≤ times n (free_pages trunks) = λ n. left_less n numbers0 (free_pages between) (free_pages trunks)
    (λ some. (first_took.many.each n some).3) (first_took.many.rest n) in
    let apart : (n : ℕ) → Among numbers1 n → times n numbers0 < 1 = λ n some. elim (cases_lt 0 (times n numbers0)) [
      | inl both ↦ elim (then_took.many.each n some).2 [
        | inl free ↦ absurd (omega (arith, free, from_first n (omega (arith, both)), was1 n))
        | inr beyond ↦ absurd (omega (arith, beyond, (first_took.unnamed.each n (omega (arith, both))).1.most, c.size))
      ]
      | inr none ↦ omega (arith, none)
    ] in
    let once_all : (n : ℕ) → others roots before behind left n + times n (pages_of tree) + times n numbers0 + times n numbers1 ≤ 1 = λ n. elim (cases_lt 0 (times n numbers1)) [
      | inl some ↦ omega (arith, apart n (omega (arith, some)), from_then n (omega (arith, some)), was2 n, then_took.unnamed.different.once n)
      | inr none ↦ elim (cases_lt 0 (times n numbers0)) [
        | inl some ↦ omega (arith, none, from_first n (omega (arith, some)), was1 n, less n, first_took.unnamed.different.once n)
        | inr neither ↦ omega (arith, none, neither, was2 n, then_took.whole.different.once n)
      ]
    ] in
    let keeps : Keeps mid new (λ n. (n ≢ 1) × ¬ (Among (free_pages between) n) × ¬ (Among numbers1 n)) = record {
      used = then_took.many.leaves.used;
      there = λ n kept has. record { least = has.least; most = omega (arith, has.most, grows) };
      same = λ n kept. then_took.many.leaves.others n kept.0 kept.1 kept.2;
    } in
    record {
      whole = then_took.whole;
      used = then_took.many.leaves.used ∙ c.used;
      chain = chain_stays mid new _ first numbers0 rest keeps (λ n some. (
        (λ e. omega (arith, e, (first_took.unnamed.each n some).0)),
        (λ free. omega (arith, free, from_first n some, was1 n)),
        λ again. omega (arith, apart n again, some),
      )) c.chain;
      once = once_all;
      least = λ n some. (then_took.unnamed.each n some).0;
      there = λ n some. elim (cases_lt 0 (times n numbers1)) [
        | inl later ↦ (then_took.unnamed.each n (omega (arith, later))).1
        | inr none ↦
            let here = (first_took.unnamed.each n (omega (arith, some, none, times-append n numbers0 numbers1))).1 in
            record { least = here.least; most = omega (arith, here.most, c.size, grows) }
      ];
      new_ones = λ n has unnamed.
          let nowhere : times n (named_pages roots trees trunks) < 1 = not_named n (named_pages roots trees trunks) unnamed in
          let none0 : times n numbers0 < 1 = elim (cases_lt 0 (times n numbers0)) [
            | inl some ↦ elim (first_took.many.each n (omega (arith, some))).2 [
              | inl free ↦ absurd (omega (arith, free, nowhere, was0 n))
              | inr beyond ↦ absurd (omega (arith, beyond, has.most))
            ]
            | inr none ↦ omega (arith, none)
          ] in
          let none1 : times n numbers1 < 1 = elim (cases_lt 0 (times n numbers1)) [
            | inl some ↦ elim (then_took.many.each n (omega (arith, some))).2 [
              | inl free ↦ absurd (omega (arith, free, nowhere, was0 n, less0 n))
              | inr beyond ↦ absurd (omega (arith, beyond, has.most, first_took.many.no_fewer, c.size))
            ]
            | inr none ↦ omega (arith, none)
          ] in
          let other : n ≢ 1 = λ is_one. unnamed (let P : ℕ → Type 0 = λ m. Among (named_pages roots trees trunks) m in
          subst P (sym is_one) (one_named old roots trees trunks whole.each_tree)) in (
            omega (arith, nowhere, none0, none1, was0 n, less n, less0 n),
            same-on old mid new n
                (same-on old (after_takes page_size count0 old) mid n
                (first_took.many.leaves.others n other (λ free. omega (arith, free, nowhere, was0 n)) (λ some. omega (arith, some, none0)))
                (c.only n (λ some. omega (arith, some, none0))))
                (then_took.many.leaves.others n other (λ free. omega (arith, free, nowhere, was0 n, less0 n)) (λ some. omega (arith, some, none1))),
            other,
          );
      were_new = λ n has none.
          let same1 : times n (free_pages left) ≡ times n (free_pages between) = then_took.many.rest n (λ some. omega (arith, some, none)) in
          let same0 : times n (free_pages between) ≡ times n (free_pages trunks) = first_took.many.rest n (λ some. omega (arith, some, none)) in (
            record {
              least = has.least;
              most = elim (cases_lt old.size n) [
                | inr within ↦ within
                | inl beyond ↦ elim (cases_lt mid.size n) [
                  | inl later ↦ absurd (omega (arith, then_took.added n later has.most, none))
                  | inr earlier ↦ absurd (omega (arith, first_took.added n beyond (omega (arith, earlier, c.size)), none))
                ]
              ];
            },
            λ named. omega (arith, named, was0 n, same0, same1, none),
          );
      front = front_steps old mid new c.front (head_front mid new then_took.many.leaves.first mid_sized.least);
      no_fewer = omega (arith, first_took.many.no_fewer, c.size, grows);
      counted = omega (arith, first_took.counted, then_took.counted, c.size);
      empty = elim first_took.left [
        | inl none ↦ inl (none_after count between none)
        | inr same ↦ elim then_took.left [ inl none ↦ inl none | inr still ↦ inr (still ∙ c.size ∙ same) ]
      ];
    }
  where
    not_named : (n : ℕ) (named : List ℕ) → ¬ (Among named n) → times n named < 1
    not_named n named none = omega (arith, none)

    left_less : (n : ℕ) (numbers after before : List ℕ) → (Among numbers n → ¬ (Among after n)) → (¬ (Among numbers n) → times n after ≡ times n before)
        → times n after ≤ times n before
    left_less n numbers after before gone same = elim (cases_lt 0 (times n numbers)) [
      | inl some ↦ omega (arith, gone (omega (arith, some)))
      | inr none ↦ omega (arith, same (λ some. omega (arith, some, none)))
    ]
