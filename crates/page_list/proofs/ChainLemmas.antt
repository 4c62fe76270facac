-- Walks along chains.
use Rattle.std.proofs.Common.{◌≡◌, inl, inr, ℕ, ◌≤◌, ◌<◌, List, [], ◌∷◌, ◌++◌, length, take, drop, ◌-◌, refl, sym, ap, ◌∙◌, subst, arith}
use Rattle.std.specs.List.{flat_map}
use Rattle.byte_base.specs.Numbers.{number_at}
use Rattle.page_list.specs.Pages.{Pages, HasPage, IsGood, SamePage, times, Among}
use Rattle.page_list.specs.Chain.{AreLinked, HasWalked, IsChain, BreaksAt, FailsAt, OneChain, next_page, holder, piece, pages_needed}
use Rattle.page_list.specs.Laws.{ChainStays}
pub use Rattle.page_list.proofs.TimesLemmas.{times-append, times-same, times-other, same_or_other, among-cons, among-here}
pub use Rattle.page_list.proofs.TimesLemmas.{among-front, among-back, among-more, not_among, different-more}

-- a walk goes on by a page that is there, is good and was not met
pub linked-more : (pages : Pages) (first next : ℕ) (numbers : List ℕ) → AreLinked pages first numbers next
    → AreLinked pages first (numbers ++ next ∷ []) (next_page pages next)
linked-more pages first next [] is = (is, refl)
linked-more pages first next (n ∷ more) linked = (linked.0, linked-more pages (next_page pages n) next more linked.1)

pub holder-more : (first x : ℕ) (numbers : List ℕ) → holder first (numbers ++ x ∷ []) ≡ x
holder-more first x [] = refl
holder-more first x (n ∷ more) = holder-more n x more

pub walked-none : (pages : Pages) (first : ℕ) → HasWalked pages first [] first
walked-none pages first = record {
  linked = refl;
  each = λ number none. absurd (omega arith);
  different = record { once = λ number. omega arith };
}

pub walked-more : (pages : Pages) (first next : ℕ) (numbers : List ℕ) → HasWalked pages first numbers next
    → HasPage pages next → IsGood pages next → ¬ (Among numbers next)
    → HasWalked pages first (numbers ++ next ∷ []) (next_page pages next)
walked-more pages first next numbers walked there good new = record {
  linked = linked-more pages first next numbers walked.linked;
  each = λ number among. elim (among-more number next numbers among) as (λ _. HasPage pages number × IsGood pages number) [
    | inl before ↦ walked.each number before
    | inr same ↦ let P : ℕ → Type 0 = λ n. HasPage pages n × IsGood pages n in subst P same (there, good)
  ];
  different = different-more next numbers walked.different new;
}

cons_same : (n n' : ℕ) (more more' : List ℕ) → n ≡ n' → more ≡ more' → n ∷ more ≡ n' ∷ more'
cons_same n n' more more' p q = cc

pieces_same : (pages : Pages) (a b : List ℕ) (m n : ℕ) → a ≡ b → m ≡ n → take m (flat_map (piece pages) a) ≡ take n (flat_map (piece pages) b)
pieces_same pages a b m n p q = cc

-- two walks from a first page over as many pages are the same
pub linked-same : (pages : Pages) (first next next' : ℕ) (numbers numbers' : List ℕ) → AreLinked pages first numbers next
    → AreLinked pages first numbers' next' → length numbers ≡ length numbers' → (numbers ≡ numbers') × (next ≡ next')
linked-same pages first next next' [] [] is is' long = (refl, is ∙ sym is')
linked-same pages first next next' [] (n ∷ more) is is' long = absurd (omega arith)
linked-same pages first next next' (n ∷ more) [] is is' long = absurd (omega arith)
linked-same pages first next next' (n ∷ more) (n' ∷ more') is is' long =
    let same : n ≡ n' = is.0 ∙ sym is'.0 in
    let P : ℕ → Type 0 = λ m. AreLinked pages (next_page pages m) more next in
    let rest = linked-same pages (next_page pages n') next next' more more' (subst P same is.1) is'.1 (omega arith) in
    (cons_same n n' more more' same rest.0, rest.1)

-- a walk over fewer pages is the front of one over more, and its next page is the next of them
pub linked-front : (pages : Pages) (first next next' : ℕ) (numbers numbers' : List ℕ) → AreLinked pages first numbers next
    → AreLinked pages first numbers' next' → length numbers' < length numbers → (more : List ℕ) × (numbers ≡ numbers' ++ next' ∷ more)
linked-front pages first next next' [] numbers' is is' fewer = absurd (omega arith)
linked-front pages first next next' (n ∷ more) [] is is' fewer = (more, cons_same n next' more more (is.0 ∙ sym is') refl)
linked-front pages first next next' (n ∷ more) (n' ∷ more') is is' fewer =
    let same : n ≡ n' = is.0 ∙ sym is'.0 in
    let P : ℕ → Type 0 = λ m. AreLinked pages (next_page pages m) more next in
    let rest = linked-front pages (next_page pages n') next next' more more' (subst P same is.1) is'.1 (omega arith) in
    (rest.0, cons_same n n' more (more' ++ next' ∷ rest.0) same rest.1)

one : (pages : Pages) (first : ℕ) (numbers numbers' payload payload' : List ℕ) → IsChain pages first numbers payload
    → IsChain pages first numbers' payload' → length payload ≡ length payload' → (numbers ≡ numbers') × (payload ≡ payload')
one pages first numbers numbers' payload payload' chain chain' long =
    let as_many : length numbers ≡ length numbers' = chain.enough ∙ ap (pages_needed pages.usable) long ∙ sym chain'.enough in
    let same = (linked-same pages first 0 0 numbers numbers' chain.walked.linked chain'.walked.linked as_many).0 in
    (same, chain.holds ∙ pieces_same pages numbers numbers' (length payload) (length payload') same long ∙ sym chain'.holds)

-- the page that a shorter walk would go on with is in the chain, and was not met
next_is_there : (pages : Pages) (first next : ℕ) (numbers payload before : List ℕ) → IsChain pages first numbers payload
    → HasWalked pages first before next → length before < length numbers → Among numbers next × ¬ (Among before next)
next_is_there pages first next numbers payload before chain walked fewer =
    let front = linked-front pages first 0 next numbers before chain.walked.linked walked.linked fewer in
    let P : List ℕ → Type 0 = λ l. Among l next in
    let Q : List ℕ → Type 0 = λ l. times next l ≤ 1 in
    let once : times next (before ++ next ∷ front.0) ≤ 1 = subst Q front.1 (chain.walked.different.once next) in (
      subst P (sym front.1) (among-back next before (next ∷ front.0) (among-here next front.0)),
      λ met. let joined = times-append next before (next ∷ front.0) in let here = among-here next front.0 in omega arith,
    )

whole : (pages : Pages) (first page : ℕ) (numbers payload : List ℕ) → IsChain pages first numbers payload → ¬ (BreaksAt pages first (length payload) page)
whole pages first page numbers payload chain breaks =
    elim breaks.why [
      | inl short ↦
          let fewer : length breaks.numbers < length numbers = omega (arith, chain.enough, short.0) in
          let there = next_is_there pages first breaks.next numbers payload breaks.numbers chain breaks.walked fewer in
          elim short.1 [
            | inl leaves ↦ leaves.0 (chain.walked.each breaks.next there.0).0
            | inr again ↦ there.1 again.0
          ]
      | inr late ↦
          let as_many : length numbers ≡ length breaks.numbers = chain.enough ∙ sym late.0 in
          late.1 (sym (linked-same pages first 0 breaks.next numbers breaks.numbers chain.walked.linked breaks.walked.linked as_many).1)
    ]

good : (pages : Pages) (first page : ℕ) (sums : ℕ × ℕ) (numbers payload : List ℕ) → IsChain pages first numbers payload
    → ¬ (FailsAt pages first (length payload) page sums)
good pages first page sums numbers payload chain fails =
    let fewer : length fails.numbers < length numbers = omega (arith, chain.enough, fails.needed) in
    let there = next_is_there pages first page numbers payload fails.numbers chain fails.walked fewer in
    let is_good = (chain.walked.each page there.0).1 in
    let is_bad = fails.fails in cc

pub one_chain_holds : OneChain
one_chain_holds = record { one = one; whole = whole; good = good }

-- a chain depends on no pages but its own
abbrev AllStay : Pages → Pages → List ℕ → Type 0
AllStay old new numbers = (number : ℕ) → Among numbers number → HasPage new number × SamePage old new number

all_stay-more : (old new : Pages) (n : ℕ) (more : List ℕ) → AllStay old new (n ∷ more) → AllStay old new more
all_stay-more old new n more stay = λ m some. stay m (among-cons m n more some)

linked_stays : (old new : Pages) (first : ℕ) (numbers : List ℕ) (next : ℕ) → AllStay old new numbers → AreLinked old first numbers next → AreLinked new first numbers next
linked_stays old new first [] next stay linked = linked
linked_stays old new first (n ∷ more) next stay linked =
    let P : ℕ → Type 0 = λ then. AreLinked new then more next in
    let same : next_page old n ≡ next_page new n = ap (λ (bytes : List ℕ). number_at 4 bytes 0) (sym (stay n (among-here n more)).1.bytes_stay) in
    (linked.0, subst P same (linked_stays old new (next_page old n) more next (all_stay-more old new n more stay) linked.1))

pieces_stay : (old new : Pages) (numbers : List ℕ) → new.usable ≡ old.usable → AllStay old new numbers → flat_map (piece new) numbers ≡ flat_map (piece old) numbers
pieces_stay old new [] used stay = refl
pieces_stay old new (n ∷ more) used stay =
    let here : piece new n ≡ piece old n =
    ap (λ u. take (u - 4) (drop 4 (new.bytes n))) used ∙ ap (λ (bytes : List ℕ). take (old.usable - 4) (drop 4 bytes)) (stay n (among-here n more)).1.bytes_stay in
    ap (λ (bytes : List ℕ). bytes ++ flat_map (piece new) more) here
    ∙ ap (λ (bytes : List ℕ). piece old n ++ bytes) (pieces_stay old new more used (all_stay-more old new n more stay))

pub chain_stays_holds : ChainStays
chain_stays_holds old new first numbers payload used stay chain = record {
  walked = record {
    linked = linked_stays old new first numbers 0 stay chain.walked.linked;
    each = λ n some. ((stay n some).0, (stay n some).1.mark_stays ∙ (chain.walked.each n some).1);
    different = chain.walked.different;
  };
  enough = chain.enough ∙ ap (λ u. pages_needed u (length payload)) (sym used);
  holds = chain.holds ∙ ap (λ (bytes : List ℕ). take (length payload) bytes) (sym (pieces_stay old new numbers used stay));
}
