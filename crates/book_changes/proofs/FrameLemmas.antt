-- What stays beside the trees that change: the pages that nothing names, the counter and the page size.
use Rattle.std.proofs.Common.{◌≡◌, inl, inr, ℕ, zero, suc, ◌+◌, ◌≤◌, ◌<◌, nat_lt, nat_eq, cond, if◌then◌else◌, max, List, [], ◌∷◌, ◌++◌, length, take, drop, map, reverse, slice_index, refl, sym, ap, ap₂, subst, ◌∙◌, arith, lt-ltb, le-ltb, length-take}
use Rattle.std.proofs.lemmas.Bool.{cases_lt}
use Rattle.std.proofs.lemmas.List.{reverse-append, get_or_append_left, drop_all, length-map, length-reverse, take-take}
use Rattle.db_format.specs.Header.{page_of}
use Rattle.db_format.specs.Schema.{tables_in}
use Rattle.db_format.proofs.PutLemmas.{same_number}
use Rattle.page_list.specs.Pages.{Pages, HasPage, SamePage, word, times, Among, AreSized}
use Rattle.page_list.specs.Freelist.{Trunk}
use Rattle.page_list.proofs.ChainLemmas.{times-append, same_or_other}
use Rattle.tree_model.specs.Tree.{Tree}
use Rattle.tree_model.specs.Whole.{HasHeader, IsWholeFor, named_pages}
use Rattle.tree_model.specs.Need.{need, use_of as pages_in_use}
use Rattle.tree_laws.specs.Front.{FreelistFront, FrontKept}
use Rattle.tree_laws.specs.Whole.{StaysUnnamed, missing_in, PagesAddUp}
use Rattle.tree_laws.specs.Replace.{UseWithinNeed}
use Rattle.tree_laws.proofs.RangeLemmas.{in_both}
use Rattle.book_model.specs.Book.{Book, use_of, need_of, IsSized}
use Rattle.book_model.specs.Pages.{IsBookOf}
use Rattle.book_model.specs.Laws.{BookCounts}

-- ---- the pages that are not named

missing_top : (named : List ℕ) (size n : ℕ) → size ≤ n → ((m : ℕ) → size < m → m ≤ n → Among named m) → missing_in named n ≡ missing_in named size
missing_top named size zero less all = let none : 0 ≡ size = omega (arith, less) in ap (missing_in named) none
missing_top named size (suc n) less all = elim (cases_lt size (suc n)) [
  | inl below ↦
      ap (λ b. if b then missing_in named n else suc n ∷ missing_in named n) (lt-ltb 0 (times (suc n) named) (omega (arith, all (suc n) below (omega arith))))
      ∙ missing_top named size n (omega (arith, below)) (λ m a b. all m a (omega (arith, b)))
  | inr above ↦ let same : suc n ≡ size = omega (arith, less, above) in ap (missing_in named) same
]

missing_alike : (a b : List ℕ) (n : ℕ) → ((m : ℕ) → 1 ≤ m → m ≤ n → ¬ (Among a m) → ¬ (Among b m)) → ((m : ℕ) → 1 ≤ m → m ≤ n → ¬ (Among b m) → ¬ (Among a m)) → missing_in b n ≡ missing_in a n
missing_alike a b zero there back = refl
missing_alike a b (suc n) there back =
    let rest = missing_alike a b n (λ m some most. there m some (omega (arith, most))) (λ m some most. back m some (omega (arith, most))) in
    let x : ℕ = times (suc n) a in
    let y : ℕ = times (suc n) b in
    let both : nat_lt 0 y ≡ nat_lt 0 x = elim (cases_lt 0 x) [
      | inl some ↦ elim (cases_lt 0 y) [
        | inl more ↦ lt-ltb 0 y more ∙ sym (lt-ltb 0 x some)
        | inr none ↦ absurd (back (suc n) (omega arith) (omega arith) (λ is. omega (arith, is, none)) (omega (arith, some)))
      ]
      | inr none ↦ elim (cases_lt 0 y) [
        | inl more ↦ absurd (there (suc n) (omega arith) (omega arith) (λ is. omega (arith, is, none)) (omega (arith, more)))
        | inr also ↦ le-ltb 0 y also ∙ sym (le-ltb 0 x none)
      ]
    ] in
    ap₂ (λ c (l : List ℕ). if c then l else suc n ∷ l) both rest

in_one : (P : ℕ → Type 0) (page : ℕ) → P page → (n : ℕ) → Among (page ∷ []) n → P n
in_one P page holds n some = elim (same_or_other n page) [
  | inl same ↦ subst P same.0 holds
  | inr other ↦ absurd (omega (arith, other.1, some))
]

in_missing : (named : List ℕ) (size n : ℕ) → Among (missing_in named size) n → (1 ≤ n) × (n ≤ size) × ¬ (Among named n)
in_missing named zero n some = absurd (omega (arith, some))
in_missing named (suc size) n some = elim (cases_lt 0 (times (suc size) named)) [
  | inl more ↦
      let A : List ℕ → Type 0 = λ l. Among l n in
      let rest = in_missing named size n (subst A (ap (λ b. if b then missing_in named size else suc size ∷ missing_in named size) (lt-ltb 0 (times (suc size) named) more)) some) in
      (rest.0, omega (arith, rest.1), rest.2)
  | inr none ↦
      let A : List ℕ → Type 0 = λ l. Among l n in
      let P : ℕ → Type 0 = λ m. (1 ≤ m) × (m ≤ suc size) × ¬ (Among named m) in
      in_both P (suc size ∷ []) (missing_in named size) (in_one P (suc size) (omega arith, omega arith, λ is. omega (arith, is, none)))
      (λ m is. let rest = in_missing named size m is in (rest.0, omega (arith, rest.1), rest.2)) n
      (subst A (ap (λ b. if b then missing_in named size else suc size ∷ missing_in named size) (le-ltb 0 (times (suc size) named) none)) some)
]

times-reverse : (n : ℕ) (xs : List ℕ) → times n (reverse xs) ≡ times n xs
times-reverse n [] = refl
times-reverse n (x ∷ xs) = ap (times n) (reverse-append (x ∷ []) xs) ∙ omega (arith, times-reverse n xs, times-append n (reverse xs) (x ∷ []))

map_same : {X : Type 0} (f g : ℕ → X) (xs : List ℕ) → ((n : ℕ) → Among xs n → f n ≡ g n) → map f xs ≡ map g xs
map_same f g [] same = refl
map_same {X} f g (x ∷ xs) same =
    ap₂ (λ (y : X) (l : List X). y ∷ l) (same x (omega (arith, times-append x (x ∷ []) xs, here x))) (map_same f g xs (λ n some. same n (omega (arith, times-append n (x ∷ []) xs, some))))
  where
    here : (x : ℕ) → 1 ≤ times x (x ∷ [])
    here x = grind arith

-- what stays from one list of named pages to another
pub record Frame (old new : Pages) (named named' : List ℕ) : Type 0 where
  pub unnamed : (n : ℕ) → HasPage old n → ¬ (Among named n) → (¬ (Among named' n)) × SamePage old new n
  pub none_lost : (n : ℕ) → HasPage new n → ¬ (Among named' n) → HasPage old n × ¬ (Among named n)
  pub no_fewer : old.size ≤ new.size
  pub counter : word new 1 24 ≡ word old 1 24
  pub page : page_of (new.bytes 1) ≡ page_of (old.bytes 1)
  pub usable : new.usable ≡ old.usable

pub two_frames : (old mid new : Pages) (a b c : List ℕ) → Frame old mid a b → Frame mid new b c → Frame old new a c
two_frames old mid new a b c first second = record {
  unnamed = λ n has not.
      let here = first.unnamed n has not in
      let later = second.unnamed n (record { least = has.least; most = omega (arith, has.most, first.no_fewer) }) here.0 in
      (later.0, record { bytes_stay = later.1.bytes_stay ∙ here.1.bytes_stay; mark_stays = later.1.mark_stays ∙ here.1.mark_stays });
  none_lost = λ n has not. let there = second.none_lost n has not in first.none_lost n there.0 there.1;
  no_fewer = omega (arith, first.no_fewer, second.no_fewer);
  counter = second.counter ∙ first.counter;
  page = second.page ∙ first.page;
  usable = second.usable ∙ first.usable;
}

-- the same of lists that name the same pages
pub frame_alike : (old new : Pages) (a b a' b' : List ℕ) → ((n : ℕ) → times n a' ≡ times n a) → ((n : ℕ) → times n b' ≡ times n b) → Frame old new a b → Frame old new a' b'
frame_alike old new a b a' b' first second frame = record {
  unnamed = λ n has not.
      let here = frame.unnamed n has (λ is. not (omega (arith, is, first n))) in
      (λ is. here.0 (omega (arith, is, second n)), here.1);
  none_lost = λ n has not.
      let there = frame.none_lost n has (λ is. not (omega (arith, is, second n))) in
      (there.0, λ is. there.1 (omega (arith, is, first n)));
  no_fewer = frame.no_fewer;
  counter = frame.counter;
  page = frame.page;
  usable = frame.usable;
}

pub missing_same : (old new : Pages) (a b : List ℕ) → Frame old new a b → missing_in b new.size ≡ missing_in a old.size
missing_same old new a b frame =
    missing_top b old.size new.size frame.no_fewer (λ m above most. elim (cases_lt 0 (times m b)) [
      | inl some ↦ omega (arith, some)
      | inr none ↦
          let lost = frame.none_lost m (record { least = omega (arith, above); most = most }) (λ is. omega (arith, is, none)) in
          absurd (omega (arith, lost.0.most, above))
    ])
    ∙ missing_alike a b old.size (λ m some most not. (frame.unnamed m (record { least = some; most = most }) not).0)
    (λ m some most not. (frame.none_lost m (record { least = some; most = omega (arith, most, frame.no_fewer) }) not).1)

pub unnamed_same : (old new : Pages) (a b : List ℕ) → Frame old new a b
    → map {B = ℕ × List ℕ} (λ n. (n, old.bytes n)) (reverse (missing_in a old.size)) ≡ map {B = ℕ × List ℕ} (λ n. (n, new.bytes n)) (reverse (missing_in b new.size))
unnamed_same old new a b frame =
    map_same {X = ℕ × List ℕ} (λ n. (n, old.bytes n)) (λ n. (n, new.bytes n)) (reverse (missing_in a old.size)) (λ n some.
    let is = in_missing a old.size n (omega (arith, some, times-reverse n (missing_in a old.size))) in
    let stays = frame.unnamed n (record { least = is.0; most = is.1 }) is.2 in
    ap (λ (l : List ℕ). (n, l)) (sym stays.1.bytes_stay))
    ∙ ap (λ (l : List ℕ). map {B = ℕ × List ℕ} (λ n. (n, new.bytes n)) (reverse l)) (sym (missing_same old new a b frame))

-- ---- page 1

abbrev unsized : List ℕ → List ℕ
unsized bytes = take 28 bytes ++ (0 ∷ 0 ∷ 0 ∷ 0 ∷ drop 32 bytes)

unsized_byte : (a b : List ℕ) → take 28 a ≡ take 28 b → (k : ℕ) → k < 28 → slice_index (unsized a) k ≡ slice_index (unsized b) k
unsized_byte a b same k within = elim (cases_lt (length (take 28 a)) 28) [
  | inl short ↦
      let long : length (take 28 b) < 28 = omega (arith, short, ap length same) in
      let none : drop 32 a ≡ drop 32 b = drop_all 32 a (omega (arith, short, length-take 28 a)) ∙ sym (drop_all 32 b (omega (arith, long, length-take 28 b))) in
      ap₂ (λ (x y : List ℕ). slice_index (x ++ (0 ∷ 0 ∷ 0 ∷ 0 ∷ y)) k) same none
  | inr long ↦
      get_or_append_left (take 28 a) (0 ∷ 0 ∷ 0 ∷ 0 ∷ drop 32 a) 0 k (omega (arith, long, within))
      ∙ ap (λ (l : List ℕ). slice_index l k) same
      ∙ sym (get_or_append_left (take 28 b) (0 ∷ 0 ∷ 0 ∷ 0 ∷ drop 32 b) 0 k (omega (arith, long, within, ap length same)))
]

unsized_page : (a b : List ℕ) → take 28 a ≡ take 28 b → page_of (unsized a) ≡ page_of (unsized b)
unfolding page_of
unsized_page a b same = ap (λ n. cond (nat_eq n 1) 65536 n) (same_number 2 16 (unsized a) (unsized b) (λ k low high. unsized_byte a b same k (omega (arith, high))))

-- the header says how much of a page is used
pub same_usable : (old new : Pages) → HasHeader old → HasHeader new → FreelistFront old new → new.usable ≡ old.usable
same_usable old new had has front =
    let same : take 28 (new.bytes 1) ≡ take 28 (old.bytes 1) =
    sym (take-take 28 32 (new.bytes 1) (omega arith)) ∙ ap (take 28) front.front ∙ take-take 28 32 (old.bytes 1) (omega arith) in
    omega (arith, has.used, had.used, unsized_page (new.bytes 1) (old.bytes 1) same, unsized_byte (new.bytes 1) (old.bytes 1) same 20 (omega arith))

-- the frame of a change of whole pages
pub frame_of : FrontKept → (old new : Pages) (roots roots' : List ℕ) (trees trees' : List Tree) (trunks trunks' : List Trunk) → IsWholeFor old roots trees trunks
    → IsWholeFor new roots' trees' trunks'
    → ((n : ℕ) → HasPage old n → ¬ (Among (named_pages roots trees trunks) n) → StaysUnnamed old new (named_pages roots' trees' trunks') n)
    → ((n : ℕ) → HasPage new n → ¬ (Among (named_pages roots' trees' trunks') n) → HasPage old n × ¬ (Among (named_pages roots trees trunks) n))
    → old.size ≤ new.size → FreelistFront old new → Frame old new (named_pages roots trees trunks) (named_pages roots' trees' trunks')
frame_of kept old new roots roots' trees trees' trunks trunks' whole whole' unnamed none_lost no_fewer front =
    let says = kept.says old new front in
    record {
      unnamed = λ n has not. let stays = unnamed n has not in (stays.unnamed, stays.same);
      none_lost = none_lost;
      no_fewer = no_fewer;
      counter = says.number 4 24 (inl (omega arith));
      page = says.page;
      usable = same_usable old new whole.header whole'.header front;
    }

-- ---- sizes

-- the bound on the pages that there are, by the books
pub is_tight : BookCounts → (slack : ℕ) (old new : Pages) (book after : Book) → (is : IsBookOf old book) → (is' : IsBookOf new after)
    → new.size + slack ≤ max (old.size + slack) (length (missing_in (named_pages (1 ∷ map (λ table. table.root) (tables_in is.found)) (is.schema ∷ is.trees) is.trunks) old.size)
    + pages_in_use (1 ∷ map (λ table. table.root) (tables_in is.found)) (is.schema ∷ is.trees) + pages_in_use (1 ∷ map (λ table. table.root) (tables_in is'.found)) (is'.schema ∷ is'.trees))
    → after.pages + slack ≤ max (book.pages + slack) (length book.unnamed + use_of book + use_of after)
is_tight counts slack old new book after is is' bound =
    let lost = simp (length-map, length-reverse) at (ap (λ (l : List (ℕ × List ℕ)). length l) is.unnamed_are) in
    let used = counts.in_use old book is in
    let used' = counts.in_use new after is' in
    omega (arith, bound, lost, used, used', is.pages_are, is'.pages_are)

pub is_sized : BookCounts → UseWithinNeed → PagesAddUp → (slack page_size : ℕ) (old new : Pages) (book after : Book) → AreSized page_size new → (is : IsBookOf old book)
    → (is' : IsBookOf new after) → old.size ≤ new.size
    → new.size + slack ≤ max (old.size + slack) (length (missing_in (named_pages (1 ∷ map (λ table. table.root) (tables_in is.found)) (is.schema ∷ is.trees) is.trunks) old.size)
    + pages_in_use (1 ∷ map (λ table. table.root) (tables_in is.found)) (is.schema ∷ is.trees) + pages_in_use (1 ∷ map (λ table. table.root) (tables_in is'.found)) (is'.schema ∷ is'.trees))
    → IsSized book after
is_sized counts within add_up slack page_size old new book after sized is is' no_fewer bound =
    let roots : List ℕ = 1 ∷ map (λ table. table.root) (tables_in is.found) in
    let roots' : List ℕ = 1 ∷ map (λ table. table.root) (tables_in is'.found) in
    let all' = add_up new roots' (is'.schema ∷ is'.trees) is'.trunks is'.whole.whole in
    let lost = simp (length-map, length-reverse) at (ap (λ (l : List (ℕ × List ℕ)). length l) is.unnamed_are) in
    let lost' = simp (length-map, length-reverse) at (ap (λ (l : List (ℕ × List ℕ)). length l) is'.unnamed_are) in
    let used = counts.in_use old book is in
    let used' = counts.in_use new after is' in
    let need' = counts.needed new after is' in
    let few = within page_size new roots' (is'.schema ∷ is'.trees) is'.trunks sized is'.whole.whole in
    record {
      fits = omega (arith, all', lost', is'.pages_are, is'.free_are);
      keeps = omega (arith, no_fewer, is.pages_are, is'.pages_are);
      needed = subst (λ n. n ≤ need_of after) (sym used') (subst (λ n. pages_in_use roots' (is'.schema ∷ is'.trees) ≤ n) (sym (need' ∙ ap (λ u. need u roots' (is'.schema ∷ is'.trees)) is'.usable_is)) few);
      bounded = omega (arith, bound, lost, used, used', is.pages_are, is'.pages_are);
    }
