-- The bytes of a chain, put behind those that were there.
use Rattle.std.proofs.Common.{◌≡◌, inl, inr, ℕ, ◌+◌, ◌-◌, ◌*◌, ◌<◌, min, List, [], ◌∷◌, ◌++◌, length, take, drop, sym, ap, ◌∙◌, arith, append_assoc, append-nil, length-append, length-take, length-drop, IsTrue}
use Rattle.std.proofs.Math.Seq.{take-append-add}
use Rattle.std.proofs.lemmas.Bool.{cases_lt}
use Rattle.std.proofs.lemmas.Grind.{flat_map-append}
use Rattle.std.proofs.lemmas.List.{take-take, take_all, length-take-le}
use Rattle.std.specs.List.{flat_map}
use Rattle.page_list.specs.Chain.{pages_needed, piece}
use Rattle.page_pool.specs.Space.{SpaceState, HasSizes}
use Rattle.payload_chain.specs.Chains.{Found, HasPages}
use Rattle.payload_chain.specs.Steps.{StepsOn}
use Rattle.payload_chain.specs.declared.walk.Walk.{Walk}
use Rattle.payload_chain.proofs.CountLemmas.{needed_enough, needed-above}
use Rattle.payload_chain.proofs.WalkLemmas.{WalksAlong, pieces-long}

-- what holds of the bytes while a walk goes on: so many are left, and the others stand behind those before
pub record ReadsAlong (old : SpaceState) (len left count : ℕ) (numbers before after : List ℕ) : Type 0 where
  pub more : List ℕ
  pub behind : after ≡ before ++ more
  pub left_is : left ≡ len - (old.pages.usable - 4) * count
  pub long : length more + left ≡ len
  pub told : IsTrue old.tells → more ≡ take len (flat_map (piece old.pages) numbers)

take-less : (m n : ℕ) (l : List ℕ) → take m (take n l) ≡ take (min m n) l
take-less m n l = elim (cases_lt m n) as (λ _. take m (take n l) ≡ take (min m n) l) [
  | inl less ↦ let e : min m n ≡ m = omega arith in rw e (take-take m n l (omega arith))
  | inr more ↦ let e : min m n ≡ n = omega arith in rw e (take_all m (take n l) (omega (arith, length-take n l)))
]

-- so many bytes of full pages and of one page more
front-more : (len left : ℕ) (full more : List ℕ) → length full + left ≡ len → take len full ++ take left more ≡ take len (full ++ more)
front-more len left full more long =
    ap (λ l. l ++ take left more) (take_all len full (omega arith)) ∙ sym (take-append-add full more left) ∙ ap (λ n. take n (full ++ more)) long

pub reads-on : {old now : SpaceState} {first len left count : ℕ} {walk after : Walk} {page before out : List ℕ} (left' : ℕ) (out' : List ℕ) → HasSizes old
    → WalksAlong old now first count walk → ReadsAlong old len left count walk.numbers.items before out → count < pages_needed old.pages.usable len
    → StepsOn now walk after page → left' ≡ left - (now.pages.usable - 4) → out' ≡ out ++ take (min left (now.pages.usable - 4)) (drop 4 page)
    → ReadsAlong old len left' (count + 1) after.numbers.items before out'
reads-on {old = old} {now = now} {len = len} {left = left} {count = count} {walk = walk} {after = after} {page = page} {before = before} {out = out} left' out' sizes along reads fewer steps left_is out_is =
    let room : ℕ = old.pages.usable - 4 in
    let used : now.pages.usable ≡ old.pages.usable = along.steady.used in
    let least = sizes.least in
    let most = sizes.most in
    let above = needed-above old.pages.usable len count (omega arith) fewer in
    let taken : List ℕ = take (min left (now.pages.usable - 4)) (drop 4 page) in
    let sized = along.steady.sized in
    let long : length taken ≡ min left room = length-take-le (min left (now.pages.usable - 4)) (drop 4 page) (omega (arith, length-drop 4 page, steps.one_page)) ∙ ap (λ u. min left (u - 4)) used in
    record {
      more = reads.more ++ taken;
      behind = out_is ∙ ap (λ l. l ++ taken) reads.behind ∙ append_assoc before reads.more taken;
      left_is = omega (arith, reads.left_is, left_is);
      long = omega (arith, reads.left_is, reads.long, left_is, long, length-append reads.more taken);
      told = λ t.
          let full : List ℕ = flat_map (piece old.pages) walk.numbers.items in
          let next : List ℕ = piece old.pages walk.next in
          let whole : length full + left ≡ len = let e = ap (λ n. room * n) along.as_many in omega (arith, pieces-long old walk.numbers.items sizes t along.there, e, reads.left_is) in
          let page_is : page ≡ old.pages.bytes walk.next = steps.holds_page (along.steady.told ∙ t) ∙ ap (λ p. p.bytes walk.next) (along.stays.pages_stay t) in
          let part : taken ≡ take left next = (λ i. take (min left (used i - 4)) (drop 4 (page_is i))) ∙ sym (take-less left room (drop 4 (old.pages.bytes walk.next))) in
          let joined : full ++ next ≡ flat_map (piece old.pages) after.numbers.items =
          ap (λ l. full ++ l) (sym (append-nil next)) ∙ sym (flat_map-append (piece old.pages) walk.numbers.items (walk.next ∷ []))
          ∙ ap (λ l. flat_map (piece old.pages) l) (sym steps.numbers_grow) in
          (λ i. reads.told t i ++ part i) ∙ front-more len left full next whole ∙ ap (λ l. take len l) joined;
    }

-- the bytes are those of the chain
pub reads-found : {old : SpaceState} {first len left count : ℕ} {numbers before after : List ℕ} → ReadsAlong old len left count numbers before after
    → HasPages old first len numbers → IsTrue old.tells → Found old.pages first len before after
reads-found {old = old} {numbers = numbers} {before = before} reads has t = record {
  numbers = numbers;
  payload = has.payload;
  chain = has.chain t;
  long = has.long;
  behind = reads.behind ∙ ap (λ l. before ++ l)
      (reads.told t ∙ ap (λ n. take n (flat_map (piece old.pages) numbers)) (sym has.long) ∙ sym (has.chain t).holds);
}

pub reads-all : {old : SpaceState} {len left count : ℕ} {numbers before after : List ℕ} → HasSizes old → ReadsAlong old len left count numbers before after
    → count ≡ pages_needed old.pages.usable len → length after ≡ length before + len
reads-all {old = old} {len = len} {before = before} sizes reads is =
    let least = sizes.least in
    let enough = needed_enough old.pages.usable len (omega arith) in
    let product = ap (λ n. (old.pages.usable - 4) * n) is in
    ap (λ l. length l) reads.behind ∙ length-append before reads.more ∙ omega (arith, reads.long, reads.left_is)
