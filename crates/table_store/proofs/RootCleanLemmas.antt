-- A new root in whole pages meets no page at fault.
use Rattle.std.proofs.Common.{◌≡◌, inl, inr, ℕ, ◌+◌, ◌-◌, nat_eq, Bool, true, false, cond, if◌then◌else◌, List, [], ◌∷◌, ◌++◌, length, replicate, slice_index, Option, None, Some, IsTrue, refl, sym, ap, subst, ◌∙◌, arith}
use Rattle.std.proofs.lemmas.Bool.{cases_lt, eq-eqb, ne_eqb}
use Rattle.db_format.specs.declared.fault.SpaceFault.{SpaceFault}
use Rattle.db_format.specs.declared.fault.SpaceFault.TheVariants.{Failed, Memory, Bad, Corrupt, Large}
use Rattle.page_list.specs.Pages.{Pages, IsGood, Among}
use Rattle.page_list.specs.Freelist.{Trunk, IsFreelist, free_pages, first_trunk, leaf_count, leaf_at}
use Rattle.page_list.specs.Edits.{with_page, leaf_taken, trunk_taken, taken_number, after_take}
use Rattle.page_list.proofs.FreelistLemmas.{not_damaged_holds}
use Rattle.page_list.proofs.TimesLemmas.{among-here, among-cons, among-front, among-at, same_or_other}
use Rattle.page_pool.specs.Space.{SpaceState}
use Rattle.page_pool.specs.Pool.{TakeAsks, TakeRefused}
use Rattle.payload_chain.specs.Chains.{midway, PutRefused}
use Rattle.tree_model.specs.Tree.{Tree}
use Rattle.tree_model.specs.Whole.{IsWholeFor}
use Rattle.tree_search.specs.Search.{IsNoDamage}
use Rattle.rowid_tree.specs.Roots.{RootRefused}

no_bad : (pages : Pages) (page : ℕ) (sums : ℕ × ℕ) → IsGood pages page → pages.bad page ≡ Some sums → ⊥
no_bad pages page sums good bad = cc

-- ---- the take

-- page 1 and the first trunk are good
asks_good : (pages : Pages) (trunks : List Trunk) (page : ℕ) → IsGood pages 1 → IsFreelist pages trunks → ((n : ℕ) → Among (free_pages trunks) n → IsGood pages n)
    → TakeAsks pages page → IsGood pages page
asks_good pages trunks page good is free (inl first) = let P : ℕ → Type 0 = IsGood pages in subst P (sym first) good
asks_good pages [] page good is free (inr trunk) = absurd (omega (arith, trunk.1.least, trunk.2, is.linked))
asks_good pages (t ∷ more) page good is free (inr trunk) =
    let P : ℕ → Type 0 = IsGood pages in subst P (is.linked.0 ∙ sym trunk.2) (free t.number (among-here t.number (t.leaves ++ free_pages more)))

take_clean : (s new : SpaceState) (roots : List ℕ) (trees : List Tree) (trunks : List Trunk) (fault : SpaceFault) → IsTrue s.tells → IsWholeFor s.pages roots trees trunks
    → TakeRefused s new fault → IsNoDamage fault
take_clean s new roots trees trunks Failed t whole refused = tt
take_clean s new roots trees trunks Memory t whole refused = tt
take_clean s new roots trees trunks (Bad page kept found) t whole refused =
    no_bad s.pages page (kept, found) (asks_good s.pages trunks page whole.header.good whole.freelist whole.good_free (refused.asks t)) (refused.fails t)
take_clean s new roots trees trunks (Corrupt page) t whole refused = not_damaged_holds s.pages trunks page whole.freelist (refused.1 t)
take_clean s new roots trees trunks (Large pages) t whole refused = tt

-- ---- the page taken

none_either : (b : Bool) (bad : Option (ℕ × ℕ)) → bad ≡ None → cond b None bad ≡ None
none_either true bad is = refl
none_either false bad is = is

good_leaf : (trunk n : ℕ) (pages : Pages) → IsGood pages n → IsGood (leaf_taken trunk pages) n
good_leaf trunk n pages good = none_either (nat_eq n 1) (if nat_eq n trunk then None else pages.bad n) (none_either (nat_eq n trunk) (pages.bad n) good)

good_trunk : (trunk n : ℕ) (pages : Pages) → IsGood pages n → IsGood (trunk_taken trunk pages) n
good_trunk trunk n pages good = none_either (nat_eq n 1) (pages.bad n) good

good_here : (at : ℕ) (content : List ℕ) (pages : Pages) → IsGood (with_page at content pages) at
good_here at content pages = ap (λ b. cond b None (pages.bad at)) (eq-eqb at at refl)

-- it is one of those that are free, or a new one
taken_good : (page_size : ℕ) (pages : Pages) (trunks : List Trunk) → IsFreelist pages trunks → ((n : ℕ) → Among (free_pages trunks) n → IsGood pages n) → IsGood (after_take page_size pages) (taken_number pages)
unfolding taken_number after_take
taken_good page_size pages [] is free = rw (eq-eqb (first_trunk pages) 0 is.linked) (good_here (pages.size + 1) (replicate page_size 0) pages)
taken_good page_size pages (trunk ∷ more) is free =
    let first : ℕ = first_trunk pages in
    let named : trunk.number ≡ first = is.linked.0 in
    let low = (is.within trunk.number (among-here trunk.number (trunk.leaves ++ free_pages more))).1 in
    let some = ne_eqb first 0 (λ none. omega (arith, none, named, low)) in
    let count : leaf_count pages first ≡ length trunk.leaves = ap (λ n. leaf_count pages n) (sym named) ∙ is.linked.1.counted in
    let G : ℕ → Type 0 = IsGood pages in
    elim (cases_lt 0 (length trunk.leaves)) [
      | inl leaf ↦
          let at : ℕ = length trunk.leaves - 1 in
          let last : leaf_at pages first (leaf_count pages first - 1) ≡ slice_index trunk.leaves at =
          ap (λ n. leaf_at pages first (n - 1)) count ∙ ap (λ n. leaf_at pages n at) (sym named) ∙ is.linked.1.each at (omega (arith, leaf)) in
          let among = among-cons (slice_index trunk.leaves at) trunk.number (trunk.leaves ++ free_pages more)
          (among-front (slice_index trunk.leaves at) trunk.leaves (free_pages more) (among-at at trunk.leaves (slice_index trunk.leaves at) (omega (arith, leaf)) refl)) in
          rw (some, ne_eqb (leaf_count pages first) 0 (λ none. omega (arith, none, count, leaf)))
          (good_leaf first (leaf_at pages first (leaf_count pages first - 1)) pages (subst G (sym last) (free (slice_index trunk.leaves at) among)))
      | inr none ↦
          rw (some, eq-eqb (leaf_count pages first) 0 (omega (arith, count, none)))
          (good_trunk first first pages (subst G named (free trunk.number (among-here trunk.number (trunk.leaves ++ free_pages more)))))
    ]

-- ---- the root

put_clean : (s new : SpaceState) (numbers : List ℕ) (fault : SpaceFault) → IsTrue s.tells → ((n : ℕ) → Among numbers n → IsGood s.pages n) → PutRefused s new numbers fault → IsNoDamage fault
put_clean s new numbers Failed t good refused = tt
put_clean s new numbers Memory t good refused = tt
put_clean s new numbers (Bad page kept found) t good refused = let r = refused t in no_bad s.pages page (kept, found) (good page r.0) r.1
put_clean s new numbers (Corrupt page) t good refused = refused
put_clean s new numbers (Large pages) t good refused = tt

pub root_clean : (s new : SpaceState) (roots : List ℕ) (trees : List Tree) (trunks : List Trunk) (fault : SpaceFault) → IsTrue s.tells → IsWholeFor s.pages roots trees trunks
    → RootRefused s new fault → IsNoDamage fault
root_clean s new roots trees trunks fault t whole (inl take) = take_clean s new roots trees trunks fault t whole take
root_clean s new roots trees trunks fault t whole (inr stops) =
    let number : stops.number ≡ taken_number s.pages = stops.taken.is t in
    let P : Pages → Type 0 = λ pages. IsGood pages (taken_number s.pages) in
    let Q : ℕ → Type 0 = IsGood stops.met.pages in
    let good : IsGood stops.met.pages stops.number =
    subst Q (sym number) (subst P (sym (stops.taken.pages_are t)) (taken_good s.page_size s.pages trunks whole.freelist whole.good_free)) in
    put_clean (midway s stops.met) new (stops.number ∷ []) fault t
    (λ n some. elim (same_or_other n stops.number) as (λ _. IsGood stops.met.pages n) [
      | inl same ↦ subst Q same.0 good
      | inr other ↦ absurd (omega (arith, some, other.1))
    ]) stops.refused.refused
