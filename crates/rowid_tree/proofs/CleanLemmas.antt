-- Pages taken, put and given in whole pages meet no page at fault.
use Rattle.std.proofs.Common.{◌≡◌, inl, inr, ℕ, ◌+◌, ◌*◌, ◌≤◌, List, [], ◌∷◌, ◌++◌, length, Some, IsTrue, sym, ap, subst, ◌∙◌, arith, mul-le-mul_left}
use Rattle.db_format.specs.Header.{IsPageSize, greatest_length}
use Rattle.db_format.specs.declared.fault.SpaceFault.{SpaceFault}
use Rattle.db_format.specs.declared.fault.SpaceFault.TheVariants.{Failed, Memory, Bad, Corrupt, Large}
use Rattle.page_list.specs.Pages.{Pages, IsGood, AreSized, times, Among}
use Rattle.page_list.specs.Freelist.{Trunk, IsFreelist, free_pages, take_each, give_each}
use Rattle.page_list.specs.Chain.{IsChain, FailsAt, BreaksAt, pages_needed}
use Rattle.page_list.specs.Edits.{taken_numbers, after_takes}
use Rattle.page_list.proofs.ChainLemmas.{one_chain_holds}
use Rattle.page_list.proofs.FreelistLemmas.{not_damaged_holds}
use Rattle.page_list.proofs.ManyLemmas.{taken_good_holds, gives_keep_holds}
use Rattle.page_list.proofs.TimesLemmas.{times-append, among-here, among-back}
use Rattle.page_pool.specs.Space.{SpaceState, HasSizes}
use Rattle.page_pool.specs.Pool.{TakeAsks, TakeRefused, GiveRefused}
use Rattle.payload_chain.specs.Chains.{midway, StopsTaking, PutRefused, WriteRefused, ReadRefused, StopsGivingEach, StopsFreeing, FreeRefused}
use Rattle.tree_page.specs.Laws.{FrontApart}
use Rattle.tree_model.specs.Tree.{Tree}
use Rattle.tree_model.specs.Whole.{IsWholeFor, named_pages}
use Rattle.tree_model.proofs.WholeLemmas.{one_named}
use Rattle.tree_laws.proofs.CountLemmas.{pages_add_up}
use Rattle.tree_laws.proofs.TakeLemmas.{whole_gives}
use Rattle.tree_put.proofs.TookLemmas.{took}
use Rattle.tree_removed.proofs.GivenLemmas.{AreUnnamed}
use Rattle.tree_search.specs.Search.{IsNoDamage}

no_bad : (pages : Pages) (page : ℕ) (sums : ℕ × ℕ) → IsGood pages page → pages.bad page ≡ Some sums → ⊥
no_bad pages page sums good bad = cc

-- page 1 and the first trunk are good
asks_good : (pages : Pages) (trunks : List Trunk) (page : ℕ) → IsGood pages 1 → IsFreelist pages trunks → ((n : ℕ) → Among (free_pages trunks) n → IsGood pages n)
    → TakeAsks pages page → IsGood pages page
asks_good pages trunks page good is free (inl first) = let P : ℕ → Type 0 = IsGood pages in subst P (sym first) good
asks_good pages [] page good is free (inr trunk) = absurd (omega (arith, trunk.1.least, trunk.2, is.linked))
asks_good pages (t ∷ more) page good is free (inr trunk) =
    let P : ℕ → Type 0 = IsGood pages in subst P (is.linked.0 ∙ sym trunk.2) (free t.number (among-here t.number (t.leaves ++ free_pages more)))

take_clean : (s new : SpaceState) (roots : List ℕ) (trees : List Tree) (trunks : List Trunk) (fault : SpaceFault) → IsTrue s.tells → IsWholeFor s.pages roots trees trunks
    → TakeRefused s new fault → IsNoDamage fault
take_clean s new roots trees trunks Failed told whole refused = tt
take_clean s new roots trees trunks Memory told whole refused = tt
take_clean s new roots trees trunks (Bad page kept found) told whole refused =
    no_bad s.pages page (kept, found) (asks_good s.pages trunks page whole.header.good whole.freelist whole.good_free (refused.asks told)) (refused.fails told)
take_clean s new roots trees trunks (Corrupt page) told whole refused = not_damaged_holds s.pages trunks page whole.freelist (refused.1 told)
take_clean s new roots trees trunks (Large pages) told whole refused = tt

pub taking_clean : FrontApart → (s new : SpaceState) (needed : ℕ) (roots : List ℕ) (trees : List Tree) (trunks : List Trunk) (fault : SpaceFault) → IsTrue s.tells → HasSizes s
    → IsWholeFor s.pages roots trees trunks → StopsTaking s new needed fault → IsNoDamage fault
taking_clean front_apart s new needed roots trees trunks fault told sizes whole stops =
    let is = stops.took.pages_are told in
    let E : Pages → Type 0 = λ p. p.size * s.page_size ≤ greatest_length in
    let W : Pages → Type 0 = λ p. IsWholeFor p roots trees (take_each stops.count trunks) in
    let t = took front_apart s.page_size stops.count s.pages roots trees trunks sizes.size_of_page sizes.spare (sizes.each told) whole (subst E is stops.took.steady.sizes.few) in
    take_clean (midway s stops.met) new roots trees (take_each stops.count trunks) fault told (subst W (sym is) t.whole) stops.refused

-- the pages taken are good
pub all_taken_good : FrontApart → (page_size count : ℕ) (old : Pages) (roots : List ℕ) (trees : List Tree) (trunks : List Trunk) → IsPageSize page_size
    → page_size ≤ old.usable + 255 → AreSized page_size old → IsWholeFor old roots trees trunks → (after_takes page_size count old).size * page_size ≤ greatest_length
    → (n : ℕ) → Among (taken_numbers page_size count old) n → IsGood (after_takes page_size count old) n
all_taken_good front_apart page_size count old roots trees trunks size spare sized whole few =
    let t = took front_apart page_size count old roots trees trunks size spare sized whole few in
    let new : Pages = after_takes page_size count old in
    let small : new.size ≤ 2097152 = omega (arith, few, mul-le-mul_left new.size size.least) in
    taken_good_holds page_size count old trunks sized (omega (arith, t.counted, small, pages_add_up old roots trees trunks whole)) whole.header.there.most whole.header.good
    whole.freelist whole.good_free

pub put_clean : (s new : SpaceState) (numbers : List ℕ) (fault : SpaceFault) → IsTrue s.tells → ((n : ℕ) → Among numbers n → IsGood s.pages n)
    → PutRefused s new numbers fault → IsNoDamage fault
put_clean s new numbers Failed told good refused = tt
put_clean s new numbers Memory told good refused = tt
put_clean s new numbers (Bad page kept found) told good refused = let r = refused told in no_bad s.pages page (kept, found) (good page r.0) r.1
put_clean s new numbers (Corrupt page) told good refused = refused
put_clean s new numbers (Large pages) told good refused = tt

-- a chain written
pub write_clean : FrontApart → (s new : SpaceState) (rest roots : List ℕ) (trees : List Tree) (trunks : List Trunk) (fault : SpaceFault) → IsTrue s.tells → HasSizes s
    → IsWholeFor s.pages roots trees trunks → WriteRefused s new rest fault → IsNoDamage fault
write_clean front_apart s new rest roots trees trunks fault told sizes whole (inl stops) =
    taking_clean front_apart s new (pages_needed s.pages.usable (length rest)) roots trees trunks fault told sizes whole stops
write_clean front_apart s new rest roots trees trunks fault told sizes whole (inr stops) =
    let is = stops.took.pages_are told in
    let needed : ℕ = pages_needed s.pages.usable (length rest) in
    let numbers : List ℕ = taken_numbers s.page_size needed s.pages in
    let E : Pages → Type 0 = λ p. p.size * s.page_size ≤ greatest_length in
    let G : Pages → Type 0 = λ p. (n : ℕ) → Among numbers n → IsGood p n in
    let good = all_taken_good front_apart s.page_size needed s.pages roots trees trunks sizes.size_of_page sizes.spare (sizes.each told) whole
    (subst E is stops.took.steady.sizes.few) in
    put_clean (midway s stops.met) new numbers fault told (subst G (sym is) good) stops.refused

-- pages and a chain given back

give_clean : (s new : SpaceState) (number : ℕ) (roots : List ℕ) (trees : List Tree) (trunks : List Trunk) (fault : SpaceFault) → IsTrue s.tells
    → IsWholeFor s.pages roots trees trunks → IsGood s.pages number → GiveRefused s new number fault → IsNoDamage fault
give_clean s new number roots trees trunks Failed told whole good refused = tt
give_clean s new number roots trees trunks Memory told whole good refused = tt
give_clean s new number roots trees trunks (Bad page kept found) told whole good refused = elim (refused.asks told) [
  | inl head ↦ no_bad s.pages page (kept, found) (asks_good s.pages trunks page whole.header.good whole.freelist whole.good_free head) (refused.fails told)
  | inr itself ↦ let P : ℕ → Type 0 = IsGood s.pages in no_bad s.pages page (kept, found) (subst P (sym itself.2) good) (refused.fails told)
]
give_clean s new number roots trees trunks (Corrupt page) told whole good refused = not_damaged_holds s.pages trunks page whole.freelist (inl (refused.1 told))
give_clean s new number roots trees trunks (Large pages) told whole good refused = tt

read_clean : (s new : SpaceState) (first len : ℕ) (gone bytes : List ℕ) (fault : SpaceFault) → IsTrue s.tells → IsChain s.pages first gone bytes → length bytes ≡ len
    → ReadRefused s new first len fault → IsNoDamage fault
read_clean s new first len gone bytes Failed told chain long refused = tt
read_clean s new first len gone bytes Memory told chain long refused = tt
read_clean s new first len gone bytes (Bad page kept found) told chain long refused =
    let P : ℕ → Type 0 = λ l. FailsAt s.pages first l page (kept, found) in
    one_chain_holds.good s.pages first page (kept, found) gone bytes chain (subst P (sym long) (refused told))
read_clean s new first len gone bytes (Corrupt page) told chain long refused =
    let P : ℕ → Type 0 = λ l. BreaksAt s.pages first l page in
    one_chain_holds.whole s.pages first page gone bytes chain (subst P (sym long) (refused told))
read_clean s new first len gone bytes (Large pages) told chain long refused = tt

-- the chain of a row that is no longer in a tree: its pages are there, and nothing names them
pub record IsLoose (pages : Pages) (first len : ℕ) (named : List ℕ) : Type 0 where
  pub gone : List ℕ
  pub bytes : List ℕ
  pub chain : IsChain pages first gone bytes
  pub long : length bytes ≡ len
  pub unnamed : (n : ℕ) → Among gone n → ¬ (Among named n)

-- pages that nothing names given back, one after the other
pub giving_clean : FrontApart → (s new : SpaceState) (numbers roots : List ℕ) (trees : List Tree) (trunks : List Trunk) (fault : SpaceFault) → IsTrue s.tells → HasSizes s
    → IsWholeFor s.pages roots trees trunks → AreUnnamed s.pages numbers (named_pages roots trees trunks) → StopsGivingEach s new numbers fault → IsNoDamage fault
giving_clean front_apart s new numbers roots trees trunks fault told sizes whole loose stops =
    let given : List ℕ = stops.given in
    let counts : (n : ℕ) → times n given + times n (stops.number ∷ stops.more) ≡ times n numbers =
    λ n. omega (arith, ap (times n) stops.are, times-append n given (stops.number ∷ stops.more)) in
    let number_in : Among numbers stops.number = omega (arith, counts stops.number, among-here stops.number stops.more) in
    let inside : (n : ℕ) → Among given n → Among numbers n = λ n some. omega (arith, some, counts n) in
    let once : (n : ℕ) → times n given ≤ 1 = λ n. omega (arith, counts n, loose.different.once n) in
    let gives = gives_keep_holds s.page_size s.pages trunks given (sizes.each told) whole.header.good whole.freelist
    (record {
      each = λ n some.
          let is = loose.each n (inside n some) in (is.0, is.1, λ free. loose.unnamed n (inside n some) (among-back n _ (free_pages trunks) free));
      different = record { once = once };
    }) in
    let met_whole = whole_gives front_apart gives_keep_holds s.page_size s.pages roots trees trunks given (sizes.each told) whole
    (record {
      each = λ n some. let is = loose.each n (inside n some) in (is.0, is.1, loose.unnamed n (inside n some));
      different = record { once = once };
    })
    (λ n some. (loose.each n (inside n some)).2) in
    let W : Pages → Type 0 = λ p. IsWholeFor p roots trees (give_each s.pages.usable given trunks) in
    let G : Pages → Type 0 = λ p. IsGood p stops.number in
    let is = stops.gave.pages_are told in
    give_clean (midway s stops.met) new stops.number roots trees (give_each s.pages.usable given trunks) fault told (subst W (sym is) met_whole)
    (subst G (sym is) (gives.leaves.good stops.number (loose.each stops.number number_in).2)) stops.refused

freeing_clean : FrontApart → (s new : SpaceState) (first len : ℕ) (roots : List ℕ) (trees : List Tree) (trunks : List Trunk) (fault : SpaceFault) → IsTrue s.tells → HasSizes s
    → IsWholeFor s.pages roots trees trunks → IsLoose s.pages first len (named_pages roots trees trunks) → StopsFreeing s new first len fault → IsNoDamage fault
freeing_clean front_apart s new first len roots trees trunks fault told sizes whole loose stops =
    let chain = loose.chain in
    let all : stops.given ++ stops.number ∷ stops.more ≡ loose.gone =
    (one_chain_holds.one s.pages first (stops.given ++ stops.number ∷ stops.more) loose.gone stops.payload loose.bytes (stops.chain told) chain (stops.long ∙ sym loose.long)).0 in
    let at_least : (n : ℕ) → Among loose.gone n → 2 ≤ n = λ n some.
    let P : ℕ → Type 0 = λ m. ¬ (Among (named_pages roots trees trunks) m) in
    above_one n (chain.walked.each n some).0.least (λ is_one. subst P is_one (loose.unnamed n some) (one_named s.pages roots trees trunks whole.each_tree)) in
    giving_clean front_apart s new loose.gone roots trees trunks fault told sizes whole
    (record {
      different = chain.walked.different;
      each = λ n some. (at_least n some, (chain.walked.each n some).0, (chain.walked.each n some).1);
      unnamed = loose.unnamed;
    })
    (record { given = stops.given; number = stops.number; more = stops.more; are = sym all; met = stops.met; gave = stops.gave; refused = stops.refused })
  where
    above_one : (n : ℕ) → 1 ≤ n → ¬ (n ≡ 1) → 2 ≤ n
    above_one n least other = grind (arith, least, other)

pub free_clean : FrontApart → (s new : SpaceState) (first len : ℕ) (roots : List ℕ) (trees : List Tree) (trunks : List Trunk) (fault : SpaceFault) → IsTrue s.tells → HasSizes s
    → IsWholeFor s.pages roots trees trunks → IsLoose s.pages first len (named_pages roots trees trunks) → FreeRefused s new first len fault → IsNoDamage fault
free_clean front_apart s new first len roots trees trunks fault told sizes whole loose (inl read) =
    read_clean s new first len loose.gone loose.bytes fault told loose.chain loose.long read.1
free_clean front_apart s new first len roots trees trunks fault told sizes whole loose (inr stops) =
    freeing_clean front_apart s new first len roots trees trunks fault told sizes whole loose stops
