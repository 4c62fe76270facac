-- A tree given back in whole pages meets no page at fault.
use Rattle.std.proofs.Common.{◌≡◌, ◌≢◌, inl, inr, ℕ, ◌+◌, List, [], ◌∷◌, ◌++◌, Some, IsTrue, sym, ap, subst, ◌∙◌, arith}
use Rattle.db_format.specs.declared.fault.SpaceFault.{SpaceFault}
use Rattle.db_format.specs.declared.fault.SpaceFault.TheVariants.{Failed, Memory, Bad, Corrupt, Large}
use Rattle.page_list.specs.Pages.{Pages, IsGood, times, Among}
use Rattle.page_list.specs.Freelist.{Trunk, IsFreelist, free_pages, give_each}
use Rattle.page_list.specs.Chain.{OneChain}
use Rattle.page_list.specs.Laws.{GivesEach, NotDamaged}
use Rattle.page_list.proofs.TimesLemmas.{times-append, among-here}
use Rattle.page_pool.specs.Space.{SpaceState, HasSizes}
use Rattle.page_pool.specs.Pool.{TakeAsks, GiveRefused}
use Rattle.payload_chain.specs.Chains.{midway}
use Rattle.tree_page.specs.Page.{OnePage}
use Rattle.tree_model.specs.Tree.{Tree, pages_of}
use Rattle.tree_model.specs.Whole.{IsWholeFor, named_pages}
use Rattle.tree_model.specs.Laws.{OneTree}
use Rattle.tree_model.specs.declared.ends.Fault.TheVariants.{BadPage, Broken}
use Rattle.tree_laws.specs.Whole.{AreUnnamed, WholeGives}
use Rattle.tree_search.specs.Search.{SearchRefused, IsNoDamage}
use Rattle.tree_free.specs.Free.{HoldsFrom, StopsGiving, IsSoundlyRefused}
use Rattle.tree_free.specs.Steps.{FreeFails, FreeStops}
use Rattle.tree_free.proofs.HeldLemmas.{no_meet, whole_holds}
use Rattle.tree_free.proofs.FreedLemmas.{loose, gives_loose}

pub no_bad : (pages : Pages) (page : ℕ) (sums : ℕ × ℕ) → IsGood pages page → pages.bad page ≡ Some sums → ⊥
no_bad pages page sums good bad = cc

-- page 1 and the first trunk are good
pub asks_good : (pages : Pages) (trunks : List Trunk) (page : ℕ) → IsGood pages 1 → IsFreelist pages trunks → ((n : ℕ) → Among (free_pages trunks) n → IsGood pages n)
    → TakeAsks pages page → IsGood pages page
asks_good pages trunks page good is free (inl first) = let P : ℕ → Type 0 = IsGood pages in subst P (sym first) good
asks_good pages [] page good is free (inr trunk) = absurd (omega (arith, trunk.1.least, trunk.2, is.linked))
asks_good pages (t ∷ more) page good is free (inr trunk) =
    let P : ℕ → Type 0 = IsGood pages in subst P (is.linked.0 ∙ sym trunk.2) (free t.number (among-here t.number (t.leaves ++ free_pages more)))

-- a good page given in whole pages
pub give_clean : NotDamaged → (s new : SpaceState) (number : ℕ) (roots : List ℕ) (trees : List Tree) (trunks : List Trunk) (fault : SpaceFault) → IsTrue s.tells
    → IsWholeFor s.pages roots trees trunks → IsGood s.pages number → GiveRefused s new number fault → IsNoDamage fault
give_clean undamaged s new number roots trees trunks Failed told whole good refused = tt
give_clean undamaged s new number roots trees trunks Memory told whole good refused = tt
give_clean undamaged s new number roots trees trunks (Bad page kept found) told whole good refused = elim (refused.asks told) [
  | inl head ↦ no_bad s.pages page (kept, found) (asks_good s.pages trunks page whole.header.good whole.freelist whole.good_free head) (refused.fails told)
  | inr itself ↦ let P : ℕ → Type 0 = IsGood s.pages in no_bad s.pages page (kept, found) (subst P (sym itself.2) good) (refused.fails told)
]
give_clean undamaged s new number roots trees trunks (Corrupt page) told whole good refused = undamaged s.pages trunks page whole.freelist (inl (refused.1 told))
give_clean undamaged s new number roots trees trunks (Large pages) told whole good refused = tt

-- the tree is gone over
walk_clean : OnePage → OneChain → (old new : SpaceState) (root : ℕ) (tree : Tree) (fault : SpaceFault) → IsTrue old.tells → HoldsFrom old.pages root tree
    → SearchRefused old new (FreeFails old.pages root) fault → IsNoDamage fault
walk_clean one_page one_chain old new root tree Failed told holds refused = tt
walk_clean one_page one_chain old new root tree Memory told holds refused = tt
walk_clean one_page one_chain old new root tree (Bad page kept found) told holds refused =
    no_meet one_page one_chain old.pages root (BadPage page) tree holds (refused.1 told).meets
walk_clean one_page one_chain old new root tree (Corrupt page) told holds refused = no_meet one_page one_chain old.pages root (Broken page) tree holds (refused told).meets
walk_clean one_page one_chain old new root tree (Large pages) told holds refused = tt

-- some of its pages are given
stops_clean : GivesEach → WholeGives → NotDamaged → OneTree → (old new : SpaceState) (root : ℕ) (fault : SpaceFault) → IsTrue old.tells → HasSizes old → root ≢ 1
    → StopsGiving old new root fault → IsSoundlyRefused old.pages root fault
stops_clean gives whole_gives undamaged one old new root fault told sizes other stops = record {
  each = λ front back before behind tree trunks long whole.
      let p : Pages = old.pages in
      let given : List ℕ = stops.given in
      let holds = whole_holds p front back root before behind tree trunks long other whole in
      let from = stops.from told in
      let same : stops.tree ≡ tree = one p stops.tree tree from.held holds.held (from.rooted ∙ sym holds.rooted) in
      let all : pages_of tree ≡ given ++ stops.number ∷ stops.more = ap pages_of (sym same) ∙ stops.all in
      let counts : (n : ℕ) → times n (pages_of tree) ≡ times n given + times n (stops.number ∷ stops.more) =
      λ n. ap (times n) all ∙ times-append n given (stops.number ∷ stops.more) in
      let l = loose p front back root before behind tree trunks long other whole in
      let unnamed : AreUnnamed p (named_pages (front ++ back) (before ++ behind) trunks) given = record {
        each = λ n some. l.unnamed.each n (omega (arith, some, counts n));
        different = record { once = λ n. omega (arith, counts n, l.unnamed.different.once n) };
      } in
      let in_tree : Among (pages_of tree) stops.number = omega (arith, counts stops.number, among-here stops.number stops.more) in
      let met_whole = whole_gives old.page_size p (front ++ back) (before ++ behind) trunks given (sizes.each told) l.whole unnamed
      (λ n some. l.good n (omega (arith, some, counts n))) in
      let many = gives_loose gives old.page_size p (front ++ back) (before ++ behind) trunks given (sizes.each told) l.whole unnamed in
      let W : Pages → Type 0 = λ q. IsWholeFor q (front ++ back) (before ++ behind) (give_each p.usable given trunks) in
      let G : Pages → Type 0 = λ q. IsGood q stops.number in
      let is = stops.gave.pages_are told in
      give_clean undamaged (midway old stops.met) new stops.number (front ++ back) (before ++ behind) (give_each p.usable given trunks) fault told (subst W (sym is) met_whole)
      (subst G (sym is) (many.leaves.good stops.number (l.good stops.number in_tree))) stops.refused;
}

pub soundly_refused : OnePage → OneChain → GivesEach → WholeGives → NotDamaged → OneTree → (old new : SpaceState) (root : ℕ) (fault : SpaceFault) → IsTrue old.tells → HasSizes old
    → root ≢ 1 → FreeStops old new root fault → IsSoundlyRefused old.pages root fault
soundly_refused one_page one_chain gives whole_gives undamaged one old new root fault told sizes other (inl read) = record {
  each = λ front back before behind tree trunks long whole.
      walk_clean one_page one_chain old new root tree fault told (whole_holds old.pages front back root before behind tree trunks long other whole) read.1;
}
soundly_refused one_page one_chain gives whole_gives undamaged one old new root fault told sizes other (inr stops) =
    stops_clean gives whole_gives undamaged one old new root fault told sizes other stops
