-- What a caller of a page space knows of whole pages, from the laws and the contracts alone: over a take, a put on a page
-- that nothing names, and a give.
use Rattle.std.proofs.Common.{◌≡◌, ◌≢◌, ◌⊎◌, inl, inr, ℕ, ◌+◌, ◌-◌, ◌*◌, ◌≤◌, ◌<◌, IsTrue, List, [], ◌∷◌, ◌++◌}
use Rattle.std.proofs.Common.{length, take, drop, replicate, get_or, Some, refl, sym, ap, ◌∙◌, subst, arith, mul-le-mul_left}
use Rattle.std.proofs.lemmas.Bool.{eq-eqb, ne_eqb}
use Rattle.std.proofs.lemmas.List.{get_or-drop, get_or-replicate, length-replicate}
use Rattle.std.proofs.lemmas.Option.{slice_get-get_or}
use Rattle.std.proofs.Math.Seq.{take-append_seam}
use Rattle.db_format.specs.Header.{greatest_length, IsPageSize}
use Rattle.page_list.specs.Pages.{Pages, HasPage, IsGood, SamePage, times, Among, AreSized}
use Rattle.page_list.specs.Freelist.{Trunk, free_pages, taken_page, take_from, give_to}
use Rattle.page_list.specs.Edits.{with_page, taken_number, after_take, after_give}
use Rattle.page_list.specs.Laws.{Takes, TakenGood, Gives}
use Rattle.page_list.proofs.TimesLemmas.{times-append, times-other, same_or_other, times_one, among-here, among-back}
use Rattle.page_pool.specs.Space.{SpaceState, HasSizes, Steady, Put, IsZeroFrom}
use Rattle.page_pool.specs.Pool.{Taken, Given}
use Rattle.tree_page.specs.declared.cell.PageCells.{PageCells}
use Rattle.tree_page.specs.Page.{IsPage}
use Rattle.tree_page.specs.Written.{Fits}
use Rattle.tree_model.specs.Tree.{Tree}
use Rattle.tree_model.specs.Whole.{HasHeader, IsWholeFor, used_pages, named_pages}
use Rattle.tree_model.specs.Laws.{Admits, WholeStays}
use Rattle.tree_laws.specs.Front.{HeaderSize}
use Rattle.tree_laws.specs.Whole.{WholeTakes, WholeGives}
use Rattle.page_tests.specs.Caller.{LeavesLeaf}
use Rattle.page_tests.proofs.leaf_callers.leaf_and_back.Goals as goal

-- what the space says of its pages after every call
record Fine (page_size usable : ℕ) (pages : Pages) : Type 0 where
  power : IsPageSize page_size
  spare : page_size ≤ pages.usable + 255
  few : pages.size * page_size ≤ greatest_length
  sized : AreSized page_size pages
  used : pages.usable ≡ usable

few_pages : (page_size usable : ℕ) (pages : Pages) → Fine page_size usable pages → pages.size + 1 < 4294967296
few_pages page_size usable pages is = omega (arith, mul-le-mul_left pages.size is.power.least, is.few)

-- the header admits as many pages as the space has
admits : HeaderSize → (page_size usable : ℕ) (old new : Pages) → HasHeader old → Fine page_size usable old → Fine page_size usable new → old.size ≤ new.size → Admits old new
admits header_size page_size usable old new header was is grows =
    let same = header_size old page_size header was.power was.sized.most was.spare in
    let P : ℕ → Type 0 = λ n. n * new.size ≤ greatest_length in
    let enough : page_size * new.size ≤ greatest_length = omega (arith, is.few) in
    (grows, subst P (sym same) enough)

-- a page was taken from whole pages
record Took (number : ℕ) (old new : Pages) (roots : List ℕ) (trees : List Tree) (trunks : List Trunk) : Type 0 where
  whole : IsWholeFor new roots trees (take_from trunks)
  unnamed : ¬ (Among (named_pages roots trees (take_from trunks)) number)
  behind : 2 ≤ number
  there : HasPage new number
  good : IsGood new number
  is : number ≡ taken_page old.size trunks
  came : Among (free_pages trunks) number ⊎ (old.size < number)
  rest : (n : ℕ) → n ≢ number → times n (free_pages (take_from trunks)) ≡ times n (free_pages trunks)
  grows : old.size ≤ new.size
  others : (n : ℕ) → n ≢ 1 → ¬ (Among (free_pages trunks) n) → n ≢ number → SamePage old new n

not_alone : (n x : ℕ) → n ≢ x → ¬ (Among (x ∷ []) n)
not_alone n x other among = omega (arith, times-other n x (λ e. other (sym e)), among)

took_one : Takes → TakenGood → WholeTakes → HeaderSize → (page_size usable : ℕ) (old : Pages) (roots : List ℕ) (trees : List Tree) (trunks : List Trunk)
    → Fine page_size usable old → Fine page_size usable (after_take page_size old) → IsWholeFor old roots trees trunks
    → Took (taken_number old) old (after_take page_size old) roots trees trunks
took_one takes good whole_takes header_size page_size usable old roots trees trunks was is whole =
    let n : ℕ = taken_number old in
    let new : Pages = after_take page_size old in
    let one = takes page_size old trunks was.sized whole.header.there.most whole.header.good whole.freelist in
    let few = few_pages page_size usable old was in
    let grows : old.size ≤ new.size = elim one.size [ inl grew ↦ omega (arith, grew.1) | inr stays ↦ omega (arith, stays.1) ] in
    let both = whole_takes page_size 1 old roots trees trunks was.sized few whole (admits header_size page_size usable old new whole.header was is grows) in
    record {
      whole = both.0;
      unnamed = (both.1.each n (among-here n [])).2;
      behind = one.behind;
      there = one.there;
      good = good page_size 1 old trunks was.sized few whole.header.there.most whole.header.good whole.freelist whole.good_free n (among-here n []);
      is = one.is;
      came = elim one.came [ inl free ↦ inl free | inr fresh ↦ inr (omega (arith, fresh.1)) ];
      rest = one.rest;
      grows = grows;
      others = λ m not_1 free other. one.leaves.others m not_1 free (not_alone m n other);
    }

took : Takes → TakenGood → WholeTakes → HeaderSize → (page_size usable number : ℕ) (old new : Pages) (roots : List ℕ) (trees : List Tree) (trunks : List Trunk)
    → number ≡ taken_number old → new ≡ after_take page_size old → Fine page_size usable old → Fine page_size usable new → IsWholeFor old roots trees trunks
    → Took number old new roots trees trunks
took takes good whole_takes header_size page_size usable number old new roots trees trunks number_is new_is was is whole =
    let F : Pages → Type 0 = λ p. Fine page_size usable p in
    let P : Pages → Type 0 = λ p. Took (taken_number old) old p roots trees trunks in
    let Q : ℕ → Type 0 = λ n. Took n old new roots trees trunks in
    subst Q (sym number_is) (subst P (sym new_is) (took_one takes good whole_takes header_size page_size usable old roots trees trunks was (subst F new_is is) whole))

-- a page that nothing names was put
put_beside : (at : ℕ) (content : List ℕ) (old : Pages) (n : ℕ) → n ≢ at → SamePage old (with_page at content old) n
put_beside at content old n other = let e = ne_eqb n at other in record { bytes_stay = rw e refl; mark_stays = rw e refl }

put_here : (at : ℕ) (content : List ℕ) (old : Pages) → ((with_page at content old).bytes at ≡ content) × IsGood (with_page at content old) at
put_here at content old = let e = eq-eqb at at refl in (rw e refl, rw e refl)

whole_put : WholeStays → HeaderSize → (page_size usable at : ℕ) (content : List ℕ) (old : Pages) (roots : List ℕ) (trees : List Tree) (trunks : List Trunk)
    → Fine page_size usable old → Fine page_size usable (with_page at content old) → IsWholeFor old roots trees trunks
    → ¬ (Among (named_pages roots trees trunks) at) → IsWholeFor (with_page at content old) roots trees trunks
whole_put stays header_size page_size usable at content old roots trees trunks was is whole unnamed =
    let new : Pages = with_page at content old in
    let P : ℕ → Type 0 = λ n. Among (named_pages roots trees trunks) n in
    stays old new roots trees trunks whole
    record {
      used = refl;
      there = λ n named has. record { least = has.least; most = has.most };
      same = λ n named. put_beside at content old n (λ e. unnamed (subst P e named));
    }
    (admits header_size page_size usable old new whole.header was is (omega arith))

-- a page was given that nothing names
record Gave (usable number : ℕ) (old new : Pages) (roots : List ℕ) (trees : List Tree) (trunks : List Trunk) : Type 0 where
  whole : IsWholeFor new roots trees (give_to usable number trunks)
  count : (n : ℕ) → times n (free_pages (give_to usable number trunks)) ≡ times n (number ∷ free_pages trunks)
  size : new.size ≡ old.size
  others : (n : ℕ) → n ≢ 1 → ¬ (Among (free_pages trunks) n) → n ≢ number → SamePage old new n

gave_one : Gives → WholeGives → (page_size number : ℕ) (old : Pages) (roots : List ℕ) (trees : List Tree) (trunks : List Trunk) → AreSized page_size old
    → IsWholeFor old roots trees trunks → 2 ≤ number → HasPage old number → IsGood old number → ¬ (Among (named_pages roots trees trunks) number)
    → Gave old.usable number old (after_give page_size number old) roots trees trunks
gave_one gives whole_gives page_size number old roots trees trunks sized whole behind there good unnamed =
    let named_free : (n : ℕ) → Among (free_pages trunks) n → Among (named_pages roots trees trunks) n =
    λ n free. among-back n (used_pages roots trees) (free_pages trunks) free in
    let one = gives page_size old trunks number sized whole.header.good whole.freelist there behind (λ free. unnamed (named_free number free)) in
    let P : ℕ → Type 0 = λ n. (2 ≤ n) × HasPage old n × ¬ (Among (named_pages roots trees trunks) n) in
    let G : ℕ → Type 0 = λ n. IsGood old n in
    let alone : (n : ℕ) → Among (number ∷ []) n → number ≡ n = λ n among. elim (same_or_other n number) [
      | inl same ↦ same.0
      | inr other ↦ absurd (omega (arith, other.1, among))
    ] in
    record {
      whole = whole_gives page_size old roots trees trunks (number ∷ []) sized whole
          record {
            each = λ n among. subst P (alone n among) (behind, there, unnamed);
            different = record { once = λ n. omega (arith, times_one n number) };
          }
          (λ n among. subst G (alone n among) good);
      count = one.count;
      size = one.size;
      others = λ n not_1 free other. one.leaves.others n not_1 free (not_alone n number other);
    }

gave : Gives → WholeGives → (page_size usable number : ℕ) (old new : Pages) (roots : List ℕ) (trees : List Tree) (trunks : List Trunk)
    → new ≡ after_give page_size number old → Fine page_size usable old → IsWholeFor old roots trees trunks → 2 ≤ number → HasPage old number → IsGood old number
    → ¬ (Among (named_pages roots trees trunks) number) → Gave usable number old new roots trees trunks
gave gives whole_gives page_size usable number old new roots trees trunks new_is was whole behind there good unnamed =
    let P : Pages → Type 0 = λ p. Gave old.usable number old p roots trees trunks in
    let Q : ℕ → Type 0 = λ u. Gave u number old new roots trees trunks in
    subst Q was.used (subst P (sym new_is) (gave_one gives whole_gives page_size number old roots trees trunks was.sized whole behind there good unnamed))

-- all the laws that the caller cites
record Laws : Type 0 where
  takes : Takes
  good : TakenGood
  gives : Gives
  stays : WholeStays
  whole_takes : WholeTakes
  whole_gives : WholeGives
  header : HeaderSize

same-on : (old mid new : Pages) (n : ℕ) → SamePage old mid n → SamePage mid new n → SamePage old new n
same-on old mid new n a b = record { bytes_stay = b.bytes_stay ∙ a.bytes_stay; mark_stays = b.mark_stays ∙ a.mark_stays }

-- what the five states of the pages have to do with each other
record Steps (page_size : ℕ) (content : List ℕ) (page other : ℕ) (a b c d e : Pages) : Type 0 where
  fine_a : Fine page_size a.usable a
  fine_b : Fine page_size a.usable b
  fine_c : Fine page_size a.usable c
  fine_d : Fine page_size a.usable d
  page_is : page ≡ taken_number a
  taken : b ≡ after_take page_size a
  written : c ≡ with_page page content b
  other_is : other ≡ taken_number c
  again : d ≡ after_take page_size c
  given : e ≡ after_give page_size other d
  used : e.usable ≡ a.usable

leaves_leaf : Laws → (page_size : ℕ) (content : List ℕ) (page other : ℕ) (a b c d e : Pages) (cells : PageCells) → Steps page_size content page other a b c d e
    → IsPage content page a.usable cells → LeavesLeaf a e page cells
leaves_leaf laws page_size content page other a b c d e cells steps reads = record {
  each = λ roots trees trunks whole.
      let usable : ℕ = a.usable in
      let left : List Trunk = take_from trunks in
      let rest : List Trunk = take_from left in
      let one = took laws.takes laws.good laws.whole_takes laws.header page_size usable page a b roots trees trunks steps.page_is steps.taken steps.fine_a steps.fine_b whole in
      let F : Pages → Type 0 = λ p. Fine page_size usable p in
      let W : Pages → Type 0 = λ p. IsWholeFor p roots trees left in
      let put : IsWholeFor c roots trees left =
      subst W (sym steps.written)
      (whole_put laws.stays laws.header page_size usable page content b roots trees left steps.fine_b (subst F steps.written steps.fine_c) one.whole one.unnamed) in
      let two = took laws.takes laws.good laws.whole_takes laws.header page_size usable other c d roots trees left steps.other_is steps.again steps.fine_c steps.fine_d put in
      let back = gave laws.gives laws.whole_gives page_size usable other d e roots trees rest steps.given steps.fine_d two.whole two.behind two.there two.good two.unnamed in
      let size_c : c.size ≡ b.size = ap (λ (p : Pages). p.size) steps.written in
      let there = one.there in
      let free_named : Among (free_pages left) page → Among (named_pages roots trees left) page =
      λ free. among-back page (used_pages roots trees) (free_pages left) free in
      let not_1 : page ≢ 1 = λ is. omega (arith, one.behind, is) in
      let not_left : ¬ (Among (free_pages left) page) = λ free. one.unnamed (free_named free) in
      let apart : page ≢ other = λ is. let P : ℕ → Type 0 = λ n. Among (free_pages left) n in elim two.came [
        | inl free ↦ not_left (subst P (sym is) free)
        | inr beyond ↦ omega (arith, beyond, is, there.most, size_c)
      ] in
      let not_rest : ¬ (Among (free_pages rest) page) = λ free. not_left (omega (arith, two.rest page apart, free)) in
      let P : Pages → Type 0 = λ p. (p.bytes page ≡ content) × IsGood p page in
      let here : P c = subst P (sym steps.written) (put_here page content b) in
      let stays : SamePage c e page = same-on c d e page (two.others page not_1 not_left apart) (back.others page not_1 not_rest apart) in
      let R : List ℕ → Type 0 = λ bytes. IsPage bytes page e.usable cells in
      let U : ℕ → Type 0 = λ u. IsPage content page u cells in
      record {
        is = one.is;
        other = other;
        whole = back.whole;
        unnamed = λ named.
            omega (
              arith,
              named,
              one.unnamed,
              times-append page (used_pages roots trees) (free_pages left),
              times-append page (used_pages roots trees) (free_pages (give_to usable other rest)),
              back.count page,
              times-other page other (λ is. apart (sym is)),
              two.rest page apart,
            );
        holds = record {
          there = record { least = there.least; most = omega (arith, there.most, size_c, two.grows, back.size) };
          good = stays.mark_stays ∙ here.1;
          reads = subst R (sym (stays.bytes_stay ∙ here.0)) (subst U (sym steps.used) reads);
        };
        others = λ n low most used.
            let n_not_1 : n ≢ 1 = λ is. omega (arith, low, is) in
            let F : ℕ → Type 0 = λ m. Among (free_pages trunks) m in
            let G : ℕ → Type 0 = λ m. Among (free_pages left) m in
            let not_page : n ≢ page = λ is. elim one.came [
              | inl free ↦ used (subst F (sym is) free)
              | inr beyond ↦ omega (arith, beyond, is, most)
            ] in
            let n_not_left : ¬ (Among (free_pages left) n) = λ free. used (omega (arith, one.rest n not_page, free)) in
            let not_other : n ≢ other = λ is. elim two.came [
              | inl free ↦ n_not_left (subst G (sym is) free)
              | inr beyond ↦ omega (arith, beyond, is, most, size_c, one.grows)
            ] in
            let n_not_rest : ¬ (Among (free_pages rest) n) = λ free. n_not_left (omega (arith, two.rest n not_other, free)) in
            let S : Pages → Type 0 = λ p. SamePage b p n in
            same-on a b e n (one.others n n_not_1 used not_page)
            (same-on b c e n (subst S (sym steps.written) (put_beside page content b n not_page))
            (same-on c d e n (two.others n n_not_1 n_not_left not_other) (back.others n n_not_1 n_not_rest not_other)));
      };
}

-- the same of the states of a space
fine : (page_size usable : ℕ) (s : SpaceState) → IsTrue s.tells → HasSizes s → s.page_size ≡ page_size → s.pages.usable ≡ usable → Fine page_size usable s.pages
fine page_size usable s told sizes same used =
    let F : ℕ → Type 0 = λ n. Fine n usable s.pages in
    subst F same (record { power = sizes.size_of_page; spare = sizes.spare; few = sizes.few; sized = sizes.each told; used = used })

record Calls (a b c d e : SpaceState) (content : List ℕ) (page other : ℕ) : Type 0 where
  told : IsTrue a.tells
  sizes : HasSizes a
  steady_b : Steady a b
  steady_c : Steady b c
  steady_d : Steady c d
  steady_e : Steady d e
  taken : Taken a b page
  put : Put b c page content
  again : Taken c d other
  given : Given d e other

steps_of : (a b c d e : SpaceState) (content : List ℕ) (page other : ℕ) → Calls a b c d e content page other
    → Steps a.page_size content page other a.pages b.pages c.pages d.pages e.pages
steps_of a b c d e content page other calls =
    let told_b : IsTrue b.tells = calls.steady_b.told ∙ calls.told in
    let told_c : IsTrue c.tells = calls.steady_c.told ∙ told_b in
    let told_d : IsTrue d.tells = calls.steady_d.told ∙ told_c in
    let sized_c : c.page_size ≡ a.page_size = calls.steady_c.sized ∙ calls.steady_b.sized in
    let sized_d : d.page_size ≡ a.page_size = calls.steady_d.sized ∙ sized_c in
    let used_c : c.pages.usable ≡ a.pages.usable = calls.steady_c.used ∙ calls.steady_b.used in
    let used_d : d.pages.usable ≡ a.pages.usable = calls.steady_d.used ∙ used_c in
    record {
      fine_a = fine a.page_size a.pages.usable a calls.told calls.sizes refl refl;
      fine_b = fine a.page_size a.pages.usable b told_b calls.steady_b.sizes calls.steady_b.sized calls.steady_b.used;
      fine_c = fine a.page_size a.pages.usable c told_c calls.steady_c.sizes sized_c used_c;
      fine_d = fine a.page_size a.pages.usable d told_d calls.steady_d.sizes sized_d used_d;
      page_is = calls.taken.is calls.told;
      taken = calls.taken.pages_are calls.told;
      written = calls.put.pages_are told_b;
      other_is = calls.again.is told_c;
      again = calls.again.pages_are told_c ∙ ap (λ n. after_take n c.pages) sized_c;
      given = calls.given.pages_are told_d ∙ ap (λ n. after_give n other d.pages) sized_d;
      used = calls.steady_e.used ∙ used_d;
    }

-- the buffer after the page was written into it, and the zeros that stood behind it
buffer : (len : ℕ) (items new given : List ℕ) → len ≡ length items → length new ≡ length items → given ≡ take len (new ++ drop (length new) items) → given ≡ new
buffer len items new given full same is =
    is ∙ ap (λ n. take n (new ++ drop (length new) items)) (full ∙ sym same) ∙ take-append_seam new (drop (length new) items)

behind_zeros : (usable n : ℕ) (old new : List ℕ) → old ≡ replicate n 0 → length new ≡ length old → drop usable new ≡ drop usable old → IsZeroFrom new usable
behind_zeros usable n old new zeros same back = record {
  zeros = λ place low within.
      let at : (l : List ℕ) → get_or (drop usable l) (place - usable) 0 ≡ get_or l place 0 =
      λ l. get_or-drop usable l (place - usable) 0 ∙ ap (λ k. get_or l k 0) (omega (arith, low)) in
      let long = length-replicate {A = ℕ} n 0 in
      slice_get-get_or new place 0 within
      ∙ ap Some (sym (at new) ∙ ap (λ (l : List ℕ). get_or l (place - usable) 0) back ∙ at old ∙ ap (λ (l : List ℕ). get_or l place 0) zeros
      ∙ get_or-replicate n place 0 0 (omega (arith, within, same, ap (λ (l : List ℕ). length l) zeros, long)));
}

pub write_page-requires-clause-fits : goal.write_page-requires-clause-fits
write_page-requires-clause-fits g c =
    let P : ℕ → Type 0 = λ u. Fits c.args.cells.now c.in_ok-page.page u in
    subst P (sym c.usable-usable.ensures.value) (c.requires.fits.each c.in_ok-page.page)

pub put-requires-clause-zeros : goal.put-requires-clause-zeros
put-requires-clause-zeros g c =
    let long : length c.write_page.new.page ≡ length c.in_ok-bytes.bytes.items = c.write_page.auto.page ∙ ap (λ (l : List ℕ). length l) c.deref_mut.ensures.value in
    let zeros = c.deref_mut.ensures.value ∙ c.in_ok-bytes.ensures.items_if_clones_equal (λ y is. is) in
    let P : List ℕ → Type 0 = λ l. IsZeroFrom l (g.S.PageSpace.state c.take_page.new.space).pages.usable in
    let Q : ℕ → Type 0 = λ u. IsZeroFrom c.write_page.new.page u in
    subst P (sym (buffer c.in_ok-bytes.bytes.len c.in_ok-bytes.bytes.items c.write_page.new.page c.deref.result.now c.in_ok-bytes.bytes.ok.0 long c.deref.ensures.value))
    (subst Q (c.usable-usable.ensures.value ∙ sym c.in_ok-page.ensures.steady.used)
    (behind_zeros c.usable-usable.result c.page_size.result c.deref_mut.result.now c.write_page.new.page zeros c.write_page.auto.page c.write_page.ensures.back))

pub returns-clause-leaves : goal.returns-clause-leaves
returns-clause-leaves g c = λ told.
    let old : SpaceState = g.S.PageSpace.state c.args.space.now in
    let content : List ℕ = c.deref.result.now in
    let page : ℕ = c.in_ok-page.page in
    let other : ℕ = c.in_ok-other.other in
    let laws : Laws = record {
      takes = c.take_keeps.ensures;
      good = c.taken_good.ensures;
      gives = c.give_keeps.ensures;
      stays = c.whole_stays.ensures;
      whole_takes = c.whole_takes.ensures;
      whole_gives = c.whole_gives.ensures;
      header = c.header_size.ensures;
    } in
    let long : length c.write_page.new.page ≡ length c.in_ok-bytes.bytes.items = c.write_page.auto.page ∙ ap (λ (l : List ℕ). length l) c.deref_mut.ensures.value in
    let is = buffer c.in_ok-bytes.bytes.len c.in_ok-bytes.bytes.items c.write_page.new.page content c.in_ok-bytes.bytes.ok.0 long c.deref.ensures.value in
    let P : List ℕ → Type 0 = λ l. IsPage l page old.pages.usable c.args.cells.now in
    let Q : ℕ → Type 0 = λ u. IsPage c.write_page.new.page page u c.args.cells.now in
    let reads : P content = subst P (sym is) (subst Q c.usable-usable.ensures.value c.write_page.ensures.reads) in
    leaves_leaf laws old.page_size content page other _ _ _ _ _ c.args.cells.now
    (steps_of old (g.S.PageSpace.state c.take_page.new.space) (g.S.PageSpace.state c.put.new.self) (g.S.PageSpace.state c.take_page-2.new.space)
    (g.S.PageSpace.state c.give_page.new.space) content page other record {
      told = told;
      sizes = c.usable-usable.ensures.sizes;
      steady_b = c.in_ok-page.ensures.steady;
      steady_c = c.in_ok-put.ensures.steady;
      steady_d = c.in_ok-other.ensures.steady;
      steady_e = c.in_ok-give_page.ensures.steady;
      taken = c.in_ok-page.ensures.taken;
      put = c.in_ok-put.ensures.leaves;
      again = c.in_ok-other.ensures.taken;
      given = c.in_ok-give_page.ensures.given;
    })
    reads
