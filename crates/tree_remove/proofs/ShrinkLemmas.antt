-- What becomes of a way, level by level.
use Rattle.std.proofs.Common.{◌≡◌, ◌⊎◌, inl, inr, ℕ, zero, suc, ◌+◌, ◌*◌, ◌≤◌, ◌<◌, List, [], ◌∷◌, ◌++◌, length, reverse, IsTrue, Option, Some, None, IfSome, refl, sym, ap, subst, ◌∙◌, arith, append_assoc, append-nil, length-append}
use Rattle.std.proofs.lemmas.List.{reverse-append}
use Rattle.std.specs.List.{AllByRecursion}
use Rattle.page_list.specs.Pages.{Pages, HasPage, Among}
use Rattle.page_list.specs.Edits.{taken_numbers}
use Rattle.page_list.proofs.TimesLemmas.{times-append, among-more}
use Rattle.page_pool.specs.Space.{SpaceState, HasSizes, Steady, Stays}
use Rattle.payload_chain.specs.Chains.{HasEach, TookEach, StopsTaking}
use Rattle.payload_chain.proofs.StateLemmas.{steady-same, steady-on, stays-same, stays-on}
use Rattle.db_format.specs.declared.fault.SpaceFault.{SpaceFault}
use Rattle.tree_page.specs.declared.cell.InnerCell.{InnerCell}
use Rattle.tree_page.specs.declared.cell.PageCells.{PageCells}
use Rattle.tree_page.specs.declared.cell.PageCells.TheVariants.{Interior}
use Rattle.tree_page.specs.Written.{Fits}
use Rattle.tree_model.specs.declared.level.Level.{Level}
use Rattle.tree_model.specs.Held.{HasCells}
use Rattle.tree_model.specs.Walk.{IsFault}
use Rattle.page_cut.specs.declared.parts.Sheet.{Sheet}
use Rattle.page_cut.specs.declared.parts.Sheets.{Sheets}
use Rattle.page_cut.specs.Cut.{IsCut}
use Rattle.tree_plan.specs.Law.{AreNumbered}
use Rattle.tree_plan.specs.Climb.{on, AreClimbed}
use Rattle.tree_write.specs.Climb.{MayClimb, spare}
use Rattle.tree_write.proofs.TakesLemmas.{took-on, stops-on}
use Rattle.tree_search.specs.Search.{SearchRefused, IsStep}
use Rattle.tree_search.proofs.StateLemmas.{refused_on, refused_as}
use Rattle.tree_join.specs.declared.level.Left.{Left}
use Rattle.tree_join.specs.declared.level.Left.TheVariants.{Parts, Over, Nothing}
use Rattle.tree_join.specs.Join.{IsLeftOut, sibling_of, listed, with_pair, IsAfter}
use Rattle.tree_remove.specs.declared.beside.Risen.{Risen}
use Rattle.tree_remove.specs.declared.upward.Shrunk.{Shrunk}
use Rattle.tree_remove.specs.Shrink.{AreShrunk, ShrunkTo, MeetsBeside, ShrinkRefused, IsLeftPlan}
use Rattle.tree_remove.specs.Steps.{IsJoinedWith, IsRise, HasFewParts, IsLeftOfLeaf, most_taken, left_as, root_sheets, ClimbedOn}

pub left_planned : (usable : ℕ) (level : Level) (left : Left) → IsLeftOut usable level left → IsLeftPlan level.number usable left
left_planned usable level Nothing out = tt
left_planned usable level (Over child) out = tt
left_planned usable level (Parts sheets) out =
    let P : PageCells → Type 0 = λ c. Fits c level.number usable in
    (record { whole = Interior out.0 out.1; cut = inl out.4 }, λ none. subst P (sym out.4.all) out.4.fits)

pub left_few : (usable : ℕ) (level : Level) (left : Left) → IsLeftOut usable level left → HasFewParts None left
left_few usable level Nothing out = tt
left_few usable level (Over child) out = tt
left_few usable level (Parts sheets) out = omega (arith, ap (λ (l : List Sheet). length l) out.4.none)

cut_few : (number usable : ℕ) (cells : List InnerCell) (right : ℕ) (sheets : Sheets) → IsCut number usable (Interior cells right) sheets → length sheets.front.items ≤ 1
cut_few number usable cells right sheets (inl whole) = omega (arith, ap (λ (l : List Sheet). length l) whole.none)
cut_few number usable cells right sheets (inr up) = omega (arith, up.few)

pub after_few : (usable : ℕ) (level : Level) (front : List Sheet) (child : ℕ) (left : Left) → IsAfter usable level front left → HasFewParts (Some child) left
after_few usable level front child Nothing after = tt
after_few usable level front child (Over page) after = tt
after_few usable level front child (Parts sheets) after = cut_few level.number usable (with_pair level front) level.right sheets after.1

cut_fits : (number usable : ℕ) (cells : List InnerCell) (right : ℕ) (sheets : Sheets) → IsCut number usable (Interior cells right) sheets → sheets.front.items ≡ [] → Fits sheets.last number usable
cut_fits number usable cells right sheets (inl whole) none = let P : PageCells → Type 0 = λ c. Fits c number usable in subst P (sym whole.all) whole.fits
cut_fits number usable cells right sheets (inr up) none = absurd (omega (arith, up.few, ap (λ (l : List Sheet). length l) none))

pub after_planned : (usable : ℕ) (level : Level) (front : List Sheet) (left : Left) → IsAfter usable level front left → IsLeftPlan level.number usable left
after_planned usable level front Nothing after = tt
after_planned usable level front (Over page) after = tt
after_planned usable level front (Parts sheets) after =
    (record { whole = Interior (with_pair level front) level.right; cut = after.1 }, cut_fits level.number usable (with_pair level front) level.right sheets after.1)

some_is : {A : Type 0} (a b c : Option A) (x y : A) → a ≡ Some x → a ≡ Some y → x ≡ y
some_is a b c x y p q = cc

-- one level, and those above it

goes_on : (pages : Pages) (number : ℕ) (child : Option ℕ) (level : Level) (above : List Level) (risen : Risen) (next : Left) (taken : List ℕ) (out : List Sheet) (lost : List ℕ) (over : Option ℕ) →
    IsRise pages number child level risen → risen.next ≡ Some next → AreShrunk pages level.number next above taken out lost over →
    AreShrunk pages number (left_as child) (level ∷ above) taken (risen.sheets.items ++ out) (listed risen.lost ++ lost) over
goes_on pages number None level above risen next taken out lost over rise is shrunk =
    let goes = rise.2 in
    let same : rise.0 ≡ next = some_is risen.next risen.next risen.next rise.0 next goes.next is in
    let P : Left → Type 0 = λ l. IsLeftOut pages.usable level l in
    let Q : List Sheet → Type 0 = λ o. AreShrunk pages level.number next above taken (o ++ out) lost over in
    (next, lost, subst P same rise.1, ap (λ (o : Option ℕ). listed o ++ lost) goes.lost, subst Q (sym goes.sheets) shrunk)
goes_on pages number (Some child) level above risen next taken out lost over (inl only) is shrunk =
    let goes = only.1 in
    let same : next ≡ Over child = some_is risen.next risen.next risen.next next (Over child) is goes.next in
    let P : Left → Type 0 = λ l. AreShrunk pages level.number l above taken out lost over in
    inl (out, lost, record { none = only.0; out_are = ap (λ (o : List Sheet). o ++ out) goes.sheets; lost_are = ap (λ (o : Option ℕ). listed o ++ lost) goes.lost }, subst P same shrunk)
goes_on pages number (Some child) level above risen next taken out lost over (inr beside) is shrunk = of beside.joined
  where
    of : IsJoinedWith pages.usable number child level beside.cells risen → AreShrunk pages number (Over child) (level ∷ above) taken (risen.sheets.items ++ out) (listed risen.lost ++ lost) over
    of (inl alone) = let none = alone.1.next in cc
    of (inr joins) =
        let same : next ≡ joins.plan.left = some_is risen.next risen.next risen.next next joins.plan.left is joins.next in
        let P : Left → Type 0 = λ l. AreShrunk pages level.number l above taken out lost over in
        let Q : PageCells → Type 0 = λ c. HasCells pages (sibling_of level) c in
        inr (inl (
          joins.plan,
          out,
          lost,
          record {
            some = beside.some;
            cells = joins.inner;
            right = joins.right;
            beside = subst Q joins.of beside.has;
            is = joins.is;
            out_are = ap (λ (o : List Sheet). o ++ out) joins.sheets;
            lost_are = ap (λ (o : Option ℕ). listed o ++ lost) joins.lost;
          },
          subst P same shrunk,
        ))

ends_here : (pages : Pages) (number : ℕ) (child : Option ℕ) (level : Level) (above : List Level) (risen : Risen) → IsRise pages number child level risen → risen.next ≡ None →
    AreShrunk pages number (left_as child) (level ∷ above) [] (risen.sheets.items ++ []) (listed risen.lost ++ []) None
ends_here pages number None level above risen rise is = let some = rise.2.next in cc
ends_here pages number (Some child) level above risen (inl only) is = let some = only.1.next in cc
ends_here pages number (Some child) level above risen (inr beside) is = of beside.joined
  where
    of : IsJoinedWith pages.usable number child level beside.cells risen → AreShrunk pages number (Over child) (level ∷ above) [] (risen.sheets.items ++ []) (listed risen.lost ++ []) None
    of (inl alone) = inr (inr (
      record { some = beside.some; cells = beside.cells; beside = beside.has; cannot = alone.0; out_are = ap (λ (o : List Sheet). o ++ []) alone.1.sheets },
      refl,
      ap (λ (o : Option ℕ). listed o ++ []) alone.1.lost,
      refl,
    ))
    of (inr joins) = let some = joins.next in cc

at_top : (pages : Pages) (number : ℕ) (child : Option ℕ) → AreShrunk pages number (left_as child) [] [] (root_sheets number child) [] child
at_top pages number None = (refl, refl, refl, refl)
at_top pages number (Some child) = (refl, refl, refl, refl)

-- What holds on the way: what comes of the pages above, with what there is, is what comes of all
pub record ShrinksAlong (old : SpaceState) (leaf : ℕ) (first : Left) (all left : List Level) (number : ℕ) (current : Left) (shrunk : Shrunk) : Type 0 where
  pub back : List Level
  pub levels : all ≡ left ++ back
  pub lost_there : HasEach old.pages shrunk.lost.items
  pub none_over : shrunk.over ≡ None
  pub rest : IsTrue old.tells → (taken : List ℕ) (out : List Sheet) (lost : List ℕ) (over : Option ℕ) → AreShrunk old.pages number current (reverse left) taken out lost over
      → AreShrunk old.pages leaf first (reverse all) taken (shrunk.out.items ++ out) (shrunk.lost.items ++ lost) over

pub along-within : {old : SpaceState} {leaf : ℕ} {first : Left} {all left : List Level} {number : ℕ} {current : Left} {shrunk : Shrunk} → ShrinksAlong old leaf first all left number current shrunk → length left ≤ length all
along-within {left = left} along = omega (arith, ap (λ (l : List Level). length l) along.levels, length-append left along.back)

no_page : (pages : Pages) → HasEach pages []
no_page pages = record { each = λ n among. absurd (omega (arith, among)) }

pub shrinks-begin : (old : SpaceState) (leaf : ℕ) (first : Left) (all : List Level) (shrunk : Shrunk) → shrunk.out.items ≡ [] → shrunk.lost.items ≡ [] → shrunk.over ≡ None → ShrinksAlong old leaf first all all leaf first shrunk
shrinks-begin old leaf first all shrunk out_none lost_none over_none =
    let P : List ℕ → Type 0 = λ l. HasEach old.pages l in
    record {
      back = [];
      levels = sym (append-nil all);
      lost_there = subst P (sym lost_none) (no_page old.pages);
      none_over = over_none;
      rest = λ t taken out lost over is.
          let Q : List Sheet → Type 0 = λ o. AreShrunk old.pages leaf first (reverse all) taken (o ++ out) lost over in
          let R : List ℕ → Type 0 = λ l. AreShrunk old.pages leaf first (reverse all) taken (shrunk.out.items ++ out) (l ++ lost) over in
          subst R (sym lost_none) (subst Q (sym out_none) is);
    }

-- the levels that are left, from below
from_below : (left left' : List Level) (level : Level) → left ≡ left' ++ level ∷ [] → reverse left ≡ level ∷ reverse left'
from_below left left' level pop = ap reverse pop ∙ reverse-append left' (level ∷ [])

pub each_append : (pages : Pages) (xs ys : List ℕ) → HasEach pages xs → HasEach pages ys → HasEach pages (xs ++ ys)
each_append pages xs ys a b = record { each = λ n among. of n (among_either n xs ys among) }
  where
    among_either : (n : ℕ) (xs ys : List ℕ) → Among (xs ++ ys) n → Among xs n ⊎ Among ys n
    among_either n xs ys among = grind (arith, times-append n xs ys, among)

    of : (n : ℕ) → Among xs n ⊎ Among ys n → HasPage pages n
    of n (inl x) = a.each n x
    of n (inr y) = b.each n y

pub listed_there : (pages : Pages) (lost : Option ℕ) → IfSome lost (HasPage pages) → HasEach pages (listed lost)
listed_there pages None has = no_page pages
listed_there pages (Some page) has = record { each = λ n among. at n (among-more n page [] among) }
  where
    at : (n : ℕ) → Among [] n ⊎ (page ≡ n) → HasPage pages n
    at n (inl none) = absurd (omega (arith, none))
    at n (inr same) = subst (HasPage pages) same has

pub shrinks-on : {old now : SpaceState} {leaf : ℕ} {first : Left} {all left : List Level} {number : ℕ} {current : Left} {shrunk : Shrunk}
    (left' : List Level) (level : Level) (child : Option ℕ) (risen : Risen) (next : Left) (shrunk' : Shrunk) → ShrinksAlong old leaf first all left number current shrunk → Steady old now → Stays old now
    → left ≡ left' ++ level ∷ [] → current ≡ left_as child → (IsTrue now.tells → IsRise now.pages number child level risen) → IfSome risen.lost (HasPage old.pages) → risen.next ≡ Some next
    → shrunk'.out.items ≡ shrunk.out.items ++ risen.sheets.items → shrunk'.lost.items ≡ shrunk.lost.items ++ listed risen.lost → shrunk'.over ≡ shrunk.over
    → ShrinksAlong old leaf first all left' level.number next shrunk'
shrinks-on {old = old} {now = now} {leaf = leaf} {first = first} {all = all} {left = left} {number = number} {current = current} {shrunk = shrunk} left' level child risen next shrunk' along steady stays pop is rise there next_is out_are lost_are over_is =
    let P : List ℕ → Type 0 = λ l. HasEach old.pages l in
    record {
      back = level ∷ along.back;
      levels = along.levels ∙ ap (λ (l : List Level). l ++ along.back) pop ∙ append_assoc left' (level ∷ []) along.back;
      lost_there = subst P (sym lost_are) (each_append old.pages shrunk.lost.items (listed risen.lost) along.lost_there (listed_there old.pages risen.lost there));
      none_over = over_is ∙ along.none_over;
      rest = λ t taken out lost over shrinks.
          let G : Pages → Type 0 = λ p. IsRise p number child level risen in
          let step = goes_on old.pages number child level (reverse left') risen next taken out lost over (subst G (stays.pages_stay t) (rise (steady.told ∙ t))) next_is shrinks in
          let L : Left → Type 0 = λ l. AreShrunk old.pages number l (level ∷ reverse left') taken (risen.sheets.items ++ out) (listed risen.lost ++ lost) over in
          let V : List Level → Type 0 = λ l. AreShrunk old.pages number current l taken (risen.sheets.items ++ out) (listed risen.lost ++ lost) over in
          let all_done = along.rest t taken (risen.sheets.items ++ out) (listed risen.lost ++ lost) over (subst V (sym (from_below left left' level pop)) (subst L (sym is) step)) in
          let O : List Sheet → Type 0 = λ o. AreShrunk old.pages leaf first (reverse all) taken o (shrunk.lost.items ++ (listed risen.lost ++ lost)) over in
          let R : List ℕ → Type 0 = λ o. AreShrunk old.pages leaf first (reverse all) taken (shrunk'.out.items ++ out) o over in
          subst R (sym (append_assoc shrunk.lost.items (listed risen.lost) lost) ∙ ap (λ (l : List ℕ). l ++ lost) (sym lost_are))
          (subst O (sym (append_assoc shrunk.out.items risen.sheets.items out) ∙ ap (λ (l : List Sheet). l ++ out) (sym out_are)) all_done);
    }

pub took_zero : {old now : SpaceState} → Steady old now → Stays old now → TookEach old now 0
took_zero steady stays = record { steady = steady; no_fewer = omega (arith, stays.number); no_more = omega (arith, stays.number); may = λ t. tt; pages_are = λ t. stays.pages_stay t }

-- a page stays over its one child
pub shrinks-end : {old now : SpaceState} {leaf : ℕ} {first : Left} {all left : List Level} {number : ℕ} {current : Left} {shrunk : Shrunk}
    (new : SpaceState) (left' : List Level) (level : Level) (child : Option ℕ) (risen : Risen) (shrunk' : Shrunk) → ShrinksAlong old leaf first all left number current shrunk → Steady old now → Stays old now → Steady now new → Stays now new
    → left ≡ left' ++ level ∷ [] → current ≡ left_as child → (IsTrue now.tells → IsRise now.pages number child level risen) → IfSome risen.lost (HasPage old.pages) → risen.next ≡ None
    → shrunk'.out.items ≡ shrunk.out.items ++ risen.sheets.items → shrunk'.lost.items ≡ shrunk.lost.items ++ listed risen.lost → shrunk'.over ≡ shrunk.over
    → ShrunkTo old new leaf first all shrunk'
shrinks-end {old = old} {now = now} {leaf = leaf} {first = first} {all = all} {left = left} {number = number} {current = current} {shrunk = shrunk} new left' level child risen shrunk' along steady stays steady' stays' pop is rise there next_is out_are lost_are over_is =
    let P : List ℕ → Type 0 = λ l. HasEach old.pages l in
    record {
      count = 0;
      few = omega arith;
      took = took_zero (steady-on steady steady') (stays-on steady stays stays');
      there = subst P (sym lost_are) (each_append old.pages shrunk.lost.items (listed risen.lost) along.lost_there (listed_there old.pages risen.lost there));
      are = λ t.
          let G : Pages → Type 0 = λ p. IsRise p number child level risen in
          let step = ends_here old.pages number child level (reverse left') risen (subst G (stays.pages_stay t) (rise (steady.told ∙ t))) next_is in
          let L : Left → Type 0 = λ l. AreShrunk old.pages number l (level ∷ reverse left') [] (risen.sheets.items ++ []) (listed risen.lost ++ []) None in
          let V : List Level → Type 0 = λ l. AreShrunk old.pages number current l [] (risen.sheets.items ++ []) (listed risen.lost ++ []) None in
          let all_done = along.rest t [] (risen.sheets.items ++ []) (listed risen.lost ++ []) None (subst V (sym (from_below left left' level pop)) (subst L (sym is) step)) in
          let O : List Sheet → Type 0 = λ o. AreShrunk old.pages leaf first (reverse all) [] o (shrunk.lost.items ++ (listed risen.lost ++ [])) None in
          let R : List ℕ → Type 0 = λ o. AreShrunk old.pages leaf first (reverse all) [] shrunk'.out.items o None in
          let N : Option ℕ → Type 0 = λ o. AreShrunk old.pages leaf first (reverse all) [] shrunk'.out.items shrunk'.lost.items o in
          subst N (sym (over_is ∙ along.none_over))
          (subst R (ap (λ (l : List ℕ). shrunk.lost.items ++ l) (append-nil (listed risen.lost)) ∙ sym lost_are)
          (subst O (ap (λ (l : List Sheet). shrunk.out.items ++ l) (append-nil risen.sheets.items) ∙ sym out_are) all_done));
    }

-- the root
pub shrinks-top : {old now : SpaceState} {leaf : ℕ} {first : Left} {all left : List Level} {number : ℕ} {current : Left} {shrunk : Shrunk}
    (child : Option ℕ) (shrunk' : Shrunk) → ShrinksAlong old leaf first all left number current shrunk → Steady old now → Stays old now → left ≡ [] → current ≡ left_as child
    → shrunk'.out.items ≡ shrunk.out.items ++ root_sheets number child → shrunk'.lost.items ≡ shrunk.lost.items → shrunk'.over ≡ child → ShrunkTo old now leaf first all shrunk'
shrinks-top {old = old} {leaf = leaf} {first = first} {all = all} {number = number} {current = current} {shrunk = shrunk} child shrunk' along steady stays none is out_are lost_are over_is =
    let P : List ℕ → Type 0 = λ l. HasEach old.pages l in
    record {
      count = 0;
      few = omega arith;
      took = took_zero steady stays;
      there = subst P (sym lost_are) along.lost_there;
      are = λ t.
          let L : Left → Type 0 = λ l. AreShrunk old.pages number l [] [] (root_sheets number child) [] child in
          let V : List Level → Type 0 = λ l. AreShrunk old.pages number current l [] (root_sheets number child) [] child in
          let all_done = along.rest t [] (root_sheets number child) [] child (subst V (sym (ap reverse none)) (subst L (sym is) (at_top old.pages number child))) in
          let O : List Sheet → Type 0 = λ o. AreShrunk old.pages leaf first (reverse all) [] o (shrunk.lost.items ++ []) child in
          let R : List ℕ → Type 0 = λ o. AreShrunk old.pages leaf first (reverse all) [] shrunk'.out.items o child in
          let N : Option ℕ → Type 0 = λ o. AreShrunk old.pages leaf first (reverse all) [] shrunk'.out.items shrunk'.lost.items o in
          subst N (sym over_is) (subst R (append-nil shrunk.lost.items ∙ sym lost_are) (subst O (sym out_are) all_done));
    }

-- a page has parts, and what comes of those above it is a climb
pub shrinks-climb : {old now : SpaceState} {leaf : ℕ} {first : Left} {all left : List Level} {number : ℕ} {current : Left} {shrunk : Shrunk}
    (new : SpaceState) (sheets : Sheets) (shrunk' : Shrunk) → ShrinksAlong old leaf first all left number current shrunk → Steady old now → Stays old now → current ≡ Parts sheets
    → ClimbedOn now new number sheets left shrunk shrunk' → ShrunkTo old new leaf first all shrunk'
shrinks-climb {old = old} {now = now} {leaf = leaf} {first = first} {all = all} {left = left} {number = number} {current = current} {shrunk = shrunk} new sheets shrunk' along steady stays is climbed =
    let P : List ℕ → Type 0 = λ l. HasEach old.pages l in
    let count = climbed.climbed.count in
    let zero_more : 0 + count ≡ count = omega arith in
    let K : ℕ → Type 0 = λ n. TookEach old new n in
    record {
      count = count;
      few = omega (arith, climbed.climbed.few, ap (λ (l : List Level). length l) along.levels, length-append left along.back);
      took = subst K zero_more (took-on (took_zero steady stays) climbed.climbed.took);
      there = subst P (sym climbed.lost) along.lost_there;
      are = λ t.
          let A : ℕ → Type 0 = λ s. AreClimbed now.pages.usable number sheets (reverse left) (taken_numbers s count now.pages) climbed.more in
          let B : Pages → Type 0 = λ p. AreClimbed p.usable number sheets (reverse left) (taken_numbers old.page_size count p) climbed.more in
          let up : AreClimbed old.pages.usable number sheets (reverse left) (taken_numbers old.page_size count old.pages) climbed.more =
          subst B (stays.pages_stay t) (subst A steady.sized (climbed.climbed.are (steady.told ∙ t))) in
          let taken : List ℕ = taken_numbers old.page_size count old.pages in
          let L : Left → Type 0 = λ l. AreShrunk old.pages number l (reverse left) taken climbed.more [] None in
          let all_done = along.rest t taken climbed.more [] None (subst L (sym is) (up, refl, refl)) in
          let O : List Sheet → Type 0 = λ o. AreShrunk old.pages leaf first (reverse all) taken o (shrunk.lost.items ++ []) None in
          let R : List ℕ → Type 0 = λ o. AreShrunk old.pages leaf first (reverse all) taken shrunk'.out.items o None in
          let N : Option ℕ → Type 0 = λ o. AreShrunk old.pages leaf first (reverse all) taken shrunk'.out.items shrunk'.lost.items o in
          subst N (sym (climbed.over ∙ along.none_over)) (subst R (append-nil shrunk.lost.items ∙ sym climbed.lost) (subst O (sym climbed.out) all_done));
    }

-- the next page beside cannot be gone over
pub shrink-meets : {old now : SpaceState} {leaf : ℕ} {first : Left} {all left : List Level} {number : ℕ} {current : Left} {shrunk : Shrunk}
    (new : SpaceState) (left' : List Level) (level : Level) (fault : SpaceFault) → ShrinksAlong old leaf first all left number current shrunk → Steady old now → Stays old now → Stays now new → left ≡ left' ++ level ∷ []
    → SearchRefused now new (IsFault now.pages 1 level.number (sibling_of level)) fault → ShrinkRefused old new all fault
shrink-meets {old = old} {now = now} {all = all} {left = left} new left' level fault along steady stays stays' pop refused =
    inl (
      stays-on steady stays stays',
      refused_as old new (IsFault old.pages 1 level.number (sibling_of level)) (MeetsBeside old.pages all) fault
          (λ t f is. record {
            front = left';
            level = level;
            back = along.back;
            among = along.levels ∙ ap (λ (l : List Level). l ++ along.back) pop ∙ append_assoc left' (level ∷ []) along.back;
            is = is;
          })
          (refused_on old now new (λ p. IsFault p 1 level.number (sibling_of level)) fault steady stays refused),
    )

-- how many levels may be climbed: two fewer than there are, since a child is left of a page above the leaf at the lowest
abbrev pub ClimbsFew : List Level → List Level → Left → Type 0
ClimbsFew all left (Parts sheets) = (length sheets.front.items ≡ 0) ⊎ ((length sheets.front.items ≡ 1) × (length left + 2 ≤ length all))
ClimbsFew all left (Over child) = length left + 1 ≤ length all
ClimbsFew all left Nothing = Unit {0}

pub climbs-begin : (all : List Level) (left : Left) → IsLeftOfLeaf left → ClimbsFew all all left
climbs-begin all (Parts sheets) is = inl (ap (λ (l : List Sheet). length l) is)
climbs-begin all (Over child) is = absurd is
climbs-begin all Nothing is = tt

pub climbs-on : (all left left' : List Level) (level : Level) (child : Option ℕ) (current next : Left) → ClimbsFew all left current → left ≡ left' ++ level ∷ [] → length left ≤ length all → current ≡ left_as child
    → HasFewParts child next → ClimbsFew all left' next
climbs-on all left left' level None current (Parts sheets) few pop within is parts = inl (omega (arith, parts))
climbs-on all left left' level (Some child) current (Parts sheets) few pop within is parts =
    let P : Left → Type 0 = λ l. ClimbsFew all left l in
    let over : length left + 1 ≤ length all = subst P is few in
    let long = ap (λ (l : List Level). length l) pop ∙ length-append left' (level ∷ []) in
    elim (few_or_one (length sheets.front.items) parts) [ inl none ↦ inl none | inr one ↦ inr (one, omega (arith, over, long)) ]
  where
    few_or_one : (n : ℕ) → n ≤ 1 → (n ≡ 0) ⊎ (n ≡ 1)
    few_or_one zero few = inl refl
    few_or_one (suc zero) few = inr refl
    few_or_one (suc (suc n)) few = absurd (omega (arith, few))
climbs-on all left left' level child current (Over page) few pop within is parts = omega (arith, within, ap (λ (l : List Level). length l) pop, length-append left' (level ∷ []))
climbs-on all left left' level child current Nothing few pop within is parts = tt

-- a take is refused
pub shrink-stops : {old now : SpaceState} {leaf : ℕ} {first : Left} {all left : List Level} {number : ℕ} {current : Left} {shrunk : Shrunk}
    (new : SpaceState) (sheets : Sheets) (fault : SpaceFault) → ShrinksAlong old leaf first all left number current shrunk → Steady old now → Stays old now → ClimbsFew all left current → current ≡ Parts sheets
    → StopsTaking now new (most_taken (length sheets.front.items) (length left) + 2 * spare fault) fault → ShrinkRefused old new all fault
shrink-stops {all = all} {left = left} new sheets fault along steady stays few is refused =
    let P : Left → Type 0 = λ l. ClimbsFew all left l in
    inr (stops-on new (length all + 2 * spare fault) fault (took_zero steady stays) refused
    (within (length sheets.front.items) (length left) (length all) (spare fault) (subst P is few)))
  where
    within : (front left all spare : ℕ) → (front ≡ 0) ⊎ ((front ≡ 1) × (left + 2 ≤ all)) → 0 + (most_taken front left + 2 * spare) ≤ all + 2 * spare
    within zero left all spare few = omega arith
    within (suc front) left all spare (inl none) = absurd (omega (arith, none))
    within (suc front) left all spare (inr one) = omega (arith, one.0, one.1)

pub may_climb : (size usable : ℕ) (levels : List Level) → AllByRecursion (IsStep size usable) levels → AllByRecursion (MayClimb usable) levels
may_climb size usable [] all = tt
may_climb size usable (level ∷ more) all = (record { least = all.0.least; fits = all.0.fits; at = all.0.at }, may_climb size usable more all.1)

pub next_few : (child : Option ℕ) (next : Option Left) (left : Left) → IfSome next (HasFewParts child) → next ≡ Some left → HasFewParts child left
next_few child next left has is = let P : Option Left → Type 0 = λ o. IfSome o (HasFewParts child) in subst P is has

pub all_front : {A : Type 0} (P : A → Type 0) (xs : List A) (x : A) → AllByRecursion P (xs ++ x ∷ []) → AllByRecursion P xs × P x
all_front P [] x all = (tt, all.0)
all_front P (y ∷ ys) x all = let rest = all_front P ys x all.1 in ((all.0, rest.0), rest.1)

-- what is known of a later state, of the first

pub some_there : (old now : SpaceState) (lost : Option ℕ) → Stays old now → IfSome lost (HasPage now.pages) → IfSome lost (HasPage old.pages)
some_there old now None stays has = tt
some_there old now (Some page) stays has = record { least = has.least; most = omega (arith, has.most, stays.number) }

pub next_planned : (old now : SpaceState) (number : ℕ) (next : Option Left) (left : Left) → Steady old now → IfSome next (IsLeftPlan number now.pages.usable) → next ≡ Some left → IsLeftPlan number old.pages.usable left
next_planned old now number next left steady has is =
    let P : ℕ → Type 0 = λ u. IfSome next (IsLeftPlan number u) in
    let Q : Option Left → Type 0 = λ o. IfSome o (IsLeftPlan number old.pages.usable) in
    subst Q is (subst P steady.used has)

pub step_now : (old now : SpaceState) (level : Level) → Steady old now → Stays old now → IsStep old.pages.size old.pages.usable level → IsStep now.pages.size now.pages.usable level
step_now old now level steady stays is =
    let P : ℕ → Type 0 = λ n. IsStep n now.pages.usable level in
    let Q : ℕ → Type 0 = λ u. IsStep old.pages.size u level in
    subst P (sym stays.number) (subst Q (sym steady.used) is)

pub level_there : (pages : Pages) (level : Level) → IsStep pages.size pages.usable level → HasPage pages level.number
level_there pages level is = record { least = is.least; most = is.most }

pub popped : (size usable : ℕ) (left left' : List Level) (level : Level) → AllByRecursion (IsStep size usable) left → left ≡ left' ++ level ∷ [] → AllByRecursion (IsStep size usable) left' × IsStep size usable level
popped size usable left left' level each pop = let P : List Level → Type 0 = λ l. AllByRecursion (IsStep size usable) l in all_front (IsStep size usable) left' level (subst P pop each)

-- a page of one part takes no page, and those above it stay

climbed_none : (usable number : ℕ) (plan : Sheets) (levels : List Level) → plan.front.items ≡ [] → Fits plan.last number usable → AreClimbed usable number plan levels [] (on number plan.last ∷ [])
climbed_none usable number plan [] none fits = inl ((none, fits), refl, refl)
climbed_none usable number plan (level ∷ above) none fits =
    let N : List Sheet → Type 0 = λ l. AreNumbered l [] in
    ([], [], [], record { numbered = subst N (sym none) tt; taken_are = refl; out_are = refl }, inl (refl, refl, refl))

pub climbs-none : (s : SpaceState) (number : ℕ) (plan : Sheets) (levels : List Level) (before after : Shrunk) → HasSizes s → plan.front.items ≡ [] → Fits plan.last number s.pages.usable
    → after.out.items ≡ before.out.items ++ on number plan.last ∷ [] → after.lost.items ≡ before.lost.items → after.over ≡ before.over → ClimbedOn s s number plan levels before after
climbs-none s number plan levels before after sizes none fits out_are lost_are over_is = record {
  more = on number plan.last ∷ [];
  climbed = record { count = 0; few = omega arith; took = took_zero (steady-same sizes) stays-same; are = λ t. climbed_none s.pages.usable number plan (reverse levels) none fits };
  out = out_are;
  lost = lost_are;
  over = over_is;
}

pub taken_most : (front levels : ℕ) → 1 ≤ front → levels + 3 < most_taken front levels + 2
taken_most zero levels some = absurd (omega (arith, some))
taken_most (suc front) levels some = omega arith

pub taken_within : (front levels spare : ℕ) → 1 ≤ front → 0 + (front + levels + 1 + spare) ≤ most_taken front levels + 2 * spare
taken_within zero levels spare some = absurd (omega (arith, some))
taken_within (suc front) levels spare some = omega arith
