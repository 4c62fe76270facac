-- What is written and given back once the way is gone up: the steps, and where they stop.
use Rattle.std.proofs.Common.{◌≡◌, inl, inr, ℕ, ◌≤◌, List, [], ◌∷◌, ◌++◌, length, IsTrue, Option, Some, None, Err, refl, sym, ap, subst, ◌∙◌, arith, length-append}
use Rattle.std.proofs.lemmas.Bool.Decides.{nat_tests}
use Rattle.std.proofs.Common.{IfSome}
use Rattle.std.specs.List.{AllByRecursion}
use Rattle.page_list.specs.Pages.{Pages, HasPage, Among}
use Rattle.page_list.specs.Edits.{after_gives}
use Rattle.page_pool.specs.Space.{SpaceState, Steady, Stays}
use Rattle.page_pool.specs.Pool.{NotesChange}
use Rattle.payload_chain.specs.Chains.{midway, HasEach, OnlyThese, PutRefused, MayGiveEach, GaveAll, StopsGivingEach}
use Rattle.payload_chain.proofs.StateLemmas.{here, steady-on, steady-here, each-later}
use Rattle.db_format.specs.declared.fault.SpaceFault.{SpaceFault}
use Rattle.db_format.specs.declared.fault.SpaceFault.TheVariants.{Failed, Memory, Bad, Corrupt, Large}
use Rattle.tree_page.specs.declared.cell.PageCells.{PageCells}
use Rattle.tree_page.specs.declared.cell.PageCells.TheVariants.{Interior}
use Rattle.tree_page.specs.Page.{page_kind, first_pointer}
use Rattle.tree_page.specs.Written.{Fits}
use Rattle.tree_model.specs.Held.{HasCells}
use Rattle.tree_model.specs.Walk.{IsFault}
use Rattle.page_cut.specs.declared.parts.Sheet.{Sheet}
use Rattle.tree_level.specs.Level.{numbers}
use Rattle.tree_plan.specs.Climb.{on}
use Rattle.tree_write.specs.Write.{Wrote, MayStand, WriteLeaves, OnlySheets, NotesSheets}
use Rattle.tree_write.proofs.WriteLemmas.{later-leaves}
use Rattle.tree_search.specs.Search.{SearchRefused}
use Rattle.tree_join.specs.Join.{listed}
use Rattle.tree_remove.specs.declared.upward.Shrunk.{Shrunk}
use Rattle.tree_remove.specs.Remove.{IsTakenOver, Rewritten, Settled, NotesOver, NotesSettled, StopsWriting, TakeOverRefused, GivingRefused, SettleRefused}
use Rattle.tree_remove.proofs.MoveLemmas.{Moved, moved-to, within, back, steady-moved, stays-moved, put_refused-moved, leaves-moved, giving_refused-moved}
use Rattle.tree_remove.proofs.ShrinkLemmas.{each_append, listed_there}

-- the root is refused once its child was read

put_refused_on : (old mid new : SpaceState) (numbers : List ℕ) (fault : SpaceFault) → Steady old mid → Stays old mid → PutRefused mid new numbers fault → PutRefused old new numbers fault
put_refused_on old mid new numbers Failed steady stays is = omega (arith, steady.counted)
put_refused_on old mid new numbers Memory steady stays is = tt
put_refused_on old mid new numbers (Bad page kept found) steady stays is = λ t.
    let P : Pages → Type 0 = λ p. Among numbers page × (p.bad page ≡ Some (kept, found)) in subst P (stays.pages_stay t) (is (steady.told ∙ t))
put_refused_on old mid new numbers (Corrupt page) steady stays is = is
put_refused_on old mid new numbers (Large pages) steady stays is = is

other_sheets : (old new : Pages) (xs ys : List Sheet) → numbers xs ≡ numbers ys → OnlySheets old new xs → OnlySheets old new ys
other_sheets old new xs ys same is =
    let P : List ℕ → Type 0 = OnlyThese old new in
    record { only = subst P same is.only; used = is.used; long = is.long; good = is.good; bad = is.bad; front = is.front }

pub stops_topping : (old mid new : SpaceState) (root child : ℕ) (cells : PageCells) (sheet : Sheet) (fault : SpaceFault) → Steady old mid → Stays old mid
    → (IsTrue old.tells → HasCells old.pages child cells) → sheet.number ≡ root → StopsWriting mid new (sheet ∷ []) fault → TakeOverRefused old new root (Some child) fault
stops_topping old mid new root child cells sheet fault steady stays has same stops =
    let one : sheet.number ∷ [] ≡ root ∷ [] = ap (λ n. n ∷ []) same in
    let P : List ℕ → Type 0 = λ l. PutRefused old new l fault in
    inr (record {
      cells = cells;
      has = has;
      root_refused = record {
        size = stops.size ∙ stays.number;
        leaves = λ t. other_sheets old.pages new.pages (sheet ∷ []) (on root cells ∷ []) one (later-leaves old mid new (sheet ∷ []) (Err fault) steady stays stops.leaves t);
        refused = subst P one (put_refused_on old mid new (sheet.number ∷ []) fault steady stays stops.refused);
      };
    })

-- and the space says that it was changed once it is written

first_most : (number : ℕ) (child : ℕ) → first_pointer number (page_kind (Interior [] child)) ≤ 112
first_most number child = grind (arith, nat_tests)

pub alone_fits : (number child usable : ℕ) → 480 ≤ usable → Fits (Interior [] child) number usable
alone_fits number child usable least = record { rising = tt; sound = tt; room = omega (arith, least, first_most number child) }

pub topping_notes : (old mid new : SpaceState) (root : ℕ) (sheet : Sheet) → Steady old mid → Stays old mid → sheet.number ≡ root → Fits sheet.cells root old.pages.usable
    → NotesSheets mid new (sheet ∷ []) → HasPage old.pages root → IsTrue new.changed
topping_notes old mid new root sheet steady stays same fits notes there =
    let H : ℕ → Type 0 = HasPage mid.pages in
    let F : ℕ → ℕ → Type 0 = λ n u. Fits sheet.cells n u in
    let G : ℕ → Type 0 = λ n. F n old.pages.usable in
    let K : ℕ → Type 0 = λ u. F sheet.number u in
    notes.0 (record {
      there = subst H (sym same) (record { least = there.least; most = omega (arith, there.most, stays.number) });
      fits = subst K (sym steady.used) (subst G (sym same) fits);
    })

-- all sheets are written

pub still_changed : (a b : SpaceState) → NotesChange a b → IsTrue a.changed → IsTrue b.changed
still_changed a b (inl is) was = is
still_changed a b (inr stays) was = stays.change ∙ was

pub notes_on : (pages : Pages) (mid new : SpaceState) (out : List Sheet) → NotesChange mid new → AllByRecursion (λ sheet. MayStand pages sheet → IsTrue mid.changed) out → AllByRecursion (λ sheet. MayStand pages sheet → IsTrue new.changed) out
notes_on pages mid new [] noted notes = tt
notes_on pages mid new (sheet ∷ more) noted notes = (λ may. still_changed mid new noted (notes.0 may), notes_on pages mid new more noted notes.1)

over_on : (old mid : Pages) (before after : SpaceState) (root : ℕ) (over : Option ℕ) → mid.size ≡ old.size → NotesChange before after → NotesOver mid before.changed root over
    → NotesOver old after.changed root over
over_on old mid before after root None size noted notes = tt
over_on old mid before after root (Some child) size noted notes = λ there.
    still_changed before after noted (notes (record { least = there.least; most = omega (arith, there.most, size) }))

pub notes_settled : (old a b new : SpaceState) (root : ℕ) (shrunk : Shrunk) (out : List Sheet) (seen all : List ℕ) (also : Option ℕ) → out ≡ shrunk.out.items
    → a.pages.size ≡ old.pages.size → NotesSheets old a out → NotesOver a.pages b.changed root shrunk.over → NotesChange a b → NotesChange b new → seen ≡ all
    → all ≡ shrunk.lost.items ++ listed also → GaveAll b new seen → NotesSettled old.pages new.changed root shrunk
notes_settled old a b new root shrunk out seen all also out_is size notes over first second seen_is all_are gave =
    let P : List Sheet → Type 0 = λ l. NotesSheets old new l in
    record {
      sheets = subst P out_is (notes_on old.pages b new out second (notes_on old.pages a b out first notes));
      over = over_on old.pages a.pages b new root shrunk.over size second over;
      lost = λ some. gave.change (omega (arith, some, ap (λ (l : List ℕ). length l) (seen_is ∙ all_are), length-append shrunk.lost.items (listed also)));
    }

pub all_there : (old mid new : SpaceState) (lost seen all : List ℕ) (also : Option ℕ) → mid.pages.size ≡ old.pages.size → new.pages.size ≡ mid.pages.size → HasEach old.pages lost → IfSome also (HasPage mid.pages)
    → seen ≡ all → all ≡ lost ++ listed also → HasEach new.pages seen
all_there old mid new lost seen all also first second there also_there seen_is all_are =
    let P : List ℕ → Type 0 = λ l. HasEach new.pages l in
    subst P (sym (seen_is ∙ all_are))
    (each_append new.pages lost (listed also) (each-later old.pages new.pages lost (omega (arith, first, second)) there)
    (each-later mid.pages new.pages (listed also) (omega (arith, second)) (listed_there mid.pages also also_there)))

pub rewritten : (old a b : SpaceState) (root : ℕ) (shrunk : Shrunk) (out : List Sheet) (also : List ℕ) → Steady old a → out ≡ shrunk.out.items
    → (IsTrue old.tells → Wrote old.pages a.pages out) → (IsTrue a.tells → IsTakenOver a.pages b.pages root shrunk.over also) → IsTrue old.tells
    → Rewritten old.pages b.pages root shrunk also
rewritten old a b root shrunk out also steady out_is wrote over t =
    let W : List Sheet → Type 0 = λ l. Wrote old.pages a.pages l in record { written = a.pages; wrote = subst W out_is (wrote t); over = over (steady.told ∙ t) }

pub settled_is : (old b new : SpaceState) (root : ℕ) (shrunk : Shrunk) (seen all : List ℕ) (also : Option ℕ) → IsTrue old.tells → Steady old b
    → (IsTrue old.tells → Rewritten old.pages b.pages root shrunk (listed also)) → seen ≡ all → all ≡ shrunk.lost.items ++ listed also → GaveAll b new seen
    → Settled old.page_size old.pages new.pages root shrunk
settled_is old b new root shrunk seen all also t steady was seen_is all_are gave =
    let told = steady.told ∙ t in
    let M : List ℕ → Type 0 = λ l. MayGiveEach old.page_size l b.pages in
    let G : List ℕ → Type 0 = λ l. new.pages ≡ after_gives old.page_size l b.pages in
    let K : ℕ → Type 0 = λ s. MayGiveEach s seen b.pages in
    let L : ℕ → Type 0 = λ s. new.pages ≡ after_gives s seen b.pages in
    let numbers = seen_is ∙ all_are in
    record {
      topped = b.pages;
      also = listed also;
      rewritten = was t;
      gives = record { may = subst M numbers (subst K steady.sized (gave.gave.may told)); are = subst G numbers (subst L steady.sized (gave.gave.pages_are told)) };
    }

pub notes_later : (pages : Pages) (before after : SpaceState) (root : ℕ) (shrunk : Shrunk) → NotesChange before after → NotesSettled pages before.changed root shrunk
    → NotesSettled pages after.changed root shrunk
notes_later pages before after root shrunk noted notes = record {
  sheets = notes_on pages before after shrunk.out.items noted notes.sheets;
  over = over_on pages pages before after root shrunk.over refl noted notes.over;
  lost = λ some. still_changed before after noted (notes.lost some);
}

-- where it stops

pub stops_writing : (old new : SpaceState) (root : ℕ) (shrunk : Shrunk) (out : List Sheet) (fault : SpaceFault) → out ≡ shrunk.out.items → new.pages.size ≡ old.pages.size
    → WriteLeaves old new out (Err fault) → PutRefused old new (numbers out) fault → SettleRefused old new root shrunk fault
stops_writing old new root shrunk out fault out_is size leaves refused =
    let W : List Sheet → Type 0 = λ l. StopsWriting old new l fault in inl (subst W out_is (record { size = size; leaves = leaves; refused = refused }))

pub writing-moved : {a b a' : SpaceState} (c : SpaceState) (sheets : List Sheet) (fault : SpaceFault) → Moved a b a' → StopsWriting b c sheets fault
    → StopsWriting (midway a (here b)) (midway a' (here c)) sheets fault
writing-moved c sheets fault m stops = record {
  size = stops.size;
  leaves = leaves-moved c sheets (Err fault) m stops.leaves;
  refused = put_refused-moved c (numbers sheets) fault m stops.refused;
}

take_over-moved : {a b a' : SpaceState} (c : SpaceState) (root : ℕ) (over : Option ℕ) (fault : SpaceFault) → Moved a b a' → TakeOverRefused b c root over fault
    → TakeOverRefused (midway a (here b)) (midway a' (here c)) root over fault
take_over-moved c root None fault m refused = absurd refused
take_over-moved {b = b} c root (Some child) fault m (inl read) = inl (stays-moved m read.0, search-moved c fault m read.1)
  where
    search-moved : {a b a' : SpaceState} (c : SpaceState) (fault : SpaceFault) → Moved a b a' → SearchRefused b c (IsFault b.pages 1 root child) fault
        → SearchRefused (midway a (here b)) (midway a' (here c)) (IsFault b.pages 1 root child) fault
    search-moved c Failed m r = r
    search-moved c Memory m r = tt
    search-moved c (Bad page kept found) m r = (λ t. r.0 (m.told ∙ t), λ t. r.1 (m.told ∙ t))
    search-moved c (Corrupt page) m r = λ t. r (m.told ∙ t)
    search-moved c (Large pages) m r = absurd r
take_over-moved c root (Some child) fault m (inr stops) = inr (record {
  cells = stops.cells;
  has = λ t. stops.has (m.told ∙ t);
  root_refused = writing-moved c (on root stops.cells ∷ []) fault m stops.root_refused;
})

pub stops_taking_over : (old a new : SpaceState) (root : ℕ) (shrunk : Shrunk) (out : List Sheet) (fault : SpaceFault) → Steady old a → a.pages.size ≡ old.pages.size
    → Steady a new → out ≡ shrunk.out.items → (IsTrue old.tells → Wrote old.pages a.pages out) → TakeOverRefused a new root shrunk.over fault → SettleRefused old new root shrunk fault
stops_taking_over old a new root shrunk out fault steady size more out_is wrote refused =
    let W : List Sheet → Type 0 = λ l. Wrote old.pages a.pages l in
    inr (inl (record {
      written = here a;
      steady = steady-here steady;
      size = size;
      wrote = λ t. subst W out_is (wrote t);
      refused = take_over-moved new root shrunk.over fault (moved-to steady (steady-on steady more)) refused;
    }))

giving-moved : {a b a' : SpaceState} (c : SpaceState) (numbers : List ℕ) (fault : SpaceFault) → Moved a b a' → GivingRefused b c numbers fault
    → GivingRefused (midway a (here b)) (midway a' (here c)) numbers fault
giving-moved c numbers fault m (inl none) = inl (none.0, stays-moved m none.1)
giving-moved c numbers fault m (inr stops) = inr (giving_refused-moved c numbers fault m stops)

pub stops_giving : (old b new : SpaceState) (root : ℕ) (shrunk : Shrunk) (also : List ℕ) (fault : SpaceFault) → Steady old b → b.pages.size ≡ old.pages.size → Steady b new
    → (IsTrue old.tells → Rewritten old.pages b.pages root shrunk also) → GivingRefused b new (shrunk.lost.items ++ also) fault → SettleRefused old new root shrunk fault
stops_giving old b new root shrunk also fault steady size more was refused =
    inr (inr (record {
      topped = here b;
      steady = steady-here steady;
      size = size;
      also = also;
      rewritten = was;
      refused = giving-moved new (shrunk.lost.items ++ also) fault (moved-to steady (steady-on steady more)) refused;
    }))

pub given_seen : (b new : SpaceState) (lost seen all : List ℕ) (also : Option ℕ) (fault : SpaceFault) → seen ≡ all → all ≡ lost ++ listed also → StopsGivingEach b new seen fault
    → GivingRefused b new (lost ++ listed also) fault
given_seen b new lost seen all also fault seen_is all_are stops = let P : List ℕ → Type 0 = λ l. StopsGivingEach b new l fault in inr (subst P (seen_is ∙ all_are) stops)

-- the same, of a run that began before

pub settling-moved : {a b a' : SpaceState} (c : SpaceState) (root : ℕ) (shrunk : Shrunk) (fault : SpaceFault) → Moved a b a' → SettleRefused b c root shrunk fault
    → SettleRefused (midway a (here b)) (midway a' (here c)) root shrunk fault
settling-moved c root shrunk fault m (inl stops) = inl (writing-moved c shrunk.out.items fault m stops)
settling-moved {b = b} c root shrunk fault m (inr (inl stops)) = inr (inl (record {
  written = stops.written;
  steady = steady-moved (back m) stops.steady;
  size = stops.size;
  wrote = λ t. stops.wrote (m.told ∙ t);
  refused = take_over-moved c root shrunk.over fault (within stops.written m) stops.refused;
}))
settling-moved {b = b} c root shrunk fault m (inr (inr stops)) = inr (inr (record {
  topped = stops.topped;
  steady = steady-moved (back m) stops.steady;
  size = stops.size;
  also = stops.also;
  rewritten = λ t. stops.rewritten (m.told ∙ t);
  refused = giving-moved c (shrunk.lost.items ++ stops.also) fault (within stops.topped m) stops.refused;
}))
