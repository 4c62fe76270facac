-- A leaf without a row, written to a page that was taken.
use Rattle.std.proofs.Common.{◌≡◌, ℕ, ◌≤◌, ◌+◌, [], ◌∷◌, OnOk, Result, Ok, Err, sym, subst, ◌∙◌, arith}
use Rattle.std.proofs.lemmas.Bool.Decides.{nat_tests}
use Rattle.page_list.specs.Pages.{HasPage, AllDifferent}
use Rattle.page_list.proofs.TimesLemmas.{times_one}
use Rattle.page_pool.specs.Space.{SpaceState, HasSizes, Steady}
use Rattle.page_pool.specs.Pool.{Taken}
use Rattle.payload_chain.proofs.StateLemmas.{here, steady-on}
use Rattle.db_format.specs.declared.fault.SpaceFault.{SpaceFault}
use Rattle.tree_model.specs.Held.{HasCells}
use Rattle.tree_page.specs.Written.{Fits}
use Rattle.tree_page.specs.Page.{first_pointer, page_kind}
use Rattle.tree_page.specs.declared.cell.PageCells.{PageCells}
use Rattle.tree_page.specs.declared.cell.PageCells.TheVariants.{Leaf as LeafPage}
use Rattle.page_cut.specs.declared.parts.Sheet.{Sheet}
use Rattle.tree_write.specs.Write.{MayStand, WriteLeaves, NotesSheets}
use Rattle.rowid_tree.specs.Roots.{EmptyWritten, EmptyRefused, StopsAtRoot}
use Rattle.tree_remove.proofs.MoveLemmas.{moved-to, put_refused-moved}

-- a page of a database has room for the header of a leaf
room_of : (n usable : ℕ) → 480 ≤ usable → first_pointer n (page_kind (LeafPage [])) + 0 ≤ usable
room_of n usable least = grind (arith, nat_tests)

-- the leaf may stand on any page that is there
pub may_stand : (s : SpaceState) (sheet : Sheet) → HasSizes s → HasPage s.pages sheet.number → sheet.cells ≡ LeafPage [] → MayStand s.pages sheet
may_stand s sheet sizes there is = record {
  there = there;
  fits = let P : PageCells → Type 0 = λ c. Fits c sheet.number s.pages.usable in subst P (sym is) (record {
    rising = tt;
    sound = tt;
    room = room_of sheet.number s.pages.usable sizes.least;
  });
}

one_number : (n : ℕ) → AllDifferent (n ∷ [])
one_number n = record { once = λ m. grind (arith, times_one m n) }

pub empty_written : (old new : SpaceState) (sheet : Sheet) (result : Result Unit SpaceFault) → HasSizes old → HasPage old.pages sheet.number → sheet.cells ≡ LeafPage []
    → new.pages.size ≡ old.pages.size → WriteLeaves old new (sheet ∷ []) result → OnOk result (NotesSheets old new (sheet ∷ [])) → OnOk result (EmptyWritten old new sheet.number)
empty_written old new sheet (Err fault) sizes there is size leaves notes = tt
empty_written old new sheet (Ok u) sizes there is size leaves notes =
    let may = may_stand old sheet sizes there is in
    record {
      size = size;
      change = notes.0 may;
      leaf = λ t.
          let wrote = leaves t in
          let P : PageCells → Type 0 = λ c. HasCells new.pages sheet.number c in
          record {
            cells = subst P is ((wrote.each (one_number sheet.number)).0 may);
            only = wrote.only.only;
            used = wrote.only.used;
            front = wrote.only.front;
            good = wrote.only.good;
          };
    }

pub stops_at_root : {a b c : SpaceState} (number : ℕ) (fault : SpaceFault) → Steady a b → Steady b c → Taken a b number → EmptyRefused b c number fault → StopsAtRoot a c fault
stops_at_root {b = b} {c = c} number fault before steady taken refused =
    let moved = moved-to before (steady-on before steady) in
    record {
      number = number;
      met = here b;
      taken = record { within = taken.within; grows = taken.grows; change = taken.change; head = taken.head; is = taken.is; pages_are = taken.pages_are };
      refused = record {
        size = refused.size;
        only = λ t. refused.only (before.told ∙ t);
        refused = put_refused-moved c (number ∷ []) fault moved refused.refused;
      };
    }
