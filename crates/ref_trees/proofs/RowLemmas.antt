-- The payload of a row.
use Rattle.std.proofs.Common.{◌≡◌, ℕ, ◌≤◌, ◌↔◌, IsTrue, leb, false, List, ◌++◌, length, Option, inr, refl, ap, subst, arith, length-append}
use Rattle.std.proofs.lemmas.Bool.Decides.{nat_tests}
use Rattle.db_format.specs.Record.{IsRecord, OneRecord}
use Rattle.db_format.specs.declared.value.Value.{Value}
use Rattle.page_list.specs.Pages.{Pages}
use Rattle.page_list.specs.Chain.{IsChain}
use Rattle.tree_page.specs.declared.cell.LeafCell.{LeafCell}
use Rattle.tree_model.specs.Held.{HasRow}
use Rattle.db_format.specs.Schema.{IsRecordOf}
use Rattle.tree_model.specs.declared.ends.Fault.TheVariants.{Broken}
use Rattle.tree_model.specs.Walk.{Accepts, IsUnreadable, rest_of}
use Rattle.ref_trees.specs.Steps.{IsKept}

-- a payload that reads as some values is a record of at most so many columns just where they are not more
pub counted : (payload : List ℕ) (values : List Value) (most : ℕ) → OneRecord → IsRecord payload values → IsTrue (leb (length values) most) ↔ IsRecordOf most payload
counted payload values most one is = (
  (λ few. record { values = values; is_record = is; few = grind (arith, nat_tests, few) }),
  (λ of. let same = one payload of.values values of.is_record is in let few = of.few in let P : List Value → Type 0 = λ vs. length vs ≤ most in
      let fits = subst P same few in grind (arith, nat_tests)),
)

pub no_record : (payload : List ℕ) (most : ℕ) → ((values : List Value) → ¬ (IsRecord payload values)) → IsTrue false ↔ IsRecordOf most payload
no_record payload most none = ((λ never. cc), (λ of. absurd (none of.values of.is_record)))

-- what the cell keeps and what its chain holds
pub has_row : (pages : Pages) (cell : LeafCell) (numbers rest payload : List ℕ) → IsKept cell → IsChain pages cell.overflow numbers rest
    → length rest ≡ rest_of cell → payload ≡ cell.local ++ rest → HasRow pages (record { cell = cell; chain = numbers; payload = payload })
has_row pages cell numbers rest payload kept chain long joined = record {
  rest = rest;
  joined = joined;
  whole = omega (arith, ap (λ (p : List ℕ). length p) joined, length-append cell.local rest);
  chained = chain;
}

pub refused : (columns : Option ℕ) (pages : Pages) (leaf : ℕ) (cell : LeafCell) (numbers rest payload : List ℕ) → IsKept cell
    → IsChain pages cell.overflow numbers rest → length rest ≡ rest_of cell → payload ≡ cell.local ++ rest → ¬ (Accepts columns payload)
    → IsUnreadable columns pages leaf cell (Broken leaf)
refused columns pages leaf cell numbers rest payload kept chain long joined none = inr (inr (record {
  row = record { cell = cell; chain = numbers; payload = payload };
  of_cell = refl;
  has_row = has_row pages cell numbers rest payload kept chain long joined;
  refused = none;
  named = refl;
}))
