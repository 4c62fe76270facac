-- Paths, from a page to the one below it.
use Rattle.std.proofs.Common.{◌≡◌, ℕ, zero, suc, ◌≤◌, ℤ, List, Option, inl, inr, refl, sym, subst, arith}
use Rattle.page_list.specs.Pages.{Pages}
use Rattle.tree_page.specs.declared.cell.LeafCell.{LeafCell}
use Rattle.tree_page.specs.declared.cell.InnerCell.{InnerCell}
use Rattle.tree_page.specs.declared.cell.PageCells.TheVariants.{Leaf as LeafPage, Interior as InteriorPage}
use Rattle.tree_model.specs.Held.{HasCells}
use Rattle.tree_model.specs.declared.ends.Fault.{Fault}
use Rattle.tree_model.specs.declared.ends.PathEnd.{PathEnd}
use Rattle.tree_model.specs.declared.ends.PathEnd.TheVariants.{Ends}
use Rattle.tree_model.specs.Walk.{IsFault, AtKey, Path, first_from, child_for}
use Rattle.tree_model.specs.Whole.{most_depth}
use Rattle.ref_trees.specs.Steps.{Leads}

pub leads_fault : (left : ℕ) (columns : Option ℕ) (pages : Pages) (above page : ℕ) (key : ℤ) (fault : Fault) → IsFault pages left above page fault
    → Leads left columns pages above page key (Ends fault)
leads_fault zero columns pages above page key fault is = record { leads = (fault, is, refl) }
leads_fault (suc left) columns pages above page key fault is = record { leads = inl (fault, is, refl) }

pub leads_leaf : (left : ℕ) (columns : Option ℕ) (pages : Pages) (above page : ℕ) (key : ℤ) (end : PathEnd) (cells : List LeafCell) → 1 ≤ left
    → HasCells pages page (LeafPage cells) → AtKey columns pages page key (first_from key cells) end → Leads left columns pages above page key end
leads_leaf zero columns pages above page key end cells some has at = absurd (omega arith)
leads_leaf (suc left) columns pages above page key end cells some has at = record { leads = inr (inl (cells, has, at)) }

pub leads_down : (left more : ℕ) (columns : Option ℕ) (pages : Pages) (above page : ℕ) (key : ℤ) (end : PathEnd) (cells : List InnerCell) (right : ℕ) → left ≡ suc more
    → HasCells pages page (InteriorPage cells right) → Leads more columns pages page (child_for key cells right) key end
    → Leads left columns pages above page key end
leads_down left more columns pages above page key end cells right is has below =
    let P : ℕ → Type 0 = λ n. Leads n columns pages above page key end in
    subst P (sym is) (record { leads = inr (inr (cells, right, has, below.leads)) })

pub is_path : (columns : Option ℕ) (pages : Pages) (root : ℕ) (key : ℤ) (end : PathEnd) → Leads most_depth columns pages root root key end → Path columns pages root key end
is_path columns pages root key end path = path.leads
