-- The way down to a leaf.
use Rattle.std.proofs.Common.{◌≡◌, ℕ, zero, suc, ◌+◌, ◌-◌, ◌≤◌, ◌<◌, ℤ, List, [], ◌∷◌, ◌++◌, length, Option, None, IsTrue, inl, inr, refl, sym, ap, subst, ◌∙◌, arith, append_assoc, append-nil, length-append}
use Rattle.std.specs.List.{AllByRecursion}
use Rattle.page_list.specs.Pages.{Pages}
use Rattle.page_pool.specs.Space.{SpaceState, Steady, Stays}
use Rattle.db_format.specs.declared.fault.SpaceFault.{SpaceFault}
use Rattle.tree_page.specs.declared.cell.LeafCell.{LeafCell}
use Rattle.tree_page.specs.declared.cell.InnerCell.{InnerCell}
use Rattle.tree_page.specs.declared.cell.PageCells.TheVariants.{Leaf as LeafPage, Interior as InteriorPage}
use Rattle.tree_model.specs.declared.level.Level.{Level}
use Rattle.tree_model.specs.declared.ends.Fault.{Fault}
use Rattle.tree_model.specs.declared.ends.PathEnd.{PathEnd}
use Rattle.tree_model.specs.declared.ends.PathEnd.TheVariants.{Ends}
use Rattle.tree_model.specs.Held.{HasCells}
use Rattle.tree_model.specs.Whole.{most_depth}
use Rattle.tree_model.specs.Walk.{IsFault, AtKey, first_from, child_for}
use Rattle.tree_search.specs.Search.{place_for, Descends, IsStep, SearchRefused}
use Rattle.tree_search.specs.Steps.{Leads}
use Rattle.tree_search.proofs.StateLemmas.{refused_on, refused_as}

-- ---- paths, from a page to the one below it

pub leads_fault : (left : ℕ) (columns : Option ℕ) (pages : Pages) (above page : ℕ) (key : ℤ) (fault : Fault) → IsFault pages left above page fault → Leads left columns pages above page key (Ends fault)
leads_fault zero columns pages above page key fault is = record { leads = (fault, is, refl) }
leads_fault (suc left) columns pages above page key fault is = record { leads = inl (fault, is, refl) }

pub leads_leaf : (left : ℕ) (columns : Option ℕ) (pages : Pages) (above page : ℕ) (key : ℤ) (end : PathEnd) (cells : List LeafCell) → 1 ≤ left
    → HasCells pages page (LeafPage cells) → AtKey columns pages page key (first_from key cells) end → Leads left columns pages above page key end
leads_leaf zero columns pages above page key end cells some has at = absurd (omega arith)
leads_leaf (suc left) columns pages above page key end cells some has at = record { leads = inr (inl (cells, has, at)) }

pub leads_down : (left more : ℕ) (columns : Option ℕ) (pages : Pages) (above page : ℕ) (key : ℤ) (end : PathEnd) (cells : List InnerCell) (right : ℕ) → left ≡ suc more
    → HasCells pages page (InteriorPage cells right) → Leads more columns pages page (child_for key cells right) key end → Leads left columns pages above page key end
leads_down left more columns pages above page key end cells right is has below =
    let P : ℕ → Type 0 = λ n. Leads n columns pages above page key end in
    subst P (sym is) (record { leads = inr (inr (cells, right, has, below.leads)) })

-- the way and what its leaf says of the key make the path
pub way_leads : (levels : List Level) (left : ℕ) (columns : Option ℕ) (pages : Pages) (above page leaf : ℕ) (key : ℤ) (end : PathEnd) (cells : List LeafCell) → length levels < left
    → Descends pages key page levels leaf cells → AtKey columns pages leaf key (first_from key cells) end → Leads left columns pages above page key end
way_leads [] left columns pages above page leaf key end cells few way at =
    let P : ℕ → Type 0 = λ n. Leads left columns pages above n key end in
    subst P way.0 (leads_leaf left columns pages above leaf key end cells (omega arith) way.1 at)
way_leads (level ∷ more) left columns pages above page leaf key end cells few way at =
    leads_down left (left - 1) columns pages above page key end level.cells level.right (omega arith) way.1
    (way_leads more (left - 1) columns pages page (child_for key level.cells level.right) leaf key end cells (omega arith) way.3 at)

-- ---- the loop

-- a descent has come to a page over these levels: what is found from there on is found from the root on
pub record Comes (pages : Pages) (root : ℕ) (key : ℤ) (left above page : ℕ) (levels : List Level) : Type 0 where
  pub ends : (end : PathEnd) → Leads left None pages above page key end → Leads most_depth None pages root root key end
  pub down : (more : List Level) (leaf : ℕ) (cells : List LeafCell) → Descends pages key page more leaf cells → Descends pages key root (levels ++ more) leaf cells

pub comes_down : (pages : Pages) (root : ℕ) (key : ℤ) (left less above page child : ℕ) (levels longer : List Level) (level : Level) → Comes pages root key left above page levels
    → left ≡ suc less → level.number ≡ page → HasCells pages page (InteriorPage level.cells level.right) → level.at ≡ place_for key level.cells
    → child ≡ child_for key level.cells level.right → longer ≡ levels ++ level ∷ [] → Comes pages root key less page child longer
comes_down pages root key left less above page child levels longer level comes left_is number_is has at child_is longer_is = record {
  ends = λ end leads.
      let P : ℕ → Type 0 = λ n. Leads less None pages page n key end in
      comes.ends end (leads_down left less None pages above page key end level.cells level.right left_is has (subst P child_is leads));
  down = λ more leaf cells way.
      let P : ℕ → Type 0 = λ n. Descends pages key n more leaf cells in
      let Q : List Level → Type 0 = λ l. Descends pages key root l leaf cells in
      let same : levels ++ level ∷ more ≡ longer ++ more = sym (ap (λ (l : List Level). l ++ more) longer_is ∙ append_assoc levels (level ∷ []) more) in
      subst Q same (comes.down (level ∷ more) leaf cells (number_is, has, at, subst P child_is way));
}

pub comes_fault : (pages : Pages) (root : ℕ) (key : ℤ) (left above page : ℕ) (levels : List Level) (fault : Fault) → Comes pages root key left above page levels
    → IsFault pages left above page fault → Leads most_depth None pages root root key (Ends fault)
comes_fault pages root key left above page levels fault comes is = comes.ends (Ends fault) (leads_fault left None pages above page key fault is)

pub comes_leaf : (pages : Pages) (root : ℕ) (key : ℤ) (left above page : ℕ) (levels : List Level) (cells : List LeafCell) → Comes pages root key left above page levels
    → HasCells pages page (LeafPage cells) → Descends pages key root levels page cells
comes_leaf pages root key left above page levels cells comes has =
    let P : List Level → Type 0 = λ l. Descends pages key root l page cells in
    subst P (append-nil levels) (comes.down [] page cells (refl, has))

-- told or not: the levels so far
pub record IsWay (size usable left : ℕ) (levels : List Level) : Type 0 where
  pub each : AllByRecursion (IsStep size usable) levels
  pub few : left + length levels ≡ most_depth

all_more : (P : Level → Type 0) (levels : List Level) (level : Level) → AllByRecursion P levels → P level → AllByRecursion P (levels ++ level ∷ [])
all_more P [] level all is = (is, tt)
all_more P (x ∷ levels) level all is = (all.0, all_more P levels level all.1 is)

pub way_more : (size usable left less : ℕ) (levels longer : List Level) (level : Level) → IsWay size usable left levels → left ≡ suc less → IsStep size usable level
    → longer ≡ levels ++ level ∷ [] → IsWay size usable less longer
way_more size usable left less levels longer level way left_is step longer_is = record {
  each = let P : List Level → Type 0 = λ l. AllByRecursion (IsStep size usable) l in subst P (sym longer_is) (all_more _ levels level way.each step);
  few = omega (arith, way.few, ap (λ (l : List Level). length l) longer_is, length-append levels (level ∷ []));
}

-- ---- what was refused on the way

pub down_refused : (old mid new : SpaceState) (root : ℕ) (key : ℤ) (left above page : ℕ) (levels : List Level) (fault : SpaceFault) → Steady old mid → Stays old mid
    → (IsTrue old.tells → Comes old.pages root key left above page levels) → SearchRefused mid new (IsFault mid.pages left above page) fault
    → SearchRefused old new (λ f. Leads most_depth None old.pages root root key (Ends f)) fault
down_refused old mid new root key left above page levels fault steady stays comes refused =
    refused_as old new (IsFault old.pages left above page) (λ f. Leads most_depth None old.pages root root key (Ends f)) fault
    (λ t f is. comes_fault old.pages root key left above page levels f (comes t) is)
    (refused_on old mid new (λ p. IsFault p left above page) fault steady stays refused)
