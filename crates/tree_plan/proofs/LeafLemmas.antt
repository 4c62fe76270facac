-- A cell put into a leaf.
use Rattle.std.proofs.Common.{◌≡◌, ◌≢◌, ℕ, zero, suc, ◌+◌, ◌≤◌, ◌<◌, ℤ, ◌≤ℤ◌, ◌<ℤ◌, List, [], ◌∷◌, ◌++◌, length, map, take, drop, get_or, Some, None, refl, sym, ap, subst, ◌∙◌, arith}
use Rattle.std.specs.List.{AllByRecursion}
use Rattle.std.proofs.lemmas.List.{take-append-drop, drop_all, length-take-le}
use Rattle.std.proofs.Math.Seq.{take-append_seam, drop-append_seam}
use Rattle.tree_page.specs.declared.cell.LeafCell.{LeafCell}
use Rattle.tree_page.specs.declared.cell.PageCells.TheVariants.{Leaf}
use Rattle.tree_page.specs.Page.{leaf, rowid_of, AreRising, AreAbove}
use Rattle.tree_page.specs.Written.{space_of, KeepsLocal, IsSound, Fits}
use Rattle.tree_model.proofs.IntLemmas.{le_is, not_le_is, by_le, antisym_ℤ}
use Rattle.page_cut.specs.Cut.{MayCut}
use Rattle.page_cut.proofs.RoomLemmas.{one_cell}
use Rattle.tree_plan.specs.Plan.{put_cell, cell_of, IsPlace}

-- what stands at a place

pub head_at : (at : ℕ) (cells : List LeafCell) (d : LeafCell) → at < length cells → drop at cells ≡ get_or cells at d ∷ drop (suc at) cells
head_at at [] d within = absurd (omega (arith, within))
head_at zero (c ∷ more) d within = refl
head_at (suc at) (c ∷ more) d within = head_at at more d (omega (arith, within))

pub all_more : (P : LeafCell → Type 0) (at : ℕ) (cells : List LeafCell) (d : LeafCell) → at < length cells → AllByRecursion P (take at cells) → P (get_or cells at d) → AllByRecursion P (take (at + 1) cells)
all_more P at [] d within all here = absurd (omega (arith, within))
all_more P zero (c ∷ more) d within all here = (here, tt)
all_more P (suc at) (c ∷ more) d within all here =
    let Q : ℕ → Type 0 = λ n. AllByRecursion P (take n (c ∷ more)) in
    let e : suc (at + 1) ≡ suc at + 1 = omega arith in
    subst Q e (all.0, all_more P at more d (omega (arith, within)) all.1 here)

-- the search for a place, where a number that went through a machine word is the same number

pub step : (K R : ℤ) (at : ℕ) (cells : List LeafCell) (x : LeafCell) → at < length cells → AllByRecursion (λ c. c.rowid <ℤ K) (take at cells) → x ≡ get_or cells at x → R ≡ x.rowid → R <ℤ K →
    AllByRecursion (λ c. c.rowid <ℤ K) (take (at + 1) cells)
step K R at cells x within all here same less =
    let P : ℤ → Type 0 = λ k. k <ℤ K in
    all_more (λ (c : LeafCell). c.rowid <ℤ K) at cells x within all (subst P (same ∙ ap (λ (c : LeafCell). c.rowid) here) less)

pub found : (K R key : ℤ) (at : ℕ) (cells : List LeafCell) (x : LeafCell) → at < length cells → AllByRecursion (λ c. c.rowid <ℤ K) (take at cells) → x ≡ get_or cells at x → R ≡ x.rowid → K ≡ key → K ≤ℤ R →
    IsPlace key cells at
found K R key at cells x within all here same is less =
    let L : ℤ → Type 0 = λ k. AllByRecursion (λ (c : LeafCell). c.rowid <ℤ k) (take at cells) in
    let A : ℤ → Type 0 = λ k. k ≤ℤ R in
    let B : ℤ → Type 0 = λ k. key ≤ℤ k in
    record {
      within = omega (arith, within);
      before = subst L is all;
      behind = λ cell more tail.
          let e : x ≡ cell = here ∙ first (sym (head_at at cells x within) ∙ tail) in
          subst B (same ∙ ap (λ (c : LeafCell). c.rowid) e) (subst A is less);
    }
  where
    first : {a b : LeafCell} {xs ys : List LeafCell} → (a ∷ xs) ≡ (b ∷ ys) → a ≡ b
    first e = cc

pub past_all : (K key : ℤ) (at n : ℕ) (cells : List LeafCell) → n ≡ length cells → n ≤ at → at ≤ n → AllByRecursion (λ c. c.rowid <ℤ K) (take at cells) → K ≡ key → IsPlace key cells n
past_all K key at n cells long past end all is =
    let e : at ≡ n = omega (arith, past, end) in
    let L : ℤ → Type 0 = λ k. AllByRecursion (λ (c : LeafCell). c.rowid <ℤ k) (take n cells) in
    let M : ℕ → Type 0 = λ m. AllByRecursion (λ (c : LeafCell). c.rowid <ℤ K) (take m cells) in
    record {
      within = omega (arith, long);
      before = subst L is (subst M e all);
      behind = λ cell more tail. absurd (none (sym (drop_all n cells (omega (arith, long))) ∙ tail));
    }
  where
    none : {b : LeafCell} {ys : List LeafCell} → [] ≡ (b ∷ ys) → ⊥
    none e = cc

-- behind lesser ones

put_front : (cell : LeafCell) (xs ys : List LeafCell) → AllByRecursion (λ c. c.rowid <ℤ cell.rowid) xs → put_cell cell (xs ++ ys) ≡ xs ++ put_cell cell ys
put_front cell [] ys less = refl
put_front cell (x ∷ xs) ys less = let a = not_le_is cell.rowid x.rowid less.0 in let b = put_front cell xs ys less.1 in cc

find_front : (key : ℤ) (xs ys : List LeafCell) → AllByRecursion (λ c. c.rowid <ℤ key) xs → cell_of key (xs ++ ys) ≡ cell_of key ys
find_front key [] ys less = refl
find_front key (x ∷ xs) ys less = let a = not_le_is key x.rowid less.0 in let b = find_front key xs ys less.1 in cc

put_here : (cell c : LeafCell) (more : List LeafCell) → c.rowid ≡ cell.rowid → put_cell cell (c ∷ more) ≡ cell ∷ more
put_here cell c more same =
    let a = le_is cell.rowid c.rowid (subst (λ k. cell.rowid ≤ℤ k) (sym same) (self_le cell.rowid)) in
    let b = le_is c.rowid cell.rowid (subst (λ k. k ≤ℤ cell.rowid) (sym same) (self_le cell.rowid)) in
    cc
  where
    self_le : (k : ℤ) → k ≤ℤ k
    self_le k = grind arith

find_here : (key : ℤ) (c : LeafCell) (more : List LeafCell) → c.rowid ≡ key → cell_of key (c ∷ more) ≡ Some c
find_here key c more same =
    let a = le_is key c.rowid (subst (λ k. key ≤ℤ k) (sym same) (self_le key)) in
    let b = le_is c.rowid key (subst (λ k. k ≤ℤ key) (sym same) (self_le key)) in
    cc
  where
    self_le : (k : ℤ) → k ≤ℤ k
    self_le k = grind arith

put_before : (cell c : LeafCell) (more : List LeafCell) → cell.rowid <ℤ c.rowid → put_cell cell (c ∷ more) ≡ cell ∷ c ∷ more
put_before cell c more above = let a = le_is cell.rowid c.rowid (grind (arith, above)) in let b = not_le_is c.rowid cell.rowid above in cc

find_before : (key : ℤ) (c : LeafCell) (more : List LeafCell) → key <ℤ c.rowid → cell_of key (c ∷ more) ≡ None
find_before key c more above = let a = le_is key c.rowid (grind (arith, above)) in let b = not_le_is c.rowid key above in cc

less_ℤ : (a b : ℤ) → a ≤ℤ b → (b ≢ a) → a <ℤ b
less_ℤ a b le other = by_le b a (λ back. absurd (other (antisym_ℤ b a back le))) (λ less. less)

-- at its place

pub there : (key : ℤ) (cells : List LeafCell) (at : ℕ) (c : LeafCell) → IsPlace key cells at → at < length cells → c ≡ get_or cells at c → c.rowid ≡ key →
    (cell_of key cells ≡ Some c) × ((cell : LeafCell) → cell.rowid ≡ key → take at cells ++ (cell ∷ drop (suc at) cells) ≡ put_cell cell cells)
there key cells at c is within here same =
    let split : cells ≡ take at cells ++ (c ∷ drop (suc at) cells) =
    sym (take-append-drop at cells) ∙ ap (λ (l : List LeafCell). take at cells ++ l) (head_at at cells c within ∙ ap (λ (x : LeafCell). x ∷ drop (suc at) cells) (sym here)) in (
      ap (cell_of key) split ∙ find_front key (take at cells) (c ∷ drop (suc at) cells) is.before ∙ find_here key c (drop (suc at) cells) same,
      λ cell keyed.
          let L : ℤ → Type 0 = λ k. AllByRecursion (λ (x : LeafCell). x.rowid <ℤ k) (take at cells) in
          ap (λ (l : List LeafCell). take at cells ++ l) (sym (put_here cell c (drop (suc at) cells) (same ∙ sym keyed)))
          ∙ sym (put_front cell (take at cells) (c ∷ drop (suc at) cells) (subst L (sym keyed) is.before))
          ∙ ap (put_cell cell) (sym split),
    )

pub not_there : (key : ℤ) (cells : List LeafCell) (at : ℕ) (c : LeafCell) → IsPlace key cells at → at < length cells → (get_or cells at c).rowid ≢ key →
    (None ≡ cell_of key cells) × ((cell : LeafCell) → cell.rowid ≡ key → take at cells ++ (cell ∷ drop at cells) ≡ put_cell cell cells)
not_there key cells at c is within other =
    let x : LeafCell = get_or cells at c in
    let tail : drop at cells ≡ x ∷ drop (suc at) cells = head_at at cells c within in
    let split : cells ≡ take at cells ++ (x ∷ drop (suc at) cells) = sym (take-append-drop at cells) ∙ ap (λ (l : List LeafCell). take at cells ++ l) tail in
    let above : key <ℤ x.rowid = less_ℤ key x.rowid (is.behind x (drop (suc at) cells) tail) other in (
      sym (ap (cell_of key) split ∙ find_front key (take at cells) (x ∷ drop (suc at) cells) is.before ∙ find_before key x (drop (suc at) cells) above),
      λ cell keyed.
          let L : ℤ → Type 0 = λ k. AllByRecursion (λ (y : LeafCell). y.rowid <ℤ k) (take at cells) in
          let K : ℤ → Type 0 = λ k. k <ℤ x.rowid in
          ap (λ (l : List LeafCell). take at cells ++ (cell ∷ l)) tail
          ∙ ap (λ (l : List LeafCell). take at cells ++ l) (sym (put_before cell x (drop (suc at) cells) (subst K (sym keyed) above)))
          ∙ sym (put_front cell (take at cells) (x ∷ drop (suc at) cells) (subst L (sym keyed) is.before))
          ∙ ap (put_cell cell) (sym split),
    )

pub at_end : (key : ℤ) (cells : List LeafCell) (at : ℕ) → IsPlace key cells at → at ≡ length cells →
    (None ≡ cell_of key cells) × ((cell : LeafCell) → cell.rowid ≡ key → take at cells ++ (cell ∷ drop at cells) ≡ put_cell cell cells)
at_end key cells at is last =
    let tail : drop at cells ≡ [] = drop_all at cells (omega (arith, last)) in
    let split : cells ≡ take at cells ++ [] = sym (take-append-drop at cells) ∙ ap (λ (l : List LeafCell). take at cells ++ l) tail in (
      sym (ap (cell_of key) split ∙ find_front key (take at cells) [] is.before),
      λ cell keyed.
          let L : ℤ → Type 0 = λ k. AllByRecursion (λ (y : LeafCell). y.rowid <ℤ k) (take at cells) in
          ap (λ (l : List LeafCell). take at cells ++ (cell ∷ l)) tail
          ∙ sym (put_front cell (take at cells) [] (subst L (sym keyed) is.before))
          ∙ ap (put_cell cell) (sym split),
    )

-- the list without the cell at a place, and another put there
pub put_back : (at : ℕ) (cells items : List LeafCell) (cell : LeafCell) → at < length cells → items ≡ take at cells ++ drop (suc at) cells →
    take at items ++ (cell ∷ drop at items) ≡ take at cells ++ (cell ∷ drop (suc at) cells)
put_back at cells items cell within is =
    let long : length (take at cells) ≡ at = length-take-le at cells (omega (arith, within)) in
    let xs : List LeafCell = take at cells in
    let ys : List LeafCell = drop (suc at) cells in
    ap (λ (l : List LeafCell). take at l ++ (cell ∷ drop at l)) is
    ∙ ap (λ k. take k (xs ++ ys) ++ (cell ∷ drop k (xs ++ ys))) (sym long)
    ∙ ap (λ (l : List LeafCell). l ++ (cell ∷ drop (length xs) (xs ++ ys))) (take-append_seam xs ys)
    ∙ ap (λ (l : List LeafCell). xs ++ (cell ∷ l)) (drop-append_seam xs ys)

-- the new cells may be cut

put_above : (last : ℤ) (cell : LeafCell) (cells : List LeafCell) → last <ℤ cell.rowid → AreAbove last (map rowid_of (map leaf cells)) → AreAbove last (map rowid_of (map leaf (put_cell cell cells)))
put_above last cell [] less above = (less, tt)
put_above last cell (c ∷ more) less above =
    let P : List LeafCell → Type 0 = λ l. AreAbove last (map rowid_of (map leaf l)) in
    let deeper = λ (past : c.rowid <ℤ cell.rowid). put_above c.rowid cell more past above.1 in
    by_le cell.rowid c.rowid
    (λ at. by_le c.rowid cell.rowid
    (λ back.
    let same = antisym_ℤ c.rowid cell.rowid back at in
    let Q : ℤ → Type 0 = λ k. AreAbove k (map rowid_of (map leaf more)) in
    subst P (sym (put_here cell c more same)) (less, subst Q same above.1))
    (λ before. subst P (sym (put_before cell c more before)) (less, (before, above.1))))
    (λ past. subst P (sym (put_front cell (c ∷ []) more (past, tt))) (above.0, deeper past))

put_rising : (cell : LeafCell) (cells : List LeafCell) → AreRising (map rowid_of (map leaf cells)) → AreRising (map rowid_of (map leaf (put_cell cell cells)))
put_rising cell [] rising = tt
put_rising cell (c ∷ more) rising =
    let P : List LeafCell → Type 0 = λ l. AreRising (map rowid_of (map leaf l)) in
    let deeper = λ (past : c.rowid <ℤ cell.rowid). put_above c.rowid cell more past rising in
    by_le cell.rowid c.rowid
    (λ at. by_le c.rowid cell.rowid
    (λ back.
    let same = antisym_ℤ c.rowid cell.rowid back at in
    let Q : ℤ → Type 0 = λ k. AreAbove k (map rowid_of (map leaf more)) in
    subst P (sym (put_here cell c more same)) (subst Q same rising))
    (λ before. subst P (sym (put_before cell c more before)) (before, rising)))
    (λ past. subst P (sym (put_front cell (c ∷ []) more (past, tt))) (deeper past))

put_sound : (usable : ℕ) (cell : LeafCell) (cells : List LeafCell) → KeepsLocal usable cell → AllByRecursion (IsSound usable) (map leaf cells) → AllByRecursion (IsSound usable) (map leaf (put_cell cell cells))
put_sound usable cell [] sound all = (sound, tt)
put_sound usable cell (c ∷ more) sound all =
    let P : List LeafCell → Type 0 = λ l. AllByRecursion (IsSound usable) (map leaf l) in
    let deeper = put_sound usable cell more sound all.1 in
    by_le cell.rowid c.rowid
    (λ at. by_le c.rowid cell.rowid
    (λ back. subst P (sym (put_here cell c more (antisym_ℤ c.rowid cell.rowid back at))) (sound, all.1))
    (λ before. subst P (sym (put_before cell c more before)) (sound, all)))
    (λ past. subst P (sym (put_front cell (c ∷ []) more (past, tt))) (all.0, deeper))

put_space : (cell : LeafCell) (cells : List LeafCell) → (space_of (map leaf (put_cell cell cells)) ≤ space_of (map leaf cells) + space_of (leaf cell ∷ [])) × (1 ≤ length (map leaf (put_cell cell cells)))
put_space cell [] = (omega arith, omega arith)
put_space cell (c ∷ more) =
    let P : List LeafCell → Type 0 = λ l. (space_of (map leaf l) ≤ space_of (map leaf (c ∷ more)) + space_of (leaf cell ∷ [])) × (1 ≤ length (map leaf l)) in
    let deeper = put_space cell more in
    by_le cell.rowid c.rowid
    (λ at. by_le c.rowid cell.rowid
    (λ back. subst P (sym (put_here cell c more (antisym_ℤ c.rowid cell.rowid back at))) (omega arith, omega arith))
    (λ before. subst P (sym (put_before cell c more before)) (omega arith, omega arith)))
    (λ past. subst P (sym (put_front cell (c ∷ []) more (past, tt))) (omega (arith, deeper.0), omega arith))

pub may_cut : (number usable : ℕ) (cell : LeafCell) (cells : List LeafCell) → 480 ≤ usable → usable ≤ 65536 → Fits (Leaf cells) number usable → KeepsLocal usable cell → MayCut usable (Leaf (put_cell cell cells))
may_cut number usable cell cells least most fits sound =
    let space = put_space cell cells in
    record {
      some = space.1;
      rising = put_rising cell cells fits.rising;
      sound = put_sound usable cell cells sound fits.sound;
      room = omega (arith, space.0, fits.room, one_cell.of_leaf usable cell least most sound);
    }

-- two reads of one place
pub same_key : (key : ℤ) (at : ℕ) (cells : List LeafCell) (a b : LeafCell) → at < length cells → a ≡ get_or cells at a → b ≡ get_or cells at b → b.rowid ≡ key → a.rowid ≡ key
same_key key at cells a b within a_is b_is same =
    ap (λ (c : LeafCell). c.rowid) (a_is ∙ any at cells a b within ∙ sym b_is) ∙ same
  where
    any : (at : ℕ) (cells : List LeafCell) (a b : LeafCell) → at < length cells → get_or cells at a ≡ get_or cells at b
    any at [] a b within = absurd (omega (arith, within))
    any zero (c ∷ more) a b within = refl
    any (suc at) (c ∷ more) a b within = any at more a b (omega (arith, within))
