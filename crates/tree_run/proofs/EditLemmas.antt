-- What is done to the rows of a run within a longer one.
use Rattle.std.proofs.Common.{◌≡◌, ℕ, ℤ, ◌≤ℤ◌, ◌<ℤ◌, List, [], ◌∷◌, ◌++◌, refl, sym, ap, ◌∙◌, append-nil}
use Rattle.std.specs.Int.Signed.{≤ℤ_refl}
use Rattle.page_list.specs.Pages.{Pages}
use Rattle.tree_model.specs.Tree.{Row, Tree, rowid, rows_of}
use Rattle.tree_model.proofs.IntLemmas.{le_lt_ℤ, le_trans_ℤ, lt_le_ℤ, le_is, not_le_is}
use Rattle.tree_model.proofs.RiseLemmas.{RisesTo, rises_on, tree_rises}
use Rattle.tree_run.specs.Node.{Piece, rows_in, last_key}
use Rattle.tree_run.specs.Run.{IsChild, AreChildren, Run, IsRun, run_rows, Behind, Nothing, Next, bound, IsBehind, behind_rows}
use Rattle.tree_run.specs.Edit.{chain_at, without, Edit, Puts, Removes, key_of, edited, EditWithin}
use Rattle.tree_run.proofs.RunLemmas.{child_strict, run_within}
use Rattle.tree_run.proofs.PutLemmas.{by_place, put_later, put_between, put_same}

-- the rows without one, and its chain, by the first row that they have

pub taken_later : (key : ℤ) (r : Row) (more : List Row) → rowid r <ℤ key → (without key (r ∷ more) ≡ r ∷ without key more) × (chain_at key (r ∷ more) ≡ chain_at key more)
taken_later key r more past = let a = not_le_is key (rowid r) past in (cc, cc)

pub taken_here : (key : ℤ) (r : Row) (more : List Row) → key ≤ℤ rowid r → rowid r ≤ℤ key → (without key (r ∷ more) ≡ more) × (chain_at key (r ∷ more) ≡ r.chain)
taken_here key r more at back = let a = le_is key (rowid r) at in let b = le_is (rowid r) key back in (cc, cc)

pub not_taken : (key : ℤ) (r : Row) (more : List Row) → key <ℤ rowid r → (without key (r ∷ more) ≡ r ∷ more) × (chain_at key (r ∷ more) ≡ [])
not_taken key r more above = let a = le_is key (rowid r) (lt_le_ℤ key (rowid r) above) in let b = not_le_is (rowid r) key above in (cc, cc)

-- what lies before and behind stays

reaches : (low high : ℤ) (rows : List Row) → RisesTo low high rows → low ≤ℤ high
reaches low high [] rise = rise
reaches low high (r ∷ rows) rise = le_trans_ℤ low (rowid r) high (lt_le_ℤ low (rowid r) rise.0) (reaches (rowid r) high rows rise.1)

past_first : (edit : Edit) (r : Row) (more : List Row) → rowid r <ℤ key_of edit → edited edit (r ∷ more) ≡ r ∷ edited edit more
past_first (Puts row) r more past = put_later row r more past
past_first (Removes key) r more past = (taken_later key r more past).0

edit_behind : (edit : Edit) (low high : ℤ) (rows more : List Row) → RisesTo low high rows → high <ℤ key_of edit → edited edit (rows ++ more) ≡ rows ++ edited edit more
edit_behind edit low high [] more rise less = refl
edit_behind edit low high (r ∷ rows) more rise less =
    past_first edit r (rows ++ more) (le_lt_ℤ (rowid r) high (key_of edit) (reaches (rowid r) high rows rise.1) less)
    ∙ ap (λ (l : List Row). r ∷ l) (edit_behind edit (rowid r) high rows more rise.1 less)

before_first : (edit : Edit) (low high : ℤ) (rows : List Row) → RisesTo low high rows → key_of edit ≤ℤ low → edited edit rows ≡ edited edit [] ++ rows
before_first (Puts row) low high [] rise less = refl
before_first (Puts row) low high (r ∷ more) rise less = put_between row r more (le_lt_ℤ (rowid row) low (rowid r) less rise.0)
before_first (Removes key) low high [] rise less = refl
before_first (Removes key) low high (r ∷ more) rise less = (not_taken key r more (le_lt_ℤ key low (rowid r) less rise.0)).0

-- rows in front of others, by the first of them
in_front : (edit : Edit) (r : Row) (rows more : List Row) → edited edit (rows ++ more) ≡ edited edit rows ++ more → edited edit (r ∷ (rows ++ more)) ≡ edited edit (r ∷ rows) ++ more
in_front (Puts row) r rows more rest =
    let behind : List Row → List Row = λ l. l ++ more in
    by_place (rowid row) r
    (λ past. put_later row r (rows ++ more) past ∙ ap (λ (l : List Row). r ∷ l) rest ∙ ap behind (sym (put_later row r rows past)))
    (λ at back. put_same row r (rows ++ more) at back ∙ ap behind (sym (put_same row r rows at back)))
    (λ above. put_between row r (rows ++ more) above ∙ ap behind (sym (put_between row r rows above)))
in_front (Removes key) r rows more rest =
    let behind : List Row → List Row = λ l. l ++ more in
    by_place key r
    (λ past. (taken_later key r (rows ++ more) past).0 ∙ ap (λ (l : List Row). r ∷ l) rest ∙ ap behind (sym (taken_later key r rows past).0))
    (λ at back. (taken_here key r (rows ++ more) at back).0 ∙ ap behind (sym (taken_here key r rows at back).0))
    (λ above. (not_taken key r (rows ++ more) above).0 ∙ ap behind (sym (not_taken key r rows above).0))

edit_ahead : (edit : Edit) (low high : ℤ) (rows more : List Row) → RisesTo low high more → key_of edit ≤ℤ low → edited edit (rows ++ more) ≡ edited edit rows ++ more
edit_ahead edit low high [] more rise less = before_first edit low high more rise less
edit_ahead edit low high (r ∷ rows) more rise less = in_front edit r rows more (edit_ahead edit low high rows more rise less)

-- the rows of a run rise

child_rises : (pages : Pages) (low high : ℤ) (depth : ℕ) (tree : Tree) → IsChild pages low high depth tree → RisesTo low high (rows_of tree)
child_rises pages low high depth tree is = tree_rises pages [] low high tree (lt_le_ℤ low high (child_strict pages low high depth tree is)) is.held is.ordered

children_rise : (pages : Pages) (low : ℤ) (depth : ℕ) (pieces : List Piece) → AreChildren pages low depth pieces → RisesTo low (last_key low pieces) (rows_in pieces)
children_rise pages low depth [] are = ≤ℤ_refl low
children_rise pages low depth (p ∷ more) are =
    rises_on low p.key (last_key p.key more) (rows_of p.tree) (rows_in more) (child_rises pages low p.key depth p.tree are.0) (children_rise pages p.key depth more are.1)

run_rises : (pages : Pages) (low high : ℤ) (depth : ℕ) (run : Run) → IsRun pages low high depth run → RisesTo low high (run_rows run)
run_rises pages low high depth run is =
    rises_on low (last_key low run.front) high (rows_in run.front) (rows_of run.last) (children_rise pages low depth run.front is.children)
    (child_rises pages (last_key low run.front) high depth run.last is.last_child)

edit_then : (pages : Pages) (high : ℤ) (depth : ℕ) (behind : Behind) (rows : List Row) (edit : Edit) → IsBehind pages high depth behind → key_of edit ≤ℤ bound high behind
    → edited edit (rows ++ behind_rows behind) ≡ edited edit rows ++ behind_rows behind
edit_then pages high depth Nothing rows edit tail less = ap (edited edit) (append-nil rows) ∙ sym (append-nil (edited edit rows))
edit_then pages high depth (Next key rest) rows edit tail less = edit_ahead edit key high rows (run_rows rest) (run_rises pages key high depth rest tail) less

pub edit_within : EditWithin
edit_within pages low high depth before run behind edit is above less =
    let parts = (run_within.parts pages low high depth before run behind).0 is in
    ap (λ (l : List Row). rows_in before ++ l) (sym (edit_then pages high depth behind (run_rows run) edit parts.2 less))
    ∙ sym (edit_behind edit low (last_key low before) (rows_in before) (run_rows run ++ behind_rows behind) (children_rise pages low depth before parts.0) above)
    ∙ ap (edited edit) (sym (run_within.rows before run behind))
