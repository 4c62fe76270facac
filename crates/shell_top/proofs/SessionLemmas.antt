use Rattle.std.proofs.Common.{◌≡◌, ◌≢◌, ℕ, ℤ, ◌+◌, ◌*◌, ◌^◌, ◌≤◌, Bool, true, false, List, [], length, IsTrue, refl, sym, ap, subst, ◌∙◌, arith, Option, Some, None, IsSome, rules, Result, Ok, Err, slice_get, unwrap_or, to_z, of_z}
use Rattle.std.specs.Result.{OnOk}
use Rattle.std.specs.Int.{w64}
use Rattle.std.specs.Ordering.{int_cmp}
use Rattle.std.specs.List.{flat_map}
use Rattle.std.specs.FinMap as map
use Rattle.std.proofs.lemmas.List.{nil_from_length}
use Rattle.vfs_model.specs.File.{FileState}
use Rattle.vfs_model.specs.Effect.{NoLooser, Wrote, Cut, Opened}
use Rattle.vfs_model.specs.Places.{same_places}
use Rattle.vfs_trait.specs.State.{StackState, NoneOpen, Steady, OpenStays, file_at, name_at}
use Rattle.vfs_trait.specs.Calls.{Leaves, SyncLeaves, Takes}
use Rattle.shell_top.specs.Rows.{row_bytes, row_file}
use Rattle.shell_top.specs.Machine.{content, Opens, Machine, Step, IsAccepted}
use Rattle.shell_top.specs.declared.reply.Reply.TheVariants.{Open}
use Rattle.shell_top.specs.declared.session.Table.{Table}
use Rattle.vfs_trait.specs.declared.fault.VfsFault.{VfsFault}
use Rattle.vfs_trait.specs.declared.fault.VfsFault.TheVariants.{Failed, Memory as NoMemory, Busy, Full, BadPage}
use Rattle.shell_top.specs.Line.{IsPut}
use Rattle.shell_top.specs.Stands.{going, halted, machine_of, table_len, HasCause, reply_for}
use Rattle.shell_top.proofs.RowsLemmas.{row_file_longer}
use Rattle.shell_top.proofs.TouchLemmas.{same_name}
use Rattle.shell_top.proofs.LineLemmas.{put_longer_line}

pub always : {T E P : Type 0} (r : Result T E) → P → OnOk r P
always (Ok x) p = p
always (Err e) p = tt

sync_stays : (old new : FileState) (r : Result Unit VfsFault) → SyncLeaves old new r → new.now ≡ old.now
sync_stays old new (Ok done) left = left.now
sync_stays old new (Err fault) left = left.now

-- a file that was written from its start, cut behind that and synced has just these bytes
rewritten : (delicate : Bool) (old mid new : FileState) (bytes : List ℕ) → Wrote delicate old mid 0 bytes → Cut mid new (length bytes) → new.now.bytes ≡ bytes
rewritten delicate old mid new bytes wrote was_cut =
    same_places new.now.bytes bytes was_cut.size (λ place less.
    let e : 0 + place ≡ place = omega arith in
    was_cut.touched.bytes place (omega (arith, less, was_cut.size))
    ∙ ap (slice_get mid.now.bytes) (sym e) ∙ wrote.inside place less)

pub rewritten_at : (delicate : Bool) (a b c d : StackState) (fid : ℕ) (bytes : List ℕ) (r : Result Unit VfsFault) → OpenStays a b → OpenStays b c → OpenStays c d
    → Wrote delicate (file_at a fid) (b.files (name_at a fid)) 0 bytes → Cut (file_at b fid) (c.files (name_at b fid)) (length bytes)
    → SyncLeaves (file_at c fid) (d.files (name_at c fid)) r → (file_at d fid).now.bytes ≡ bytes
rewritten_at delicate a b c d fid bytes r one two three wrote was_cut synced =
    let P : List ℕ → Type 0 = λ n. Wrote delicate (file_at a fid) (b.files n) 0 bytes in
    let Q : List ℕ → Type 0 = λ n. Cut (file_at b fid) (c.files n) (length bytes) in
    ap (λ n. (d.files n).now.bytes) (same_name c d fid three) ∙ ap (λ f. f.bytes) (sync_stays _ _ r synced)
    ∙ rewritten delicate (file_at a fid) (file_at b fid) (file_at c fid) bytes (subst P (sym (same_name a b fid one)) wrote)
    (subst Q (sym (same_name b c fid two)) was_cut)

no_content : (there : Bool) (bytes : List ℕ) → (there ≡ true → bytes ≡ []) → content (record { there = there; bytes = bytes; bad = λ _. false }) ≡ []
no_content true bytes h = h refl
no_content false bytes h = refl

-- a file that is found empty had no content
was_empty : (old mid : FileState) → Opened old mid → old.wild ≡ false → mid.now.bytes ≡ [] → content old.now ≡ []
was_empty old mid opened tame empty =
    no_content old.now.there old.now.bytes (λ there. ap (λ f. f.bytes) (sym (opened.touched.found there tame).now) ∙ empty)

-- what an opening of an empty file leaves
pub opens_empty : (old mid new : StackState) (name : List ℕ) (fid : ℕ) → NoneOpen old → Takes old mid name fid → Steady old mid → Steady mid new
    → (IsTrue old.tells → Opened (old.files name) (mid.files name)) → OpenStays mid new → Leaves mid new (name_at mid fid) NoLooser
    → (IsTrue mid.tells → 0 ≡ length (file_at mid fid).now.bytes)
    → (new.open_files fid ≡ Some name) × ((other : ℕ) → other ≢ fid → new.open_files other ≡ None)
    × (IsTrue new.tells → (new.files name).now.bytes ≡ []) × Opens old name Open (going map.empty new.faults)
opens_empty old mid new name fid none takes first second opened stays left size =
    let named : name_at mid fid ≡ name = ap (λ o. unwrap_or o []) takes.named in
    let empty_of : IsTrue mid.tells → (mid.files name).now.bytes ≡ [] = λ tells.
    nil_from_length _ (sym (size tells ∙ ap (λ n. length (mid.files n).now.bytes) named)) in
    let P : List ℕ → Type 0 = λ n. NoLooser (mid.files n) (new.files n) in (
      stays.names fid ∙ takes.named,
      λ other differ. stays.names other ∙ takes.others other differ ∙ none other,
      λ tells. let before = sym second.tells ∙ tells in ap (λ f. f.bytes) (subst P named (left.file before)).now ∙ empty_of before,
      (
        λ tells tame. was_empty (old.files name) (mid.files name) (opened tells) tame (empty_of (first.tells ∙ tells)),
        refl,
        refl,
        omega (arith, first.faults, second.faults),
      ),
    )

pub row_file_empty : row_file map.empty ≡ []
row_file_empty =
    let none : map.entries (map.empty {K = _} {X = List ℕ} {R = int_cmp}) ≡ [] =
    nil_from_length _ (sym (map.len-entries (map.empty {X = List ℕ} {R = int_cmp})) ∙ map.len-empty int_cmp (List ℕ)) in
    ap (flat_map row_bytes) none

pub is_open : {X : Type 0} (o : Option X) (x : X) → o ≡ Some x → IsSome o
is_open o x e = subst IsSome (sym e) (search rules)

-- the file of an opened name
pub opened_bytes : (stack : StackState) (name : List ℕ) (fid : ℕ) → stack.open_files fid ≡ Some name → (file_at stack fid).now.bytes ≡ (stack.files name).now.bytes
opened_bytes stack name fid named = ap (λ o. (stack.files (unwrap_or o [])).now.bytes) named

refused : (old : Machine) (line : List ℕ) (rowid : ℤ) (text : List ℕ) (between after : ℕ) (fault : VfsFault)
    → IsAccepted old line rowid text → HasCause old.faults between fault → between ≤ after → Step old line (reply_for fault) (halted after)
refused old line rowid text between after Failed accepted cause later = (rowid, text, accepted, (refl, omega (arith, cause, later)))
refused old line rowid text between after NoMemory accepted cause later = (rowid, text, accepted, (refl, omega (arith, cause, later)))
refused old line rowid text between after (Busy holder level) accepted cause later = (rowid, text, accepted, (refl, omega (arith, cause, later)))
refused old line rowid text between after (Full total limit) accepted cause later = (rowid, text, accepted, (refl, omega (arith, cause, later)))
refused old line rowid text between after (BadPage page kept found) accepted cause later = (rowid, text, accepted, (refl, omega (arith, cause, later)))

-- a put that the stack refused
pub step_refused : (table : Option Table) (open_table : Table) (before between after : ℕ) (line : List ℕ) (rowid : ℤ) (text : List ℕ) (fault : VfsFault)
    → table ≡ Some open_table → IsPut line rowid text → length text ≤ 65536 → HasCause before between fault → between ≤ after
    → Step (machine_of table before) line (reply_for fault) (halted after)
step_refused table open_table before between after line rowid text fault is put short cause later =
    let P : Option Table → Type 0 = λ t. Step (machine_of t before) line (reply_for fault) (halted after) in
    subst P (sym is) (refused (going open_table.rows before) line rowid text between after fault (record { put = put; goes = refl; short = short }) cause later)

-- a table that a put makes longer
pub room_left : (table : Option Table) (open_table : Table) (line : List ℕ) (rowid : ℤ) (text : List ℕ)
    → table ≡ Some open_table → IsPut line rowid text → 2 * table_len table + 3 * length line ≤ 3 * 2 ^ 30
    → length (row_file (map.insert open_table.rows (to_z w64 (of_z w64 rowid)) text)) ≤ 4294967296
room_left table open_table line rowid text is put room =
    omega (arith, row_file_longer open_table.rows (to_z w64 (of_z w64 rowid)) text, put_longer_line line rowid text put, ap table_len is, room)

pub grows_by_line : (table : Option Table) (old new : Table) (line : List ℕ) (rowid : ℤ) (text : List ℕ)
    → table ≡ Some old → IsPut line rowid text → new.rows ≡ map.insert old.rows (to_z w64 (of_z w64 rowid)) text
    → 2 * length (row_file new.rows) ≤ 2 * table_len table + 3 * length line
grows_by_line table old new line rowid text is put rows =
    omega (arith, row_file_longer old.rows (to_z w64 (of_z w64 rowid)) text, put_longer_line line rowid text put, ap table_len is, ap (λ r. length (row_file r)) rows)
