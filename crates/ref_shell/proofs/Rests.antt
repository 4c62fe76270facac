-- What comes after the shared parts in the list of each command.
use Rattle.std.specs.Prelude.{ℕ, ℤ, nat_lt, nat_le, ◌&&◌, take, List, [], ◌∷◌, true, not, length, if◌then◌else◌}
use Rattle.std.specs.FinMap as map
use Rattle.vfs_model.specs.declared.level.Level.TheVariants.{Shared, Reserved}
use Rattle.db_format.specs.declared.value.Value.{Value}
use Rattle.shell_lang.specs.declared.reply.Reply.TheVariants as reply
use Rattle.shell_lang.specs.declared.reply.ErrorWord.TheVariants as word
use Rattle.shell_lang.specs.declared.reply.ScanEnd.TheVariants as last
use Rattle.book_model.specs.Book.{Name, table_at, is_taken, has_row, with_table, without_table, with_row, without_row}
use Rattle.shell_model.specs.State.{State, seen, reached, halted}
use Rattle.shell_model.specs.Cases.{Pick, Case, due, may, changing, sized, row_reply, rows_reply, rows_between, tables_listed}
use Rattle.ref_shell.specs.Part.{put_values}

abbrev pub get_rest : State → ℕ → Name → ℤ → List Case
get_rest s who name rowid = due true (row_reply rowid (map.get (table_at (seen s who) name).rows rowid)) (reached s who Shared) ∷ []

abbrev pub scan_rest : Pick → State → ℕ → Name → ℤ → ℤ → List Case
scan_rest pick s who name low high =
    let rows = rows_between low high (table_at (seen s who) name).rows in
    may (nat_lt 0 pick.rows && nat_le pick.rows (length rows)) (reply.Rows (take pick.rows rows) last.Fault) (halted s s.doubt)
    ∷ may (nat_lt 0 pick.rows && nat_le pick.rows (length rows)) (reply.Rows (take pick.rows rows) last.Memory) s
    ∷ due true (rows_reply low high (table_at (seen s who) name).rows) (reached s who Shared) ∷ []

abbrev pub count_rest : State → ℕ → Name → List Case
count_rest s who name = due true (reply.Count (map.len (table_at (seen s who) name).rows)) (reached s who Shared) ∷ []

abbrev pub tables_rest : State → ℕ → List Case
tables_rest s who = due true (reply.TableLines (tables_listed (seen s who))) (reached s who Shared) ∷ []

abbrev pub put_row : Pick → State → ℕ → Name → ℤ → List Value → List Case
put_row pick s who name rowid values =
    changing s who (sized pick (with_row (seen s who) name rowid values)) (if has_row (seen s who) name rowid then reply.Replaced else reply.New)

abbrev pub put_rest : Pick → State → ℕ → Name → ℤ → List Value → List Case
put_rest pick s who name rowid values = put_values (reached s who Reserved) (seen s who) name values (put_row pick s who name rowid values)

abbrev pub del_row : Pick → State → ℕ → Name → ℤ → List Case
del_row pick s who name rowid = changing s who (sized pick (without_row (seen s who) name rowid)) reply.Done

abbrev pub del_rest : Pick → State → ℕ → Name → ℤ → List Case
del_rest pick s who name rowid = due (not (has_row (seen s who) name rowid)) reply.Nothing (reached s who Reserved) ∷ del_row pick s who name rowid

abbrev pub drop_rest : Pick → State → ℕ → Name → List Case
drop_rest pick s who name = changing s who (sized pick (without_table (seen s who) name)) reply.Done

abbrev pub create_table : Pick → State → ℕ → Name → List Name → List Case
create_table pick s who name columns = changing s who (sized pick (with_table (seen s who) name columns pick.root)) reply.Done

abbrev pub create_rest : Pick → State → ℕ → Name → List Name → List Case
create_rest pick s who name columns = due (is_taken (seen s who) name) (reply.Error word.Exists) (reached s who Reserved) ∷ create_table pick s who name columns
