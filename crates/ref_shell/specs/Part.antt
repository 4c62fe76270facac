-- A part of a list of cases that was gone through.
use Rattle.std.specs.Prelude.{ℕ, List, ◌∷◌, not, ◌==◌, length, Option, Some, None, Result, Ok, Err}
use Rattle.std.specs.declared.alloc.AllocError.{AllocError}
use Rattle.std.specs.List.{list_any}
use Rattle.vfs_model.specs.declared.level.Level.TheVariants.{Shared, Reserved}
use Rattle.db_format.specs.declared.value.Value.{Value}
use Rattle.shell_lang.specs.declared.reply.Reply.{Reply}
use Rattle.shell_lang.specs.declared.reply.Reply.TheVariants as reply
use Rattle.shell_lang.specs.declared.reply.ErrorWord.TheVariants as word
use Rattle.book_model.specs.Book.{Book, Name, table_at}
use Rattle.shell_model.specs.State.{State, seen, reached}
use Rattle.shell_model.specs.Cases.{Case, due, Allows, asked, reading, writing, looking, is_long}

-- the part has refused with a reply, which leaves this state, or what comes after it decides
abbrev pub GoesThrough : (List Case → List Case) → Option Reply → State → Type 0
GoesThrough part (Some reply) after = (cases : List Case) → Allows (part cases) reply after
GoesThrough part None after = (cases : List Case) (reply : Reply) (next : State) → Allows cases reply next → Allows (part cases) reply next

-- the parts before a read and before a change
abbrev pub refused_read : State → ℕ → List Case → List Case
refused_read s who cases = asked s (reading s who cases)

abbrev pub refused_write : State → ℕ → List Case → List Case
refused_write s who cases = asked s (writing s who cases)

-- the same of a table
abbrev pub read_table : State → ℕ → Name → List Case → List Case
read_table s who name cases = refused_read s who (looking (reached s who Shared) (seen s who) name cases)

abbrev pub write_table : State → ℕ → Name → List Case → List Case
write_table s who name cases = refused_write s who (looking (reached s who Reserved) (seen s who) name cases)

-- and what a table says of the values that are put
abbrev pub put_values : State → Book → Name → List Value → List Case → List Case
put_values after book name values cases =
    due (not (length values == length (table_at book name).columns)) (reply.Error word.Columns) after
    ∷ due (list_any is_long values) (reply.Error word.TooLong) after
    ∷ cases

-- the reply of a command that may want memory
abbrev pub said_of : Result Reply AllocError → Reply
said_of (Ok answer) = answer
said_of (Err e) = reply.Memory
