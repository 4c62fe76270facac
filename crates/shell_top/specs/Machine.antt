-- The session as a machine: what one line does to the rows, and what it is answered. It knows no files.
use Rattle.std.specs.Prelude.{◌≡◌, ◌≢◌, ℕ, ℤ, ◌≤◌, ◌<◌, Bool, true, false, List, [], ◌∷◌, length, IsTrue, None, IsSome, if◌then◌else◌}
use Rattle.std.specs.FinMap as map
use Rattle.vfs_model.specs.File.{Found}
use Rattle.byte_base.specs.Count.{Rose}
use Rattle.vfs_trait.specs.State.{StackState}
use Rattle.shell_top.specs.Line.{IsPut, IsBad}
use Rattle.shell_top.specs.Rows.{Texts}
use Rattle.shell_top.specs.declared.reply.Reply.{Reply}
use Rattle.shell_top.specs.declared.reply.Reply.TheVariants.{Open, New, Replaced, NotADatabase, BadLine, TooLong, Fault, Stopped, Memory, MemoryStopped}

-- the rows, whether the session is stopped, and how often the device has failed so far
pub record Machine : Type 0 where
  pub rows : Texts
  pub stopped : Bool
  pub faults : ℕ

-- a put that is neither malformed nor too long, of a session that goes on
pub record IsAccepted (old : Machine) (line : List ℕ) (rowid : ℤ) (text : List ℕ) : Type 0 where
  pub put : IsPut line rowid text
  pub goes : old.stopped ≡ false
  pub short : length text ≤ 65536

-- the text is at the rowid from now on, and every other row stays
pub record Puts (old new : Machine) (rowid : ℤ) (text : List ℕ) : Type 0 where
  pub rows : new.rows ≡ map.insert old.rows rowid text
  pub goes : new.stopped ≡ false
  pub faults : old.faults ≤ new.faults

-- some accepted put for which this holds
abbrev pub SomeAccepted : Machine → List ℕ → (ℤ → List ℕ → Type 0) → Type 0
SomeAccepted old line Holds = (rowid : ℤ) × (text : List ℕ) × IsAccepted old line rowid text × Holds rowid text

-- the machine may give this reply to the line and go on so
abbrev pub Step : Machine → List ℕ → Reply → Machine → Type 0
-- a line that is no put
Step old line BadLine new = IsBad line × (new ≡ old)
-- a put of a stopped session
Step old line Stopped new = ((rowid : ℤ) × (text : List ℕ) × IsPut line rowid text) × (old.stopped ≡ true) × (new ≡ old)
-- a text that passes 65,536 bytes
Step old line TooLong new = ((rowid : ℤ) × (text : List ℕ) × IsPut line rowid text × (65536 < length text)) × (old.stopped ≡ false) × (new ≡ old)
-- a rowid that no earlier accepted put had
Step old line New new = SomeAccepted old line (λ rowid text. (map.get old.rows rowid ≡ None) × Puts old new rowid text)
-- a rowid that an earlier accepted put had
Step old line Replaced new = SomeAccepted old line (λ rowid text. IsSome (map.get old.rows rowid) × Puts old new rowid text)
-- want of memory before the device was asked
Step old line Memory new = SomeAccepted old line (λ rowid text. new ≡ old)
-- want of memory behind that
Step old line MemoryStopped new = SomeAccepted old line (λ rowid text. (new.stopped ≡ true) × (old.faults ≤ new.faults))
-- the device failed in this line
Step old line Fault new = SomeAccepted old line (λ rowid text. (new.stopped ≡ true) × Rose old.faults new.faults)
-- these two answer an opening
Step old line Open new = ⊥
Step old line NotADatabase new = ⊥

-- the machine may give these replies to these lines, one after another
abbrev pub Run : Machine → List (List ℕ) → List Reply → Machine → Type 0
Run old [] [] new = new ≡ old
Run old (line ∷ lines) (reply ∷ replies) new = (mid : Machine) × Step old line reply mid × Run mid lines replies new
Run old [] (reply ∷ replies) new = ⊥
Run old (line ∷ lines) [] new = ⊥

-- the bytes of a file, none where it is not there
abbrev pub content : Found → List ℕ
content file = if file.there then file.bytes else []

-- what an opening finds of the file of the name, where the stack tells content
abbrev pub Finds : StackState → List ℕ → (List ℕ → Type 0) → Type 0
Finds stack name Holds = IsTrue stack.tells → (stack.files name).wild ≡ false → Holds (content (stack.files name).now)

-- an opening over this stack may give this reply and begin so
abbrev pub Opens : StackState → List ℕ → Reply → Machine → Type 0
-- the file is missing or empty
Opens stack name Open new = Finds stack name (λ bytes. bytes ≡ []) × (new.rows ≡ map.empty) × (new.stopped ≡ false) × (stack.faults ≤ new.faults)
-- the file is not empty
Opens stack name NotADatabase new = Finds stack name (λ bytes. bytes ≢ []) × (new.stopped ≡ true) × (stack.faults ≤ new.faults)
-- the device failed in the opening
Opens stack name Fault new = (new.stopped ≡ true) × Rose stack.faults new.faults
-- want of memory
Opens stack name MemoryStopped new = (new.stopped ≡ true) × (stack.faults ≤ new.faults)
-- the others answer a line
Opens stack name New new = ⊥
Opens stack name Replaced new = ⊥
Opens stack name BadLine new = ⊥
Opens stack name TooLong new = ⊥
Opens stack name Stopped new = ⊥
Opens stack name Memory new = ⊥
