-- As many `fault` replies as a run has, so often did the device fail.
use Rattle.std.specs.Prelude.{ℕ, ◌+◌, ◌≤◌, min, List, [], ◌∷◌}
use Rattle.byte_base.specs.Count.{last_count}
use Rattle.vfs_trait.specs.State.{StackState}
use Rattle.shell_top.specs.Machine.{Machine, Opens, Run}
use Rattle.shell_top.specs.declared.reply.Reply.{Reply}
use Rattle.shell_top.specs.declared.reply.Reply.TheVariants.{Open, New, Replaced, NotADatabase, BadLine, TooLong, Fault, Stopped, Memory, MemoryStopped}

-- how many `fault` replies a reply is
abbrev pub faults_in : Reply → ℕ
faults_in Open = 0
faults_in New = 0
faults_in Replaced = 0
faults_in NotADatabase = 0
faults_in BadLine = 0
faults_in TooLong = 0
faults_in Fault = 1
faults_in Stopped = 0
faults_in Memory = 0
faults_in MemoryStopped = 0

abbrev pub fault_count : List Reply → ℕ
fault_count [] = 0
fault_count (reply ∷ replies) = faults_in reply + fault_count replies

-- the count rises by at least the `fault` replies of an opening and the lines behind it, up to the last count
abbrev pub FaultsCounted : Type 0
FaultsCounted = (stack : StackState) (name : List ℕ) (opening : Reply) (start end : Machine) (lines : List (List ℕ)) (replies : List Reply)
    → Opens stack name opening start → Run start lines replies end → min (stack.faults + fault_count (opening ∷ replies)) last_count ≤ end.faults
