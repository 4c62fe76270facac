-- The exit statuses.
use Rattle.std.specs.Prelude.{ℕ}
use Rattle.shell_top.specs.declared.status.Status.{Status}
use Rattle.shell_top.specs.declared.status.Status.TheVariants.{Done, Stopped, Words, Memory, ReadFault, WriteFault, TooMuch}
use Rattle.shell_top.specs.declared.run.Halt.{Halt}
use Rattle.shell_top.specs.declared.run.Halt.TheVariants.{Memory as NoMemory, WriteFault as SinkFailed}

abbrev pub code_of : Status → ℕ
code_of Done = 0
code_of Stopped = 1
code_of Words = 2
code_of Memory = 3
code_of ReadFault = 4
code_of WriteFault = 5
code_of TooMuch = 6

abbrev pub halt_status : Halt → Status
halt_status NoMemory = Memory
halt_status SinkFailed = WriteFault
