-- The system's ends, which tell nothing of what they hold or have taken: only their faults are counted.
use Rattle.std.specs.Prelude.{false, []}
use Rattle.shell_lang.specs.Ends.{SourceState, SinkState}
use Rattle.vfsh.specs.declared.ends.StdinSource.{StdinSource}
use Rattle.vfsh.specs.declared.ends.StdoutSink.{StdoutSink}

abbrev pub source_state : StdinSource → SourceState
source_state s = record { tells = false; holds = []; faults = s.faults }

abbrev pub sink_state : StdoutSink → SinkState
sink_state s = record { tells = false; taken = []; faults = s.faults }
