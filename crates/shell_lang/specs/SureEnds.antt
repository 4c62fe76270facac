-- The ends in memory that never fail.
use Rattle.std.specs.Prelude.{true, drop}
use Rattle.shell_lang.specs.Ends.{SourceState, SinkState}
use Rattle.shell_lang.specs.declared.ends.SureSource.{SureSource}
use Rattle.shell_lang.specs.declared.ends.SureSink.{SureSink}

abbrev pub source_state : SureSource → SourceState
source_state s = record { tells = true; holds = drop s.at s.bytes; faults = 0 }

abbrev pub sink_state : SureSink → SinkState
sink_state s = record { tells = true; taken = s.taken.items; faults = 0 }
