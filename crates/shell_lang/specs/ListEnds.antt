-- The ends in memory whose calls fail by number.
use Rattle.std.specs.Prelude.{true, drop}
use Rattle.shell_lang.specs.Ends.{SourceState, SinkState}
use Rattle.shell_lang.specs.declared.list_ends.ListSource.{ListSource}
use Rattle.shell_lang.specs.declared.list_ends.ListSink.{ListSink}

abbrev pub list_source : ListSource → SourceState
list_source s = record { tells = true; holds = drop s.at s.bytes; faults = s.calls.faults }

abbrev pub list_sink : ListSink → SinkState
list_sink s = record { tells = true; taken = s.taken.items; faults = s.calls.faults }
