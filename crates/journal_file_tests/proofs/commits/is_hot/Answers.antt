use Rattle.std.proofs.Common.{arith, length, sym, ◌∙◌, ap}
use Rattle.mem_vfs.specs.Failing.{mem_state}
use Rattle.journal_format.specs.Journal.{all_exist, hot}
use Rattle.journal_file_tests.proofs.DeviceLemmas.{hot_over, gives_play}
use Rattle.journal_file_tests.proofs.commits.is_hot.Goals as goal

pub returns-else-file-play-clause-over : goal.returns-else-file-play-clause-over
returns-else-file-play-clause-over c =
    let files = (mem_state c.args.device.now).files in
    λ yes. hot_over (files c.args.names.now.journal) (files c.args.names.now.main) c.in-Ok-Play.play (ap (hot all_exist) (sym c.in-Some.ensures.1) ∙ gives_play c.in-Ok-Play.field-0 c.in-Ok-Play.play (hot all_exist c.in-Some.bytes.now) c.in-Ok-Play.field-0-is c.in-Ok-Play.ensures.gives)
    (omega (arith, c.if-play-ne512.false)) (omega (arith, c.if-file-play.false, ap length c.in-Some-bytes_of.ensures.1)) c.in-Some-bytes_of.ensures.0 (c.requires.settled.each c.args.names.now.main)
