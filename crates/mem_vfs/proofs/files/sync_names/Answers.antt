use Rattle.std.proofs.Common.{rules, arith}
use Rattle.mem_vfs.proofs.PairLemmas.{turned_none, turned_more, turned_all}
use Rattle.mem_vfs.proofs.NameLemmas.{IsSure, names_synced, names_stay}
use Rattle.mem_vfs.proofs.files.sync_names.Goals as goal

pub loop-file-init : goal.loop-file-init
loop-file-init c = turned_none IsSure c.args.files.now

pub loop-file-preserved : goal.loop-file-preserved
loop-file-preserved c = turned_more IsSure c.args.files.now c.loop-file.files c.loop-file.file-index c.file-item.result c.sync_name.new.self (omega arith) c.file-item.is
    (record { name = search rules; synced = search rules }) c.loop-file.invariant

pub returns-clause-synced : goal.returns-clause-synced
returns-clause-synced c = names_synced c.args.files.now c.loop-file.files (turned_all IsSure c.args.files.now c.loop-file.files c.loop-file.file-index (omega arith) c.loop-file.invariant)

pub returns-clause-stay : goal.returns-clause-stay
returns-clause-stay c = names_stay c.args.files.now c.loop-file.files
    (names_synced c.args.files.now c.loop-file.files (turned_all IsSure c.args.files.now c.loop-file.files c.loop-file.file-index (omega arith) c.loop-file.invariant))
