use Rattle.std.proofs.Common.{rules, arith}
use Rattle.mem_vfs.proofs.WriteLemmas.{writes}
use Rattle.mem_vfs.proofs.file.File.write.Goals as goal

pub returns-clause-writes : goal.returns-clause-writes
returns-clause-writes c = writes c.put.result c.args.self.now c.put.new.self c.args.off c.args.bytes.now (search (rules, arith)) (search (rules, arith)) c.put.ensures.ok c.put.ensures.err
