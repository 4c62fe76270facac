use Rattle.std.proofs.Common.{rules}
use Rattle.shell_lang.proofs.WriteLemmas.{format_done, vacuum_done}
use Rattle.shell_lang.proofs.write.put_header.Goals as goal

pub returns-in-SchemaFormat-clause-ok : goal.returns-in-SchemaFormat-clause-ok
returns-in-SchemaFormat-clause-ok c =
    format_done c.put_count-in-SchemaFormat.result _ c.args.out.now c.args.why c.in-SchemaFormat.found c.from-in-SchemaFormat.result c.in-SchemaFormat.is
    (search rules) c.put_count-in-SchemaFormat.ensures.ok

pub returns-in-AutoVacuum-clause-ok : goal.returns-in-AutoVacuum-clause-ok
returns-in-AutoVacuum-clause-ok c = vacuum_done c.put_bytes-in-AutoVacuum.result _ c.args.out.now c.args.why c.in-AutoVacuum.is c.put_bytes-in-AutoVacuum.ensures.ok
