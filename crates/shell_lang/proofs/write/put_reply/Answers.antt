use Rattle.std.proofs.Common.{length, ap}
use Rattle.shell_lang.proofs.WriteLemmas.{rows_done, tables_done, stopped_done}
use Rattle.shell_lang.proofs.write.put_reply.Goals as goal

pub returns-in_ok-put_rows-in-Rows-clause-ok : goal.returns-in_ok-put_rows-in-Rows-clause-ok
returns-in_ok-put_rows-in-Rows-clause-ok c =
    rows_done c.put_last.result _ c.put_rows.new.out c.args.out.now c.args.reply.now _ c.as_slice-in-Rows.result.now _ c.in-Rows.is
    c.as_slice-in-Rows.ensures c.in_ok-put_rows-in-Rows.ensures.ok c.put_last.ensures.ok

pub returns-in_ok-put_tables-in-TableLines-clause-ok : goal.returns-in_ok-put_tables-in-TableLines-clause-ok
returns-in_ok-put_tables-in-TableLines-clause-ok c =
    tables_done c.put_count-in-TableLines.result _ c.put_tables.new.out c.args.out.now c.args.reply.now _ c.as_slice-in-TableLines.result.now _ c.in-TableLines.is
    c.as_slice-in-TableLines.ensures (ap length c.as_slice-in-TableLines-2.ensures) c.in_ok-put_tables-in-TableLines.ensures.ok c.put_count-in-TableLines.ensures.ok

pub returns-in-MemoryStopped-clause-ok : goal.returns-in-MemoryStopped-clause-ok
returns-in-MemoryStopped-clause-ok c = stopped_done c.put_bytes-in-MemoryStopped.result _ c.args.out.now c.args.reply.now c.in-MemoryStopped.is c.put_bytes-in-MemoryStopped.ensures.ok
