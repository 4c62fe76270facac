use Rattle.std.proofs.Common.{◌≡◌, ◌↔◌, IsTrue, true, length, sym, subst, ap, ◌∙◌, rules}
use Rattle.shell_lang.specs.declared.command.Command.{Command}
use Rattle.shell_lang.specs.declared.reply.Reply.TheVariants as reply
use Rattle.shell_lang.specs.declared.reply.ScanEnd.TheVariants as last
use Rattle.book_model.specs.Book.{Book, table_at}
use Rattle.shell_model.specs.State.{seen}
use Rattle.shell_model.specs.Cases.{rows_between, rows_reply}
use Rattle.shell_laws.specs.Free.{MayCut, may_scan}
use Rattle.ref_shell.specs.Machine.{state_of}
use Rattle.ref_shell.proofs.machine.Machine.may_cut.Goals as goal

pub returns-in_ok-whole-in-Scan : goal.returns-in_ok-whole-in-Scan
returns-in_ok-whole-in-Scan g c =
    let s = state_of g.S.Shelf.book c.args.self.now in
    let name = c.in-Scan.table.name in
    let all = rows_between c.in-Scan.low c.in-Scan.high (table_at (seen s c.args.who) name).rows in
    let may : may_scan s c.args.who name ≡ true = search rules in
    let same : c.in_ok-whole-in-Scan.whole ≡ reply.Rows all (last.End (length all)) =
    c.in_ok-whole-in-Scan.ensures ∙ ap (λ (b : Book). rows_reply c.in-Scan.low c.in-Scan.high (table_at b name).rows) c.seen.ensures in
    let front = c.begins_with.ensures all (last.End (length all)) same in
    subst (λ (asked : Command). IsTrue c.begins_with.result ↔ MayCut s c.args.who asked c.args.rows.now) (sym c.in-Scan.is) (λ yes. (may, front.0 yes), λ cut. front.1 cut.1)
