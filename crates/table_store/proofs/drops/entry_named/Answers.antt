use Rattle.std.proofs.Common.{◌≡◌, rules}
use Rattle.std.specs.Prelude.{Some}
use Rattle.std.proofs.lemmas.Result.{IfOk-weaker}
use Rattle.db_format.specs.Plain.{ArePlainTables}
use Rattle.book_reads.specs.Reads.{plain_named}
use Rattle.table_store.specs.DropSteps.{MayBeEntryOf, MayFindEntry}
use Rattle.table_store.proofs.DropEntryLemmas.{may_find}
use Rattle.table_store.proofs.drops.entry_named.Goals as goal

pub returns-in-Some : goal.returns-in-Some
returns-in-Some c =
    let plain = c.as_slice.result.now in
    let rowids = c.args.schema.now.rowids.items in
    let rows = c.args.schema.now.rows.items in
    let table = c.in-Some.table.now in
    let are : ArePlainTables c.args.pages rows plain = search rules in
    let finds : plain_named plain c.args.name.now ≡ Some table = search rules in
    IfOk-weaker c.entry_of.result (MayBeEntryOf c.args.pages rowids rows table) (MayFindEntry c.args.pages rowids rows c.args.name.now)
    (λ entry is. may_find c.args.pages rowids rows plain c.args.name.now table entry are finds is) c.entry_of.ensures
