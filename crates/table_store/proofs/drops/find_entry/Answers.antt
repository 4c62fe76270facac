use Rattle.std.proofs.Common.{ℕ, ◌∙◌, subst}
use Rattle.std.proofs.lemmas.Result.{IfOk-weaker}
use Rattle.table_store.specs.Dropped.{FindsEntry}
use Rattle.table_store.specs.DropSteps.{FindsEntryIn}
use Rattle.table_store.proofs.DropEntryLemmas.{finds_entry}
use Rattle.table_store.proofs.drops.find_entry.Goals as goal

pub returns-clause-found : goal.returns-clause-found
returns-clause-found g c = λ t.
    let old = g.S.PageSpace.state c.args.space.now in
    let schema = c.in_ok-schema.schema in
    let rowids = schema.rowids.items in
    let rows = schema.rows.items in
    let name = c.args.name.now in
    IfOk-weaker c.entry_in.result (FindsEntryIn c.size.result rowids rows name) (λ entry. FindsEntry old.pages name entry.root entry.rowid)
    (λ entry f.
    let F : ℕ → Type 0 = λ n. FindsEntryIn n rowids rows name entry in
    finds_entry old.pages rowids rows name entry (c.in_ok-schema.ensures.found t) (subst F (c.size.ensures.value ∙ c.in_ok-schema.ensures.stays.number) f)) c.entry_in.ensures.found
