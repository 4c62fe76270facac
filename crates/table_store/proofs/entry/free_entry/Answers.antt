use Rattle.std.proofs.Common.{◌≡◌, ℤ, true, false, List, reverse, SFits, w64, ap, sym, subst, ◌∙◌}
use Rattle.std.proofs.lemmas.Int.{to_z-of_z}
use Rattle.std.specs.List.{flat_map}
use Rattle.db_format.specs.declared.value.Value.{Value}
use Rattle.book_model.specs.Book.{taken_by, next_of}
use Rattle.book_reads.specs.Reads.{is_named}
use Rattle.table_store.specs.Made.{IsFreeIn}
use Rattle.table_store.proofs.CreateEntryLemmas.{taken_in_schema, free_in_schema}
use Rattle.table_store.proofs.entry.free_entry.Goals as goal

pub returns-then-is_taken-clause-refused : goal.returns-then-is_taken-clause-refused
returns-then-is_taken-clause-refused g c = λ t.
    let old = g.S.PageSpace.state c.args.space.now in
    let schema = c.in_ok-schema.schema in
    let name = c.args.name.now in
    let T : List (List Value) → Type 0 = λ l. is_named (flat_map taken_by l) name ≡ true in
    taken_in_schema old.pages schema.rowids.items schema.rows.items name (c.in_ok-schema.ensures.found t)
    (subst T c.deref.ensures.value (sym c.is_taken.ensures ∙ c.if-is_taken.true))

pub returns-clause-found : goal.returns-clause-found
returns-clause-found g c = λ t.
    let old = g.S.PageSpace.state c.args.space.now in
    let schema = c.in_ok-schema.schema in
    let name = c.args.name.now in
    let entry = c.next_entry.result in
    let key_fits : SFits w64 entry = search c in
    let F : List (List Value) → Type 0 = λ l. is_named (flat_map taken_by l) name ≡ false in
    let free : IsFreeIn old.pages name entry =
    free_in_schema old.pages schema.rowids.items schema.rows.items name entry (c.in_ok-schema.ensures.found t)
    (subst F c.deref.ensures.value (sym c.is_taken.ensures ∙ c.if-is_taken.false)) (c.next_entry.ensures ∙ ap (λ (l : List ℤ). next_of (reverse l)) c.deref-2.ensures.value)
    in
    simp to_z-of_z free
