use Rattle.std.proofs.Common.{List, [], refl, rules}
use Rattle.std.specs.List.{flat_map}
use Rattle.std.proofs.lemmas.List.Recursion.{or_is}
use Rattle.db_format.specs.declared.value.Value.{Value}
use Rattle.book_model.specs.Book.{taken_by}
use Rattle.book_reads.specs.Reads.{is_named}
use Rattle.table_store.proofs.CreateEntryLemmas.{taken_more}
use Rattle.table_store.proofs.entry.is_taken.Goals as goal

pub returns : goal.returns
returns c =
    let name = c.args.name.now in
    or_is (λ (rows : List (List Value)). is_named (flat_map taken_by rows) name) (λ (row : List Value). is_named (taken_by row) name) refl (taken_more name) c.args.rows.now [] c.any.result
    (search rules) (search rules)
