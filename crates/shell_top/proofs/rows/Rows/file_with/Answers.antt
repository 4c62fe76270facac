use Rattle.std.proofs.Common.{ap, ◌∙◌}
use Rattle.std.specs.Int.{w64}
use Rattle.std.specs.List.{flat_map}
use Rattle.std.specs.Ordering.{int_cmp}
use Rattle.std.specs.FinMap.Entries.{put}
use Rattle.std.proofs.lemmas.Int.{to_z-of_z}
use Rattle.std.proofs.lemmas.Result.{IfOk-weaker}
use Rattle.shell_top.specs.Rows.{row_bytes}
use Rattle.shell_top.proofs.RowsLemmas.{row_file_put}
use Rattle.shell_top.proofs.rows.Rows.file_with.Goals as goal

pub returns : goal.returns
returns c =
    let key = to_z-of_z w64 c.args.rowid c.ranges.rowid in
    IfOk-weaker c.file_of.result _ _ (λ file is. is
    ∙ ap (λ k. flat_map row_bytes (put int_cmp k c.args.text.now c.self.inside.rows.entries)) key
    ∙ row_file_put c.self.inside.rows.entries c.args.rowid c.args.text.now c.args.self.now c.self.invariant.sorted c.self.view_is) c.file_of.ensures
