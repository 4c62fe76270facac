use Rattle.std.proofs.Common.{rules, ◌≡◌, length, ap, ◌++◌, ◌∙◌, append_assoc}
use Rattle.std.specs.Int.{w32, w64, to_be_bytes, cast_unsigned}
use Rattle.shell_top.specs.Rows.{row_bytes}
use Rattle.shell_top.proofs.rows.push_row.Goals as goal

pub returns : goal.returns
unfolding row_bytes
returns c =
    let old = c.args.file.now.items in
    let rowid = c.to_be_bytes.result in
    let count = c.to_be_bytes-2.result in
    let first : rowid ≡ to_be_bytes w64 (cast_unsigned w64 c.args.rowid) = search rules in
    let second : count ≡ to_be_bytes w32 (length c.args.text.now) = search rules in
    c.in_ok-extend_from_slice-3.ensures.items
    ∙ ap (λ x. x ++ c.args.text.now) (c.in_ok-extend_from_slice-2.ensures.items ∙ ap (λ x. x ++ count) c.in_ok-extend_from_slice.ensures.items)
    ∙ append_assoc (old ++ rowid) count c.args.text.now ∙ append_assoc old rowid (count ++ c.args.text.now)
    ∙ ap (λ a. old ++ (a ++ (count ++ c.args.text.now))) first
    ∙ ap (λ b. old ++ (to_be_bytes w64 (cast_unsigned w64 c.args.rowid) ++ (b ++ c.args.text.now))) second
