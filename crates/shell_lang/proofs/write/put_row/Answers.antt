use Rattle.std.proofs.Common.{codes, [], ◌∷◌, ◌++◌, ap, ◌∙◌}
use Rattle.std.specs.Int.{w64}
use Rattle.std.proofs.lemmas.Int.{to_z-of_z}
use Rattle.std.specs.Fmt.{signed_decimal}
use Rattle.shell_lang.proofs.WriteLemmas.{then_ok, four_parts, row_text, value_words}
use Rattle.shell_lang.proofs.write.put_row.Goals as goal

pub returns-clause-ok : goal.returns-clause-ok
returns-clause-ok c =
    then_ok c.put_bytes-2.result _ _ _
    (four_parts c.args.out.now c.put_bytes.new.out c.put_signed.new.out c.put_values.new.out (codes "row ") (signed_decimal c.args.rowid)
    (value_words c.args.values.now) (10 ∷ []) _ c.in_ok-put_bytes.ensures.ok (c.in_ok-put_signed.ensures.ok ∙ ap (λ n. c.put_bytes.new.out ++ signed_decimal n) (to_z-of_z w64 c.args.rowid c.ranges.rowid)) c.in_ok-put_values.ensures.ok
    (row_text c.args.rowid c.args.values.now))
    c.put_bytes-2.ensures.ok
