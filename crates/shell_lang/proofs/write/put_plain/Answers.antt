use Rattle.std.proofs.Common.{codes, [], ◌∷◌}
use Rattle.shell_lang.proofs.WriteLemmas.{then_ok, four_parts, plain_text, behind_blanks}
use Rattle.shell_lang.proofs.write.put_plain.Goals as goal

pub returns-clause-ok : goal.returns-clause-ok
returns-clause-ok c =
    then_ok c.put_bytes-3.result _ _ _
    (four_parts c.args.out.now c.put_bytes.new.out c.put_bytes-2.new.out c.put_names.new.out (codes "table ") c.args.name.now
    (behind_blanks c.args.columns.now) (10 ∷ []) _ c.in_ok-put_bytes.ensures.ok c.in_ok-put_bytes-2.ensures.ok c.in_ok-put_names.ensures.ok
    (plain_text c.args.name.now c.args.columns.now))
    c.put_bytes-3.ensures.ok
