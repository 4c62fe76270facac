use Rattle.journal_format.proofs.AppendLemmas.{eight_pieces}
use Rattle.journal_format.proofs.write.push_header.Goals as goal

pub returns : goal.returns
returns c =
    eight_pieces c.args.bytes.now c.push.new.self c.extend_from_slice.new.self c.push_number.new.bytes c.push_number-2.new.bytes c.push_number-3.new.bytes c.push_number-4.new.bytes c.push_number-5.new.bytes
    c.extend_from_slice-2.new.self _ _ _ _ _ _ _ _
    c.in_ok-push.ensures.ok c.in_ok-extend_from_slice.ensures.ok c.in_ok-push_number.ensures c.in_ok-push_number-2.ensures c.in_ok-push_number-3.ensures c.in_ok-push_number-4.ensures c.in_ok-push_number-5.ensures
    c.in_ok-extend_from_slice-2.ensures.ok
