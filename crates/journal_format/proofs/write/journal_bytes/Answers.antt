use Rattle.std.proofs.Common.{arith, length, refl, ap, ◌∙◌}
use Rattle.std.proofs.lemmas.List.{length-map}
use Rattle.journal_format.specs.Values.{paged, all_paged, undo_of_plan}
use Rattle.journal_format.proofs.AppendLemmas.{whole_journal}
use Rattle.journal_format.proofs.BackLemmas.{size_low}
use Rattle.journal_format.proofs.write.journal_bytes.Goals as goal

pub overflow_cast-originals : goal.overflow_cast-originals
overflow_cast-originals c =
    let few = c.few_records.ensures c.args.plan.now.nonce (undo_of_plan c.args.plan.now) c.requires in
    omega (arith, few.0, few.1, length-map c.args.plan.now.originals paged, ap length c.as_slice-originals.ensures)

pub push_trailer_of-requires : goal.push_trailer_of-requires
push_trailer_of-requires c = omega (arith, size_low c.args.plan.now.page c.requires.page_is_size)

pub returns : goal.returns
returns c =
    whole_journal c.args.plan.now.nonce (length c.as_slice-originals.result.now) (undo_of_plan c.args.plan.now) c.as_slice-originals.result.now c.from_vec-bytes.result c.push_header.new.bytes c.push_records.new.bytes c.push_trailer_of.new.bytes
    (c.from_vec-bytes.ensures ∙ c.new.ensures.items) (ap all_paged c.as_slice-originals.ensures) refl
    c.in_ok-push_header.ensures c.in_ok-push_records.ensures c.in_ok-push_trailer_of.ensures
