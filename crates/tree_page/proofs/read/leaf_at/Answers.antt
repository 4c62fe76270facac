use Rattle.std.proofs.Common.{sym, ap, ◌∙◌}
use Rattle.std.specs.Int.{w64, cast_unsigned, cast_signed}
use Rattle.std.proofs.lemmas.List.{take_rest}
use Rattle.std.proofs.lemmas.Int.{to_z-of_z}
use Rattle.tree_page.proofs.SizeLemmas.{local_most}
use Rattle.tree_page.proofs.ReadLemmas.{leaf_no_length, leaf_no_rowid, leaf_short, leaf_only, leaf_is}
use Rattle.tree_page.proofs.read.leaf_at.Goals as goal

pub returns-in_default-clause-none : goal.returns-in_default-clause-none
returns-in_default-clause-none c =
    let none = simp take_rest at c.in_default.ensures.none in
    leaf_no_length c.args.bytes.now c.args.place none

pub returns-in_default-varint_at-clause-none : goal.returns-in_default-varint_at-clause-none
returns-in_default-varint_at-clause-none c =
    let first = simp take_rest at c.in-Some.ensures.found in
    let none = simp take_rest at c.in_default-varint_at.ensures.none in
    leaf_no_rowid c.args.bytes.now c.args.place c.in-Some.length_size c.in-Some.value first none

pub overflow_at-requires : goal.overflow_at-requires
overflow_at-requires c = rw c.local_size-size.ensures (local_most _ _ c.requires.least c.requires.most)

pub returns-in_default-overflow_at-clause-none : goal.returns-in_default-overflow_at-clause-none
returns-in_default-overflow_at-clause-none c =
    let first = simp take_rest at c.in-Some.ensures.found in
    let second = simp take_rest at c.in-Some-varint_at.ensures.found in
    let none = simp take_rest at c.in_default-overflow_at.ensures.none in
    leaf_short c.args.bytes.now c.args.place c.in-Some.length_size c.in-Some-varint_at.rowid_size c.cast_unsigned-payload_len.result c.local_size-size.result
    c.in-Some.value c.in-Some-varint_at.rowid first second
    (c.cast_unsigned-payload_len.ensures ∙ ap (cast_unsigned w64) (to_z-of_z w64 c.in-Some.value (search c))) c.local_size-size.ensures none

pub returns-clause-stands : goal.returns-clause-stands
returns-clause-stands c =
    let first = simp take_rest at c.in-Some.ensures.found in
    let second = simp take_rest at c.in-Some-varint_at.ensures.found in
    let has = simp take_rest at c.in-Some-overflow_at.ensures.found in
    let value = to_z-of_z w64 c.in-Some.value (search c) in
    let payload = c.cast_unsigned-payload_len.ensures ∙ ap (cast_unsigned w64) value in
    rw (to_z-of_z w64 c.in-Some-varint_at.rowid (search c))
    (leaf_is c.args.bytes.now c.args.place c.in-Some.length_size c.in-Some-varint_at.rowid_size c.cast_unsigned-payload_len.result c.local_size-size.result
    c.in-Some-overflow_at.overflow c.in-Some-overflow_at.overflow_size c.in-Some.value c.in-Some-varint_at.rowid first second
    (sym (ap (cast_signed w64) payload ∙ value)) (search c) c.local_size-size.ensures has)

pub returns-clause-only : goal.returns-clause-only
returns-clause-only c =
    let first = simp take_rest at c.in-Some.ensures.found in
    let second = simp take_rest at c.in-Some-varint_at.ensures.found in
    let has = simp take_rest at c.in-Some-overflow_at.ensures.found in
    rw (to_z-of_z w64 c.in-Some-varint_at.rowid (search c))
    (leaf_only c.args.bytes.now c.args.place c.in-Some.length_size c.in-Some-varint_at.rowid_size c.cast_unsigned-payload_len.result c.local_size-size.result
    c.in-Some-overflow_at.overflow c.in-Some-overflow_at.overflow_size c.in-Some.value c.in-Some-varint_at.rowid first second
    (c.cast_unsigned-payload_len.ensures ∙ ap (cast_unsigned w64) (to_z-of_z w64 c.in-Some.value (search c))) c.local_size-size.ensures has)
