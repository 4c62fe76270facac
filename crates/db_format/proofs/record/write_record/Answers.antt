use Rattle.std.proofs.Common.{List, ℕ, ◌≡◌, [], ◌++◌, length, subst, ap, ◌∙◌, arith}
use Rattle.std.specs.List.{flat_map}
use Rattle.db_format.specs.Writing.{written_content, AppendsVarint, IsHeaderSize}
use Rattle.db_format.proofs.RecordLemmas.{records_agree}
use Rattle.db_format.proofs.WritingLemmas.{is_record, is_shortest}
use Rattle.db_format.proofs.record.write_record.Goals as goal

pub returns : goal.returns
returns c =
    let types = c.in_ok-types in
    let front = c.push_varint.new.out.items in
    let size = c.header_size.result in
    let header : IsHeaderSize (length types.types.items) size = subst (λ (n : ℕ). IsHeaderSize n size) (omega (arith, types.types.ok)) c.header_size.ensures in
    let varint : AppendsVarint [] front size = subst (λ (x : List ℕ). AppendsVarint x front size) c.new-payload.ensures.items c.in_ok-push_varint.ensures in
    let joined : c.from_vec.result ≡ front ++ types.types.items ++ flat_map written_content c.args.values.now =
    c.from_vec.ensures ∙ c.in_ok-push_contents.ensures
    ∙ ap (λ (x : List ℕ). x ++ flat_map written_content c.args.values.now) (c.in_ok-extend_from_slice.ensures.items ∙ ap (λ (x : List ℕ). front ++ x) c.deref.ensures.value) in
    let written = is_record types.types.items front c.from_vec.result c.args.values.now size types.ensures header varint joined in
    record {
      is_record = written;
      again = λ others r. records_agree c.from_vec.result others c.args.values.now r written;
      shortest = is_shortest types.types.items front c.from_vec.result c.args.values.now size types.ensures header varint joined;
    }
