use Rattle.std.proofs.Common.{◌≡◌, ◌+◌, ◌*◌, [], map, subst, sym, ◌∙◌, arith}
use Rattle.std.specs.Int.{w64}
use Rattle.std.proofs.lemmas.List.{append-nil}
use Rattle.std.proofs.lemmas.Int.{to_z-of_z}
use Rattle.std.specs.List.{All}
use Rattle.std.proofs.lemmas.List.Elements.{All-push}
use Rattle.tree_page.specs.Steps.{cell_of, IsFound}
use Rattle.tree_page.proofs.FindLemmas.{find_none, find_rest, find_more, find_end, clear_free, cells_push}
use Rattle.tree_page.proofs.read.find_cells.Goals as goal

pub returns-in_default-clause-corrupt : goal.returns-in_default-clause-corrupt
returns-in_default-clause-corrupt c = λ _ placed free count are.
    let l = c.loop-at in
    let head = c.args.head in
    let rest = l.invariant.complete placed free count are in
    find_none c.args.bytes.now head.content (head.pointers + 2 * l.at) c.short_at-place.result l.at head.count head.kind l.last l.marks rest.0 free (sym c.short_at-place.ensures.value)
    c.in_default.ensures.none (omega arith) rest.1 rest.2

pub loop-at-preserved : goal.loop-at-preserved
loop-at-preserved c =
    let l = c.loop-at in
    let head = c.args.head in
    let bytes = c.args.bytes.now in
    let cell = cell_of bytes c.in-Some.cell in
    let takes = c.in-Some.ensures.takes in
    let key = sym (to_z-of_z w64 c.rowid.result (search c) ∙ c.rowid.ensures) in
    let next : head.pointers + 2 * l.at + 2 ≡ head.pointers + 2 * (l.at + 1) = omega arith in
    record {
      each = subst (All (IsFound bytes head.kind)) (sym c.in_ok-push.ensures.items) (All-push (IsFound bytes head.kind) l.found.items c.in-Some.cell l.invariant.each c.in-Some.ensures.found);
      size = omega (arith, takes.marked.size, l.invariant.size);
      sound = λ rest free count are.
          let more = find_more bytes head.content (head.pointers + 2 * l.at) _ c.short_at-place.result head.kind l.last _ l.marks c.next_cell.new.marks cell rest free
          (sym c.short_at-place.ensures.value) next key takes are in
          let all = l.invariant.sound _ free (omega arith) more in
          (all.0, all.1, all.2, all.3 ∙ cells_push (cell_of bytes) l.found.items c.push.new.self.items c.in-Some.cell (map (λ p. p.cell) rest) c.in_ok-push.ensures.items);
      complete = λ placed free count are.
          let rest = l.invariant.complete placed free count are in
          find_rest bytes head.content (head.pointers + 2 * l.at) _ c.short_at-place.result l.at head.count head.kind l.last _ l.marks c.next_cell.new.marks cell rest.0 free
          (sym c.short_at-place.ensures.value) next key takes (omega arith) rest.1 rest.2;
    }

pub returns-clause-found : goal.returns-clause-found
returns-clause-found c =
    let l = c.loop-at in
    let head = c.args.head in
    let bytes = c.args.bytes.now in
    let end : l.at ≡ head.count = omega arith in
    record {
      each = l.invariant.each;
      sound = λ free clear.
          let all = l.invariant.sound [] free (omega arith) (find_end bytes head.content (head.pointers + 2 * l.at) head.kind l.last l.marks free clear) in
          (all.0, all.1, all.2, all.3 ∙ append-nil (map (cell_of bytes) l.found.items));
      complete = λ placed free count are.
          let rest = l.invariant.complete placed free count are in
          clear_free l.marks rest.0 free (omega (arith, rest.1)) rest.2.clear;
    }
