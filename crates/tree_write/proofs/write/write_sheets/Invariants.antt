use Rattle.std.proofs.Common.{◌≡◌, take, vec_len}
use Rattle.tree_write.proofs.WriteLemmas.{WritesAlong}
use Rattle.tree_write.proofs.write.write_sheets.Given as goal

abbrev pub invariant-loop-sheet : goal.invariant-loop-sheet
invariant-loop-sheet g l =
    let state = g.S.PageSpace.state in
    record {
      along : WritesAlong (state l.initial.space) (state l.space) (take l.sheet-index l.sheets);
      one_page : vec_len l.page ≡ (state l.initial.space).page_size;
    }
