use Rattle.std.proofs.Common.{rules, arith, ◌≡◌, false, sym, ◌∙◌}
use Rattle.std.proofs.lemmas.Grind.{common_steps}
use Rattle.vfs_model.specs.View.{through, chunk_name}
use Rattle.ref_stack.specs.Seen.{files_of, Shows}
use Rattle.ref_stack.proofs.LengthLemmas.{names_none}
use Rattle.ref_stack.proofs.lengths.+chunk_names.Goals as goal

pub returns-then-not-shown : goal.returns-then-not-shown
returns-then-not-shown t c =
    let gone : c.in_ok-shown.shown.there ≡ false = grind (arith, common_steps) in
    let shows : Shows (through c.args.below.now (files_of c.args.files.now) (chunk_name c.args.name.now c.args.number)) c.in_ok-shown.shown = search rules in
    c.new-then-not-shown.ensures.items
    ∙ sym (names_none c.args.number c.args.chunk (through c.args.below.now (files_of c.args.files.now)) c.args.name.now c.in_ok-shown.shown (omega arith) shows gone)
