use Rattle.std.proofs.Common.{arith, ◌≡◌, [], sym, ap, ◌∙◌}
use Rattle.std.proofs.lemmas.Grind.{common_steps}
use Rattle.vfs_model.specs.View.{through}
use Rattle.ref_stack.specs.Seen.{files_of}
use Rattle.ref_stack.proofs.ShownLemmas.{none_bad}
use Rattle.ref_stack.proofs.shown.+is_bad.Goals as goal

pub returns-in_default : goal.returns-in_default
returns-in_default t c =
    let e : c.args.layers.now ≡ [] = grind (arith, common_steps) in
    sym (none_bad c.args.files.now c.args.name.now c.args.place)
    ∙ ap (λ ls. (through ls (files_of c.args.files.now) c.args.name.now).bad c.args.place) (sym e)
