use Rattle.std.proofs.Common.{sym, ◌∙◌, ap}
use Rattle.std.specs.Option.{option_copied}
use Rattle.ref_trees.proofs.KeptLemmas.{first_has}
use Rattle.ref_trees.proofs.path.at_key.Goals as goal

pub payload_of-requires : goal.payload_of-requires
payload_of-requires c =
    (first_has _ c.args.cells.now c.in-Some.cell.now c.requires (sym c.first_from.ensures ∙ ap option_copied c.in-Some.is)).0
