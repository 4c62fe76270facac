use Rattle.std.proofs.Common.{◌∙◌, get_or, sym, ap}
use Rattle.std.specs.Int.{w64}
use Rattle.std.proofs.lemmas.Int.{to_z-of_z}
use Rattle.page_cut.specs.declared.parts.Sheet.{Sheet}
use Rattle.tree_write.proofs.RiseLemmas.{key-is}
use Rattle.tree_write.proofs.level.key_at.Goals as goal

pub returns : goal.returns
returns c =
    let x = c.index-front-at.result in
    to_z-of_z w64 (get_or c.args.front.now c.args.at x).key (search c)
    ∙ (ap (λ (y : Sheet). y.key) (sym c.index-front-at.is) ∙ key-is c.args.front.now c.args.at x c.requires c.index-front-at.is)
