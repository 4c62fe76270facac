use Rattle.std.proofs.Common.{◌≡◌, ◌++◌, [], sym, ap, ◌∙◌, append-nil}
use Rattle.percent_encoding.specs.Iter.{encoded_text}
use Rattle.shell_lang.proofs.WriteLemmas.{escaped_is}
use Rattle.shell_lang.proofs.write.put_escaped.Goals as goal

pub returns-clause-ok : goal.returns-clause-ok
returns-clause-ok c =
    let ended : encoded_text c.loop-piece.pieces ≡ [] = c.in_default.ensures.steps in
    sym (append-nil c.loop-piece.out) ∙ ap (λ r. c.loop-piece.out ++ r) (sym ended) ∙ c.loop-piece.invariant.0
    ∙ ap (λ t. c.args.out.now ++ t) (c.percent_encode-pieces.ensures.text ∙ escaped_is c.args.bytes.now)
