use Rattle.std.proofs.Common.{rules, refl, ◌∙◌, sym}
use Rattle.journal_format.proofs.SuperLemmas.{is_super_name, no_super_name}
use Rattle.journal_format.proofs.read.super_name.Goals as goal

pub returns-in_err-name : goal.returns-in_err-name
returns-in_err-name c = c.from_residual.ensures ∙ no_super_name c.args.bytes.now (λ named kind. absurd (search (rules, c.in_err-name.ensures.named.1 named)))

pub returns-in-Super : goal.returns-in-Super
returns-in-Super c = is_super_name c.args.bytes.now c.in_ok-name.name (c.in_ok-name.ensures.named.0 refl) c.in_ok-name.ensures.value (sym c.in-Super.ensures)
