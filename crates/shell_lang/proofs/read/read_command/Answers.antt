use Rattle.std.proofs.Common.{◌≡◌, sym, subst, rules, Err}
use Rattle.std.specs.Str.{IsUtf8}
use Rattle.shell_lang.specs.declared.read.LineFault.TheVariants.{BadLine}
use Rattle.shell_lang.specs.Command.{SpellsCommand}
use Rattle.shell_lang.proofs.LineLemmas.{line_found, line_bad}
use Rattle.shell_lang.proofs.read.read_command.Goals as goal

pub returns-in-Ok-clause-found : goal.returns-in-Ok-clause-found
returns-in-Ok-clause-found c =
    let utf8 : IsUtf8 c.args.line.now = search rules in
    line_found c.args.line.now c.in-Some.text.now c.in-Some.number c.in-Ok.command utf8 c.in-Some.ensures
    (subst (λ ws. SpellsCommand ws c.in-Ok.command) c.of.ensures (search rules))

pub returns-in-Err-clause-bad : goal.returns-in-Err-clause-bad
returns-in-Err-clause-bad c = λ is.
    let bad : c.read_words.result ≡ Err BadLine = search rules in
    line_bad c.args.line.now c.in-Some.text.now c.in-Some.number c.in-Some.ensures
    (λ command s. c.read_words.ensures.bad bad command (subst (λ ws. SpellsCommand ws command) (sym c.of.ensures) s))
