use Rattle.std.proofs.Common.{◌≡◌, ◌++◌, ap, ◌∙◌}
use Rattle.shell_lang.specs.declared.reply.Reply.TheVariants as reply
use Rattle.shell_lang.specs.Reply.{text_of}
use Rattle.book_model.specs.Book.{Book}
use Rattle.shell_model.specs.State.{State, opened}
use Rattle.ref_shell.specs.Machine.{state_of}
use Rattle.ref_shell.proofs.SessionLemmas.{run_begins}
use Rattle.ref_shell.proofs.session.run.Goals as goal

pub returns : goal.returns
returns g c =
    let book = g.S.Shelf.book c.args.shelf in
    let kept : g.S.Shelf.book c.closed-machine.result.kept ≡ book = ap (λ (s : State). s.kept) c.closed-machine.ensures in
    let answer = c.reopen-opening.result in
    let begins = run_begins book c.args.input.now c.write_reply.new.out (state_of g.S.Shelf.book c.reopen-opening.new.self) answer
    (c.reopen-opening.ensures.said ∙ ap (λ (b : Book). reply.Open b.counter) kept) (c.reopen-opening.ensures.state ∙ ap opened kept)
    (c.in_ok-write_reply.ensures.ok ∙ ap (λ text. text ++ text_of answer) (c.from_vec-text.ensures ∙ c.new.ensures.items)) in
    (state_of g.S.Shelf.book c.answer_all.new.machine, c.in_ok-answer_all.ensures book c.args.input.now begins)
