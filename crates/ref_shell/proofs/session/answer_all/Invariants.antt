use Rattle.std.proofs.Common.{ℕ, List, length}
use Rattle.book_model.specs.Book.{Book}
use Rattle.ref_shell.specs.Machine.{state_of}
use Rattle.ref_shell.specs.Session.{RunSoFar}
use Rattle.ref_shell.proofs.session.answer_all.Given as goal

-- a run up to the input has come up to the rest
abbrev pub invariant-loop-line : goal.invariant-loop-line
invariant-loop-line g l = (book : Book) (whole : List ℕ) → RunSoFar book whole l.input l.initial.text (state_of g.S.Shelf.book l.initial.machine) → RunSoFar book whole l.rest l.text (state_of g.S.Shelf.book l.machine)

abbrev pub decreases-loop-line : goal.decreases-loop-line
decreases-loop-line g l = length l.rest
