-- Drafts of connections, and the replies of a run.
use Rattle.std.proofs.Common.{◌≡◌, ◌≢◌, ℕ, List, [], ◌∷◌, length, Option, Some, None, refl, arith}
use Rattle.std.specs.Prelude.{unwrap_or}
use Rattle.std.proofs.lemmas.Bool.Decides.{nat_tests}
use Rattle.shell_lang.specs.declared.reply.Reply.{Reply}
use Rattle.book_model.specs.Book.{Book}
use Rattle.shell_model.specs.State.{State, Draft, own_of, own, seen}
use Rattle.shell_model.specs.Run.{Line, RunFrom}

-- who has a draft is its owner
owner_is : (draft : Option Draft) (who other : ℕ) (book twin : Book) → own_of draft who ≡ Some book → own_of draft other ≡ Some twin → who ≡ other
owner_is None who other book twin is is' = absurd (cc)
owner_is (Some draft) who other book twin is is' = grind (arith, nat_tests)

pub one_draft : (s : State) (who other : ℕ) (book draft : Book) → own s who ≡ Some book → own s other ≡ Some draft → who ≡ other
one_draft s who other book draft is is' = owner_is s.draft who other book draft is is'

hidden : (draft : Option Draft) (who other : ℕ) (book kept : Book) → own_of draft other ≡ Some book → who ≢ other → unwrap_or (own_of draft who) kept ≡ kept
hidden None who other book kept is differ = refl
hidden (Some draft) who other book kept is differ = grind (arith, nat_tests)

pub drafts_are_hidden : (s : State) (who other : ℕ) (book : Book) → own s other ≡ Some book → who ≢ other → seen s who ≡ s.kept
drafts_are_hidden s who other book is differ = hidden s.draft who other book s.kept is differ

pub one_reply_a_line : (s : State) (lines : List Line) (answers : List Reply) (end : State) → RunFrom s lines answers end → length answers ≡ length lines
one_reply_a_line s [] [] end run = refl
one_reply_a_line s [] (answer ∷ answers) end run = absurd run
one_reply_a_line s (line ∷ lines) [] end run = absurd run
one_reply_a_line s (line ∷ lines) (answer ∷ answers) end run = let rest = one_reply_a_line run.0 lines answers end run.2 in grind arith
