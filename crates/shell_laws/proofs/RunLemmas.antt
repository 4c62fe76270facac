-- Runs of the same lines, step by step.
use Rattle.std.proofs.Common.{◌≡◌, ℕ, ◌==◌, Bool, true, false, cond, not, List, [], ◌∷◌, length, Option, Some, None, refl, ap, sym, ◌∙◌, subst}
use Rattle.std.specs.Prelude.{MatchBool}
use Rattle.std.specs.FinMap as map
use Rattle.vfs_model.specs.declared.level.Level.TheVariants.{Shared, Reserved}
use Rattle.shell_lang.specs.declared.command.Command.{Command}
use Rattle.shell_lang.specs.declared.command.Command.TheVariants as command
use Rattle.shell_lang.specs.declared.reply.Reply.{Reply}
use Rattle.shell_lang.specs.declared.reply.Reply.TheVariants as reply
use Rattle.shell_lang.specs.declared.reply.ErrorWord.TheVariants as word
use Rattle.book_model.specs.Book.{Book, Table}
use Rattle.shell_model.specs.State.{State, Doubt, IsCandidate, seen, waiting, closed}
use Rattle.shell_model.specs.Cases.{Pick, cases_of, row_reply, rows_reply}
use Rattle.shell_model.specs.Step.{Step, IsFair, is_free}
use Rattle.shell_model.specs.Run.{Line, said, bad, Answers, RunFrom, is_connection}
use Rattle.shell_laws.specs.Agree.{IsSameBook, NoneFree, RunsAgree}
use Rattle.shell_laws.proofs.SameBookLemmas.{same_taken, same_table, same_has, same_list, table_with, table_without, row_with, row_without, size_with}
use Rattle.shell_laws.proofs.AgreeLemmas.{IsAlike, Agree, agree, at_end, is_due, may_be, same_own, same_seen, same_inside, reached_same, waiting_same, begun_same, ended_same, opened_same, asked_same, reading_same, writing_same, committing_same, changing_same, looking_same}

only_kept : (doubt : Option Doubt) (kept found : Book) → doubt ≡ None → IsCandidate doubt kept found → found ≡ kept
only_kept None kept found certain is = is
only_kept (Some doubt) kept found certain is = absurd (cc)

-- the cases of a command agree where the states are alike, whatever is chosen
commands_agree : (s t : State) (who : ℕ) (asked : Command) (p q : Pick) → IsAlike s t → IsFair p s who asked → IsFair q t who asked → Agree (cases_of p s who asked) (cases_of q t who asked)
commands_agree s t who (command.Create table columns) p q h f g =
    let a = seen s who in
    let b = seen t who in
    let see = same_seen s t who h in
    let made = size_with _ _ (table_with a b see table.name columns p.root q.root) p q in
    asked_same s t who h (writing_same s t who h (is_due (same_taken a b see table.name) refl (reached_same s t who h Reserved) (changing_same s t who h _ _ reply.Done reply.Done made refl)))
commands_agree s t who (command.Drop table) p q h f g =
    let a = seen s who in
    let b = seen t who in
    let see = same_seen s t who h in
    let made = size_with _ _ (table_without a b see table.name) p q in
    asked_same s t who h (writing_same s t who h (looking_same _ _ a b table.name (reached_same s t who h Reserved) see (changing_same s t who h _ _ reply.Done reply.Done made refl)))
commands_agree s t who (command.Put table rowid values) p q h f g =
    let a = seen s who in
    let b = seen t who in
    let see = same_seen s t who h in
    let at = reached_same s t who h Reserved in
    let made = size_with _ _ (row_with a b see table.name rowid values) p q in
    asked_same s t who h (writing_same s t who h (looking_same _ _ a b table.name at see (
    is_due (ap (λ (x : Table). not (length values == length x.columns)) (same_table a b see table.name)) refl at (is_due refl refl at
    (changing_same s t who h _ _ _ _ made (ap (λ (c : Bool). cond c reply.Replaced reply.New) (same_has a b see table.name rowid)))))))
commands_agree s t who (command.Del table rowid) p q h f g =
    let a = seen s who in
    let b = seen t who in
    let see = same_seen s t who h in
    let at = reached_same s t who h Reserved in
    let made = size_with _ _ (row_without a b see table.name rowid) p q in
    asked_same s t who h (writing_same s t who h (looking_same _ _ a b table.name at see (is_due (ap not (same_has a b see table.name rowid)) refl at
    (changing_same s t who h _ _ reply.Done reply.Done made refl))))
commands_agree s t who (command.Get table rowid) p q h f g =
    let a = seen s who in
    let b = seen t who in
    let see = same_seen s t who h in
    let at = reached_same s t who h Shared in
    asked_same s t who h (reading_same s t who h (looking_same _ _ a b table.name at see (is_due refl (ap (λ (x : Table). row_reply rowid (map.get x.rows rowid)) (same_table a b see table.name)) at at_end)))
commands_agree s t who (command.Scan table low high) p q h f g =
    let a = seen s who in
    let b = seen t who in
    let see = same_seen s t who h in
    let at = reached_same s t who h Shared in
    asked_same s t who h (reading_same s t who h (looking_same _ _ a b table.name at see (may_be refl refl (may_be refl refl
    (is_due refl (ap (λ (x : Table). rows_reply low high x.rows) (same_table a b see table.name)) at at_end)))))
commands_agree s t who (command.Count table) p q h f g =
    let a = seen s who in
    let b = seen t who in
    let see = same_seen s t who h in
    let at = reached_same s t who h Shared in
    asked_same s t who h (reading_same s t who h (looking_same _ _ a b table.name at see (is_due refl (ap (λ (x : Table). reply.Count (map.len x.rows)) (same_table a b see table.name)) at at_end)))
commands_agree s t who command.Tables p q h f g =
    asked_same s t who h (reading_same s t who h (is_due refl (ap reply.TableLines (same_list (seen s who) (seen t who) (same_seen s t who h))) (reached_same s t who h Shared) at_end))
commands_agree s t who command.Begin p q h f g = is_due h.stopped refl h (is_due (same_inside s t who h) refl h (is_due refl refl (begun_same s t who h) at_end))
commands_agree s t who command.Rollback p q h f g = is_due h.stopped refl h (is_due (ap not (same_inside s t who h)) refl h (is_due refl refl (ended_same s t who h) at_end))
commands_agree s t who command.Commit p q h f g =
    is_due h.stopped refl h (is_due (ap not (same_inside s t who h)) refl h (is_due (ap not (same_own s t who h)) refl (ended_same s t who h) (may_be refl refl
    (committing_same s t who h _ _ s t (waiting s who) (waiting t who) reply.Done reply.Done (same_seen s t who h) h (waiting_same s t who h) refl))))
commands_agree s t who command.Reopen p q h f g =
    let B : Book → Type 0 = λ x. IsSameBook x q.found in
    let C : Book → Type 0 = λ x. IsSameBook s.kept x in
    let same : IsSameBook p.found q.found = subst B (sym (only_kept s.doubt s.kept p.found h.sure f)) (subst C (sym (only_kept t.doubt t.kept q.found h.also g)) h.kept) in
    may_be refl refl (may_be refl refl (is_due refl (ap (λ (n : ℕ). reply.Open n) same.counter) (opened_same p.found q.found same) at_end))

step_agrees : (s t : State) (who : ℕ) (asked : Command) (answer answer' : Reply) (next next' : State) → IsAlike s t → Step s who asked answer next → Step t who asked answer' next' →
    is_free answer ≡ false → is_free answer' ≡ false → (answer' ≡ answer) × IsAlike next next'
step_agrees s t who asked answer answer' next next' h step step' bound bound' =
    agree (cases_of step.pick s who asked) (cases_of step'.pick t who asked) answer answer' next next' (commands_agree s t who asked step.pick step'.pick h step.fair step'.fair).each
    step.allowed step'.allowed bound bound'

kept_same : (s t next next' : State) (answer answer' r : Reply) → IsAlike s t → (answer ≡ r) × (next ≡ s) → (answer' ≡ r) × (next' ≡ t) → (answer' ≡ answer) × IsAlike next next'
kept_same s t next next' answer answer' r h left left' =
    (left'.0 ∙ sym left.0, subst (λ (n : State). IsAlike n next') (sym left.1) (subst (λ (n : State). IsAlike s n) (sym left'.1) h))

line_agrees : (s t : State) (line : Line) (answer answer' : Reply) (next next' : State) → IsAlike s t → Answers s line answer next → Answers t line answer' next' →
    is_free answer ≡ false → is_free answer' ≡ false → (answer' ≡ answer) × IsAlike next next'
line_agrees s t bad answer answer' next next' h left left' bound bound' = kept_same s t next next' answer answer' (reply.Error word.BadLine) h left left'
line_agrees s t (said who asked) answer answer' next next' h left left' bound bound' = of (is_connection who) left left'
  where
    of : (b : Bool) → MatchBool b (Step s who asked answer next) ((answer ≡ reply.Error word.NoConn) × (next ≡ s)) → MatchBool b (Step t who asked answer' next') ((answer' ≡ reply.Error word.NoConn) × (next' ≡ t)) →
        (answer' ≡ answer) × IsAlike next next'
    of true step step' = step_agrees s t who asked answer answer' next next' h step step' bound bound'
    of false left left' = kept_same s t next next' answer answer' (reply.Error word.NoConn) h left left'

run_agrees : (s t : State) (lines : List Line) (answers others : List Reply) (end end' : State) → IsAlike s t → RunFrom s lines answers end → RunFrom t lines others end' → NoneFree answers →
    NoneFree others → others ≡ answers
run_agrees s t [] [] [] end end' h run run' free free' = refl
run_agrees s t [] [] (o ∷ others) end end' h run run' free free' = absurd run'
run_agrees s t [] (a ∷ answers) others end end' h run run' free free' = absurd run
run_agrees s t (line ∷ lines) [] others end end' h run run' free free' = absurd run
run_agrees s t (line ∷ lines) (a ∷ answers) [] end end' h run run' free free' = absurd run'
run_agrees s t (line ∷ lines) (a ∷ answers) (o ∷ others) end end' h run run' free free' =
    let one = line_agrees s t line a o run.0 run'.0 h run.1 run'.1 free.0 free'.0 in
    ap (λ (x : Reply). x ∷ others) one.0 ∙ ap (λ (l : List Reply). a ∷ l) (run_agrees run.0 run'.0 lines answers others end end' one.1 run.2 run'.2 free.1 free'.1)

closed_same : (a b : Book) → IsSameBook a b → IsAlike (closed a) (closed b)
closed_same a b same = record { kept = same; drafts = tt; levels = refl; inside = refl; stopped = refl; sure = refl; also = refl }

pub runs_agree : RunsAgree
runs_agree a b lines answers others end end' same run run' free free' = run_agrees (closed a) (closed b) (said 1 command.Reopen ∷ lines) answers others end end' (closed_same a b same) run run' free free'
