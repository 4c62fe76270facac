-- The lists of the commands: what may come in them is free, and what is due does not depend on the choice.
use Rattle.std.proofs.Common.{inl, inr, ◌≡◌, ◌≢◌, ◌⊎◌, ℕ, ◌≤◌, true, false, length, Option, Some, None, refl, ap, sym, ◌∙◌, arith}
use Rattle.shell_lang.specs.declared.command.Command.{Command}
use Rattle.shell_lang.specs.declared.command.Command.TheVariants as command
use Rattle.shell_lang.specs.declared.reply.Reply.{Reply}
use Rattle.shell_lang.specs.declared.reply.Reply.TheVariants as reply
use Rattle.book_model.specs.Book.{Book, IsSized, need_of, with_table, without_table, with_row, without_row}
use Rattle.shell_model.specs.State.{State, Doubt, IsCandidate, seen, opened}
use Rattle.shell_model.specs.Cases.{Pick, Allows, cases_of, sized}
use Rattle.shell_model.specs.Step.{Step, IsFair, is_free, takes_memory}
use Rattle.shell_laws.specs.Laws.{first_of, first_found, fewest, reference}
use Rattle.shell_laws.proofs.CaseLemmas.{FreeBy, due_is_first, first_reply, first_reply-first_due, first_is_allowed, same_from_some, ends, some_first}

-- what may come is free
pub frees : (pick : Pick) (s : State) (who : ℕ) (asked : Command) → FreeBy is_free (cases_of pick s who asked)
frees pick s who (command.Create table columns) = (refl, (refl, (refl, (refl, (refl, tt)))))
frees pick s who (command.Drop table) = (refl, (refl, (refl, (refl, (refl, tt)))))
frees pick s who (command.Put table rowid values) = (refl, (refl, (refl, (refl, (refl, tt)))))
frees pick s who (command.Del table rowid) = (refl, (refl, (refl, (refl, (refl, tt)))))
frees pick s who (command.Get table rowid) = (refl, (refl, tt))
frees pick s who (command.Scan table low high) = (refl, (refl, (refl, (refl, tt))))
frees pick s who (command.Count table) = (refl, (refl, tt))
frees pick s who command.Tables = (refl, (refl, tt))
frees pick s who command.Begin = tt
frees pick s who command.Rollback = tt
frees pick s who command.Commit = (refl, (refl, (refl, tt)))
frees pick s who command.Reopen = (refl, (refl, tt))

-- an opening where nothing is in doubt finds the kept book
only_kept : (doubt : Option Doubt) (kept found : Book) → doubt ≡ None → IsCandidate doubt kept found → found ≡ kept
only_kept None kept found certain is = is
only_kept (Some doubt) kept found certain is = absurd (cc)

first_is_candidate : (doubt : Option Doubt) (kept : Book) → IsCandidate doubt kept (first_of doubt kept)
first_is_candidate None kept = refl
first_is_candidate (Some doubt) kept = inl refl

-- the reply that is due does not depend on the choice
same_reply : (s : State) (who : ℕ) (asked : Command) (p q : Pick) → (s.doubt ≡ None) ⊎ (asked ≢ command.Reopen) → IsFair p s who asked → IsFair q s who asked →
    first_reply (cases_of p s who asked) ≡ first_reply (cases_of q s who asked)
same_reply s who (command.Create table columns) p q certain fp fq = refl
same_reply s who (command.Drop table) p q certain fp fq = refl
same_reply s who (command.Put table rowid values) p q certain fp fq = refl
same_reply s who (command.Del table rowid) p q certain fp fq = refl
same_reply s who (command.Get table rowid) p q certain fp fq = refl
same_reply s who (command.Scan table low high) p q certain fp fq = refl
same_reply s who (command.Count table) p q certain fp fq = refl
same_reply s who command.Tables p q certain fp fq = refl
same_reply s who command.Begin p q certain fp fq = refl
same_reply s who command.Rollback p q certain fp fq = refl
same_reply s who command.Commit p q certain fp fq = refl
same_reply s who command.Reopen p q (inr other) fp fq = absurd (other refl)
same_reply s who command.Reopen p q (inl certain) fp fq = ap (λ book. Some (reply.Open book.counter)) (only_kept s.doubt s.kept p.found certain fp ∙ sym (only_kept s.doubt s.kept q.found certain fq))

pub determined : (s : State) (who : ℕ) (asked : Command) (answer other : Reply) (next after : State) → (s.doubt ≡ None) ⊎ (asked ≢ command.Reopen) →
    Step s who asked answer next → Step s who asked other after → is_free answer ≡ false → is_free other ≡ false → answer ≡ other
determined s who asked answer other next after certain step twin bound bound' =
    let mine = cases_of step.pick s who asked in
    let other's = cases_of twin.pick s who asked in
    let one = first_reply-first_due mine answer next (due_is_first mine answer next (frees step.pick s who asked) step.allowed bound) in
    let two = first_reply-first_due other's other after (due_is_first other's other after (frees twin.pick s who asked) twin.allowed bound') in
    same_from_some answer other (sym one ∙ (same_reply s who asked step.pick twin.pick certain step.fair twin.fair ∙ two))

-- some case is always due
all_end : (pick : Pick) (s : State) (who : ℕ) (asked : Command) → ends (cases_of pick s who asked) ≡ true
all_end pick s who (command.Create table columns) = refl
all_end pick s who (command.Drop table) = refl
all_end pick s who (command.Put table rowid values) = refl
all_end pick s who (command.Del table rowid) = refl
all_end pick s who (command.Get table rowid) = refl
all_end pick s who (command.Scan table low high) = refl
all_end pick s who (command.Count table) = refl
all_end pick s who command.Tables = refl
all_end pick s who command.Begin = refl
all_end pick s who command.Rollback = refl
all_end pick s who command.Commit = refl
all_end pick s who command.Reopen = refl

-- a database may need a page
some_need : (book : Book) → 1 ≤ need_of book
unfolding need_of
some_need book = omega arith

-- so one page in use is not more than the need
pub fewest_fits : (s : State) (who : ℕ) (book : Book) → book.unnamed ≡ (seen s who).unnamed → IsSized (seen s who) (sized (fewest s who) book)
fewest_fits s who book same =
    let e : length book.unnamed ≡ length (seen s who).unnamed = ap length same in
    record { fits = omega arith; keeps = omega arith; needed = omega (arith, some_need (sized (fewest s who) book)); bounded = omega arith }

pub fewest_is_fair : (s : State) (who : ℕ) (asked : Command) → IsFair (fewest s who) s who asked
fewest_is_fair s who (command.Create table columns) = fewest_fits s who (with_table (seen s who) table.name columns 2) refl
fewest_is_fair s who (command.Drop table) = fewest_fits s who (without_table (seen s who) table.name) refl
fewest_is_fair s who (command.Put table rowid values) = fewest_fits s who (with_row (seen s who) table.name rowid values) refl
fewest_is_fair s who (command.Del table rowid) = fewest_fits s who (without_row (seen s who) table.name rowid) refl
fewest_is_fair s who (command.Get table rowid) = tt
fewest_is_fair s who (command.Scan table low high) = tt
fewest_is_fair s who (command.Count table) = tt
fewest_is_fair s who command.Tables = tt
fewest_is_fair s who command.Begin = tt
fewest_is_fair s who command.Rollback = tt
fewest_is_fair s who command.Commit = tt
fewest_is_fair s who command.Reopen = first_is_candidate s.doubt s.kept

pub reference_allowed : (s : State) (who : ℕ) (asked : Command) →
    (answer : Reply) × (next : State) × (reference s who asked ≡ Some (answer, next)) × Step s who asked answer next
reference_allowed s who asked =
    let cases = cases_of (fewest s who) s who asked in
    let first = some_first cases (all_end (fewest s who) s who asked) in
    (first.0, first.1, first.2, record { pick = fewest s who; fair = fewest_is_fair s who asked; allowed = first_is_allowed cases first.0 first.1 first.2 })

-- what is allowed whatever is chosen is a step
pub any_choice : (s : State) (who : ℕ) (asked : Command) (answer : Reply) (next : State) →
    ((pick : Pick) → Allows (cases_of pick s who asked) answer next) → Step s who asked answer next
any_choice s who asked answer next allowed = record { pick = fewest s who; fair = fewest_is_fair s who asked; allowed = allowed (fewest s who) }

-- memory may be wanted in every table command of a session that is not stopped
wanted : (pick : Pick) (s : State) (who : ℕ) (asked : Command) → s.stopped ≡ false → takes_memory asked ≡ true → Allows (cases_of pick s who asked) reply.Memory s
wanted pick s who (command.Create table columns) goes takes = rw goes (inl (refl, refl, refl))
wanted pick s who (command.Drop table) goes takes = rw goes (inl (refl, refl, refl))
wanted pick s who (command.Put table rowid values) goes takes = rw goes (inl (refl, refl, refl))
wanted pick s who (command.Del table rowid) goes takes = rw goes (inl (refl, refl, refl))
wanted pick s who (command.Get table rowid) goes takes = rw goes (inl (refl, refl, refl))
wanted pick s who (command.Scan table low high) goes takes = rw goes (inl (refl, refl, refl))
wanted pick s who (command.Count table) goes takes = rw goes (inl (refl, refl, refl))
wanted pick s who command.Tables goes takes = rw goes (inl (refl, refl, refl))
wanted pick s who command.Begin goes takes = absurd (cc)
wanted pick s who command.Commit goes takes = absurd (cc)
wanted pick s who command.Rollback goes takes = absurd (cc)
wanted pick s who command.Reopen goes takes = absurd (cc)

pub memory_step : (s : State) (who : ℕ) (asked : Command) → s.stopped ≡ false → takes_memory asked ≡ true → Step s who asked reply.Memory s
memory_step s who asked goes takes = any_choice s who asked reply.Memory s (λ pick. wanted pick s who asked goes takes)

-- an opening finds a candidate
pub reopen_finds : (s : State) (who : ℕ) (found : Book) → IsCandidate s.doubt s.kept found → Step s who command.Reopen (reply.Open found.counter) (opened found)
reopen_finds s who found is = record { pick = record (fewest s who) { found = found }; fair = is; allowed = inr (inr (refl, refl)) }

pub reopen_step : (s : State) (who : ℕ) → Step s who command.Reopen (reply.Open (first_found s).counter) (opened (first_found s))
reopen_step s who = reopen_finds s who (first_found s) (first_is_candidate s.doubt s.kept)
