-- Through a case of a list.
use Rattle.std.proofs.Common.{◌≡◌, ℕ, Bool, true, false, cond, not, ◌&&◌, refl, sym, subst, ap, ◌∙◌, [], List, ◌∷◌, None}
use Rattle.shell_lang.specs.declared.reply.Reply.{Reply}
use Rattle.shell_model.specs.State.{State, seen, reached}
use Rattle.shell_lang.specs.declared.reply.Reply.TheVariants as reply
use Rattle.shell_lang.specs.declared.command.Command.{Command}
use Rattle.shell_lang.specs.declared.reply.ErrorWord.TheVariants as word
use Rattle.std.proofs.lemmas.Bool.{and_left}
use Rattle.shell_laws.proofs.BookLemmas.{plain_is_not_foreign}
use Rattle.shell_laws.proofs.CommandLemmas.{any_choice, memory_step}
use Rattle.std.specs.Prelude.{Result, Ok, Err, IfOk, OnErr}
use Rattle.std.specs.declared.alloc.AllocError.{AllocError}
use Rattle.ref_shell.specs.Machine.{state_of}
use Rattle.ref_shell.specs.declared.machine.Machine.{Machine}
use Rattle.ref_shell.specs.Part.{GoesThrough, said_of}
use Rattle.vfs_model.specs.declared.level.Level.TheVariants.{Shared, Reserved}
use Rattle.book_model.specs.Book.{Book, Name, IsSized, is_plain, is_foreign}
use Rattle.shell_model.specs.Cases.{Case, Pick, due, Allows, cases_of, looking, changing, sized}
use Rattle.shell_model.specs.Step.{Step, IsFair, takes_memory}
use Rattle.ref_shell.specs.Shelf.{Becomes}

-- the case is due
pub is_due : (holds : Bool) (r : Reply) (s : State) (cases : List Case) → holds ≡ true → Allows (due holds r s ∷ cases) r s
is_due true r s cases e = (refl, refl)
is_due false r s cases e = absurd (cc)

-- the case is not
pub not_due : (holds : Bool) (r : Reply) (s : State) (cases : List Case) (answer : Reply) (next : State) → holds ≡ false → Allows cases answer next → Allows (due holds r s ∷ cases) answer next
not_due true r s cases answer next e a = absurd (cc)
not_due false r s cases answer next e a = a

-- the table is there
pub is_there : (after : State) (book : Book) (name : Name) → is_plain book name ≡ true → GoesThrough (looking after book name) None after
is_there after book name plain cases answer next allowed =
    let foreign = is_foreign book name in
    not_due (not (is_plain book name) && not foreign) (reply.Error word.NoTable) after (due foreign (reply.Error word.Foreign) after ∷ cases) answer next (and_left _ _ (ap not plain))
    (not_due foreign (reply.Error word.Foreign) after cases answer next (plain_is_not_foreign book name plain) allowed)

-- a read that was done: it says what is seen, and its connection keeps Shared
pub read_step : (s mid : State) (who : ℕ) (asked : Command) (say : Book → Reply) (view : Book) (answer : Reply) (next : State) →
    mid ≡ s → view ≡ seen mid who → answer ≡ say view → next ≡ reached mid who Shared →
    ((pick : Pick) → Allows (due true (say (seen s who)) (reached s who Shared) ∷ []) answer next → Allows (cases_of pick s who asked) answer next) →
    Step s who asked answer next
read_step s mid who asked say view answer next same seen= said moved goes =
    any_choice s who asked answer next (λ pick. goes pick
    (said ∙ ap say (seen= ∙ ap (λ (m : State). seen m who) same), moved ∙ ap (λ (m : State). reached m who Shared) same))

-- a change that was done: a shelf has taken it, and it was kept as a draft or committed
pub change_step : (s mid : State) (who : ℕ) (asked : Command) (changed : ℕ → Book → Book) (say : Book → Reply) (view book : Book) (said answer : Reply) (next : State) →
    mid ≡ s → view ≡ seen mid who → Becomes view (λ root. changed root view) book → said ≡ say view → Allows (changing mid who book said) answer next →
    ((pick : Pick) → IsSized (seen s who) (sized pick (changed pick.root (seen s who))) → IsFair pick s who asked) →
    ((pick : Pick) → Allows (changing s who (sized pick (changed pick.root (seen s who))) (say (seen s who))) answer next → Allows (cases_of pick s who asked) answer next) →
    Step s who asked answer next
change_step s mid who asked changed say view book said answer next same seen= became is allowed fair goes =
    let view= : view ≡ seen s who = seen= ∙ ap (λ (m : State). seen m who) same in
    let became' = subst (λ (v : Book). Becomes v (λ root. changed root v) book) view= became in
    let pick : Pick = record { pages = became'.pages; free = became'.free; root = became'.root; rows = 0; found = s.kept } in
    let sized' : IsSized (seen s who) (sized pick (changed pick.root (seen s who))) = subst (λ (b : Book). IsSized (seen s who) b) became'.is became'.sized in
    let here = subst (λ (m : State). Allows (changing m who book said) answer next) same allowed in
    let moved = subst (λ (b : Book). Allows (changing s who b said) answer next) became'.is here in
    record {
      pick = pick;
      fair = fair pick sized';
      allowed = goes pick (subst (λ (r : Reply). Allows (changing s who (sized pick (changed pick.root (seen s who))) r) answer next) (is ∙ ap say view=) moved);
    }

-- a refusal of a change after Reserved was reached
pub late_refusal : (s mid : State) (who : ℕ) (asked : Command) (answer : Reply) (next : State) → mid ≡ s → next ≡ reached mid who Reserved →
    ((pick : Pick) → Allows (cases_of pick s who asked) answer (reached s who Reserved)) → Step s who asked answer next
late_refusal s mid who asked answer next same moved goes =
    subst (λ (n : State). Step s who asked answer n) (sym (moved ∙ ap (λ (m : State). reached m who Reserved) same)) (any_choice s who asked answer (reached s who Reserved) goes)

-- what a put is answered, as the row was there or not
abbrev pub put_reply : Bool → Reply
put_reply there = cond there reply.Replaced reply.New

-- a command that is answered, or wants memory and has changed nothing
pub said_step : {S : Type 0} (book : S → Book) (old new : Machine S) (who : ℕ) (given asked : Command) (answer : Reply) (result : Result Reply AllocError) → given ≡ asked → answer ≡ said_of result →
    takes_memory asked ≡ true → IfOk result (λ said. Step (state_of book old) who asked said (state_of book new)) → OnErr result ((new ≡ old) × (old.stopped ≡ false)) →
    Step (state_of book old) who given answer (state_of book new)
said_step book old new who given asked answer result is said takes done wanted =
    subst (λ (a : Command). Step (state_of book old) who a answer (state_of book new)) (sym is)
    (subst (λ (r : Reply). Step (state_of book old) who asked r (state_of book new)) (sym said) (either result done wanted))
  where
    either : (result : Result Reply AllocError) → IfOk result (λ said. Step (state_of book old) who asked said (state_of book new)) → OnErr result ((new ≡ old) × (old.stopped ≡ false)) →
        Step (state_of book old) who asked (said_of result) (state_of book new)
    either (Ok said) done wanted = done
    either (Err e) done wanted = subst (λ (m : Machine _). Step (state_of book old) who asked reply.Memory (state_of book m)) (sym wanted.0) (memory_step (state_of book old) who asked wanted.1 takes)

-- a command in which nothing is chosen
pub plain_step : (s next : State) (who : ℕ) (given asked : Command) (answer : Reply) → given ≡ asked → ((pick : Pick) → Allows (cases_of pick s who asked) answer next) → Step s who given answer next
plain_step s next who given asked answer is allowed = subst (λ (a : Command). Step s who a answer next) (sym is) (any_choice s who asked answer next allowed)
