-- What steps keep: a settled state, another's draft, and whether the session is stopped.
use Rattle.std.proofs.Common.{◌≡◌, ◌≢◌, ℕ, ◌≤◌, Bool, true, false, cond, ◌⊎◌, inl, inr, Option, Some, None, refl, ap, sym, ◌∙◌, arith}
use Rattle.std.specs.Prelude.{is_some}
use Rattle.std.proofs.lemmas.Bool.{cases_lt}
use Rattle.std.proofs.lemmas.Bool.Decides.{nat_tests}
use Rattle.vfs_model.specs.declared.level.Level.{Level}
use Rattle.vfs_model.specs.declared.level.Level.TheVariants.{Shared, Reserved}
use Rattle.vfs_model.specs.Lock.{IsOwner}
use Rattle.byte_base.specs.Count.{Rose}
use Rattle.shell_lang.specs.declared.command.Command.{Command}
use Rattle.shell_lang.specs.declared.command.Command.TheVariants as command
use Rattle.shell_lang.specs.declared.reply.Reply.{Reply}
use Rattle.shell_lang.specs.declared.reply.Reply.TheVariants as reply
use Rattle.shell_lang.specs.Reply.{IsPrintable}
use Rattle.shell_model.specs.State.{State, Draft, own, own_of, without_own, is_inside, is_refused, reached, granted}
use Rattle.shell_model.specs.Run.{Block, says_fault, stopped_after}
use Rattle.shell_model.specs.Step.{Step}
use Rattle.shell_laws.specs.Laws.{IsSettled}
use Rattle.shell_laws.proofs.CaseLemmas.{never}
use Rattle.shell_laws.proofs.OutcomeLemmas.{of_step, is_apart}
use Rattle.shell_model.proofs.RuleLemmas.{refused_by_way}
use Rattle.shell_laws.proofs.SettledLemmas.{rank_at, emptied, alone, reached_settled, drafted_settled, waiting_settled, begun_settled, ended_settled, committed_settled}

-- an option that has a value
some_of : {A : Type 0} (o : Option A) → is_some o ≡ true → (a : A) × (o ≡ Some a)
some_of None is = absurd (cc)
some_of (Some a) is = (a, refl)

pub step_settled : (s : State) (who : ℕ) (asked : Command) (answer : Reply) (next : State) → IsSettled s → IsOwner who → Step s who asked answer next → IsSettled next
step_settled s who asked answer next settled is_owner step = of_step (λ r n. IsSettled n) s who asked answer next (record {
  stops = λ is other. settled;
  stays = λ r quiet goes. settled;
  halts = λ r doubt halting when. emptied s.kept true doubt (λ d is. refl);
  reads = λ r quiet goes. reached_settled s who settled is_owner Shared (λ high. absurd (omega arith));
  writes = λ r quiet goes free. reached_settled s who settled is_owner Reserved (λ high. alone s who settled is_owner free);
  drafts = λ r book quiet goes free inside. drafted_settled s who settled is_owner book inside free;
  commits = λ r book quiet goes writer. committed_settled s who settled is_owner book;
  waits = λ goes has. let mine = some_of (own s who) has in waiting_settled s who settled is_owner mine.0 mine.1;
  begins = λ goes. begun_settled s who settled is_owner goes;
  ends = λ goes. ended_settled s who settled is_owner;
  opens = λ found is. emptied found false None (λ d is. absurd (cc));
}) step

-- ---- drafts

reached_draft : (s : State) (who : ℕ) (level : Level) → (reached s who level).draft ≡ s.draft
reached_draft s who level = at (is_inside s who)
  where
    at : (inside : Bool) → (cond inside (record s { levels = granted s.levels who level }) s).draft ≡ s.draft
    at true = refl
    at false = refl

-- another's draft is not one's own
other_own : (o : Option Draft) (draft : Draft) (who : ℕ) → o ≡ Some draft → draft.owner ≢ who → own_of o who ≡ None
other_own None draft who is other = refl
other_own (Some d) draft who is other = grind (arith, nat_tests)

other_without : (o : Option Draft) (draft : Draft) (who : ℕ) → o ≡ Some draft → draft.owner ≢ who → without_own o who ≡ o
other_without None draft who is other = refl
other_without (Some d) draft who is other = grind (arith, nat_tests)

-- beside a draft of another Reserved is refused
refused_beside : (s : State) (who : ℕ) (draft : Draft) → IsSettled s → IsOwner who → s.draft ≡ Some draft → draft.owner ≢ who → is_refused s.levels who Reserved ≡ true
refused_beside s who draft settled is_owner is other =
    let drafted = settled.drafted draft is in
    elim (cases_lt (rank_at s.levels who) 2) [
      | inl higher ↦ refused_by_way s.levels who Reserved draft.owner higher (record { numbered = drafted.0; another = other; keeps_out = drafted.2 })
      | inr writes ↦ absurd (other (settled.one_writer draft.owner who drafted.0 is_owner drafted.2 writes))
    ]

pub drafts_stay : (s : State) (who : ℕ) (asked : Command) (answer : Reply) (next : State) (draft : Draft) → IsSettled s → IsOwner who → s.draft ≡ Some draft → draft.owner ≢ who →
    asked ≢ command.Reopen → Step s who asked answer next → (next.stopped ≡ true) ⊎ (next.draft ≡ s.draft)
drafts_stay s who asked answer next draft settled is_owner is other others step =
    let refused = refused_beside s who draft settled is_owner is other in
    let left = other_without s.draft draft who is other in
    let mine : is_some (own s who) ≡ false = ap is_some (other_own s.draft draft who is other) in
    of_step (λ r n. (n.stopped ≡ true) ⊎ (n.draft ≡ s.draft)) s who asked answer next (record {
      stops = λ stopped other. inr refl;
      stays = λ r quiet goes. inr refl;
      halts = λ r doubt halting when. inl refl;
      reads = λ r quiet goes. inr (reached_draft s who Shared);
      writes = λ r quiet goes free. inr (reached_draft s who Reserved);
      drafts = λ r book quiet goes free inside. never refused free;
      commits = λ r book quiet goes writer. inr left;
      waits = λ goes has. inr refl;
      begins = λ goes. inr refl;
      ends = λ goes. inr left;
      opens = λ found is. absurd (others is);
    }) step

-- ---- blocks

reached_stopped : (s : State) (who : ℕ) (level : Level) → (reached s who level).stopped ≡ s.stopped
reached_stopped s who level = at (is_inside s who)
  where
    at : (inside : Bool) → (cond inside (record s { levels = granted s.levels who level }) s).stopped ≡ s.stopped
    at true = refl
    at false = refl

-- what a reply and the state after it say of a stop
record Marks (s : State) (asked : Command) (answer : Reply) (next : State) : Type 0 where
  due : s.stopped ≡ true → asked ≢ command.Reopen → answer ≡ reply.Stopped
  only : answer ≡ reply.Stopped → (s.stopped ≡ true) × (asked ≢ command.Reopen)
  after : next.stopped ≡ stopped_after s.stopped answer

-- a reply that is not `stopped`, where the session is open
marks_open : (s : State) (asked : Command) (r : Reply) (next : State) → is_apart r ≡ false → (s.stopped ≡ true → asked ≡ command.Reopen) → next.stopped ≡ stopped_after s.stopped r → Marks s asked r next
marks_open s asked r next other goes after = record {
  due = λ is others. absurd (others (goes is));
  only = λ is. never (ap is_apart is) other;
  after = after;
}

pub is_block : (s : State) (who : ℕ) (asked : Command) (answer : Reply) (next : State) (faults faults' : ℕ) → Step s who asked answer next → faults ≤ faults' →
    (says_fault answer ≡ true → Rose faults faults') → Block s.stopped faults asked answer faults' × (next.stopped ≡ stopped_after s.stopped answer)
is_block s who asked answer next faults faults' step counts failed =
    let marks = of_step (Marks s asked) s who asked answer next (record {
      stops = λ is other. record { due = λ _ _. refl; only = λ _. (is, other); after = refl };
      stays = λ r quiet goes. marks_open s asked r _ quiet.0 (λ is. never is goes) (sym (quiet.1 s.stopped));
      halts = λ r doubt halting when. marks_open s asked r _ halting.0 when (sym (halting.1 s.stopped));
      reads = λ r quiet goes. marks_open s asked r _ quiet.0 (λ is. never is goes) (reached_stopped s who Shared ∙ sym (quiet.1 s.stopped));
      writes = λ r quiet goes free. marks_open s asked r _ quiet.0 (λ is. never is goes) (reached_stopped s who Reserved ∙ sym (quiet.1 s.stopped));
      drafts = λ r book quiet goes free inside. marks_open s asked r _ quiet.0 (λ is. never is goes) (sym (quiet.1 s.stopped));
      commits = λ r book quiet goes writer. marks_open s asked r _ quiet.0 (λ is. never is goes) (sym (quiet.1 s.stopped));
      waits = λ goes has. marks_open s asked reply.Busy _ refl (λ is. never is goes) refl;
      begins = λ goes. marks_open s asked reply.Done _ refl (λ is. never is goes) refl;
      ends = λ goes. marks_open s asked reply.Done _ refl (λ is. never is goes) refl;
      opens = λ found is. marks_open s asked _ _ refl (λ _. is) refl;
    }) step in
    (record { due = marks.due; only = marks.only; failed = failed; counts = counts }, marks.after)

-- ---- texts

not_refusal : (r : Reply) → is_apart r ≡ false → IsPrintable r
not_refusal r other db why is = never (ap is_apart is) other

pub is_printed : (s : State) (who : ℕ) (asked : Command) (answer : Reply) (next : State) → Step s who asked answer next → IsPrintable answer
is_printed s who asked answer next step = of_step (λ r n. IsPrintable r) s who asked answer next (record {
  stops = λ is other db why same. absurd (cc);
  stays = λ r quiet goes. not_refusal r quiet.0;
  halts = λ r doubt halting when. not_refusal r halting.0;
  reads = λ r quiet goes. not_refusal r quiet.0;
  writes = λ r quiet goes free. not_refusal r quiet.0;
  drafts = λ r book quiet goes free inside. not_refusal r quiet.0;
  commits = λ r book quiet goes writer. not_refusal r quiet.0;
  waits = λ goes has. not_refusal reply.Busy refl;
  begins = λ goes. not_refusal reply.Done refl;
  ends = λ goes. not_refusal reply.Done refl;
  opens = λ found is. not_refusal (reply.Open found.counter) refl;
}) step
