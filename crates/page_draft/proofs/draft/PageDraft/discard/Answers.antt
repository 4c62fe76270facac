use Rattle.std.proofs.Common.{◌≡◌, ◌∙◌, refl, sym, ap, List, map, take, arith}
use Rattle.std.proofs.lemmas.List.{take-map}
use Rattle.page_draft.specs.Slots.{read_of, marked_of, now_of}
use Rattle.page_draft.specs.declared.slot.Slot.{Slot}
use Rattle.page_draft.specs.declared.draft.PageDraft.{PageDraft}
use Rattle.page_draft.specs.Draft.{read_list}
use Rattle.page_draft.specs.Slots.{changed_slot}
use Rattle.page_draft.specs.declared.slot.Change.TheVariants.{Discard}
use Rattle.page_draft.proofs.ChangeLemmas.{discards-read, discards-marked, discards-now, long-as, good-as, good-first, first-shown}
use Rattle.page_draft.proofs.draft.PageDraft.discard.Goals as goal

-- the slots that were read, changed
reads_as : (d : PageDraft) (slots : List Slot) → slots ≡ map (changed_slot Discard) (take d.read_len d.slots.items) → take d.read_len (map (read_of d.page_size) slots) ≡ read_list d
reads_as d slots is =
    ap (λ slots. take d.read_len (map (read_of d.page_size) slots)) is ∙ ap (take d.read_len) (discards-read d.page_size (take d.read_len d.slots.items))
    ∙ first-shown (read_of d.page_size) d.read_len d.read_len d.slots.items (omega arith)

marked_as : (d : PageDraft) (slots : List Slot) → slots ≡ map (changed_slot Discard) (take d.read_len d.slots.items) → take d.read_len (map (marked_of d.page_size) slots) ≡ read_list d
marked_as d slots is =
    ap (λ slots. take d.read_len (map (marked_of d.page_size) slots)) is ∙ ap (take d.read_len) (discards-marked d.page_size (take d.read_len d.slots.items))
    ∙ first-shown (read_of d.page_size) d.read_len d.read_len d.slots.items (omega arith)

now_as : (d : PageDraft) (slots : List Slot) → slots ≡ map (changed_slot Discard) (take d.read_len d.slots.items) → map (now_of d.page_size) slots ≡ read_list d
now_as d slots is =
    ap (map (now_of d.page_size)) is ∙ discards-now d.page_size (take d.read_len d.slots.items) ∙ sym (take-map (read_of d.page_size) d.read_len d.slots.items)

pub invariant_of-self-clause-read_long : goal.invariant_of-self-clause-read_long
invariant_of-self-clause-read_long c =
    long-as (reads_as c.args.self.now c.change_all.new.slots.items (c.change_all.ensures ∙ ap (map (changed_slot Discard)) c.truncate.ensures.items)) c.args.self.now.read_long

pub invariant_of-self-clause-marked_long : goal.invariant_of-self-clause-marked_long
invariant_of-self-clause-marked_long c =
    long-as (marked_as c.args.self.now c.change_all.new.slots.items (c.change_all.ensures ∙ ap (map (changed_slot Discard)) c.truncate.ensures.items)) c.args.self.now.read_long

pub invariant_of-self-clause-now_long : goal.invariant_of-self-clause-now_long
invariant_of-self-clause-now_long c =
    long-as (now_as c.args.self.now c.change_all.new.slots.items (c.change_all.ensures ∙ ap (map (changed_slot Discard)) c.truncate.ensures.items)) c.args.self.now.read_long

pub returns-clause-keeps : goal.returns-clause-keeps
returns-clause-keeps c =
    record {
      sizes = record { sized = refl; used = refl };
      read_stays = reads_as c.args.self.now c.change_all.new.slots.items (c.change_all.ensures ∙ ap (map (changed_slot Discard)) c.truncate.ensures.items);
    }

pub returns-clause-clean : goal.returns-clause-clean
returns-clause-clean c =
    let is = c.change_all.ensures ∙ ap (map (changed_slot Discard)) c.truncate.ensures.items in
    let reads = reads_as c.args.self.now c.change_all.new.slots.items is in
    record {
      marked_are = marked_as c.args.self.now c.change_all.new.slots.items is ∙ sym reads;
      now_are = now_as c.args.self.now c.change_all.new.slots.items is ∙ sym reads;
      unchanged = refl;
      unmarked = refl;
    }

pub invariant_of-self-clause-added_good : goal.invariant_of-self-clause-added_good
invariant_of-self-clause-added_good c =
    let old = c.args.self.now in
    good-as (ap (map (read_of old.page_size)) (c.change_all.ensures ∙ ap (map (changed_slot Discard)) c.truncate.ensures.items)
    ∙ discards-read old.page_size (take old.read_len old.slots.items) ∙ sym (take-map (read_of old.page_size) old.read_len old.slots.items))
    (good-first old.read_len old.read_len (map (read_of old.page_size) old.slots.items) old.added_good)
