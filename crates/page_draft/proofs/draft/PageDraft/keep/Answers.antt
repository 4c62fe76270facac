use Rattle.std.proofs.Common.{arith, ◌≡◌, ℕ, length, ◌∙◌, refl, sym, ap, List, map, take}
use Rattle.page_draft.specs.Slots.{read_of, marked_of, now_of}
use Rattle.page_draft.specs.declared.slot.Slot.{Slot}
use Rattle.page_draft.specs.declared.draft.PageDraft.{PageDraft}
use Rattle.page_draft.specs.Draft.{now_list}
use Rattle.page_draft.specs.Slots.{changed_slot}
use Rattle.page_draft.specs.declared.slot.Change.TheVariants.{Keep}
use Rattle.page_draft.proofs.ChangeLemmas.{keeps-read, keeps-marked, keeps-now, long-as, good-none, take-shown}
use Rattle.page_draft.proofs.draft.PageDraft.keep.Goals as goal

-- all slots, changed
reads_as : (d : PageDraft) (n : ℕ) (slots : List Slot) → slots ≡ map (changed_slot Keep) d.slots.items → length slots ≡ n → take n (map (read_of d.page_size) slots) ≡ now_list d
reads_as d n slots is len = take-shown (read_of d.page_size) n slots len ∙ ap (map (read_of d.page_size)) is ∙ keeps-read d.page_size d.slots.items

marked_as : (d : PageDraft) (n : ℕ) (slots : List Slot) → slots ≡ map (changed_slot Keep) d.slots.items → length slots ≡ n → take n (map (marked_of d.page_size) slots) ≡ now_list d
marked_as d n slots is len = take-shown (marked_of d.page_size) n slots len ∙ ap (map (marked_of d.page_size)) is ∙ keeps-marked d.page_size d.slots.items

now_as : (d : PageDraft) (slots : List Slot) → slots ≡ map (changed_slot Keep) d.slots.items → map (now_of d.page_size) slots ≡ now_list d
now_as d slots is = ap (map (now_of d.page_size)) is ∙ keeps-now d.page_size d.slots.items

pub invariant_of-self-clause-read_long : goal.invariant_of-self-clause-read_long
invariant_of-self-clause-read_long c =
    long-as (reads_as c.args.self.now _ c.change_all.new.slots.items c.change_all.ensures (sym (c.len-self.ensures ∙ c.change_all.new.slots.ok.0))) c.args.self.now.now_long

pub invariant_of-self-clause-marked_long : goal.invariant_of-self-clause-marked_long
invariant_of-self-clause-marked_long c =
    long-as (marked_as c.args.self.now _ c.change_all.new.slots.items c.change_all.ensures (sym (c.len-self-2.ensures ∙ c.change_all.new.slots.ok.0))) c.args.self.now.now_long

pub invariant_of-self-clause-now_long : goal.invariant_of-self-clause-now_long
invariant_of-self-clause-now_long c = long-as (now_as c.args.self.now c.change_all.new.slots.items c.change_all.ensures) c.args.self.now.now_long

pub returns-clause-kept : goal.returns-clause-kept
returns-clause-kept c = reads_as c.args.self.now _ c.change_all.new.slots.items c.change_all.ensures (sym (c.len-self.ensures ∙ c.change_all.new.slots.ok.0))

pub returns-clause-clean : goal.returns-clause-clean
returns-clause-clean c =
    let reads = reads_as c.args.self.now _ c.change_all.new.slots.items c.change_all.ensures (sym (c.len-self.ensures ∙ c.change_all.new.slots.ok.0)) in
    record {
      marked_are = marked_as c.args.self.now _ c.change_all.new.slots.items c.change_all.ensures (sym (c.len-self-2.ensures ∙ c.change_all.new.slots.ok.0)) ∙ sym reads;
      now_are = now_as c.args.self.now c.change_all.new.slots.items c.change_all.ensures ∙ sym reads;
      unchanged = refl;
      unmarked = refl;
    }

pub invariant_of-self-clause-added_good : goal.invariant_of-self-clause-added_good
invariant_of-self-clause-added_good c =
    good-none (read_of c.args.self.now.page_size) c.len-self.result c.change_all.new.slots.items (omega (arith, c.len-self.ensures ∙ c.change_all.new.slots.ok.0))
