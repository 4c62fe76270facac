use Rattle.std.proofs.Common.{◌∙◌, refl, sym, ap, map, take}
use Rattle.page_draft.specs.Slots.{read_of, marked_of, now_of}
use Rattle.page_draft.proofs.ChangeLemmas.{marks-read, marks-marked, marks-now, long-as, good-as, take-shown}
use Rattle.page_draft.proofs.draft.PageDraft.mark.Goals as goal

pub invariant_of-self-clause-read_long : goal.invariant_of-self-clause-read_long
invariant_of-self-clause-read_long c =
    let old = c.args.self.now in
    long-as (ap (λ slots. take old.read_len (map (read_of old.page_size) slots)) c.change_all.ensures ∙ ap (take old.read_len) (marks-read old.page_size old.slots.items)) old.read_long

pub invariant_of-self-clause-marked_long : goal.invariant_of-self-clause-marked_long
invariant_of-self-clause-marked_long c =
    let old = c.args.self.now in
    long-as
    (take-shown (marked_of old.page_size) c.len-self.result c.change_all.new.slots.items (sym (c.len-self.ensures ∙ c.change_all.new.slots.ok.0))
    ∙ ap (map (marked_of old.page_size)) c.change_all.ensures ∙ marks-marked old.page_size old.slots.items)
    old.now_long

pub invariant_of-self-clause-now_long : goal.invariant_of-self-clause-now_long
invariant_of-self-clause-now_long c =
    let old = c.args.self.now in
    long-as (ap (map (now_of old.page_size)) c.change_all.ensures ∙ marks-now old.page_size old.slots.items) old.now_long

pub returns-clause-keeps : goal.returns-clause-keeps
returns-clause-keeps c =
    let old = c.args.self.now in
    record {
      sizes = record { sized = refl; used = refl };
      read_stays = ap (λ slots. take old.read_len (map (read_of old.page_size) slots)) c.change_all.ensures ∙ ap (take old.read_len) (marks-read old.page_size old.slots.items);
    }

pub returns-clause-now : goal.returns-clause-now
returns-clause-now c = ap (map (now_of c.args.self.now.page_size)) c.change_all.ensures ∙ marks-now c.args.self.now.page_size c.args.self.now.slots.items

pub returns-clause-marked : goal.returns-clause-marked
returns-clause-marked c =
    let old = c.args.self.now in
    take-shown (marked_of old.page_size) c.len-self.result c.change_all.new.slots.items (sym (c.len-self.ensures ∙ c.change_all.new.slots.ok.0))
    ∙ ap (map (marked_of old.page_size)) c.change_all.ensures ∙ marks-marked old.page_size old.slots.items

pub invariant_of-self-clause-added_good : goal.invariant_of-self-clause-added_good
invariant_of-self-clause-added_good c =
    let old = c.args.self.now in
    good-as (ap (map (read_of old.page_size)) c.change_all.ensures ∙ marks-read old.page_size old.slots.items) old.added_good
