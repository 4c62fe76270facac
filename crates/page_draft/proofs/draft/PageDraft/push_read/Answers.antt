use Rattle.std.proofs.Common.{arith, subst, length, ◌*◌, ◌≤◌, ◌∙◌, ◌++◌, ◌∷◌, [], sym, ap, map, take}
use Rattle.db_format.specs.Header.{greatest_length}
use Rattle.page_draft.specs.Slots.{shown, read_of, marked_of, now_of, pages_of}
use Rattle.page_draft.specs.Draft.{read_list}
use Rattle.page_draft.proofs.ListLemmas.{more_pages, long-more}
use Rattle.page_draft.proofs.ChangeLemmas.{long-as, good-as, good-none}
use Rattle.page_draft.proofs.StepLemmas.{more-read, more-marked, more-now}
use Rattle.page_draft.proofs.draft.PageDraft.push_read.Goals as goal

pub invariant_of-self : goal.invariant_of-self
invariant_of-self c =
    let d = c.args.self.now in
    let is = c.in_err-push.ensures.items in
    record {
      size_of_page = d.size_of_page;
      least = d.least;
      most = d.most;
      spare = d.spare;
      few = subst (λ slots. length slots * d.page_size ≤ greatest_length) (sym is) d.few;
      read_within = d.read_within;
      marked_within = subst (λ slots. d.marked_len ≤ length slots) (sym is) d.marked_within;
      read_long = long-as (ap (λ slots. take d.read_len (map (read_of d.page_size) slots)) is) d.read_long;
      marked_long = long-as (ap (λ slots. take d.marked_len (map (marked_of d.page_size) slots)) is) d.marked_long;
      now_long = long-as (ap (map (now_of d.page_size)) is) d.now_long;
      added_good = good-as (ap (map (read_of d.page_size)) is) d.added_good;
    }

pub invariant_of-self-2-clause-read_long : goal.invariant_of-self-2-clause-read_long
invariant_of-self-2-clause-read_long c =
    let old = c.args.self.now in
    long-as (more-read old _ c.push.new.self.items c.args.page c.requires.clean (c.in_ok-push.ensures.items ∙ ap (λ slot. old.slots.items ++ slot ∷ []) c.read.ensures) (sym (c.len-self.ensures ∙ c.push.new.self.ok.0)))
    (long-more old.page_size (read_list old) (shown old.page_size c.args.page) old.read_long c.requires.long)

pub invariant_of-self-2-clause-marked_long : goal.invariant_of-self-2-clause-marked_long
invariant_of-self-2-clause-marked_long c =
    let old = c.args.self.now in
    long-as (more-marked old _ c.push.new.self.items c.args.page c.requires.clean (c.in_ok-push.ensures.items ∙ ap (λ slot. old.slots.items ++ slot ∷ []) c.read.ensures) (sym (c.len-self-2.ensures ∙ c.push.new.self.ok.0)))
    (long-more old.page_size (read_list old) (shown old.page_size c.args.page) old.read_long c.requires.long)

pub invariant_of-self-2-clause-now_long : goal.invariant_of-self-2-clause-now_long
invariant_of-self-2-clause-now_long c =
    let old = c.args.self.now in
    long-as (more-now old c.push.new.self.items c.args.page c.requires.clean (c.in_ok-push.ensures.items ∙ ap (λ slot. old.slots.items ++ slot ∷ []) c.read.ensures))
    (long-more old.page_size (read_list old) (shown old.page_size c.args.page) old.read_long c.requires.long)

pub returns-clause-pages : goal.returns-clause-pages
returns-clause-pages c =
    let old = c.args.self.now in
    ap (pages_of old.usable) (more-read old _ c.push.new.self.items c.args.page c.requires.clean (c.in_ok-push.ensures.items ∙ ap (λ slot. old.slots.items ++ slot ∷ []) c.read.ensures) (sym (c.len-self.ensures ∙ c.push.new.self.ok.0)))
    ∙ more_pages (read_list old) old.usable (shown old.page_size c.args.page)

pub invariant_of-self-2-clause-added_good : goal.invariant_of-self-2-clause-added_good
invariant_of-self-2-clause-added_good c =
    good-none (read_of c.args.self.now.page_size) c.len-self.result c.push.new.self.items (omega (arith, c.len-self.ensures ∙ c.push.new.self.ok.0))
