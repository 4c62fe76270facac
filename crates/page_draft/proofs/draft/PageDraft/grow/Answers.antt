use Rattle.std.proofs.Common.{refl, ◌*◌, ◌∙◌, ◌++◌, ◌∷◌, [], sym, ap, map, take, length, arith, subst, ◌≤◌}
use Rattle.std.proofs.lemmas.List.{length-replicate}
use Rattle.db_format.specs.Header.{greatest_length}
use Rattle.page_draft.specs.Slots.{good, read_of, marked_of, now_of, pages_of}
use Rattle.page_draft.specs.Draft.{now_list}
use Rattle.page_draft.proofs.ListLemmas.{grown_pages, long-more}
use Rattle.page_draft.proofs.ChangeLemmas.{long-as, good-as, good-more}
use Rattle.page_draft.proofs.StepLemmas.{first-stay, shown-more}
use Rattle.page_draft.proofs.draft.PageDraft.grow.Goals as goal

pub invariant_of-self : goal.invariant_of-self
invariant_of-self c =
    let d = c.args.self.now in
    let is = c.in_err-push.ensures.items in
    record {
      size_of_page = d.size_of_page;
      least = d.least;
      most = d.most;
      spare = d.spare;
      few = subst (λ slots. length slots * d.page_size ≤ greatest_length) (sym is) d.few;
      read_within = d.read_within;
      marked_within = subst (λ slots. d.marked_len ≤ length slots) (sym is) d.marked_within;
      read_long = long-as (ap (λ slots. take d.read_len (map (read_of d.page_size) slots)) is) d.read_long;
      marked_long = long-as (ap (λ slots. take d.marked_len (map (marked_of d.page_size) slots)) is) d.marked_long;
      now_long = long-as (ap (map (now_of d.page_size)) is) d.now_long;
      added_good = good-as (ap (map (read_of d.page_size)) is) d.added_good;
    }

pub invariant_of-self-2-clause-read_long : goal.invariant_of-self-2-clause-read_long
invariant_of-self-2-clause-read_long c =
    let d = c.args.self.now in
    long-as (ap (λ slots. take d.read_len (map (read_of d.page_size) slots)) c.in_ok-push.ensures.items
    ∙ first-stay (read_of d.page_size) d.read_len d.slots.items _ (omega (arith, d.read_within, d.marked_within))) d.read_long

pub invariant_of-self-2-clause-marked_long : goal.invariant_of-self-2-clause-marked_long
invariant_of-self-2-clause-marked_long c =
    let d = c.args.self.now in
    long-as (ap (λ slots. take d.marked_len (map (marked_of d.page_size) slots)) c.in_ok-push.ensures.items
    ∙ first-stay (marked_of d.page_size) d.marked_len d.slots.items _ d.marked_within) d.marked_long

pub invariant_of-self-2-clause-now_long : goal.invariant_of-self-2-clause-now_long
invariant_of-self-2-clause-now_long c =
    let d = c.args.self.now in
    long-as (ap (map (now_of d.page_size)) c.in_ok-push.ensures.items ∙ shown-more (now_of d.page_size) d.slots.items _)
    (long-more d.page_size (now_list d) (good c.in_ok-zeros.zeros) d.now_long (ap length c.in_ok-zeros.ensures ∙ length-replicate d.page_size 0))

pub returns-clause-grown : goal.returns-clause-grown
returns-clause-grown c =
    let d = c.args.self.now in
    ap (pages_of d.usable) (ap (map (now_of d.page_size)) c.in_ok-push.ensures.items ∙ shown-more (now_of d.page_size) d.slots.items _
    ∙ ap (λ bytes. now_list d ++ good bytes ∷ []) (c.in_ok-zeros.ensures))
    ∙ grown_pages (now_list d) d.usable d.page_size

pub invariant_of-self-2-clause-added_good : goal.invariant_of-self-2-clause-added_good
invariant_of-self-2-clause-added_good c =
    let d = c.args.self.now in
    good-as (ap (map (read_of d.page_size)) c.in_ok-push.ensures.items ∙ shown-more (read_of d.page_size) d.slots.items _)
    (good-more d.read_len (map (read_of d.page_size) d.slots.items) _ d.added_good refl)
