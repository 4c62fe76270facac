use Rattle.std.proofs.Common.{length-set, Some, ◌*◌, ◌≤◌, ◌∙◌, refl, sym, ap, take, ◌-◌, arith, subst}
use Rattle.db_format.specs.Header.{greatest_length}
use Rattle.page_draft.specs.Slots.{pages_of}
use Rattle.page_draft.specs.Draft.{now_list}
use Rattle.page_draft.proofs.ListLemmas.{put_pages, long-set}
use Rattle.page_draft.proofs.ChangeLemmas.{long-as, good-as}
use Rattle.page_draft.proofs.StepLemmas.{put-read, put-marked, put-now}
use Rattle.page_draft.proofs.draft.PageDraft.put_bytes.Goals as goal

pub invariant_of-self-clause-read_long : goal.invariant_of-self-clause-read_long
invariant_of-self-clause-read_long c =
    let d = c.args.self.now in
    long-as (ap (take d.read_len) (put-read d.page_size d.slots.items (c.args.number - 1) c.index_mut.result.now c.args.bytes c.index_mut.ensures.value)) d.read_long

pub invariant_of-self-clause-marked_long : goal.invariant_of-self-clause-marked_long
invariant_of-self-clause-marked_long c =
    let d = c.args.self.now in
    long-as (ap (take d.marked_len) (put-marked d.page_size d.slots.items (c.args.number - 1) c.index_mut.result.now c.args.bytes c.index_mut.ensures.value)) d.marked_long

pub invariant_of-self-clause-now_long : goal.invariant_of-self-clause-now_long
invariant_of-self-clause-now_long c =
    let d = c.args.self.now in
    long-as (put-now d.page_size d.slots.items (c.args.number - 1) c.index_mut.result.now c.args.bytes)
    (long-set d.page_size (now_list d) (c.args.number - 1) c.args.bytes d.now_long c.requires.one_page)

pub invariant_of-self-clause-few : goal.invariant_of-self-clause-few
invariant_of-self-clause-few c =
    let d = c.args.self.now in
    subst (λ n. n * d.page_size ≤ greatest_length) (sym (length-set d.slots.items (c.args.number - 1) (record c.index_mut.result.now { put = Some c.args.bytes }))) d.few

pub invariant_of-self-clause-marked_within : goal.invariant_of-self-clause-marked_within
invariant_of-self-clause-marked_within c =
    let d = c.args.self.now in
    subst (λ n. d.marked_len ≤ n) (sym (length-set d.slots.items (c.args.number - 1) (record c.index_mut.result.now { put = Some c.args.bytes }))) d.marked_within

pub invariant_of-self-clause-added_good : goal.invariant_of-self-clause-added_good
invariant_of-self-clause-added_good c =
    let d = c.args.self.now in
    good-as (put-read d.page_size d.slots.items (c.args.number - 1) c.index_mut.result.now c.args.bytes c.index_mut.ensures.value) d.added_good

pub returns-clause-keeps : goal.returns-clause-keeps
returns-clause-keeps c =
    let d = c.args.self.now in
    record {
      reads = record {
        sizes = record { sized = refl; used = refl };
        read_stays = ap (take d.read_len) (put-read d.page_size d.slots.items (c.args.number - 1) c.index_mut.result.now c.args.bytes c.index_mut.ensures.value);
      };
      marked_stays = ap (take d.marked_len) (put-marked d.page_size d.slots.items (c.args.number - 1) c.index_mut.result.now c.args.bytes c.index_mut.ensures.value);
      mark_stays = refl;
    }

pub returns-clause-put : goal.returns-clause-put
returns-clause-put c =
    let d = c.args.self.now in
    ap (pages_of d.usable) (put-now d.page_size d.slots.items (c.args.number - 1) c.index_mut.result.now c.args.bytes)
    ∙ put_pages (now_list d) d.usable (c.args.number - 1) c.args.number c.args.bytes (omega (arith, c.requires.there.least)) (omega (arith, c.requires.there.least, c.requires.there.most))
