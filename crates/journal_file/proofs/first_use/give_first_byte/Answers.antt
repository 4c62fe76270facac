use Rattle.std.proofs.Common.{◌∙◌, ap, slice_get, IsTrue}
use Rattle.journal_file.proofs.StackLemmas.{left_at, told_next, tells_next, tame_now}
use Rattle.journal_file.proofs.JournalLemmas.{names_settle, names_keep, all_shut}
use Rattle.journal_file.proofs.first_use.give_first_byte.Goals as goal

pub returns-clause-settled : goal.returns-clause-settled
returns-clause-settled g c =
    let state = g.V.Vfs.state in
    let a = state c.args.stack.now in
    let b = state c.fill_empty.new.stack in
    let s = state c.sync.new.self in
    let n = state c.sync_names.new.self in
    let fid = c.args.journal.0 in
    let tells = λ (told : IsTrue a.tells). tells_next b s fid c.sync.ensures.steady c.sync.ensures.rests.opens
    (tells_next a b fid c.fill_empty.ensures.steady c.fill_empty.ensures.rests.opens (record { told = told; is = c.requires.is_journal })) in
    names_settle s n fid c.sync_names.result _ c.sync_names.ensures.rests.opens (λ told. (tells told).told) c.sync_names.ensures.names
    (λ told. tame_now c.never_wild.ensures.journals s fid (tells told) c.sync.ensures.stands)
    (λ told. (left_at b s fid _ c.sync.ensures.rests.opens c.in_ok-sync.ensures.leaves (told_next a b c.fill_empty.ensures.steady told)).content (tame_now c.never_wild.ensures.journals s fid (tells told) c.sync.ensures.stands))

pub returns-clause-shut : goal.returns-clause-shut
returns-clause-shut g c =
    let state = g.V.Vfs.state in
    let a = state c.args.stack.now in
    let b = state c.fill_empty.new.stack in
    let s = state c.sync.new.self in
    let n = state c.sync_names.new.self in
    let fid = c.args.journal.0 in
    let tells = λ (told : IsTrue a.tells). tells_next b s fid c.sync.ensures.steady c.sync.ensures.rests.opens
    (tells_next a b fid c.fill_empty.ensures.steady c.fill_empty.ensures.rests.opens (record { told = told; is = c.requires.is_journal })) in
    let synced = λ (told : IsTrue a.tells). left_at b s fid _ c.sync.ensures.rests.opens c.in_ok-sync.ensures.leaves (told_next a b c.fill_empty.ensures.steady told) in
    let named = λ (told : IsTrue a.tells). names_keep s n fid c.sync_names.result c.sync_names.ensures.rests.opens (tells told).told c.sync_names.ensures.names in
    all_shut _ c.sync_names.result _ (returns-clause-settled g c)
    (λ told. ap (λ f. f.there) (named told).now ∙ ap (λ f. f.there) (synced told).now ∙ c.fill_empty.ensures.there told)
    (λ told. ap (λ f. slice_get f.bytes 0) (named told).now ∙ ap (λ f. slice_get f.bytes 0) (synced told).now ∙ c.in_ok-fill_empty.ensures.zero told)
