use Rattle.std.proofs.Common.{arith, ◌≡◌, ◌*◌, List, refl, sym, ◌∙◌, ap, subst}
use Rattle.vfs_model.specs.declared.layer.Layer.{Layer}
use Rattle.vfs_model.specs.Name.{kind_of}
use Rattle.vfs_trait.specs.State.{file_at}
use Rattle.vfs_trait.specs.Calls.{checked}
use Rattle.journal_format.specs.Values.{undo_of}
use Rattle.journal_file.specs.Tame.{Reserves}
use Rattle.journal_file.specs.Content.{initial_size, with_reserve}
use Rattle.journal_file.proofs.StackLemmas.{left_at, told_next, name_stays}
use Rattle.journal_file.proofs.JournalLemmas.{always, sync_stays}
use Rattle.journal_file.proofs.PlaceLemmas.{size_large, undone_now}
use Rattle.journal_file.proofs.PlayLemmas.{may_cut, cut_gone, sync_gone}
use Rattle.journal_file.proofs.playback.play.Goals as goal

pub cut-requires-clause-reach : goal.cut-requires-clause-reach
cut-requires-clause-reach g c = λ told.
    let told0 = sym c.write_originals.ensures.steady.tells ∙ told in
    let len : c.from.result * c.from-2.result ≡ initial_size (undo_of c.args.play.now) = ap (λ n. n * c.from-2.result) c.from.ensures ∙ ap (λ n. c.args.play.now.initial * n) c.from-2.ensures in
    omega (arith, len, (c.requires.long told0).long, (c.in_ok-write_originals.ensures.laid told0).size)

pub cut-requires-clause-pages : goal.cut-requires-clause-pages
cut-requires-clause-pages g c =
    let state = g.V.Vfs.state in
    let a = state c.args.stack.now in
    let b = state c.write_originals.new.stack in
    let len : c.from.result * c.from-2.result ≡ initial_size (undo_of c.args.play.now) = ap (λ n. n * c.from-2.result) c.from.ensures ∙ ap (λ n. c.args.play.now.initial * n) c.from-2.ensures in
    let P : List Layer → Type 0 = λ ls. Reserves (checked ls) c.args.play.now.page c.args.reserve in
    may_cut _ _ c.args.play.now.page c.args.reserve c.args.play.now.initial _ (ap kind_of (name_stays a b c.args.db.0 c.write_originals.ensures.rests.opens) ∙ c.requires.is_main)
    (subst P (sym c.write_originals.ensures.steady.layers) c.requires.reserves) (size_large c.args.play.now.page c.requires.playable.page_is_size) len

pub returns-in_err-cut-clause-kept : goal.returns-in_err-cut-clause-kept
returns-in_err-cut-clause-kept g c =
    let state = g.V.Vfs.state in
    let u = with_reserve c.args.reserve (undo_of c.args.play.now) in
    let first = c.write_originals.ensures in
    let len : c.from.result * c.from-2.result ≡ initial_size (undo_of c.args.play.now) = ap (λ n. n * c.from-2.result) c.from.ensures ∙ ap (λ n. c.args.play.now.initial * n) c.from-2.ensures in
    (cut_gone c.looser_twice.ensures u (state c.args.stack.now) (state c.write_originals.new.stack) (state c.cut.new.self) c.args.db.0 (initial_size (undo_of c.args.play.now)) _ c.cut.result
    (record { steady = first.steady; rests = first.rests; kept = first.kept; tame = first.tame; others = first.others; stands = first.stands })
    (λ told. (c.in_ok-write_originals.ensures.laid told).size) c.cut.ensures.steady c.cut.ensures.rests c.cut.ensures.leaves c.cut.ensures.stands len refl).kept

pub returns-clause-kept : goal.returns-clause-kept
returns-clause-kept g c =
    let state = g.V.Vfs.state in
    let u = with_reserve c.args.reserve (undo_of c.args.play.now) in
    let first = c.write_originals.ensures in
    let len : c.from.result * c.from-2.result ≡ initial_size (undo_of c.args.play.now) = ap (λ n. n * c.from-2.result) c.from.ensures ∙ ap (λ n. c.args.play.now.initial * n) c.from-2.ensures in
    (sync_gone c.looser_twice.ensures u (state c.args.stack.now) (state c.write_originals.new.stack) (state c.cut.new.self) (state c.sync.new.self) c.args.db.0 (initial_size (undo_of c.args.play.now)) _ c.sync.result
    (cut_gone c.looser_twice.ensures u (state c.args.stack.now) (state c.write_originals.new.stack) (state c.cut.new.self) c.args.db.0 (initial_size (undo_of c.args.play.now)) _ c.cut.result
    (record { steady = first.steady; rests = first.rests; kept = first.kept; tame = first.tame; others = first.others; stands = first.stands })
    (λ told. (c.in_ok-write_originals.ensures.laid told).size) c.cut.ensures.steady c.cut.ensures.rests c.cut.ensures.leaves c.cut.ensures.stands len refl)
    c.requires.is_open
    (λ told. record {
      long = (c.requires.long told).long;
      has = c.in_ok-write_originals.ensures.laid told;
      was_cut = left_at (state c.write_originals.new.stack) (state c.cut.new.self) c.args.db.0 _ c.cut.ensures.rests.opens c.in_ok-cut.ensures.leaves (told_next _ _ first.steady told);
      is = len;
    })
    c.sync.ensures.steady c.sync.ensures.rests c.sync.ensures.leaves c.sync.ensures.stands).kept

pub returns-in_err-cut-clause-tame : goal.returns-in_err-cut-clause-tame
returns-in_err-cut-clause-tame g c =
    let state = g.V.Vfs.state in
    let u = with_reserve c.args.reserve (undo_of c.args.play.now) in
    let first = c.write_originals.ensures in
    let len : c.from.result * c.from-2.result ≡ initial_size (undo_of c.args.play.now) = ap (λ n. n * c.from-2.result) c.from.ensures ∙ ap (λ n. c.args.play.now.initial * n) c.from-2.ensures in
    (cut_gone c.looser_twice.ensures u (state c.args.stack.now) (state c.write_originals.new.stack) (state c.cut.new.self) c.args.db.0 (initial_size (undo_of c.args.play.now)) _ c.cut.result
    (record { steady = first.steady; rests = first.rests; kept = first.kept; tame = first.tame; others = first.others; stands = first.stands })
    (λ told. (c.in_ok-write_originals.ensures.laid told).size) c.cut.ensures.steady c.cut.ensures.rests c.cut.ensures.leaves c.cut.ensures.stands len refl).tame

pub returns-clause-tame : goal.returns-clause-tame
returns-clause-tame g c =
    let state = g.V.Vfs.state in
    let u = with_reserve c.args.reserve (undo_of c.args.play.now) in
    let first = c.write_originals.ensures in
    let len : c.from.result * c.from-2.result ≡ initial_size (undo_of c.args.play.now) = ap (λ n. n * c.from-2.result) c.from.ensures ∙ ap (λ n. c.args.play.now.initial * n) c.from-2.ensures in
    (sync_gone c.looser_twice.ensures u (state c.args.stack.now) (state c.write_originals.new.stack) (state c.cut.new.self) (state c.sync.new.self) c.args.db.0 (initial_size (undo_of c.args.play.now)) _ c.sync.result
    (cut_gone c.looser_twice.ensures u (state c.args.stack.now) (state c.write_originals.new.stack) (state c.cut.new.self) c.args.db.0 (initial_size (undo_of c.args.play.now)) _ c.cut.result
    (record { steady = first.steady; rests = first.rests; kept = first.kept; tame = first.tame; others = first.others; stands = first.stands })
    (λ told. (c.in_ok-write_originals.ensures.laid told).size) c.cut.ensures.steady c.cut.ensures.rests c.cut.ensures.leaves c.cut.ensures.stands len refl)
    c.requires.is_open
    (λ told. record {
      long = (c.requires.long told).long;
      has = c.in_ok-write_originals.ensures.laid told;
      was_cut = left_at (state c.write_originals.new.stack) (state c.cut.new.self) c.args.db.0 _ c.cut.ensures.rests.opens c.in_ok-cut.ensures.leaves (told_next _ _ first.steady told);
      is = len;
    })
    c.sync.ensures.steady c.sync.ensures.rests c.sync.ensures.leaves c.sync.ensures.stands).tame

pub returns-clause-played : goal.returns-clause-played
returns-clause-played g c =
    let state = g.V.Vfs.state in
    let a = state c.args.stack.now in
    let b = state c.write_originals.new.stack in
    let d = state c.cut.new.self in
    let s = state c.sync.new.self in
    let fid = c.args.db.0 in
    let len : c.from.result * c.from-2.result ≡ initial_size (undo_of c.args.play.now) = ap (λ n. n * c.from-2.result) c.from.ensures ∙ ap (λ n. c.args.play.now.initial * n) c.from-2.ensures in
    always c.sync.result (λ told.
    let told1 = told_next a b c.write_originals.ensures.steady told in
    undone_now (with_reserve c.args.reserve (undo_of c.args.play.now)) (file_at a fid) (file_at b fid) (file_at d fid) (file_at s fid) _ (c.requires.long told).long (c.in_ok-write_originals.ensures.laid told)
    (left_at b d fid _ c.cut.ensures.rests.opens c.in_ok-cut.ensures.leaves told1) len
    (sync_stays _ _ c.sync.result (left_at d s fid _ c.sync.ensures.rests.opens c.sync.ensures.leaves (told_next b d c.cut.ensures.steady told1))))
