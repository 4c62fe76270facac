use borrow.Rule.Slice.PartMut.{put_mid}
use Rattle.std.proofs.Common.{arith, subst, ◌∙◌, ◌≡◌, ◌+◌, ◌-◌, ◌≤◌, length, drop, length-drop, Ok, Err, refl}
use Rattle.std.proofs.lemmas.List.{length-take-le}
use Rattle.vfs_trait.specs.State.{name_at}
use Rattle.cksum_vfs.specs.Summed.{over}
use Rattle.cksum_vfs.specs.Steps.{IsRead}
use Rattle.cksum_vfs.proofs.PartLemmas.{unchanged_none, unchanged_twice, read_none, length_put, parts_more, parts_short, parts_refused}
use Rattle.cksum_vfs.proofs.database.read_parts.Goals as goal

pub loop-done-init : goal.loop-done-init
loop-done-init g c =
    let a = g.V.Vfs.state c.args.below.now.inner in
    let size = c.args.below.now.size in
    record {
      within = omega arith;
      same = refl;
      unchanged = unchanged_none a c.view_holds.ensures.stands;
      read = read_none (over size a) (over size a) (name_at a c.args.fid.0) c.args.off;
    }

pub part_len-len-requires-clause-page : goal.part_len-len-requires-clause-page
part_len-len-requires-clause-page g c = let is = c.args.below.now.sized.each (length c.args.page.now) c.requires.size in omega (arith, is.least, c.loop-done.auto.page)

pub returns-in-Err-clause-read : goal.returns-in-Err-clause-read
returns-in-Err-clause-read g c =
    let a = g.V.Vfs.state c.args.below.now.inner in
    let b = g.V.Vfs.state c.loop-done.below.inner in
    let new = g.V.Vfs.state c.read_part.new.below.inner in
    let size = c.args.below.now.size in
    let is = c.args.below.now.sized.each (length c.args.page.now) c.requires.size in
    parts_refused size (length c.args.page.now) a b new c.args.fid.0 c.args.off c.loop-done.done c.part_len-len.result c.loop-done.buf c.read_part.new.buf c.in-Err.fault
    (record {
      size_is = c.requires.size;
      some = omega (arith, is.least);
      main = c.requires.main;
      same = c.loop-done.invariant.unchanged;
      within = omega (arith, c.part_len-len.ensures.within, c.loop-done-test.true);
      long = omega (arith, c.read_part.auto.buf);
      front = c.loop-done.invariant.read;
      back = subst (λ z. IsRead (over z b) (over z new) (name_at b c.args.fid.0) (c.args.off + c.loop-done.done) c.read_part.new.buf (Err c.in-Err.fault)) c.loop-done.invariant.same c.in-Err.ensures.read;
    })

pub returns-in-Ok-clause-read : goal.returns-in-Ok-clause-read
returns-in-Ok-clause-read g c =
    let a = g.V.Vfs.state c.args.below.now.inner in
    let b = g.V.Vfs.state c.loop-done.below.inner in
    let new = g.V.Vfs.state c.read_part.new.below.inner in
    let size = c.args.below.now.size in
    let is = c.args.below.now.sized.each (length c.args.page.now) c.requires.size in
    let within : c.loop-done.done + c.part_len-len.result ≤ length c.loop-done.buf = omega (arith, c.part_len-len.ensures.within, c.loop-done-test.true) in
    let long : length c.read_part.new.buf ≡ c.part_len-len.result = omega (arith, c.read_part.auto.buf) in
    let whole = put_mid c.loop-done.done (c.loop-done.done + c.part_len-len.result - c.loop-done.done) c.loop-done.buf c.read_part.new.buf in
    let put : length whole ≡ length c.loop-done.buf = length_put c.loop-done.done (c.loop-done.done + c.part_len-len.result - c.loop-done.done) c.loop-done.buf c.read_part.new.buf (omega (arith, within)) (omega (arith, long)) in
    let rest : length c.clear.new.buf ≡ length whole - (c.loop-done.done + c.part_len-len.result) = let h = c.clear.auto.buf in omega (arith, c.clear.auto.buf, put, within, length-drop (c.loop-done.done + c.part_len-len.result) whole, length-take-le (length whole - (c.loop-done.done + c.part_len-len.result)) (drop (c.loop-done.done + c.part_len-len.result) whole) (omega (arith, length-drop (c.loop-done.done + c.part_len-len.result) whole))) in
    parts_short size (length c.args.page.now) a b new c.args.fid.0 c.args.off c.loop-done.done c.part_len-len.result c.loop-done.buf c.read_part.new.buf c.clear.new.buf c.in-Ok.count
    (length whole - (c.loop-done.done + c.part_len-len.result)) c.if-count-len.true c.clear.ensures rest (omega (arith, put, within))
    (record {
      size_is = c.requires.size;
      some = omega (arith, is.least);
      main = c.requires.main;
      same = c.loop-done.invariant.unchanged;
      within = within;
      long = long;
      front = c.loop-done.invariant.read;
      back = subst (λ z. IsRead (over z b) (over z new) (name_at b c.args.fid.0) (c.args.off + c.loop-done.done) c.read_part.new.buf (Ok c.in-Ok.count)) c.loop-done.invariant.same c.in-Ok.ensures.read;
    })

pub loop-done-preserved : goal.loop-done-preserved
loop-done-preserved g c =
    let a = g.V.Vfs.state c.args.below.now.inner in
    let b = g.V.Vfs.state c.loop-done.below.inner in
    let new = g.V.Vfs.state c.read_part.new.below.inner in
    let size = c.args.below.now.size in
    let is = c.args.below.now.sized.each (length c.args.page.now) c.requires.size in
    let within : c.loop-done.done + c.part_len-len.result ≤ length c.loop-done.buf = omega (arith, c.part_len-len.ensures.within, c.loop-done-test.true) in
    let long : length c.read_part.new.buf ≡ c.part_len-len.result = omega (arith, c.read_part.auto.buf) in
    let put = length_put c.loop-done.done (c.loop-done.done + c.part_len-len.result - c.loop-done.done) c.loop-done.buf c.read_part.new.buf (omega (arith, within)) (omega (arith, long)) in
    record {
      within = omega (arith, put, within);
      same = c.in-Ok.ensures.size ∙ c.loop-done.invariant.same;
      unchanged = unchanged_twice c.kept_twice.ensures.steady c.kept_twice.ensures.rests c.kept_twice.ensures.files c.kept_twice.ensures.rings a b new c.loop-done.invariant.unchanged c.in-Ok.ensures.unchanged;
      read = parts_more size (length c.args.page.now) a b new c.args.fid.0 c.args.off c.loop-done.done c.part_len-len.result c.loop-done.buf c.read_part.new.buf c.in-Ok.count c.if-count-len.false
          (record {
            size_is = c.requires.size;
            some = omega (arith, is.least);
            main = c.requires.main;
            same = c.loop-done.invariant.unchanged;
            within = within;
            long = long;
            front = c.loop-done.invariant.read;
            back = subst (λ z. IsRead (over z b) (over z new) (name_at b c.args.fid.0) (c.args.off + c.loop-done.done) c.read_part.new.buf (Ok c.in-Ok.count)) c.loop-done.invariant.same c.in-Ok.ensures.read;
          });
    }
