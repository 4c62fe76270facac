use Rattle.std.proofs.Common.{arith, ap, sym, subst, ◌∙◌, ◌≡◌, ℕ, ◌-◌, ◌*◌, ◌/◌, ◌%◌, ◌≤◌, true, false, length, min, take, drop, Some, Result, Ok, Err}
use Rattle.vfs_trait.specs.State.{name_at}
use Rattle.vfs_trait.specs.Calls.{Reads}
use Rattle.vfs_trait.specs.declared.fault.VfsFault.{VfsFault}
use Rattle.cksum_vfs.specs.Summed.{over}
use Rattle.cksum_vfs.specs.Page.{page_bad, hidden}
use Rattle.cksum_vfs.specs.Steps.{IsRead}
use Rattle.cksum_vfs.proofs.RowLemmas.{row_before}
use Rattle.cksum_vfs.proofs.ReadLemmas.{part_bad, part_good}
use Rattle.cksum_vfs.proofs.database.read_part.Goals as goal

same_count : (r : Result ℕ VfsFault) (a b : ℕ) → r ≡ Ok a → r ≡ Ok b → a ≡ b
same_count r a b p q = cc

pub fetch-requires-clause-within : goal.fetch-requires-clause-within
fetch-requires-clause-within g c =
    let is = c.args.below.now.sized.each (length c.args.page.now) c.requires.size in
    let some : 1 ≤ length c.args.page.now = omega (arith, is.least) in
    let end = row_before (length c.args.page.now) 4294967296 c.args.off some is.divides c.requires.within in
    omega (arith, end, some)

pub is_bad-requires-clause-long : goal.is_bad-requires-clause-long
is_bad-requires-clause-long g c = let is = c.args.below.now.sized.each (length c.args.page.now) c.requires.size in omega (arith, is.least, c.fetch.auto.page)

pub bad_page-requires-clause-long : goal.bad_page-requires-clause-long
bad_page-requires-clause-long g c = let is = c.args.below.now.sized.each (length c.args.page.now) c.requires.size in omega (arith, is.least, c.fetch.auto.page)

pub give-requires-clause-long : goal.give-requires-clause-long
give-requires-clause-long g c = let is = c.args.below.now.sized.each (length c.args.page.now) c.requires.size in omega (arith, is.least, c.fetch.auto.page)

pub returns-in-Ok-clause-read : goal.returns-in-Ok-clause-read
returns-in-Ok-clause-read g c =
    let page = length c.args.page.now in
    let old = g.V.Vfs.state c.args.below.now.inner in
    let new = g.V.Vfs.state c.fetch.new.below.inner in
    let name = name_at old c.args.fid.0 in
    let own = c.fetch.new.page in
    let is = c.args.below.now.sized.each page c.requires.size in
    let some : 1 ≤ page = omega (arith, is.least) in
    let long : length own ≡ page = omega (arith, c.fetch.auto.page) in
    let start : c.args.off - c.args.off % page ≡ page * (c.args.off / page) = omega (arith, some) in
    let bad : page_bad page own c.in-Ok.count ≡ true = ap (λ n. page_bad n own c.in-Ok.count) (sym long) ∙ sym c.is_bad.ensures ∙ c.if-is_bad.true in
    subst (λ z. IsRead (over z old) (over z new) name c.args.off c.args.buf.now (Err c.bad_page.result)) (sym c.requires.size)
    (part_bad page old new name c.args.off own c.in-Ok.count c.args.buf.now c.bad_page.result some long c.requires.some c.requires.main c.in-Ok.ensures.unchanged.was c.in-Ok.ensures.read.fills
    (λ told. subst (λ n. Reads (old.files name).now.bytes n own c.in-Ok.count) start (c.in-Ok.ensures.read.reads told)) bad c.bad_page.ensures)

pub returns-in-Ok-2-clause-read : goal.returns-in-Ok-2-clause-read
returns-in-Ok-2-clause-read g c =
    let page = length c.args.page.now in
    let old = g.V.Vfs.state c.args.below.now.inner in
    let new = g.V.Vfs.state c.fetch.new.below.inner in
    let name = name_at old c.args.fid.0 in
    let own = c.fetch.new.page in
    let buf = c.give.new.buf in
    let is = c.args.below.now.sized.each page c.requires.size in
    let some : 1 ≤ page = omega (arith, is.least) in
    let long : length own ≡ page = omega (arith, c.fetch.auto.page) in
    let len : length buf ≡ length c.args.buf.now = omega (arith, c.give.auto.buf) in
    let start : c.args.off - c.args.off % page ≡ page * (c.args.off / page) = omega (arith, some) in
    let same : c.in-Ok-2.count ≡ c.in-Ok.count = same_count c.fetch.result c.in-Ok-2.count c.in-Ok.count c.in-Ok-2.is c.in-Ok.is in
    let good : page_bad page own c.in-Ok-2.count ≡ false = ap (page_bad page own) same ∙ ap (λ n. page_bad n own c.in-Ok.count) (sym long) ∙ sym c.is_bad.ensures ∙ c.if-is_bad.false in
    let count : min (length buf) (c.in-Ok-2.count - c.args.off % page) ≡ c.give.result = ap (λ n. min n (c.in-Ok-2.count - c.args.off % page)) len ∙ ap (λ m. min (length c.args.buf.now) (m - c.args.off % page)) same ∙ sym c.give.ensures.count in
    subst (λ z. IsRead (over z old) (over z new) name c.args.off buf (Ok c.give.result)) (sym c.requires.size)
    (subst (λ n. IsRead (over (Some page) old) (over (Some page) new) name c.args.off buf (Ok n)) count
    (part_good page old new name c.args.off own c.in-Ok-2.count buf (omega (arith, is.least)) long (omega (arith, len, c.requires.one)) c.requires.main
    (c.give.ensures.given ∙ ap (λ n. take n (drop (c.args.off % page) (hidden own))) (sym len)) c.in-Ok-2.ensures.read.fills
    (λ told. subst (λ n. Reads (old.files name).now.bytes n own c.in-Ok-2.count) start (c.in-Ok-2.ensures.read.reads told)) good))
