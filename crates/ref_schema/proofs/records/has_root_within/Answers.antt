use Rattle.std.proofs.Common.{subst, ℤ, IsTrue, ◌↔◌, ◌≡◌, ◌≤ℤ◌, pos, codes, to_z-of_z, w64}
use Rattle.ref_schema.proofs.RecordLemmas.{root_some, root_none, either}
use Rattle.ref_schema.proofs.records.has_root_within.Goals as goal

pub returns-in-Some : goal.returns-in-Some
returns-in-Some c =
    let P : ℤ → Type 0 = λ z. IsTrue c.is_at_most.result ↔ z ≤ℤ pos c.args.size in
    root_some c.args.values.now c.in-Some.kind.now c.in-Some.root c.args.size c.is_fine.result c.in-Some.ensures.some
    (either c.is_table.result c.is_at_most.result c.is_fine.result (c.in-Some.kind.now ≡ codes "table") (c.in-Some.root ≤ℤ pos c.args.size) c.is_table.ensures
    (subst P (to_z-of_z {w = w64} {z = c.in-Some.root} (search c)) c.is_at_most.ensures) c.is_fine.ensures)

pub returns-in-None : goal.returns-in-None
returns-in-None c = root_none c.args.values.now c.args.size c.in-None.ensures.none
