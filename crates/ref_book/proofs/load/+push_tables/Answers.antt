use Rattle.std.proofs.Common.{◌≡◌, ◌-◌, Bool, true, ap, ◌∙◌, length, take, drop, Vec}
use Rattle.ref_pages.specs.AsPages.{pages_of}
use Rattle.ref_schema.proofs.DatabaseLemmas.{some_of}
use Rattle.ref_book.specs.Loaded.{IsHeld, AreHeldBehind}
use Rattle.ref_book.proofs.Becomes.{mapped}
use Rattle.ref_book.proofs.Loaded.{held_some, held_other}
use Rattle.ref_book.proofs.load.+push_tables.Goals as goal
use Rattle.ref_book.proofs.load.+push_tables.Goals.{in-Some+in_ok-held+in-Some-2+in_ok-push, in_default-made}

pub returns-clause-held : goal.returns-clause-held
returns-clause-held t c =
    let pages = pages_of c.args.pages.now in
    let Rest : Bool → Type 0 =
    λ whole. whole ≡ true → AreHeldBehind pages (take (length c.args.rows.now - 1) (drop 1 c.args.rows.now)) (take (length c.args.found.now - 1) (drop 1 c.args.found.now)) c.match-made.all.items c.push_tables.new.all.items in
    mapped {P = Rest} c.push_tables.result
    (λ whole rest yes.
    elim c.match-made.branch [
      | in-Some+in_ok-held+in-Some-2+in_ok-push w ↦
          held_some pages c.args.rows.now c.args.found.now c.row-item.result c.made-item.result w.in-Some.table c.args.all.now.items c.match-made.all.items c.push_tables.new.all.items w.in-Some-2.held
          c.in-len1-up.len_at_least c.in-len1-up-found.len_at_least c.row-item.is c.made-item.is w.in-Some.is
          (some_of (IsHeld pages c.row-item.result w.in-Some.table) w.in_ok-held.field-0 w.in-Some-2.held w.in-Some-2.is w.in_ok-held.ensures.held)
          (ap (λ (v : Vec _ _). v.items) w.all-is ∙ w.in_ok-push.ensures.items) (rest yes)
      | in_default-made w ↦
          held_other pages c.args.rows.now c.args.found.now c.made-item.result c.args.all.now.items c.match-made.all.items c.push_tables.new.all.items
          c.in-len1-up.len_at_least c.in-len1-up-found.len_at_least c.made-item.is w.in_default-made.not-Some (ap (λ (v : Vec _ _). v.items) w.all-is) (rest yes)
    ])
    c.push_tables.ensures.held
