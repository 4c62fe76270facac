use Rattle.std.proofs.Common.{ℕ, List, [], Option, IsSome, unwrap_or, refl, ap, sym, subst, ◌∙◌}
use Rattle.vfs_model.specs.Name.{kind_of}
use Rattle.journal_file_tests.proofs.journals.the_first_byte_opens_and_closes.Goals as goal

pub open_gate-requires-clause-is_journal : goal.open_gate-requires-clause-is_journal
open_gate-requires-clause-is_journal g c =
    let named = c.in_ok-write_journal.ensures.rests.opens.names c.in_ok-journal.journal.0 ∙ c.in_ok-journal.ensures.numbers.named in
    ap (λ (o : Option (List ℕ)). kind_of (unwrap_or o [])) named ∙ c.in_ok-name.ensures

pub close_gate-requires-clause-is_open : goal.close_gate-requires-clause-is_open
close_gate-requires-clause-is_open g c =
    let fid = c.in_ok-journal.journal.0 in
    let named = c.in_ok-open_gate.ensures.rests.opens.names fid ∙ c.in_ok-write_journal.ensures.rests.opens.names fid ∙ c.in_ok-journal.ensures.numbers.named in
    subst (λ (o : Option (List ℕ)). IsSome o) (sym named) refl

pub close_gate-requires-clause-is_journal : goal.close_gate-requires-clause-is_journal
close_gate-requires-clause-is_journal g c =
    let fid = c.in_ok-journal.journal.0 in
    let named = c.in_ok-open_gate.ensures.rests.opens.names fid ∙ c.in_ok-write_journal.ensures.rests.opens.names fid ∙ c.in_ok-journal.ensures.numbers.named in
    ap (λ (o : Option (List ℕ)). kind_of (unwrap_or o [])) named ∙ c.in_ok-name.ensures
