use Rattle.std.proofs.Common.{◌∙◌, ◌++◌, sym, ap}
use Rattle.journal_format.specs.Journal.{trailer}
use Rattle.journal_format.proofs.SuperLemmas.{no_trailer_name, trailer_is, trailer_is_not}
use Rattle.std.proofs.lemmas.Slice.Eq.{bytes_eq-Decides}
use Rattle.journal_format.proofs.read.read_trailer.Goals as goal

pub returns-in_default : goal.returns-in_default
returns-in_default c = no_trailer_name c.args.page c.args.bytes.now (sym c.in_default.is ∙ c.super_name.ensures)

pub returns-then-eq : goal.returns-then-eq
returns-then-eq c = trailer_is c.args.page c.args.bytes.now c.in-Some.name c.as_slice.result.now (sym c.in-Some.is ∙ c.super_name.ensures)
    (c.as_slice.ensures ∙ c.in_ok-push_trailer.ensures ∙ ap (λ l. l ++ trailer c.args.page c.in-Some.name) (c.from_vec-written.ensures ∙ c.new.ensures.items))
    ((bytes_eq-Decides c.as_slice.result.now c.args.bytes.now).0 (sym c.if-eq.ensures))

pub returns : goal.returns
returns c = trailer_is_not c.args.page c.args.bytes.now c.in-Some.name c.as_slice.result.now (sym c.in-Some.is ∙ c.super_name.ensures)
    (c.as_slice.ensures ∙ c.in_ok-push_trailer.ensures ∙ ap (λ l. l ++ trailer c.args.page c.in-Some.name) (c.from_vec-written.ensures ∙ c.new.ensures.items))
    (λ same. absurd (cc ((bytes_eq-Decides c.as_slice.result.now c.args.bytes.now).1 same)))
