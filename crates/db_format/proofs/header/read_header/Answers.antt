use Rattle.std.proofs.Common.{sym, subst, ◌∙◌, arith}
use Rattle.db_format.specs.Header.{Fits}
use Rattle.db_format.specs.declared.header.Header.{Header}
use Rattle.db_format.proofs.FitsLemmas.{fields_fit}
use Rattle.db_format.proofs.HeaderLemmas.{none_accepted, page_size_kept}
use Rattle.db_format.proofs.header.read_header.Goals as goal

pub fields_of-requires : goal.fields_of-requires
fields_of-requires c =
    let accepted = none_accepted c.args.first.now c.args.length c.args.cksum (sym c.refusal.ensures ∙ c.in-None.is) in
    record { page = page_size_kept _ _ accepted.page; small = grind (arith, accepted.small) }

pub returns-in-None-clause-fits : goal.returns-in-None-clause-fits
returns-in-None-clause-fits c =
    let accepted = none_accepted c.args.first.now c.args.length c.args.cksum (sym c.refusal.ensures ∙ c.in-None.is) in
    let P : Header → Type 0 = λ h. Fits h c.args.cksum in
    subst P (sym c.fields_of.ensures) (fields_fit c.args.first.now c.args.length c.args.cksum accepted)
