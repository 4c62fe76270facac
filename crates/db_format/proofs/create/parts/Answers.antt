use Rattle.std.proofs.Common.{[], ◌∷◌, ◌++◌, Some, None, sym, ap, ◌∙◌, subst}
use Rattle.std.proofs.lemmas.Bool.Decides.{Decides-eqb}
use Rattle.std.proofs.lemmas.Slice.Eq.{strip_prefix_is, strip_suffix_is}
use Rattle.std.proofs.lemmas.List.{append_cancel_right}
use Rattle.db_format.specs.Create.{HasParts}
use Rattle.db_format.proofs.PartsLemmas.{create_table, parts_found, parts_none, parts_only}
use Rattle.db_format.proofs.create.parts.Goals as goal

pub returns-in_err-name-clause-only : goal.returns-in_err-name-clause-only
returns-in_err-name-clause-only c =
    let begins = strip_prefix_is Decides-eqb c.args.sql.now create_table (Some c.in_ok-rest.rest) c.in_ok-rest.ensures.cases in
    λ name inside is parts. absurd (parts_none c.args.sql.now c.in_ok-rest.rest.now name inside begins c.in_err-name.ensures.none is parts)

pub returns-in_err-inside-clause-only : goal.returns-in_err-inside-clause-only
returns-in_err-inside-clause-only c =
    let begins = strip_prefix_is Decides-eqb c.args.sql.now create_table (Some c.in_ok-rest.rest) c.in_ok-rest.ensures.cases in
    let open_end = strip_suffix_is Decides-eqb c.before_blanks.result.now (41 ∷ []) None c.in_err-inside.ensures.cases in
    λ name inside is parts.
    let found = parts_only c.args.sql.now c.in_ok-name.name.now c.in_ok-name.rest.now name inside
    (begins ∙ ap (λ t. create_table ++ t) c.in_ok-name.ensures.found.0) c.in_ok-name.ensures.found.1 is parts in
    absurd (open_end inside (c.before_blanks.ensures ∙ found.1))

pub returns-clause-found : goal.returns-clause-found
returns-clause-found c =
    let begins = strip_prefix_is Decides-eqb c.args.sql.now create_table (Some c.in_ok-rest.rest) c.in_ok-rest.ensures.cases in
    let ends = strip_suffix_is Decides-eqb c.before_blanks.result.now (41 ∷ []) (Some c.in_ok-inside.inside) c.in_ok-inside.ensures.cases in
    subst (λ name. HasParts c.args.sql.now name c.in_ok-inside.inside.now) (sym c.before_blanks-2.ensures)
    (parts_found c.args.sql.now c.in_ok-name.name.now c.in_ok-name.rest.now c.in_ok-inside.inside.now
    (begins ∙ ap (λ t. create_table ++ t) c.in_ok-name.ensures.found.0) (sym c.before_blanks.ensures ∙ ends))

pub returns-clause-only : goal.returns-clause-only
returns-clause-only c =
    let begins = strip_prefix_is Decides-eqb c.args.sql.now create_table (Some c.in_ok-rest.rest) c.in_ok-rest.ensures.cases in
    let ends = strip_suffix_is Decides-eqb c.before_blanks.result.now (41 ∷ []) (Some c.in_ok-inside.inside) c.in_ok-inside.ensures.cases in
    λ name inside is parts.
    let found = parts_only c.args.sql.now c.in_ok-name.name.now c.in_ok-name.rest.now name inside
    (begins ∙ ap (λ t. create_table ++ t) c.in_ok-name.ensures.found.0) c.in_ok-name.ensures.found.1 is parts in
    (c.before_blanks-2.ensures ∙ found.0, append_cancel_right _ inside (41 ∷ []) (sym ends ∙ c.before_blanks.ensures ∙ found.1))
