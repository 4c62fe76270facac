use Rattle.std.proofs.Common.{◌≡◌, Some, true, sym, ◌∙◌, subst, arith}
use Rattle.db_format.specs.Create.{IsIdentifier, AreColumns, SpellsColumns}
use Rattle.db_format.proofs.ColumnLemmas.{commas_few}
use Rattle.db_format.proofs.create.read_create.Goals as goal
use Rattle.db_format.proofs.create.read_create.Goals.{then-not-is_identifier-via-then-not-is_identifier, then-not-is_identifier-via-else-not-is_identifier+then-commas-ge-COLUMNS}

pub returns-in_default-clause-only : goal.returns-in_default-clause-only
returns-in_default-clause-only c = λ create spelled. absurd (c.in_default.ensures.only create.name spelled.inside spelled.plain.named spelled.parts)

pub returns-then-not-is_identifier-clause-only : goal.returns-then-not-is_identifier-clause-only
returns-then-not-is_identifier-clause-only c = λ create spelled.
    let same = c.in-Some.ensures.only create.name spelled.inside spelled.plain.named spelled.parts in
    let named : c.is_identifier.result ≡ true = c.is_identifier.ensures.1 (subst IsIdentifier (sym same.0) spelled.plain.named) in
    let few = commas_few c.in-Some.inside.now create.columns spelled.plain.columned (subst (λ text. SpellsColumns text create.columns) (sym same.1) spelled.columned) in
    elim c.then-not-is_identifier.branch [
      | then-not-is_identifier-via-then-not-is_identifier w ↦ absurd (cc)
      | then-not-is_identifier-via-else-not-is_identifier+then-commas-ge-COLUMNS w ↦ absurd (omega (arith, w.commas.ensures, w.if-commas-ge-COLUMNS.true, few))
    ]

pub returns-then-not-are_columns-clause-only : goal.returns-then-not-are_columns-clause-only
returns-then-not-are_columns-clause-only c = λ create spelled.
    let same = c.in-Some.ensures.only create.name spelled.inside spelled.plain.named spelled.parts in
    let columns_are = c.in_ok-columns.ensures.only create.columns spelled.plain.columned (subst (λ text. SpellsColumns text create.columns) (sym same.1) spelled.columned) in
    let columned : c.are_columns.result ≡ true = c.are_columns.ensures.1 (subst AreColumns (sym (c.as_slice.ensures ∙ columns_are)) spelled.plain.columned) in
    absurd (cc)

pub returns-clause-only : goal.returns-clause-only
returns-clause-only c = λ create spelled.
    let same = c.in-Some.ensures.only create.name spelled.inside spelled.plain.named spelled.parts in
    let columns_are = c.in_ok-columns.ensures.only create.columns spelled.plain.columned (subst (λ text. SpellsColumns text create.columns) (sym same.1) spelled.columned) in
    let name_is : c.from_vec-name.result ≡ create.name = c.from_vec-name.ensures ∙ c.in_ok-from_slice.ensures.items ∙ same.0 in
    λ i. Some record { name = name_is i; columns = columns_are i }
