use Rattle.ref_pages.specs.AsPages.{pages_of}
use Rattle.ref_schema.proofs.DatabaseLemmas.{no_tree, none_of}
use Rattle.ref_book.proofs.Loaded.{some_page}
use Rattle.ref_book.proofs.load.schema_of.Goals as goal

pub returns-in_default-clause-none : goal.returns-in_default-clause-none
returns-in_default-clause-none c =
    no_tree (pages_of c.args.pages.now) (some_page (pages_of c.args.pages.now) c.requires) (none_of c.in_ok-rows.field-0 c.in_default.not-Some c.in_ok-rows.ensures.none)
