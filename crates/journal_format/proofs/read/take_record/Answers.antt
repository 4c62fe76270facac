use Rattle.journal_format.proofs.RoomLemmas.{taken_pages, taken_within}
use Rattle.journal_format.proofs.read.take_record.Goals as goal

pub returns-in_ok-push-in-Take-clause-pages : goal.returns-in_ok-push-in-Take-clause-pages
returns-in_ok-push-in-Take-clause-pages c =
    taken_pages c.args.header.now.page c.args.header.now.initial c.args.pages.now _ c.in_ok-read_record.field-0 c.in-Take.original c.in-Take.is c.in_ok-read_record.ensures.fits c.in_ok-push-in-Take.ensures.ok

pub returns-in_ok-push-in-Take-clause-within : goal.returns-in_ok-push-in-Take-clause-within
returns-in_ok-push-in-Take-clause-within c =
    taken_within c.args.header.now.page c.args.header.now.initial c.args.pages.now _ c.in_ok-read_record.field-0 c.in-Take.original c.in-Take.is c.in_ok-read_record.ensures.fits c.in_ok-push-in-Take.ensures.ok
