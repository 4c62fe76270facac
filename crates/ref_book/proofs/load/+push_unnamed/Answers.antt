use Rattle.std.proofs.Common.{sym, ◌∙◌}
use Rattle.ref_pages.specs.AsPages.{pages_of}
use Rattle.ref_book.proofs.Unnamed.{listed_more}
use Rattle.ref_book.proofs.load.+push_unnamed.Goals as goal

pub returns-in_ok-push : goal.returns-in_ok-push
returns-in_ok-push t c =
    listed_more (pages_of c.args.pages.now).bytes c.args.named.now c.args.count c.args.all.now.items c.push_unnamed.new.all.items c.push.new.self.items c.in_ok-bytes_at.field-0
    c.if-count-eq0.false (sym c.times.ensures ∙ c.if-times-eq0.true) c.in_ok-bytes_at.ensures c.in_ok-push_unnamed.ensures c.in_ok-push.ensures.items
