use Rattle.db_format.proofs.ReadLemmas.{new_made, new_read, rest_kept}
use Rattle.db_format.proofs.header.new_header.Goals as goal

pub returns : goal.returns
returns c =
    let kept = c.write_header.ensures.kept in
    let made = new_made c.args.page_size c.args.reserved c.args.page.now c.begin_header.new.page c.write_header.new.page c.begin_header.ensures kept c.write_header.ensures.says in
    record { new = made; rest = rest_kept c.args.page.now c.begin_header.new.page c.write_header.new.page c.begin_header.ensures kept; reads = new_read _ _ _ made }
