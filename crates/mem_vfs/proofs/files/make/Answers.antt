use Rattle.mem_vfs.specs.Change.{IsOpened}
use Rattle.mem_vfs.proofs.StoreLemmas.{pushed, now_there}
use Rattle.mem_vfs.proofs.files.make.Goals as goal

pub returns-clause-makes : goal.returns-clause-makes
returns-clause-makes c = pushed IsOpened c.args.files.now.items c.push.new.self.items c.args.name.now c.new.result c.in_ok-push.ensures.items c.new.ensures.name c.requires c.new.ensures.made

pub returns-clause-stay : goal.returns-clause-stay
returns-clause-stay c =
    let h = pushed IsOpened c.args.files.now.items c.push.new.self.items c.args.name.now c.new.result c.in_ok-push.ensures.items c.new.ensures.name c.requires c.new.ensures.made in
    now_there IsOpened c.args.files.now.items c.push.new.self.items c.args.name.now h h.file.opened.there
