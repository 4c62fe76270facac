use Rattle.std.proofs.Common.{◌-◌, refl, arith, ap, ◌∙◌, length-set}
use Rattle.page_list.specs.Edits.{with_page}
use Rattle.page_pool.specs.Memory.{mem_pages}
use Rattle.page_pool.proofs.MemoryLemmas.{put_pages}
use Rattle.page_pool.proofs.mem_space.MemSpacePageSpace.put.Goals as goal

pub returns-clause-leaves : goal.returns-clause-leaves
returns-clause-leaves c =
    let space = c.args.self.now in
    record {
      size = length-set space.pages.items (c.args.number - 1) _;
      change = refl;
      pages_are = λ _.
          put_pages space.pages.items space.usable (c.args.number - 1) c.args.number c.copy_from.new.self (omega arith) (omega arith)
          ∙ ap (λ content. with_page c.args.number content (mem_pages space)) c.copy_from.ensures;
    }
