use Rattle.vfs_trait.proofs.TwiceLemmas.{rose_first, rose_second}
use Rattle.vfs_trait.proofs.laws.rose_in_two.Goals as goal

pub returns : goal.returns
returns c = λ a b c h k. ((λ rose. rose_first a.faults b.faults c.faults rose k.faults), (λ rose. rose_second a.faults b.faults c.faults h.faults rose))
