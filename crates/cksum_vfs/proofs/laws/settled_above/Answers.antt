use Rattle.std.proofs.Common.{Some}
use Rattle.vfs_model.specs.Name.{kind_of}
use Rattle.cksum_vfs.specs.Summed.{own_size}
use Rattle.cksum_vfs.proofs.StateLemmas.{sized_of, settled_over}
use Rattle.cksum_vfs.proofs.Lifts.{own_sized}
use Rattle.cksum_vfs.proofs.laws.settled_above.Goals as goal

pub returns : goal.returns
returns c = λ page s name is h. settled_over (own_size (Some page) (kind_of name)) (s.files name) (own_sized (Some page) (kind_of name) (sized_of page is)) h
