use Rattle.vfs_trait.proofs.CheckLemmas.{checked_once}
use Rattle.vfs_trait.proofs.laws.checked_once.Goals as goal

pub returns : goal.returns
returns c = checked_once
