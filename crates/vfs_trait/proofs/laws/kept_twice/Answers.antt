use Rattle.vfs_trait.proofs.TwiceLemmas.{steady_twice, rests_twice, files_twice, rings_twice}
use Rattle.vfs_trait.proofs.laws.kept_twice.Goals as goal

pub returns-clause-steady : goal.returns-clause-steady
returns-clause-steady c = steady_twice

pub returns-clause-rests : goal.returns-clause-rests
returns-clause-rests c = rests_twice

pub returns-clause-files : goal.returns-clause-files
returns-clause-files c = files_twice c.looser_twice.ensures

pub returns-clause-rings : goal.returns-clause-rings
returns-clause-rings c = rings_twice
