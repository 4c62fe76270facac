use Rattle.vfs_model.specs.declared.name.Kind.TheVariants.{Journal, Super}
use Rattle.vfs_trait.proofs.TameLemmas.{never_wild}
use Rattle.vfs_trait.proofs.laws.never_wild.Goals as goal

pub returns-clause-journals : goal.returns-clause-journals
returns-clause-journals c = never_wild Journal tt

pub returns-clause-super_journals : goal.returns-clause-super_journals
returns-clause-super_journals c = never_wild Super tt
