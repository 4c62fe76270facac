use Rattle.vfs_trait.proofs.laws.none_wild.Goals as goal

pub returns : goal.returns
returns c = λ s name told stands none. (stands.sound told).tame name none
