-- Files of a kind that no layer makes wild.
use Rattle.std.proofs.Common.{◌≡◌, List, [], ◌∷◌, sym, subst}
use Rattle.vfs_model.specs.Sound.{Each, MakesNoneWild, IsOfJournals}
use Rattle.vfs_model.specs.Name.{kind_of}
use Rattle.vfs_model.specs.declared.name.Kind.{Kind}
use Rattle.vfs_model.specs.declared.layer.Layer.{Layer}
use Rattle.vfs_model.specs.declared.layer.Layer.TheVariants.{Trace, Cksum, Append, Mux, Quota}
use Rattle.vfs_trait.specs.Laws.{NeverWild}

none_makes : (kind : Kind) (layers : List Layer) → IsOfJournals kind → Each (MakesNoneWild kind) layers
none_makes kind [] is = tt
none_makes kind (Trace ∷ below) is = (tt, none_makes kind below is)
none_makes kind (Cksum page ∷ below) is = (tt, none_makes kind below is)
none_makes kind (Append ∷ below) is = (is, none_makes kind below is)
none_makes kind (Mux chunk ∷ below) is = (tt, none_makes kind below is)
none_makes kind (Quota groups ∷ below) is = (tt, none_makes kind below is)

pub never_wild : (kind : Kind) → IsOfJournals kind → NeverWild kind
never_wild kind none s name told stands is =
    let P : Kind → Type 0 = λ k. Each (MakesNoneWild k) s.layers in (stands.sound told).tame name (subst P (sym is) (none_makes kind s.layers none))
