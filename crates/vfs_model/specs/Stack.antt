-- Which layers may stand above each other.
use Rattle.std.specs.Prelude.{◌≡◌, ◌⊎◌, List, [], ◌∷◌}
use Rattle.vfs_model.specs.declared.layer.Layer.{Layer}
use Rattle.vfs_model.specs.declared.layer.Layer.TheVariants.{Trace, Cksum, Append, Mux, Quota}
use Rattle.vfs_model.specs.declared.stack.Place.{Place}
use Rattle.vfs_model.specs.declared.stack.Place.TheVariants.{Trace as ForTrace, Cksum as ForCksum, Append as ForAppend, Mux as ForMux, Quota as ForQuota}

-- the kind of place that a layer has
abbrev pub place_for : Layer → Place
place_for Trace = ForTrace
place_for (Cksum page) = ForCksum
place_for Append = ForAppend
place_for (Mux chunk) = ForMux
place_for (Quota groups) = ForQuota

-- the eleven places of a stack, the top one first
abbrev pub places : List Place
places =
    ForTrace ∷ ForQuota ∷ ForCksum ∷ ForTrace ∷ ForQuota ∷ ForAppend ∷ ForTrace ∷ ForQuota ∷ ForMux ∷ ForTrace ∷ ForQuota ∷ []

-- the layers are got from places by leaving some out: the first one is taken by the first layer, or is left out
abbrev pub IsGotFrom : List Place → List Layer → Type 0
IsGotFrom left [] = Unit {0}
IsGotFrom [] (layer ∷ layers) = ⊥
IsGotFrom (place ∷ left) (layer ∷ more) = ((place ≡ place_for layer) × IsGotFrom left more) ⊎ IsGotFrom left (layer ∷ more)

abbrev pub IsPermitted : List Layer → Type 0
IsPermitted layers = IsGotFrom places layers
