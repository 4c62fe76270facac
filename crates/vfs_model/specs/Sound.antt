-- The files of a stack are what its layers show of its device, now and after a stop.
use Rattle.std.specs.Prelude.{◌≡◌, ℕ, false, List, [], ◌∷◌}
use Rattle.vfs_model.specs.File.{Found, IsImage}
use Rattle.vfs_model.specs.Store.{Store, Files, present, AllOrderly}
use Rattle.vfs_model.specs.View.{view, through, ViewedFrom}
use Rattle.vfs_model.specs.Name.{kind_of}
use Rattle.vfs_model.specs.declared.name.Kind.{Kind}
use Rattle.vfs_model.specs.declared.name.Kind.TheVariants.{Main, Journal, Super}
use Rattle.vfs_model.specs.declared.layer.Layer.{Layer}
use Rattle.vfs_model.specs.declared.layer.Layer.TheVariants.{Trace, Cksum, Append, Mux, Quota}

-- no place is marked as bad
abbrev pub IsUnmarked : Found → Type 0
IsUnmarked f = (place : ℕ) → f.bad place ≡ false

-- the kind of journals and of super-journals
abbrev pub IsOfJournals : Kind → Type 0
IsOfJournals Main = ⊥
IsOfJournals Journal = Unit {0}
IsOfJournals Super = Unit {0}

-- the layer makes no file of this kind wild: only an append layer does, databases
abbrev pub MakesNoneWild : Kind → Layer → Type 0
MakesNoneWild kind Trace = Unit {0}
MakesNoneWild kind (Cksum page) = Unit {0}
MakesNoneWild kind Append = IsOfJournals kind
MakesNoneWild kind (Mux chunk) = Unit {0}
MakesNoneWild kind (Quota groups) = Unit {0}

-- the layer marks no place of a file of this kind as bad: only a checksum layer does, in databases
abbrev pub MarksNone : Kind → Layer → Type 0
MarksNone kind Trace = Unit {0}
MarksNone kind (Cksum page) = IsOfJournals kind
MarksNone kind Append = Unit {0}
MarksNone kind (Mux chunk) = Unit {0}
MarksNone kind (Quota groups) = Unit {0}

-- every layer is such
abbrev pub Each : (Layer → Type 0) → List Layer → Type 0
Each is [] = Unit {0}
Each is (layer ∷ below) = (is layer) × (Each is below)

-- what a stop may leave of a device: an image of each file, and no marks
pub record IsDeviceImage (base : Store) (i : Files) : Type 0 where
  pub image : (name : List ℕ) → IsImage (base name) (i name)
  pub unmarked : (name : List ℕ) → IsUnmarked (i name)

-- the files are what the layers show of the device, and what they show of any image of it is an image of the files
pub record Sound (layers : List Layer) (base files : Store) : Type 0 where
  pub orderly : AllOrderly files
  pub shows : (name : List ℕ) → (files name).wild ≡ false → (files name).now ≡ through layers (present base) name
  pub images : (i : Files) → IsDeviceImage base i → (name : List ℕ) → (files name).wild ≡ false → IsImage (files name) (through layers i name)
  pub tame : (name : List ℕ) → Each (MakesNoneWild (kind_of name)) layers → (files name).wild ≡ false
  pub unmarked : (name : List ℕ) → Each (MarksNone (kind_of name)) layers → IsUnmarked (files name).now

-- the same of one layer over the files directly below it: an image is shown of those names alone that it views
pub record OwnStep (layer : Layer) (below above : Store) : Type 0 where
  pub orderly : AllOrderly above
  pub shows : (name : List ℕ) → (above name).wild ≡ false → (above name).now ≡ view layer (present below) name
  pub images : (i : Files) (name : List ℕ) → (above name).wild ≡ false → ((other : List ℕ) → ViewedFrom layer name other → IsImage (below other) (i other)) →
      IsImage (above name) (view layer i name)
  pub wild : (name other : List ℕ) → (above name).wild ≡ false → ViewedFrom layer name other → (below other).wild ≡ false
  pub tame : (name : List ℕ) → MakesNoneWild (kind_of name) layer → ((other : List ℕ) → ViewedFrom layer name other → (below other).wild ≡ false) → (above name).wild ≡ false
  pub unmarked : (name : List ℕ) → MarksNone (kind_of name) layer → IsUnmarked (below name).now → IsUnmarked (above name).now
