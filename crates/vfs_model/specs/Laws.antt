-- What follows from the definitions, for all callers.
use Rattle.std.specs.Prelude.{◌≡◌, ◌≢◌, ℕ, ◌+◌, ◌<◌, Bool, false, List, [], ◌∷◌, ◌++◌, length, IsTrue, slice_get}
use Rattle.vfs_model.specs.File.{Found, FileState, IsOrderly, IsImage, IsSettled, SameFound}
use Rattle.vfs_model.specs.Effect.{NoLooser, Wrote, Synced, NameSynced}
use Rattle.vfs_model.specs.Store.{Store, Files, Separate, Apart}
use Rattle.vfs_model.specs.Name.{kind_of}
use Rattle.vfs_model.specs.View.{through, ViewedFrom}
use Rattle.vfs_model.specs.Sound.{Sound, OwnStep}
use Rattle.vfs_model.specs.Pass.{Lengths, of_file, others_of}
use Rattle.vfs_model.specs.declared.layer.Layer.{Layer}

-- what stands now may be left by a stop
abbrev pub NowIsImage : Type 0
NowIsImage = (s : FileState) → IsOrderly s → IsImage s s.now

-- every image of what is no looser is an image of what was
abbrev pub OlderImages : Type 0
OlderImages = (old new : FileState) (i : Found) → NoLooser old new → IsImage new i → IsImage old i

-- a settled file has itself as its only image
abbrev pub OnlyImage : Type 0
OnlyImage = (s : FileState) (i : Found) → IsSettled s → IsImage s i → (i.there ≡ s.now.there) × (IsTrue i.there → SameFound s.now i)

-- after a sync and a sync of names nothing of the file is unsettled
abbrev pub BothSettle : Type 0
BothSettle = (old mid new : FileState) → old.wild ≡ false → IsOrderly new → Synced old mid → NameSynced mid new → IsSettled new

-- what is written and then synced stands in every image that has the file
abbrev pub WrittenStands : Type 0
WrittenStands = (delicate : Bool) (old mid new : FileState) (off : ℕ) (bytes : List ℕ) (i : Found) → Wrote delicate old mid off bytes → Synced mid new → new.wild ≡ false →
    IsImage new i → IsTrue i.there → (place : ℕ) → place < length bytes → slice_get i.bytes (off + place) ≡ slice_get bytes place

-- a layer's own step and the soundness of the layer beneath give that of the layer
abbrev pub SoundAbove : Type 0
SoundAbove = (layer : Layer) (layers : List Layer) (base below above : Store) → OwnStep layer below above → Sound layers base below → Sound (layer ∷ layers) base above

-- names that are separate are apart under any layers, both ways
abbrev pub SeparateApart : Type 0
SeparateApart = (layers : List Layer) (name other : List ℕ) → Separate name other → (Apart layers name other) × (Apart layers other name)

-- apart is apart both ways, and two names
abbrev pub ApartBack : Type 0
ApartBack = (layers : List Layer) (name other : List ℕ) → Apart layers name other → (Apart layers other name) × (name ≢ other)

-- what leaves the lengths of all files but one leaves those of any file that is apart from it
abbrev pub OthersKeep : Type 0
OthersKeep = (layers : List Layer) (name other : List ℕ) (old new : Lengths) → Apart layers name other →
    others_of layers name new ≡ others_of layers name old → of_file layers other new ≡ of_file layers other old

-- no looser, twice
abbrev pub LooserTwice : Type 0
LooserTwice = (a b c : FileState) → NoLooser a b → NoLooser b c → NoLooser a c

-- a stack without layers shows the files themselves
abbrev pub EmptyView : Type 0
EmptyView = (files : Files) → through [] files ≡ files

-- layers on layers show what all of them together show
abbrev pub ViewsCompose : Type 0
ViewsCompose = (above below : List Layer) (files : Files) → through (above ++ below) files ≡ through above (through below files)

-- no layer's views of separate names make use of the same file
abbrev pub ViewedApart : Type 0
ViewedApart = (layer : Layer) (name other seen : List ℕ) → Separate name other → ViewedFrom layer name seen → ViewedFrom layer other seen → ⊥

-- a layer's view of a name makes use of files of its kind alone
abbrev pub ViewedKind : Type 0
ViewedKind = (layer : Layer) (name seen : List ℕ) → ViewedFrom layer name seen → kind_of seen ≡ kind_of name
