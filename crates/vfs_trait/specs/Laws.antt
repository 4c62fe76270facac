-- What follows from the clauses, for layers that make several calls of the layer below in one of theirs, and for callers.
use Rattle.std.specs.Prelude.{◌≡◌, ℕ, false, List, ◌∷◌, None, IsTrue}
use Rattle.byte_base.specs.Count.{Rose}
use Rattle.vfs_model.specs.Stack.{IsPermitted}
use Rattle.vfs_model.specs.Sound.{Each, MakesNoneWild}
use Rattle.vfs_model.specs.Name.{kind_of}
use Rattle.vfs_model.specs.declared.name.Kind.{Kind}
use Rattle.vfs_model.specs.declared.layer.Layer.{Layer}
use Rattle.vfs_model.specs.declared.layer.Layer.TheVariants.{Cksum}
use Rattle.vfs_trait.specs.State.{StackState, Steady, Rests, Stands}
use Rattle.vfs_trait.specs.Calls.{FilesLeft, checked}
use Rattle.vfs_trait.specs.Log.{Ring, RingsGrow}

-- of two calls one after the other what each of them keeps is kept
abbrev pub SteadyTwice : Type 0
SteadyTwice = (a b c : StackState) → Steady a b → Steady b c → Steady a c

abbrev pub RestsTwice : Type 0
RestsTwice = (a b c : StackState) → Rests a b → Rests b c → Rests a c

abbrev pub FilesTwice : Type 0
FilesTwice = (a b c : StackState) → Steady a b → FilesLeft a b → FilesLeft b c → FilesLeft a c

abbrev pub RingsTwice : Type 0
RingsTwice = (a b c : List Ring) → RingsGrow a b → RingsGrow b c → RingsGrow a c

-- and the count of faults that rose in one of them rose
abbrev pub RoseInTwo : Type 0
RoseInTwo = (a b c : StackState) → Steady a b → Steady b c → ((Rose a.faults b.faults → Rose a.faults c.faults) × (Rose b.faults c.faults → Rose a.faults c.faults))

-- below a checksum layer of a permitted stack there is no other
abbrev pub CheckedOnce : Type 0
CheckedOnce = (page : ℕ) (layers : List Layer) → IsPermitted (Cksum page ∷ layers) → checked layers ≡ None

-- where no layer makes files of its kind wild, a file is not wild
abbrev pub NoneWild : Type 0
NoneWild = (s : StackState) (name : List ℕ) → IsTrue s.tells → Stands s → Each (MakesNoneWild (kind_of name)) s.layers → (s.files name).wild ≡ false

-- so none of a kind that no layer makes wild is
abbrev pub NeverWild : Kind → Type 0
NeverWild kind = (s : StackState) (name : List ℕ) → IsTrue s.tells → Stands s → kind_of name ≡ kind → (s.files name).wild ≡ false
