-- Calls on one file, one after the other, over whole stacks.
use Rattle.std.proofs.Common.{arith, rules, [], ◌≡◌, ℕ, false, List, IsTrue, IsSome, Option, Some, None, unwrap_or, Result, Ok, Err, refl, sym, ◌∙◌, ap, subst}
use Rattle.vfs_model.specs.File.{FileState, IsOrderly}
use Rattle.vfs_model.specs.Effect.{NoLooser}
use Rattle.vfs_model.specs.Laws.{LooserTwice}
use Rattle.vfs_model.specs.Store.{OthersStay, FilesStay}
use Rattle.vfs_model.specs.Pass.{others_of}
use Rattle.vfs_model.specs.Name.{kind_of}
use Rattle.vfs_model.specs.declared.name.Kind.{Kind}
use Rattle.vfs_model.specs.declared.name.Kind.TheVariants.{Main, Journal, Super}
use Rattle.vfs_model.specs.declared.layer.Layer.{Layer}
use Rattle.vfs_trait.specs.State.{StackState, IsOpen, Steady, OpenStays, LengthsBeside, Rests, RestsBut, RestsMeasured, Stands, file_at, name_at}
use Rattle.vfs_trait.specs.Laws.{NeverWild}
use Rattle.vfs_trait.specs.Calls.{Caused, ReadCaused, WriteCaused, MeetsIn, Leaves, checked}
use Rattle.vfs_trait.specs.declared.fault.VfsFault.{VfsFault}
use Rattle.vfs_trait.specs.declared.fault.VfsFault.TheVariants.{Failed, Memory, Busy, Full, BadPage}

-- what stays of a stack

pub steady_twice : (a b c : StackState) → Steady a b → Steady b c → Steady a c
steady_twice a b c h k = record { tells = k.tells ∙ h.tells; layers = k.layers ∙ h.layers; faults = omega (arith, h.faults, k.faults) }

pub name_stays : (a b : StackState) (fid : ℕ) → OpenStays a b → name_at b fid ≡ name_at a fid
name_stays a b fid h = ap (λ o. unwrap_or o []) (h.names fid)

pub open_stays : (a b : StackState) (fid : ℕ) → OpenStays a b → IsOpen a fid → IsOpen b fid
open_stays a b fid h is = subst IsSome (sym (h.names fid)) is

pub told_next : (a b : StackState) → Steady a b → IsTrue a.tells → IsTrue b.tells
told_next a b h told = h.tells ∙ told

opens_twice : (a b c : StackState) → OpenStays a b → OpenStays b c → OpenStays a c
opens_twice a b c h k = record { names = λ fid. k.names fid ∙ h.names fid; delicate = λ name. k.delicate name ∙ h.delicate name }

lengths_twice : (kind : Kind) (a b c : StackState) (name : List ℕ) → Steady a b → LengthsBeside kind a b name → LengthsBeside kind b c name → LengthsBeside kind a c name
lengths_twice Main a b c name s h k = let P : List Layer → Type 0 = λ ls. others_of ls name c.lengths ≡ others_of ls name b.lengths in subst P s.layers k ∙ h
lengths_twice Journal a b c name s h k = k ∙ h
lengths_twice Super a b c name s h k = k ∙ h

lengths_beside : (kind : Kind) (a b : StackState) (name : List ℕ) → b.lengths ≡ a.lengths → LengthsBeside kind a b name
lengths_beside Main a b name h = ap (others_of a.layers name) h
lengths_beside Journal a b name h = h
lengths_beside Super a b name h = h

pub rests_twice : (a b c : StackState) (fid : ℕ) → Steady a b → RestsBut a b fid → RestsBut b c fid → RestsBut a c fid
rests_twice a b c fid s h k =
    let e : name_at b fid ≡ name_at a fid = name_stays a b fid h.opens in
    let P : List ℕ → Type 0 = λ n. LengthsBeside (kind_of n) b c n in
    record {
      limits = k.limits ∙ h.limits;
      levels = record { each = λ f. k.levels.each f ∙ h.levels.each f };
      opens = opens_twice a b c h.opens k.opens;
      lengths = lengths_twice (kind_of (name_at a fid)) a b c (name_at a fid) s h.lengths (subst P e k.lengths);
      broken = record { each = λ f other is. k.broken.each f other (subst IsSome (sym (h.opens.names f)) is) ∙ h.broken.each f other is };
      known = λ b. k.known (h.known b);
    }

pub rests_but : (a b : StackState) (fid : ℕ) → IsOpen a fid → Rests a b → RestsBut a b fid
rests_but a b fid is h = record {
  limits = h.limits;
  levels = h.levels;
  opens = h.opens;
  lengths = lengths_beside (kind_of (name_at a fid)) a b (name_at a fid) h.lengths;
  broken = record { each = λ f other is. h.broken.each f is };
  known = λ b. h.broken.each fid is ∙ b;
}

pub measured_but : (a b : StackState) (fid : ℕ) → IsOpen a fid → RestsMeasured a b fid → RestsBut a b fid
measured_but a b fid is h = record {
  limits = h.limits;
  levels = h.levels;
  opens = h.opens;
  lengths = h.lengths;
  broken = record { each = λ f other is. h.broken.each f is };
  known = λ b. h.broken.each fid is ∙ b;
}

pub rests_same : (a : StackState) (fid : ℕ) → RestsBut a a fid
rests_same a fid = record {
  limits = refl;
  levels = record { each = λ f. refl };
  opens = record { names = λ f. refl; delicate = λ name. refl };
  lengths = lengths_beside (kind_of (name_at a fid)) a a (name_at a fid) refl;
  broken = record { each = λ f other is. refl };
  known = λ b. b;
}

pub steady_same : (a : StackState) → Steady a a
steady_same a = record { tells = refl; layers = refl; faults = omega arith }

-- causes

pub caused_later : {T : Type 0} (a b c : StackState) (r : Result T VfsFault) → Steady a b → Caused b c r → Caused a c r
caused_later a b c (Ok x) s h = tt
caused_later a b c (Err Failed) s h = omega (arith, s.faults, h)
caused_later a b c (Err Memory) s h = tt
caused_later a b c (Err (Busy holder level)) s h = absurd h
caused_later a b c (Err (Full total limit)) s h = absurd h
caused_later a b c (Err (BadPage page kept found)) s h = absurd h

pub caused_before : {T : Type 0} (a b c : StackState) (r : Result T VfsFault) → Steady b c → Caused a b r → Caused a c r
caused_before a b c (Ok x) s h = tt
caused_before a b c (Err Failed) s h = omega (arith, s.faults, h)
caused_before a b c (Err Memory) s h = tt
caused_before a b c (Err (Busy holder level)) s h = absurd h
caused_before a b c (Err (Full total limit)) s h = absurd h
caused_before a b c (Err (BadPage page kept found)) s h = absurd h

pub caused_as : (T S : Type 0) (a b : StackState) (e : VfsFault) → Caused {T = T} a b (Err e) → Caused {T = S} a b (Err e)
caused_as T S a b Failed h = h
caused_as T S a b Memory h = tt
caused_as T S a b (Busy holder level) h = absurd h
caused_as T S a b (Full total limit) h = absurd h
caused_as T S a b (BadPage page kept found) h = absurd h

pub main_is_none : (k : Kind) → k ≡ Journal → k ≡ Main → ⊥
main_is_none k j m = let e : Journal ≡ Main = sym j ∙ m in search rules

pub write_caused : (a b : StackState) (name : List ℕ) (off len : ℕ) (r : Result Unit VfsFault) → kind_of name ≡ Journal → WriteCaused a b name off len r → Caused a b r
write_caused a b name off len (Ok x) is h = tt
write_caused a b name off len (Err Failed) is h = h
write_caused a b name off len (Err Memory) is h = tt
write_caused a b name off len (Err (Busy holder level)) is h = absurd h
write_caused a b name off len (Err (Full total limit)) is h = absurd (main_is_none (kind_of name) is h.1)
write_caused a b name off len (Err (BadPage page kept found)) is h = absurd h

pub read_caused : (a b : StackState) (name : List ℕ) (off len : ℕ) (r : Result ℕ VfsFault) → kind_of name ≡ Journal → ReadCaused a b name off len r → Caused a b r
read_caused a b name off len (Ok x) is h = tt
read_caused a b name off len (Err Failed) is h = h
read_caused a b name off len (Err Memory) is h = tt
read_caused a b name off len (Err (Busy holder level)) is h = absurd h
read_caused a b name off len (Err (Full total limit)) is h = absurd h
read_caused a b name off len (Err (BadPage page kept found)) is h = absurd (meets (checked a.layers) h) where
  meets : (o : Option (ℕ × List Layer)) → MeetsIn a name off len page kept found o → ⊥
  meets None h = h
  meets (Some layer) h = main_is_none (kind_of name) is h.0

-- the file of an open number

pub left_at : (a b : StackState) (fid : ℕ) (left : FileState → FileState → Type 0) → OpenStays a b → Leaves a b (name_at a fid) left → IsTrue a.tells → left (file_at a fid) (file_at b fid)
left_at a b fid left opens h told = let P : List ℕ → Type 0 = λ n. left (file_at a fid) (b.files n) in subst P (sym (name_stays a b fid opens)) (h.file told)

pub orderly_now : (s : StackState) (name : List ℕ) → IsTrue s.tells → Stands s → IsOrderly (s.files name)
orderly_now s name told stands = (stands.sound told).orderly name

-- the stack tells content, and the open file of this number is a journal
pub record TellsJournal (s : StackState) (fid : ℕ) : Type 0 where
  pub told : IsTrue s.tells
  pub is : kind_of (name_at s fid) ≡ Journal

pub tame_now : NeverWild Journal → (s : StackState) (fid : ℕ) → TellsJournal s fid → Stands s → (file_at s fid).wild ≡ false
tame_now never s fid t stands = never s (name_at s fid) t.told stands t.is

pub tells_next : (a b : StackState) (fid : ℕ) → Steady a b → OpenStays a b → TellsJournal a fid → TellsJournal b fid
tells_next a b fid s opens t = record { told = s.tells ∙ t.told; is = ap kind_of (name_stays a b fid opens) ∙ t.is }

-- the files of other names

pub looser_same : (s : FileState) → NoLooser s s
looser_same s = record { now = refl; tame = λ h. h; was_tame = λ h. h; sure = λ h. h; stop = λ h. record { kept = λ place at k. k; floor_is = omega arith; reach_is = omega arith } }

pub others_same : (a : StackState) (name : List ℕ) → OthersStay a.layers a.files a.files name
others_same a name = record { each = λ other apart. looser_same (a.files other) }

pub others_twice : LooserTwice → (a b c : StackState) (fid : ℕ) → Steady a b → OpenStays a b →
    OthersStay a.layers a.files b.files (name_at a fid) → OthersStay b.layers b.files c.files (name_at b fid) → OthersStay a.layers a.files c.files (name_at a fid)
others_twice twice a b c fid s opens h k =
    let P : List ℕ → Type 0 = λ n. OthersStay b.layers b.files c.files n in
    let Q : List Layer → Type 0 = λ ls. OthersStay ls b.files c.files (name_at a fid) in
    let k' : OthersStay a.layers b.files c.files (name_at a fid) = subst Q s.layers (subst P (name_stays a b fid opens) k) in
    record { each = λ other apart. twice (a.files other) (b.files other) (c.files other) (h.each other apart) (k'.each other apart) }

pub others_then : LooserTwice → (a b c : StackState) (fid : ℕ) (left : FileState → FileState → Type 0) → Steady a b → OpenStays a b →
    (IsTrue a.tells → OthersStay a.layers a.files b.files (name_at a fid)) → Leaves b c (name_at b fid) left → IsTrue a.tells → OthersStay a.layers a.files c.files (name_at a fid)
others_then twice a b c fid left s opens h k told = others_twice twice a b c fid s opens (h told) (k.others (told_next a b s told))

pub others_of_files : (a b : StackState) (name : List ℕ) → FilesStay a.files b.files → OthersStay a.layers a.files b.files name
others_of_files a b name h = record { each = λ other apart. h.each other }
