use Rattle.std.proofs.Common.{◌≡◌, ℕ, ◌≤◌, List, [], length, IsTrue, refl, sym, ap, subst, ◌∙◌, arith, Option, Some, None, unwrap_or}
use Rattle.vfs_model.specs.File.{FileState}
use Rattle.vfs_model.specs.Effect.{NoLooser, OpenFailed, Closed}
use Rattle.vfs_model.specs.Store.{OthersStay}
use Rattle.vfs_model.specs.Name.{kind_of}
use Rattle.vfs_model.specs.Sound.{MakesNoneWild, Each}
use Rattle.vfs_model.specs.Laws.{LooserTwice}
use Rattle.vfs_model.specs.declared.layer.Layer.{Layer}
use Rattle.vfs_model.specs.declared.name.Kind.{Kind}
use Rattle.vfs_model.specs.declared.name.Kind.TheVariants.{Main, Journal, Super}
use Rattle.vfs_trait.specs.State.{StackState, Steady, OpenStays, NoneOpen, IsFree, Stands as StackStands, name_at}
use Rattle.vfs_trait.specs.Calls.{Leaves, MayWrite, MayCutTo, checked}
use Rattle.vfs_trait.specs.Free.{SeparateIsFree}
use Rattle.shell_top.specs.Touched.{OnlyTouches}
use Rattle.shell_top.specs.Stands.{Keeps, TableStands}
use Rattle.shell_top.specs.declared.session.Table.{Table}
use Rattle.shell_top.specs.declared.session.Session.{Session}

pub no_looser_same : (file : FileState) → NoLooser file file
no_looser_same file = record {
  now = refl;
  tame = λ is. is;
  was_tame = λ is. is;
  sure = λ is. is;
  stop = λ tame. record { kept = λ place any kept. kept; floor_is = omega arith; reach_is = omega arith };
}

pub touches_same : (name : List ℕ) (s : StackState) → OnlyTouches name s s
touches_same name s = record {
  steady = record { tells = refl; layers = refl; faults = omega arith };
  others = λ tells. record { each = λ other apart. no_looser_same (s.files other) };
}

pub touches_on : LooserTwice → (name : List ℕ) (a b c : StackState) → OnlyTouches name a b → OnlyTouches name b c → OnlyTouches name a c
touches_on twice name a b c first second =
    let P : List Layer → Type 0 = λ layers. OthersStay layers b.files c.files name in
    record {
      steady = record {
        tells = second.steady.tells ∙ first.steady.tells;
        layers = second.steady.layers ∙ first.steady.layers;
        faults = omega (arith, first.steady.faults, second.steady.faults);
      };
      others = λ tells. record {
        each = λ other apart.
            twice (a.files other) (b.files other) (c.files other) ((first.others tells).each other apart)
            ((subst P first.steady.layers (second.others (first.steady.tells ∙ tells))).each other apart);
      };
    }

-- a call that leaves all others, by another word for its name
touched : (a b : StackState) (name other : List ℕ) → name ≡ other → Steady a b → (IsTrue a.tells → OthersStay a.layers a.files b.files name) → OnlyTouches other a b
touched a b name other same steady others =
    let P : List ℕ → Type 0 = λ n. OnlyTouches n a b in
    subst P same (record { steady = steady; others = others })

pub same_name : (a b : StackState) (fid : ℕ) → OpenStays a b → name_at b fid ≡ name_at a fid
same_name a b fid stays = ap (λ o. unwrap_or o []) (stays.names fid)

-- one call more on the open file
pub touches_next : LooserTwice → (a b c : StackState) (fid : ℕ) → OpenStays a b → OnlyTouches (name_at a fid) a b
    → Steady b c → (IsTrue b.tells → OthersStay b.layers b.files c.files (name_at b fid)) → OnlyTouches (name_at a fid) a c
touches_next twice a b c fid stays first steady others =
    touches_on twice (name_at a fid) a b c first (touched b c (name_at b fid) (name_at a fid) (same_name a b fid stays) steady others)

pub keeps_same : (session : Session) (s : StackState) → Keeps session session s s
keeps_same session s = record { named = refl; touches = touches_same session.name s; stopped = λ none. (none, refl) }

pub keeps_on : LooserTwice → (first mid last : Session) (a b c : StackState) → Keeps first mid a b → Keeps mid last b c → Keeps first last a c
keeps_on twice first mid last a b c one two =
    let P : List ℕ → Type 0 = λ n. OnlyTouches n b c in
    record {
      named = two.named ∙ one.named;
      touches = touches_on twice first.name a b c one.touches (subst P one.named two.touches);
      stopped = λ none.
          let stays = one.stopped none in
          let again = two.stopped stays.0 in (again.0, again.1 ∙ stays.1);
    }

-- over no layers a file is written and cut at any place
no_whole_pages : (kind : Kind) (off : ℕ) (bytes : List ℕ) → MayWrite kind None off bytes × MayCutTo kind None off
no_whole_pages Main off bytes = (tt, tt)
no_whole_pages Journal off bytes = (tt, tt)
no_whole_pages Super off bytes = (tt, tt)

pub may_write : (layers : List Layer) (kind : Kind) (off : ℕ) (bytes : List ℕ) → layers ≡ [] → MayWrite kind (checked layers) off bytes
may_write layers kind off bytes bare =
    let P : List Layer → Type 0 = λ l. MayWrite kind (checked l) off bytes in
    subst P (sym bare) (no_whole_pages kind off bytes).0

pub may_cut : (layers : List Layer) (kind : Kind) (len : ℕ) → layers ≡ [] → MayCutTo kind (checked layers) len
may_cut layers kind len bare =
    let P : List Layer → Type 0 = λ l. MayCutTo kind (checked l) len in
    subst P (sym bare) (no_whole_pages kind len []).1

-- where no file is open, each short name is free
pub free_of : SeparateIsFree → (s : StackState) (name : List ℕ) → NoneOpen s → length name ≤ 64 → IsFree s name
free_of free s name none short = free s name (omega (arith, short)) (λ fid other is. absurd (cc (none fid, is)))

-- what a failed opening left of a file stays so where the file gets no looser
pub failed_on : LooserTwice → (old mid new : FileState) → OpenFailed old mid → NoLooser mid new → OpenFailed old new
failed_on twice old mid new failed left = record {
  found = λ there tame. twice old mid new (failed.found there tame) left;
  made = λ missing. ap (λ f. f.bytes) left.now ∙ failed.made missing;
  tame = λ tame. left.tame (failed.tame tame);
  longest = λ tame. omega (arith, failed.longest tame, (left.stop (failed.tame tame)).reach_is);
}

-- over no layers no file is wild, so that closing the table's file leaves it as it is
pub closed_leaves : (name : List ℕ) (table : Option Table) (open_table closed_table : Table) (old new : StackState) → TableStands name table old → table ≡ Some open_table
    → closed_table ≡ open_table → StackStands old → Leaves old new (name_at old closed_table.file.0) Closed → Leaves old new name NoLooser
closed_leaves name table open_table closed_table old new stands is same shows left =
    let P : Option Table → Type 0 = λ t. TableStands name t old in
    let kept : TableStands name (Some closed_table) old = subst P (is ∙ ap (λ t. Some t) (sym same)) stands in
    let Q : List ℕ → Type 0 = λ n. Leaves old new n Closed in
    let closed : Leaves old new name Closed = subst Q (ap (λ o. unwrap_or o []) kept.0) left in
    let E : List Layer → Type 0 = λ layers. Each (MakesNoneWild (kind_of name)) layers in
    record {
      file = λ told. (closed.file told).tame ((shows.sound told).tame name (subst E (sym kept.1.bare) tt));
      others = closed.others;
    }
