-- A journal that is opened by its name beside an open database, and closed behind.
use Rattle.std.proofs.Common.{rules, ◌≡◌, ◌≢◌, ℕ, Bool, List, [], IsTrue, Option, Some, None, IsSome, unwrap_or, inl, inr, refl, sym, ◌∙◌, ap, subst}
use Rattle.vfs_model.specs.File.{Found, FileState, IsOrderly}
use Rattle.vfs_model.specs.Effect.{NoLooser, Closed}
use Rattle.vfs_model.specs.Store.{OthersStay}
use Rattle.vfs_model.specs.Name.{kind_of}
use Rattle.vfs_model.specs.Laws.{OlderImages}
use Rattle.vfs_model.specs.declared.name.Kind.TheVariants.{Journal}
use Rattle.vfs_trait.specs.State.{StackState, IsOpen, IsFree, OpenStays, Stands, file_at, name_at}
use Rattle.vfs_trait.specs.Calls.{Closes, Leaves}
use Rattle.vfs_trait.specs.Laws.{NeverWild}
use Rattle.journal_format.specs.Undo.{Undo}
use Rattle.journal_file.specs.Content.{with_reserve, IsUndone, AllStandFor, AllStandForEither}
use Rattle.journal_file.specs.Steps.{Opens, IsCold}
use Rattle.journal_file.specs.Laws.{ColdStands}
use Rattle.journal_file.specs.Commit.{IsReady}
use Rattle.journal_file.proofs.StackLemmas.{name_stays, open_stays}
use Rattle.journal_file.proofs.ExitLemmas.{settled_looser}
use Rattle.std.proofs.lemmas.Bool.{cases_eq}
use Rattle.journal_file.proofs.RollbackLemmas.{some_is, apart_names}

-- the database is open as before beside the journal, which has a number of its own
pub record IsBeside (a b : StackState) (db fid : ℕ) (name : List ℕ) : Type 0 where
  pub two : db ≢ fid
  pub same : b.open_files db ≡ a.open_files db
  pub named : b.open_files fid ≡ Some name
  pub stays : IsTrue a.tells → NoLooser (file_at a db) (file_at b db)

none_some : (o : Option (List ℕ)) → o ≡ None → IsSome o → ⊥
none_some None e h = search (rules, h)
none_some (Some x) e h = cc

none_open : (a : StackState) (fid : ℕ) → a.open_files fid ≡ None → IsOpen a fid → ⊥
none_open a fid none is = none_some (a.open_files fid) none is

same_file : (a b : StackState) (db : ℕ) → b.open_files db ≡ a.open_files db → NoLooser (a.files (name_at a db)) (b.files (name_at a db)) → NoLooser (file_at a db) (file_at b db)
same_file a b db same h = let P : Option (List ℕ) → Type 0 = λ o. NoLooser (file_at a db) (b.files (unwrap_or o [])) in subst P (sym same) h

pub free_stays : (a b : StackState) (db : ℕ) (name : List ℕ) → IsFree a name → IsOpen a db → b.open_files db ≡ a.open_files db → OthersStay a.layers a.files b.files name → NoLooser (file_at a db) (file_at b db)
free_stays a b db name free is same others = same_file a b db same (others.each (name_at a db) (free.apart db (name_at a db) (some_is (a.open_files db) is)))

pub is_beside : (a b : StackState) (db fid : ℕ) (name : List ℕ) → IsFree a name → IsOpen a db → Opens a b name fid → (IsTrue a.tells → OthersStay a.layers a.files b.files name) → IsBeside a b db fid name
is_beside a b db fid name free is opens others = record {
  two = two;
  same = opens.others db two;
  named = opens.named;
  stays = λ told. free_stays a b db name free is (opens.others db two) (others told);
} where
  two : db ≢ fid
  two e = none_open a db (ap a.open_files e ∙ opens.unused) is

pub beside_open : (a b : StackState) (db fid : ℕ) (name : List ℕ) → IsBeside a b db fid name → IsOpen a db → IsOpen b db
beside_open a b db fid name h is = subst IsSome (sym h.same) is

pub beside_named : (a b : StackState) (db fid : ℕ) (name : List ℕ) → IsBeside a b db fid name → name_at b fid ≡ name
beside_named a b db fid name h = ap (λ o. unwrap_or o []) h.named

pub beside_name : (a b : StackState) (db fid : ℕ) (name : List ℕ) → IsBeside a b db fid name → name_at b db ≡ name_at a db
beside_name a b db fid name h = ap (λ o. unwrap_or o []) h.same

pub ready_stays : (reserve : ℕ) (u : Undo) (s t : FileState) → NoLooser s t → IsReady reserve u s → IsReady reserve u t
ready_stays reserve u s t h r = record {
  settled = settled_looser s t r.settled h;
  there = ap (λ f. f.there) h.now ∙ r.there;
  same = let Q : Found → Type 0 = λ f. IsUndone (with_reserve reserve u) f f in subst Q (sym h.now) r.same;
}

-- the journal is closed, which changes nothing of the two
pub record IsOver (c e : StackState) (db fid : ℕ) (name : List ℕ) : Type 0 where
  pub of_journal : NoLooser (file_at c fid) (e.files name)
  pub of_db : NoLooser (file_at c db) (file_at e db)

pub is_over : NeverWild Journal → (a b c e : StackState) (db fid : ℕ) (name : List ℕ) → IsBeside a b db fid name → IsOpen b db → kind_of name ≡ Journal → OpenStays b c → Stands c → Closes c e fid → Leaves c e (name_at c fid) Closed → IsTrue c.tells →
    IsOver c e db fid name
is_over never a b c e db fid name beside is kind opens stands closes leaves told = record {
  of_journal = let P : List ℕ → Type 0 = λ n. NoLooser (file_at c fid) (e.files n) in subst P named ((leaves.file told).tame (never c (name_at c fid) told stands (ap kind_of named ∙ kind)));
  of_db = same_file c e db (closes.others db beside.two) ((leaves.others told).each (name_at c db) (apart_names c fid db stands fid_open (open_stays b c db opens is) (λ k. beside.two (sym k))));
} where
  named : name_at c fid ≡ name
  named = name_stays b c fid opens ∙ beside_named a b db fid name beside

  fid_open : IsOpen c fid
  fid_open = open_stays b c fid opens (subst IsSome (sym beside.named) refl)

-- the same files are open
pub opens_same : (a b c e : StackState) (fid : ℕ) (name : List ℕ) → Opens a b name fid → OpenStays b c → Closes c e fid → (other : ℕ) → e.open_files other ≡ a.open_files other
opens_same a b c e fid name opens stays closes other = elim (cases_eq other fid) [
  | inl same ↦ ap e.open_files same ∙ closes.closed ∙ sym opens.unused ∙ ap a.open_files (sym same)
  | inr differ ↦ closes.others other differ ∙ stays.names other ∙ opens.others other differ
]

-- what two files that are no looser stand for
pub either_over : OlderImages → (exists : List ℕ → Bool) (reserve : ℕ) (j j' d d' : FileState) (before before' after : Found) → NoLooser j j' → NoLooser d d' → before' ≡ before → AllStandForEither exists reserve j d before' after →
    AllStandForEither exists reserve j' d' before after
either_over older exists reserve j j' d d' before before' after hj hd is all i k ij kd =
    let P : Found → Type 0 = λ f. AllStandForEither exists reserve j d f after in subst P is all i k (older j j' i hj ij) (older d d' k hd kd)

pub after_over : OlderImages → (exists : List ℕ → Bool) (reserve : ℕ) (j j' d d' : FileState) → NoLooser j j' → NoLooser d d' → AllStandFor exists reserve j d d.now → AllStandFor exists reserve j' d' d'.now
after_over older exists reserve j j' d d' hj hd all =
    let P : Found → Type 0 = λ f. AllStandFor exists reserve j' d' f in subst P (sym hd.now) (λ i k ij kd. all i k (older j j' i hj ij) (older d d' k hd kd))

-- under a cold journal the database stands for what it was
pub cold_before : ColdStands → (exists : List ℕ → Bool) (reserve : ℕ) (u : Undo) (j d d' : FileState) → IsCold j → IsReady reserve u d → NoLooser d d' → IsOrderly d' → AllStandFor exists reserve j d' d.now
cold_before cold exists reserve u j d d' is ready stays orderly =
    let P : Found → Type 0 = λ f. AllStandFor exists reserve j d' f in subst P stays.now (cold exists reserve j d' is (settled_looser d d' ready.settled stays) orderly)

pub undone_over : (u : Undo) (a b c e : FileState) → NoLooser a b → NoLooser c e → IsUndone u b.now c.now → IsUndone u a.now e.now
undone_over u a b c e h k is =
    let P : Found → Type 0 = λ f. IsUndone u f c.now in
    let Q : Found → Type 0 = λ f. IsUndone u a.now f in
    subst Q (sym k.now) (subst P h.now is)

pub undone_from : (u : Undo) (a b : FileState) (after : Found) → NoLooser a b → IsUndone u a.now after → IsUndone u b.now after
undone_from u a b after h is = let P : Found → Type 0 = λ f. IsUndone u f after in subst P (sym h.now) is
