-- Two files of a device in memory, opened one after the other.
use Rattle.std.proofs.Common.{arith, rules, ◌≡◌, ◌≢◌, ℕ, ◌*◌, ◌≤◌, false, List, [], length, IsTrue, Option, Some, None, unwrap_or, Ok, inl, inr, refl, sym, ◌∙◌, ap, subst}
use Rattle.std.proofs.lemmas.Bool.{cases_eq}
use Rattle.std.specs.Prelude.{find}
use Rattle.std.specs.Option.{option_map_or}
use Rattle.std.specs.Str.{bytes_eq}
use Rattle.vfs_model.specs.File.{FileState, IsOrderly, IsSettled, absent}
use Rattle.vfs_model.specs.Effect.{NoLooser, Opened}
use Rattle.vfs_model.specs.Store.{Store, OthersStay}
use Rattle.vfs_model.specs.Name.{kind_of}
use Rattle.vfs_model.specs.declared.name.Kind.TheVariants.{Main, Journal}
use Rattle.vfs_trait.specs.State.{NoneOpen, IsFree, file_at}
use Rattle.vfs_trait.specs.Calls.{Takes}
use Rattle.mem_vfs.specs.Failing.{mem_state}
use Rattle.mem_vfs.specs.declared.failing.MemVfs.{MemVfs}
use Rattle.vfs_model.specs.Laws.{LooserTwice}
use Rattle.mem_vfs.specs.Image.{AllSettled}
use Rattle.mem_vfs.specs.Given.{Has, settled}
use Rattle.journal_format.specs.Journal.{Hot, Undoes, all_exist, hot}
use Rattle.journal_format.specs.Reading.{Gives}
use Rattle.journal_format.specs.declared.read.Hot.{Hot as Reading}
use Rattle.journal_format.specs.declared.read.Hot.TheVariants as reading
use Rattle.journal_format.specs.Values.{undo_of}
use Rattle.journal_format.specs.declared.read.Play.{Play}
use Rattle.journal_file.proofs.ExitLemmas.{settled_looser}
use Rattle.journal_file.proofs.RollbackLemmas.{looser_long}
use Rattle.journal_file.specs.Steps.{IsClosedOrEmpty, IsSettledButName, IsHotOver}

-- a name that none has
pub absent_closed : (s : FileState) → s ≡ absent → IsClosedOrEmpty s.now.bytes
absent_closed s is = inl (ap (λ f. f.now.bytes) is)

pub absent_settled : (s : FileState) → s ≡ absent → IsSettledButName s
absent_settled s is = subst IsSettledButName (sym is) (record { tame = refl; content = record { shortest = omega arith; longest = omega arith; synced = λ place w. refl } })

pub none_free : (m : MemVfs) (name : List ℕ) → NoneOpen (mem_state m) → IsFree (mem_state m) name
none_free m name none = record { short = tt; apart = λ fid other is. absurd (none_some other (sym (none fid) ∙ is)) } where
  none_some : (other : List ℕ) → None ≡ Some other → ⊥
  none_some other is = cc

pub two_kinds : (main journal : List ℕ) → kind_of main ≡ Main → kind_of journal ≡ Journal → main ≢ journal
two_kinds main journal m j same = let e : Main ≡ Journal = sym m ∙ ap kind_of same ∙ j in search (rules, e)

-- a journal beside the one open file, a database
pub beside_free : (a b : MemVfs) (main journal : List ℕ) (fid : ℕ) → NoneOpen (mem_state a) → Takes (mem_state a) (mem_state b) main fid → kind_of main ≡ Main → kind_of journal ≡ Journal → IsFree (mem_state b) journal
beside_free a b main journal fid none takes m j = record { short = tt; apart = λ other name is same. two_kinds main journal m j (named other name is ∙ sym same) } where
  named : (other : ℕ) (name : List ℕ) → (mem_state b).open_files other ≡ Some name → main ≡ name
  named other name is = elim (cases_eq other fid) [
    | inl same ↦ let e : Some main ≡ Some name = sym takes.named ∙ ap (mem_state b).open_files (sym same) ∙ is in cc
    | inr differ ↦ let e : None ≡ Some name = sym (none other) ∙ sym (takes.others other differ) ∙ is in absurd cc
  ]

-- an opening of a file that is there and not wild changes nothing of it
pub found_stays : (s t : FileState) → IsTrue s.now.there → IsSettled s → Opened s t → NoLooser s t
found_stays s t there h opened = opened.touched.found there h.tame

-- a settled file that is not there is as a journal is before its first use
pub gone_closed : (s t : FileState) → IsOrderly s → s.now.there ≡ false → NoLooser s t → IsClosedOrEmpty t.now.bytes
gone_closed s t orderly gone h = inl (ap (λ f. f.bytes) h.now ∙ orderly.missing gone)

pub settled_but : (s t : FileState) → IsSettled s → NoLooser s t → IsSettledButName t
settled_but s t h k = let r : IsSettled t = settled_looser s t h k in record { tame = r.tame; content = r.content }

-- the one open file, by its number
pub opened_file : (a b : MemVfs) (name : List ℕ) (fid : ℕ) (P : FileState → Type 0) → Takes (mem_state a) (mem_state b) name fid → P ((mem_state b).files name) → P (file_at (mem_state b) fid)
opened_file a b name fid P takes h = let Q : Option (List ℕ) → Type 0 = λ o. P ((mem_state b).files (unwrap_or o [])) in subst Q (sym takes.named) h

-- a journal that is read as hot, over a file that is long enough
pub hot_over : (j d : FileState) (p : Play) → hot all_exist j.now.bytes ≡ Undoes (undo_of p) → p.page ≡ 512 → 512 * p.initial ≤ length d.now.bytes → IsTrue d.now.there → IsSettled d → IsHotOver 512 j d
hot_over j d p is page long there settled = record {
  undo = undo_of p;
  is_hot = is;
  page_is = page;
  long = record { there = there; sure = settled.sure; long = let e : p.initial * p.page ≡ p.initial * 512 = ap (λ n. p.initial * n) page in omega (arith, e, long) };
}

pub hot_stays : (j j' d d' : FileState) → NoLooser j j' → NoLooser d d' → IsHotOver 512 j d → IsHotOver 512 j' d'
hot_stays j j' d d' hj hd h = record {
  undo = h.undo;
  is_hot = ap (λ f. hot all_exist f.bytes) hj.now ∙ h.is_hot;
  page_is = h.page_is;
  long = looser_long h.undo d d' h.long hd;
}

-- the database and its journal, opened one after the other, as they were
pub record AreOpen (a e : MemVfs) (main journal : List ℕ) (db jr : ℕ) : Type 0 where
  pub two : db ≢ jr
  pub of_main : (mem_state e).open_files db ≡ Some main
  pub of_journal : (mem_state e).open_files jr ≡ Some journal
  pub main_stays : NoLooser ((mem_state a).files main) (file_at (mem_state e) db)
  pub journal_stays : NoLooser ((mem_state a).files journal) (file_at (mem_state e) jr)

-- an opening, as the device tells it
pub record Opening (a b : MemVfs) (name : List ℕ) (fid : ℕ) : Type 0 where
  pub takes : Takes (mem_state a) (mem_state b) name fid
  pub opened : Opened ((mem_state a).files name) ((mem_state b).files name)
  pub others : OthersStay [] (mem_state a).files (mem_state b).files name

pub are_open : LooserTwice → (a b e : MemVfs) (main journal : List ℕ) (db jr : ℕ) → kind_of main ≡ Main → kind_of journal ≡ Journal → AllSettled (mem_state a).files →
    IsTrue ((mem_state a).files main).now.there → IsTrue ((mem_state a).files journal).now.there → Opening a b main db → Opening b e journal jr → AreOpen a e main journal db jr
are_open twice a b e main journal db jr m j settled there_m there_j first second = record {
  two = two;
  of_main = second.takes.others db two ∙ first.takes.named;
  of_journal = second.takes.named;
  main_stays = let P : Option (List ℕ) → Type 0 = λ o. NoLooser ((mem_state a).files main) ((mem_state e).files (unwrap_or o [])) in subst P (sym (second.takes.others db two ∙ first.takes.named)) stays_m;
  journal_stays = let P : Option (List ℕ) → Type 0 = λ o. NoLooser ((mem_state a).files journal) ((mem_state e).files (unwrap_or o [])) in subst P (sym second.takes.named) stays_j;
} where
  two : db ≢ jr
  two same = let k : Some main ≡ None = sym first.takes.named ∙ ap (mem_state b).open_files same ∙ second.takes.unused in cc

  differ : main ≢ journal
  differ = two_kinds main journal m j

  stays_m : NoLooser ((mem_state a).files main) ((mem_state e).files main)
  stays_m = twice _ _ _ (found_stays _ _ there_m (settled.each main) first.opened) (second.others.each main (λ same. differ (sym same)))

  before : NoLooser ((mem_state a).files journal) ((mem_state b).files journal)
  before = first.others.each journal differ

  stays_j : NoLooser ((mem_state a).files journal) ((mem_state e).files journal)
  stays_j = twice _ _ _ before (found_stays _ _ (ap (λ f. f.there) before.now ∙ there_j) (settled_looser _ _ (settled.each journal) before) second.opened)

-- given files are settled
map_settled : (o : Option (List ℕ × List ℕ)) → IsSettled (option_map_or (λ file. settled file.1) o absent)
map_settled None = record { tame = refl; sure = refl; content = record { shortest = omega arith; longest = omega arith; synced = λ place w. refl } }
map_settled (Some file) = record { tame = refl; sure = refl; content = record { shortest = omega arith; longest = omega arith; synced = λ place w. refl } }

pub given_settled : (files : Store) (given : List (List ℕ × List ℕ)) → Has files given → AllSettled files
given_settled files given h = record { each = λ name. subst IsSettled (sym (h.each name)) (map_settled (find (λ file. bytes_eq file.0 name) given)) }

-- what is read as this playback undoes what it does
pub gives_play : (r : Reading) (p : Play) (h : Hot) → r ≡ reading.Play p → Gives (Ok r) h → h ≡ Undoes (undo_of p)
gives_play r p h is gives = let P : Reading → Type 0 = λ x. Gives (Ok x) h in subst P is gives
