-- Calls on the bytes of files.
use Rattle.std.proofs.Common.{◌≡◌, ◌⊎◌, ℕ, ◌+◌, ◌%◌, ◌≤◌, Bool, nat_eq, List, [], length, take, slice_get, IsTrue, Option, Some, None, Result, Ok, Err, IfOk, inl, inr, refl, ap, sym, subst, ◌∙◌, arith}
use lib.Pointwise.{pointwise}
use Rattle.std.proofs.lemmas.List.{nil_from_length}
use Rattle.vfs_model.specs.Mark.{header_text, has_header}
use Rattle.vfs_model.specs.Sums.{without_sums}
use Rattle.vfs_model.specs.File.{FileState, IsOrderly}
use Rattle.vfs_model.specs.Effect.{WriteFailed, WriteFull}
use Rattle.vfs_model.specs.Name.{kind_of}
use Rattle.vfs_model.specs.declared.level.Fid.{Fid}
use Rattle.vfs_model.specs.declared.name.Kind.{Kind}
use Rattle.vfs_model.specs.declared.name.Kind.TheVariants.{Main, Journal, Super}
use Rattle.vfs_model.specs.declared.layer.Layer.{Layer}
use Rattle.vfs_model.specs.Pass.{Lengths, Passing, Passes, IsFull, pass}
use Rattle.vfs_trait.specs.declared.fault.VfsFault.{VfsFault}
use Rattle.vfs_trait.specs.declared.fault.VfsFault.TheVariants.{Failed, Memory, Busy, Full, BadPage}
use Rattle.vfs_trait.specs.State.{StackState, Stands, name_at, file_at}
use Rattle.vfs_trait.specs.Calls.{Leaves, SyncTames, WriteLeaves, CutLeaves, MayWrite, MayCutTo, checked, WriteCaused, WriteCounts, LeavesLengths, passing}
use Rattle.vfs_trait.specs.Log.{Logs, outcome_of}
use Rattle.vfs_trait.specs.declared.log.Call.TheVariants.{Write}
use Rattle.vfs_trait.specs.declared.log.Outcome.TheVariants.{Ok as Done}
use Rattle.vfs_trait.specs.Follows.{Follows, WriteUnsettles}
use Rattle.cksum_vfs.specs.Summed.{own_size, bytes_over, file_over, layers_over, over, IsSized, IsUnchecked}
use Rattle.cksum_vfs.specs.Page.{IsSealedBy}
use Rattle.cksum_vfs.specs.Steps.{IsWritten}
use Rattle.cksum_vfs.proofs.PageLemmas.{length_without, get_shown, take_same}
use Rattle.cksum_vfs.proofs.EffectLemmas.{IsPageAt, IsCutAt, write_failed_over, write_full_over, cut_failed_over, cut_over}
use Rattle.cksum_vfs.proofs.SealLemmas.{IsPageWrite, wrote_over, shown_before_of}
use Rattle.cksum_vfs.proofs.Lifts.{own_sized, leaves_by, steady_over, rests_but_over, counted_below, write_follows, logs_over, stands_over}

pub length_over : (own : Option ℕ) (bytes : List ℕ) → length (bytes_over own bytes) ≡ length bytes
length_over None bytes = refl
length_over (Some page) bytes = length_without page 0 bytes

-- What is asked

pub page_write : (size : Option ℕ) (kind : Kind) (layers : List Layer) (off : ℕ) (bytes : List ℕ) → MayWrite kind (checked (layers_over size layers)) off bytes → IsPageWrite (own_size size kind) off bytes
page_write None kind layers off bytes h = tt
page_write (Some page) Main layers off bytes h = h
page_write (Some page) Journal layers off bytes h = tt
page_write (Some page) Super layers off bytes h = tt

pub page_at_of : (own : Option ℕ) (off : ℕ) (bytes : List ℕ) → IsPageWrite own off bytes → IsPageAt own off (length bytes)
page_at_of None off bytes h = tt
page_at_of (Some page) off bytes h = (h.at, h.one)

pub sealed_size : (own : Option ℕ) (bytes sealed : List ℕ) → IsSealedBy own bytes sealed → length sealed ≡ length bytes
sealed_size None bytes sealed h = ap length h
sealed_size (Some page) bytes sealed h = h.size

pub may_write_below : (size : Option ℕ) (kind : Kind) (layers : List Layer) (off : ℕ) (bytes sealed : List ℕ) → IsUnchecked size layers → IsSealedBy (own_size size kind) bytes sealed →
    MayWrite kind (checked (layers_over size layers)) off bytes → MayWrite kind (checked layers) off sealed
may_write_below None kind layers off bytes sealed none seal h = subst (MayWrite kind (checked layers) off) (sym seal) h
may_write_below (Some page) Main layers off bytes sealed none seal h = subst (λ c. MayWrite Main c off sealed) (sym (none.each page refl)) tt
may_write_below (Some page) Journal layers off bytes sealed none seal h = tt
may_write_below (Some page) Super layers off bytes sealed none seal h = tt

pub may_cut_below : (size : Option ℕ) (kind : Kind) (layers : List Layer) (len : ℕ) → IsUnchecked size layers → MayCutTo kind (checked (layers_over size layers)) len → MayCutTo kind (checked layers) len
may_cut_below None kind layers len none h = h
may_cut_below (Some page) Main layers len none h = subst (λ c. MayCutTo Main c len) (sym (none.each page refl)) tt
may_cut_below (Some page) Journal layers len none h = tt
may_cut_below (Some page) Super layers len none h = tt

cut_at : (size : Option ℕ) (kind : Kind) (layers : List Layer) (len : ℕ) → MayCutTo kind (checked (layers_over size layers)) len → IsCutAt (own_size size kind) len
cut_at None kind layers len h = tt
cut_at (Some page) Main layers len h = h
cut_at (Some page) Journal layers len h = tt
cut_at (Some page) Super layers len h = tt

-- Cuts

cut_left : (own : Option ℕ) (old new : FileState) (len : ℕ) (result : Result Unit VfsFault) → IsSized own → IsCutAt own len → len ≤ length old.now.bytes → CutLeaves old new len result →
    CutLeaves (file_over own old) (file_over own new) len result
cut_left own old new len (Ok done) sized at reach h = cut_over own old new len sized at reach h
cut_left own old new len (Err fault) sized at reach h = cut_failed_over own old new len sized at reach h

pub cut_leaves : (size : Option ℕ) (old new : StackState) (name : List ℕ) (len : ℕ) (result : Result Unit VfsFault) → IsSized size → MayCutTo (kind_of name) (checked (layers_over size old.layers)) len →
    (IsTrue old.tells → len ≤ length ((over size old).files name).now.bytes) → Leaves old new name (λ old new. CutLeaves old new len result) → Leaves (over size old) (over size new) name (λ old new. CutLeaves old new len result)
cut_leaves size old new name len result sized pages reach h =
    leaves_by size old new name (λ a b. CutLeaves a b len result) (λ a b. CutLeaves a b len result) sized
    (λ told k. cut_left (own_size size (kind_of name)) (old.files name) (new.files name) len result (own_sized size (kind_of name) sized) (cut_at size (kind_of name) old.layers len pages)
    (omega (arith, reach told, length_over (own_size size (kind_of name)) (old.files name).now.bytes)) k) h

-- Writes

write_left : (own : Option ℕ) (delicate : Bool) (old new : FileState) (off : ℕ) (bytes sealed : List ℕ) (result : Result Unit VfsFault) → IsSized own → IsPageWrite own off bytes → IsSealedBy own bytes sealed →
    off ≤ length old.now.bytes → IsOrderly old → WriteLeaves delicate old new off sealed result → WriteLeaves delicate (file_over own old) (file_over own new) off bytes result
write_left own delicate old new off bytes sealed (Ok done) sized whole seal reach orderly h = wrote_over own delicate old new off bytes sealed sized whole seal reach orderly h
write_left own delicate old new off bytes sealed (Err Failed) sized whole seal reach orderly h =
    write_failed_over own delicate old new off (length bytes) sized (page_at_of own off bytes whole) reach orderly (subst (λ n. WriteFailed delicate old new off n) (sealed_size own bytes sealed seal) h)
write_left own delicate old new off bytes sealed (Err Memory) sized whole seal reach orderly h =
    write_failed_over own delicate old new off (length bytes) sized (page_at_of own off bytes whole) reach orderly (subst (λ n. WriteFailed delicate old new off n) (sealed_size own bytes sealed seal) h)
write_left own delicate old new off bytes sealed (Err (Full total limit)) sized whole seal reach orderly h =
    write_full_over own delicate old new off (length bytes) sized (page_at_of own off bytes whole) reach orderly (subst (λ n. WriteFull delicate old new off n) (sealed_size own bytes sealed seal) h)
write_left own delicate old new off bytes sealed (Err (Busy holder level)) sized whole seal reach orderly h = absurd h
write_left own delicate old new off bytes sealed (Err (BadPage page kept found)) sized whole seal reach orderly h = absurd h

pub write_leaves : (size : Option ℕ) (old new : StackState) (name : List ℕ) (delicate : Bool) (off : ℕ) (bytes sealed : List ℕ) (result : Result Unit VfsFault) → IsSized size → Stands old →
    MayWrite (kind_of name) (checked (layers_over size old.layers)) off bytes → IsSealedBy (own_size size (kind_of name)) bytes sealed → (IsTrue old.tells → off ≤ length ((over size old).files name).now.bytes) →
    Leaves old new name (λ a b. WriteLeaves delicate a b off sealed result) → Leaves (over size old) (over size new) name (λ a b. WriteLeaves delicate a b off bytes result)
write_leaves size old new name delicate off bytes sealed result sized stands pages seal reach h =
    leaves_by size old new name (λ a b. WriteLeaves delicate a b off sealed result) (λ a b. WriteLeaves delicate a b off bytes result) sized
    (λ told k. write_left (own_size size (kind_of name)) delicate (old.files name) (new.files name) off bytes sealed result (own_sized size (kind_of name) sized) (page_write size (kind_of name) old.layers off bytes pages) seal
    (omega (arith, reach told, length_over (own_size size (kind_of name)) (old.files name).now.bytes)) ((stands.sound told).orderly name) k) h

write_caused_over : (size : Option ℕ) (old new : StackState) (name : List ℕ) (off len : ℕ) (result : Result Unit VfsFault) → WriteCaused old new name off len result →
    WriteCaused (over size old) (over size new) name off len result
unfolding pass
write_caused_over None old new name off len result h = h
write_caused_over (Some page) old new name off len (Ok done) h = h
write_caused_over (Some page) old new name off len (Err Failed) h = h
write_caused_over (Some page) old new name off len (Err Memory) h = tt
write_caused_over (Some page) old new name off len (Err (Busy holder level)) h = absurd h
write_caused_over (Some page) old new name off len (Err (Full total limit)) h = h
write_caused_over (Some page) old new name off len (Err (BadPage number kept found)) h = absurd h

pass_below : (size : Option ℕ) (layers : List Layer) (limits : List (List ℕ)) (lengths : Lengths) (name : List ℕ) (off end : ℕ) → pass (layers_over size layers) limits lengths name off end ≡ pass layers limits lengths name off end
unfolding pass
pass_below None layers limits lengths name off end = refl
pass_below (Some page) layers limits lengths name off end = refl

leaves_lengths_over : (size : Option ℕ) (old new : StackState) (fid : ℕ) (name : List ℕ) (passing : Passing) → LeavesLengths old new fid name passing → LeavesLengths (over size old) (over size new) fid name passing
leaves_lengths_over size old new fid name (Passes after) h = (h.0, λ is. h.1 (counted_below size old fid name is))
leaves_lengths_over size old new fid name (IsFull total limit) h = tt

write_counts_over : (size : Option ℕ) (old new : StackState) (fid : ℕ) (name : List ℕ) (off len : ℕ) (result : Result Unit VfsFault) → WriteCounts old new fid name off len result →
    WriteCounts (over size old) (over size new) fid name off len result
write_counts_over None old new fid name off len result h = h
write_counts_over (Some page) old new fid name off len (Ok done) h = λ told main.
    subst (λ p. LeavesLengths (over (Some page) old) (over (Some page) new) fid name p) (sym (pass_below (Some page) old.layers old.limits old.lengths name off (off + len)))
    (leaves_lengths_over (Some page) old new fid name (passing old name off len) (h told main))
write_counts_over (Some page) old new fid name off len (Err Failed) h = tt
write_counts_over (Some page) old new fid name off len (Err Memory) h = tt
write_counts_over (Some page) old new fid name off len (Err (Busy holder level)) h = absurd h
write_counts_over (Some page) old new fid name off len (Err (Full total limit)) h = λ told is. h told (counted_below (Some page) old fid name is)
write_counts_over (Some page) old new fid name off len (Err (BadPage number kept found)) h = absurd h

-- a write of what is kept below is a write of what is shown above
pub written_over : (size : Option ℕ) (old new : StackState) (fid : Fid) (off : ℕ) (bytes sealed : List ℕ) (result : Result Unit VfsFault) → IsSized size → Stands old →
    MayWrite (kind_of (name_at old fid.0)) (checked (layers_over size old.layers)) off bytes → IsSealedBy (own_size size (kind_of (name_at old fid.0))) bytes sealed →
    (IsTrue old.tells → off ≤ length ((over size old).files (name_at old fid.0)).now.bytes) → IsWritten old new fid off sealed result → IsWritten (over size old) (over size new) fid off bytes result
written_over size old new fid off bytes sealed result sized stands pages seal reach h =
    let name = name_at old fid.0 in
    let long : length sealed ≡ length bytes = sealed_size (own_size size (kind_of name)) bytes sealed seal in
    record {
      steady = steady_over size old new h.steady;
      cause = write_caused_over size old new name off (length bytes) result (subst (λ n. WriteCaused old new name off n result) long h.cause);
      rests = rests_but_over size old new fid.0 h.rests;
      counts = write_counts_over size old new fid.0 name off (length bytes) result (subst (λ n. WriteCounts old new fid.0 name off n result) long h.counts);
      leaves = write_leaves size old new name (old.delicate name) off bytes sealed result sized stands pages seal reach h.leaves;
      follows = write_follows size old new result fid.0 off (length bytes) (subst (λ n. Follows old new result (WriteUnsettles old new fid.0 off n)) long h.follows);
      logs = logs_over size old.layers old.log new.log (Write fid off (length bytes)) (outcome_of (λ _. Done) result)
          (subst (λ n. Logs old.layers old.log new.log (Write fid off n) (outcome_of (λ _. Done) result)) long h.logs);
      stands = stands_over size new sized h.stands;
    }

-- Lengths, and databases that begin as such

pub length_of_over : (size : Option ℕ) (s : StackState) (fid : ℕ) (result : Result ℕ VfsFault) → IfOk result (λ len. len ≡ length (file_at s fid).now.bytes) →
    IfOk result (λ len. len ≡ length (file_at (over size s) fid).now.bytes)
length_of_over size s fid (Ok len) h = h ∙ sym (length_over (own_size size (kind_of (name_at s fid))) (file_at s fid).now.bytes)
length_of_over size s fid (Err fault) h = tt

pub reach_below : (size : Option ℕ) (s : StackState) (fid n : ℕ) → n ≤ length (file_at (over size s) fid).now.bytes → n ≤ length (file_at s fid).now.bytes
reach_below size s fid n h = omega (arith, h, length_over (own_size size (kind_of (name_at s fid))) (file_at s fid).now.bytes)

header_size : length header_text ≡ 16
header_size = refl

header_over : (own : Option ℕ) (bytes : List ℕ) → IsSized own → IsTrue (has_header (bytes_over own bytes)) → IsTrue (has_header bytes)
header_over None bytes sized h = h
header_over (Some page) bytes sized h =
    let is = sized.each page refl in
    let some : 1 ≤ page = omega (arith, is.least) in
    let same : take (length header_text) (without_sums page 0 bytes) ≡ take (length header_text) bytes =
    take_same (length header_text) (without_sums page 0 bytes) bytes (λ i less.
    get_shown page bytes i ∙ shown_before_of page i (slice_get bytes i) (omega (arith, less, header_size, is.least))) in
    subst IsTrue (ap (λ xs. pointwise nat_eq header_text xs) same) h

pub tames_over : (size : Option ℕ) (old new : StackState) (fid : ℕ) (result : Result Unit VfsFault) → IsSized size → SyncTames old new fid result → SyncTames (over size old) (over size new) fid result
tames_over size old new fid (Err fault) sized h = tt
tames_over size old new fid (Ok done) sized h = record { tamed = λ told is some. h.tamed told (counted_below size old fid (name_at old fid) is) (below some) } where
  own : Option ℕ
  own = own_size size (kind_of (name_at old fid))

  bytes : List ℕ
  bytes = (new.files (name_at old fid)).now.bytes

  below : ((bytes_over own bytes ≡ []) ⊎ (IsTrue (has_header (bytes_over own bytes)) × (length (bytes_over own bytes) % 512 ≡ 0))) → ((bytes ≡ []) ⊎ (IsTrue (has_header bytes) × (length bytes % 512 ≡ 0)))
  below (inl empty) = inl (nil_from_length bytes (sym (length_over own bytes) ∙ ap length empty))
  below (inr whole) = inr (header_over own bytes (own_sized size (kind_of (name_at old fid)) sized) whole.0, ap (λ n. n % 512) (sym (length_over own bytes)) ∙ whole.1)
