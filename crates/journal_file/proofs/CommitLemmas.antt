-- A commit, by what its steps leave.
use Rattle.std.proofs.Common.{arith, ◌≡◌, ℕ, ◌^◌, ◌≤◌, Bool, List, [], ◌∷◌, length, IsTrue, None, Result, Ok, Err, OnOk, inl, inr, refl, sym, ◌∙◌, ap, subst}
use Rattle.vfs_model.specs.File.{Found, FileState, IsOrderly, IsImage, IsSettled}
use Rattle.vfs_model.specs.Effect.{NoLooser}
use Rattle.vfs_model.specs.Laws.{OlderImages, OnlyImage}
use Rattle.vfs_trait.specs.declared.fault.VfsFault.{VfsFault}
use Rattle.journal_format.specs.Undo.{Paged, Undo, piece, laid, over, HasPage, ArePages, AreUpTo}
use Rattle.journal_format.specs.Journal.{Hot, Undoes, hot, journal, IsPlan}
use Rattle.journal_format.specs.Laws.{PagesCover, ReadBack, FewRecords}
use Rattle.journal_file.specs.Content.{cleared, all_cleared, with_reserve, SameContent, IsUndone, Shows, AllStandFor, AllStandForEither}
use Rattle.journal_file.specs.Steps.{IsShut, IsLong, IsKept, with_first}
use Rattle.journal_file.specs.Laws.{ShutIsCold, ColdStands, GateStands, KeptImage, KeptStands}
use Rattle.journal_file.specs.Commit.{AreAmong, changed, IsReady, Counts, HasBegun, HasChanged}
use Rattle.journal_file.proofs.StackLemmas.{looser_same}
use Rattle.journal_file.proofs.PlaceLemmas.{clear, piece_out, kept_kept, stays_kept, pages_cleared}
use Rattle.journal_file.proofs.ExitLemmas.{either_same, settled_found, undone_once, settled_looser}

-- pages among the originals have no byte where those have none

has_cleared : (reserve : ℕ) (os : List Paged) (number : ℕ) → HasPage os number → HasPage (all_cleared reserve os) number
has_cleared reserve [] number h = h
has_cleared reserve (o ∷ os) number (inl h) = inl h
has_cleared reserve (o ∷ os) number (inr h) = inr (has_cleared reserve os number h)

none_laid : PagesCover → (page reserve : ℕ) (os rs : List Paged) (place : ℕ) → ArePages page (all_cleared reserve os) → AreAmong os rs → laid page (all_cleared reserve os) place ≡ None →
    laid page (all_cleared reserve rs) place ≡ None
none_laid cover page reserve os [] place are among none = refl
none_laid cover page reserve os (r ∷ rs) place are among none =
    ap (λ o. over o (piece page (r.0, cleared reserve r.1) place)) (none_laid cover page reserve os rs place are among.1 none)
    ∙ piece_out page (r.0, cleared reserve r.1) place (clear cover page (all_cleared reserve os) r.0 place are (has_cleared reserve os r.0 among.0) none)

-- what was kept of a file for these pages was kept for the originals
kept_among : PagesCover → (reserve : ℕ) (u : Undo) (rs : List Paged) (old new : FileState) → reserve ≤ u.page → ArePages u.page u.originals → AreAmong u.originals rs →
    IsKept (with_reserve reserve (changed u rs)) old new → IsKept (with_reserve reserve u) old new
kept_among cover reserve u rs old new fits are among k = record {
  there = k.there;
  sure = k.sure;
  tame = k.tame;
  long = k.long;
  each = λ place w none. k.each place w (none_here place none);
  shortest = k.shortest;
  safe = λ place w none. k.safe place w (none_here place none);
} where
  none_here : (place : ℕ) → laid u.page (all_cleared reserve u.originals) place ≡ None → laid u.page (all_cleared reserve rs) place ≡ None
  none_here place none = none_laid cover u.page reserve u.originals rs place (pages_cleared u.page reserve u.originals fits are) among none

pub among_within : (last : ℕ) (os rs : List Paged) → AreUpTo last os → AreAmong os rs → AreUpTo last rs
among_within last os [] within among = tt
among_within last os (r ∷ rs) within among = (up_to os within among.0, among_within last os rs within among.1) where
  up_to : (os : List Paged) → AreUpTo last os → HasPage os r.0 → r.0 ≤ last
  up_to [] within h = absurd h
  up_to (o ∷ os) within (inl h) = omega (arith, within.0, h)
  up_to (o ∷ os) within (inr h) = up_to os within.1 h

-- what a settled file stands for

settled_same : OnlyImage → OlderImages → (s t : FileState) (i : Found) → IsSettled s → IsTrue s.now.there → NoLooser s t → IsImage t i → SameContent i s.now
settled_same only older s t i settled there stays image =
    let found = settled_found only older s t i settled there stays image in
    record {
      size = sym found.size;
      each = λ place w. let same = found.each place (omega (arith, w, found.size)) in (sym same.0, sym same.1);
    }

-- the journal of a plan, where it counts
counted_hot : ReadBack → (exists : List ℕ → Bool) (nonce : ℕ) (u : Undo) → IsPlan nonce u → Counts exists u → hot exists (journal 217 nonce u) ≡ Undoes u
counted_hot read exists nonce u plan counts = read exists nonce u plan ∙ counts

-- laws that a commit uses
pub record CommitLaws : Type 0 where
  pub older : OlderImages
  pub only : OnlyImage
  pub cover : PagesCover
  pub read : ReadBack
  pub cold : ColdStands
  pub gate : GateStands
  pub image : KeptImage
  pub stands : KeptStands
  pub shut : ShutIsCold

-- an image of a database that was kept, under a journal that is open
opened_shows : CommitLaws → (exists : List ℕ → Bool) (reserve nonce : ℕ) (u : Undo) (first new : FileState) (bytes : List ℕ) (i : Found) → IsPlan nonce u → Counts exists u → bytes ≡ journal 217 nonce u → IsReady reserve u first →
    IsKept (with_reserve reserve u) first new → IsImage new i → Shows reserve (hot exists bytes) i first.now
opened_shows laws exists reserve nonce u first new bytes i plan counts is ready kept image =
    let P : Hot → Type 0 = λ h. Shows reserve h i first.now in
    subst P (sym (ap (hot exists) is ∙ counted_hot laws.read exists nonce u plan counts)) (laws.image (with_reserve reserve u) first new i first.now ready.settled ready.there kept ready.same image)

-- until the pages are written, what a stop leaves stands for the file before
pub begun_stands : CommitLaws → (exists : List ℕ → Bool) (reserve nonce : ℕ) (u : Undo) (j d d' : FileState) → HasBegun (journal 0 nonce u) j → IsReady reserve u d → NoLooser d d' → IsOrderly d' → IsPlan nonce u → Counts exists u →
    AllStandFor exists reserve j d' d.now
begun_stands laws exists reserve nonce u j d d' (inl cold) ready stays orderly plan counts =
    let P : Found → Type 0 = λ f. AllStandFor exists reserve j d' f in subst P stays.now (laws.cold exists reserve j d' cold (settled_looser d d' ready.settled stays) orderly)
begun_stands laws exists reserve nonce u j d d' (inr but) ready stays orderly plan counts = either_same exists reserve j d' d.now (laws.gate exists reserve j d' (journal 0 nonce u) d.now d.now but
    (λ i id. opened_shows laws exists reserve nonce u d d' (with_first 217 (journal 0 nonce u)) i plan counts refl ready (stays_kept (with_reserve reserve u) d d' stays) id)
    (λ i id. settled_same laws.only laws.older d d' i ready.settled ready.there stays id))

-- the journal is open, and settled
pub record IsOpened (nonce : ℕ) (u : Undo) (j : FileState) : Type 0 where
  pub settled : IsSettled j
  pub there : IsTrue j.now.there
  pub bytes : j.now.bytes ≡ journal 217 nonce u

-- from then on it stands for the file before or after
pub changed_stands : CommitLaws → (exists : List ℕ → Bool) (reserve nonce : ℕ) (u : Undo) (rs : List Paged) (j d0 d j' d' : FileState) (after : Found) → IsOpened nonce u j → IsReady reserve u d0 → NoLooser d0 d → IsPlan nonce u → Counts exists u →
    reserve ≤ u.page → AreAmong u.originals rs → HasChanged (with_reserve reserve (changed u rs)) j d j' d' → IsUndone (with_reserve reserve (changed u rs)) d0.now after → AllStandForEither exists reserve j' d' d0.now after
changed_stands laws exists reserve nonce u rs j d0 d j' d' after opened ready stays plan counts fits among (inl writing) after_is i e ij id =
    let v = with_reserve reserve u in
    let kept = kept_kept v d0 d d' (stays_kept v d0 d stays) (kept_among laws.cover reserve u rs d d' fits plan.pages among writing.kept) in
    inl (laws.stands exists reserve u j' d0 d' d0.now (settled_looser j j' opened.settled writing.stays) (ap (λ f. f.there) writing.stays.now ∙ opened.there)
    (ap (λ f. hot exists f.bytes) writing.stays.now ∙ ap (hot exists) opened.bytes ∙ counted_hot laws.read exists nonce u plan counts) ready.settled ready.there kept ready.same i e ij id)
changed_stands laws exists reserve nonce u rs j d0 d j' d' after opened ready stays plan counts fits among (inr closing) after_is i e ij id =
    let v = with_reserve reserve u in
    let kept = kept_kept v d0 d d' (stays_kept v d0 d stays) (kept_among laws.cover reserve u rs d d' fits plan.pages among closing.kept) in
    let P : Found → Type 0 = λ f. IsUndone (with_reserve reserve (changed u rs)) f d'.now in
    laws.gate exists reserve j' d' j.now.bytes d0.now after closing.but
    (λ k kd. opened_shows laws exists reserve nonce u d0 d' (with_first 217 j.now.bytes) k plan counts (ap (with_first 217) opened.bytes) ready kept kd)
    (λ k kd. undone_once (with_reserve reserve (changed u rs)) d0.now d'.now after k (subst P stays.now closing.done) after_is
    (settled_found laws.only laws.older d' d' k closing.settled (closing.kept.there ∙ ap (λ f. f.there) stays.now ∙ ready.there) (looser_same d') kd)) i e ij id

-- once it is done it stands for the file as it is then
pub stands_then : ColdStands → ShutIsCold → (reserve : ℕ) (r : Result Unit VfsFault) (j d : FileState) (T S A : Type 0) → (T → S) → OnOk r (S → IsShut j) → OnOk r (S → A → IsSettled d) → (T → IsOrderly d) →
    OnOk r ((exists : List ℕ → Bool) → T → A → AllStandFor exists reserve j d d.now)
stands_then cold shut_cold reserve (Ok x) j d T S A next shut settled orderly = λ exists t a. cold exists reserve j d (shut_cold j (shut (next t))) (settled (next t) a) (orderly t)
stands_then cold shut_cold reserve (Err e) j d T S A next shut settled orderly = tt

pub done_from : (u : Undo) (d0 d : FileState) (found : Found) → NoLooser d0 d → IsUndone u d.now found → IsUndone u d0.now found
done_from u d0 d found stays done = let P : Found → Type 0 = λ f. IsUndone u f found in subst P stays.now done

pub ready_long : (reserve : ℕ) (u : Undo) (rs : List Paged) (d0 d : FileState) → IsReady reserve u d0 → NoLooser d0 d → IsLong (changed u rs) d
ready_long reserve u rs d0 d ready stays = record {
  there = ap (λ f. f.there) stays.now ∙ ready.there;
  sure = stays.sure ready.settled.sure;
  long = omega (arith, ready.same.bytes.long, ap (λ f. length f.bytes) stays.now);
}

pub some_bytes : (first nonce : ℕ) (u : Undo) (bytes : List ℕ) → bytes ≡ journal first nonce u → 1 ≤ length bytes
some_bytes first nonce u bytes e = let k : length bytes ≡ length (journal first nonce u) = ap length e in omega (arith, k)

pub few_bytes : FewRecords → (nonce : ℕ) (u : Undo) (bytes : List ℕ) → IsPlan nonce u → bytes ≡ journal 0 nonce u → length bytes ≤ 2 ^ 32
few_bytes few nonce u bytes plan is =
    let k : length bytes ≡ length (journal 0 nonce u) = ap length is in
    let same : length (journal 0 nonce u) ≡ length (journal 217 nonce u) = refl in
    omega (arith, k, same, (few nonce u plan).2)
