-- A sync before a playback.
use Rattle.std.proofs.Common.{arith, ◌≡◌, ℕ, Bool, false, List, length, slice_get, Result, Ok, Err, ◌∙◌, ap}
use Rattle.vfs_model.specs.File.{Found, FileState, IsOrderly, IsImage, IsKept as IsSafe}
use Rattle.vfs_model.specs.Effect.{NoLooser, Synced}
use Rattle.vfs_model.specs.Laws.{OlderImages}
use Rattle.vfs_trait.specs.Calls.{SyncLeaves}
use Rattle.vfs_trait.specs.declared.fault.VfsFault.{VfsFault}
use Rattle.journal_format.specs.Journal.{all_exist, hot}
use Rattle.journal_file.specs.Content.{AllHaveStood}
use Rattle.journal_file.specs.Steps.{IsHotOver}

synced_image : (old new : FileState) (i : Found) → IsOrderly old → Synced old new → new.wild ≡ false → IsImage new i → IsImage old i
synced_image old new i orderly t tame image =
    let size : length new.now.bytes ≡ length old.now.bytes = ap (λ f. length f.bytes) t.now in
    let content = t.content tame in
    record {
      name = λ sure. image.name (t.sure sure) ∙ ap (λ f. f.there) t.now;
      missing = image.missing;
      no_shorter = λ is there. omega (arith, image.no_shorter tame there, content.shortest, size, orderly.no_shorter);
      no_longer = λ is. omega (arith, image.no_longer tame, content.longest, size, orderly.no_longer);
      kept = λ there place safe.
          let within : IsSafe new place = record { tame = tame; below = omega (arith, safe.below, orderly.no_shorter, size, content.shortest); synced = content.synced place (omega (arith, safe.below, orderly.no_shorter, size)) } in
          let now = image.kept there place within in
          (now.0 ∙ ap (λ f. slice_get f.bytes place) t.now, now.1 ∙ ap (λ f. f.bad place) t.now);
    }

sync_image : OlderImages → (old new : FileState) (r : Result Unit VfsFault) (i : Found) → IsOrderly old → SyncLeaves old new r → old.wild ≡ false → IsImage new i → IsImage old i
sync_image older old new (Ok x) i orderly t tame image = synced_image old new i orderly t (t.tame tame) image
sync_image older old new (Err e) i orderly t tame image = older old new i t image

pub sync_stood : OlderImages → (exists : List ℕ → Bool) (reserve : ℕ) (j d j' d' : FileState) (r : Result Unit VfsFault) → IsOrderly d → NoLooser j j' → SyncLeaves d d' r → d.wild ≡ false → AllHaveStood exists reserve j d j' d'
sync_stood older exists reserve j d j' d' r orderly h t tame i e ij id =
    record { older_j = i; older_d = e; is_journal = older j j' i h ij; is_db = sync_image older d d' r e orderly t tame id; same = λ content s. s }

pub still_over : (page : ℕ) (j d j' d' : FileState) → IsHotOver page j d → NoLooser j j' → Synced d d' → IsHotOver page j' d'
still_over page j d j' d' h k t = record {
  undo = h.undo;
  is_hot = ap (λ f. hot all_exist f.bytes) k.now ∙ h.is_hot;
  page_is = h.page_is;
  long = record { there = ap (λ f. f.there) t.now ∙ h.long.there; sure = t.sure h.long.sure; long = omega (arith, h.long.long, ap (λ f. length f.bytes) t.now) };
}
