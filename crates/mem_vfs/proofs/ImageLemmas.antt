-- Images of files in memory, each by itself.
use Rattle.std.proofs.Common.{◌≡◌, List, refl, arith, false, Option, IsTrue}
use Rattle.std.specs.Option.{option_map_or}
use Rattle.vfs_model.specs.File.{FileState, absent, nothing, IsImage, IsSettled}
use Rattle.mem_vfs.specs.declared.file.File.{File}
use Rattle.mem_vfs.specs.declared.choice.ImageChoice.{ImageChoice}
use Rattle.mem_vfs.specs.Memory.{file_state}
use Rattle.mem_vfs.specs.Image.{IsChosen, IsChosenOf, AreImagesBy}
use Rattle.mem_vfs.proofs.PairLemmas.{Paired, paired_find}

-- the second file is the image of the first that a choice names
pub record IsImageFile (choice : ImageChoice) (f g : File) : Type 0 where
  pub name : g.name ≡ f.name
  pub image : IsImage (file_state f) (file_state g).now
  pub settled : IsSettled (file_state g)
  pub chosen : IsChosen choice f (file_state g).now

abbrev state_in : Option File → FileState
state_in o = option_map_or file_state o absent

no : IsTrue false → ⊥
no h = cc

absent_image : IsImage absent nothing
absent_image = record { name = λ _. refl; missing = λ _. refl; no_shorter = λ _ there. absurd (no there); no_longer = λ _. omega arith; kept = λ there. absurd (no there) }

absent_settled : IsSettled absent
absent_settled = record { tame = refl; sure = refl; content = record { shortest = omega arith; longest = omega arith; synced = λ place less. refl } }

pub images_by : (choice : ImageChoice) (old new : List File) → Paired (IsImageFile choice) old new → AreImagesBy choice old new
images_by choice old new h = record {
  image = paired_find (IsImageFile choice) (λ f g p. p.name) (λ o p. IsImage (state_in o) (state_in p).now) absent_image (λ f g p. p.image) old new h;
  settled = record { each = paired_find (IsImageFile choice) (λ f g p. p.name) (λ o p. IsSettled (state_in p)) absent_settled (λ f g p. p.settled) old new h };
  chosen = record { each = paired_find (IsImageFile choice) (λ f g p. p.name) (λ o p. IsChosenOf choice o (state_in p).now) refl (λ f g p. p.chosen) old new h };
}
