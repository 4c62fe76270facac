-- Files that were made of names and bytes.
use Rattle.std.proofs.Common.{◌≡◌, ℕ, Bool, true, false, cond, List, [], ◌∷◌, length, replicate, refl, ap, ◌∙◌, Option, Some, find}
use Rattle.std.specs.Option.{option_map_or}
use Rattle.std.specs.Str.{bytes_eq}
use Rattle.std.proofs.lemmas.List.{length-replicate}
use Rattle.vfs_model.specs.File.{FileState, absent}
use Rattle.mem_vfs.specs.declared.file.File.{File}
use Rattle.mem_vfs.specs.Memory.{is_named, store, file_state, mark_at}
use Rattle.mem_vfs.specs.Given.{settled, given_state, Has}
use Rattle.mem_vfs.proofs.SpliceLemmas.{grown_mark}
use Rattle.mem_vfs.proofs.PairLemmas.{Paired}

-- the file was made of a name and its bytes
pub record IsMade (given : List ℕ × List ℕ) (f : File) : Type 0 where
  pub name : f.name ≡ given.0
  pub present : f.present.items ≡ given.1
  pub marks : f.marks.items ≡ replicate (length given.1) false
  pub shortest : f.shortest ≡ length given.1
  pub there : f.there ≡ true
  pub sure : f.sure ≡ true

-- a file in memory by its parts
abbrev state_of : List ℕ → List Bool → ℕ → Bool → Bool → FileState
state_of present marks shortest there sure = record {
  now = record { there = there; bytes = present; bad = λ _. false };
  unsynced = mark_at marks;
  shortest = shortest;
  longest = length marks;
  sure = sure;
  wild = false;
}

parts_settled : (bytes : List ℕ) → state_of bytes (replicate (length bytes) false) (length bytes) true true ≡ settled bytes
parts_settled bytes = λ i. record {
  now = record { there = true; bytes = bytes; bad = λ _. false };
  unsynced = λ place. grown_mark [] (length bytes) place i;
  shortest = length bytes;
  longest = length-replicate (length bytes) false i;
  sure = true;
  wild = false;
}

pub made_settled : (given : List ℕ × List ℕ) (f : File) → IsMade given f → file_state f ≡ settled given.1
made_settled given f made =
    ap (λ bytes. state_of bytes f.marks.items f.shortest f.there f.sure) made.present
    ∙ ap (λ marks. state_of given.1 marks f.shortest f.there f.sure) made.marks
    ∙ ap (λ n. state_of given.1 (replicate (length given.1) false) n f.there f.sure) made.shortest
    ∙ ap (λ b. state_of given.1 (replicate (length given.1) false) (length given.1) b f.sure) made.there
    ∙ ap (λ b. state_of given.1 (replicate (length given.1) false) (length given.1) true b) made.sure
    ∙ parts_settled given.1

chosen : (b : Bool) (f : File) (files : Option File) (given : Option (List ℕ × List ℕ)) (g : List ℕ × List ℕ) → file_state f ≡ settled g.1
    → option_map_or file_state files absent ≡ option_map_or (λ file. settled file.1) given absent
    → option_map_or file_state (cond b (Some f) files) absent ≡ option_map_or (λ file. settled file.1) (cond b (Some g) given) absent
chosen true f files given g here rest = here
chosen false f files given g here rest = rest

made_store : (given : List (List ℕ × List ℕ)) (files : List File) → Paired IsMade given files → (name : List ℕ) → store files name ≡ given_state given name
made_store [] [] made name = refl
made_store [] (f ∷ files) made name = absurd made
made_store (g ∷ given) [] made name = absurd made
made_store (g ∷ given) (f ∷ files) made name =
    ap (λ n. option_map_or file_state (cond (bytes_eq n name) (Some f) (find (is_named name) files)) absent) made.0.name
    ∙ chosen (bytes_eq g.0 name) f (find (is_named name) files) (find (λ file. bytes_eq file.0 name) given) g (made_settled g f made.0) (made_store given files made.1 name)

pub made_has : (given : List (List ℕ × List ℕ)) (files : List File) → Paired IsMade given files → Has (store files) given
made_has given files made = record { each = made_store given files made }
