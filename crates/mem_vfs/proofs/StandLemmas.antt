-- What stands of a device in memory, whatever call was the last.
use Rattle.std.proofs.Common.{◌≡◌, ℕ, List, refl, rules, Option, Some, None, slice_get, find}
use Rattle.std.specs.Option.{option_map_or}
use Rattle.vfs_model.specs.File.{IsOrderly, absent}
use Rattle.vfs_model.specs.Lock.{all_free}
use Rattle.vfs_trait.specs.State.{Stands}
use Rattle.mem_vfs.specs.declared.file.File.{File}
use Rattle.mem_vfs.specs.declared.handles.Handle.{Handle}
use Rattle.mem_vfs.specs.Memory.{file_state, is_named, name_in, levels_in, HandlesApart}
use Rattle.mem_vfs.specs.Sure.{stack}

orderly : (file : Option File) → IsOrderly (option_map_or file_state file absent)
orderly None = search rules
orderly (Some file) = search rules

free : (handle : Option (Option Handle)) → name_in handle ≡ None → levels_in handle ≡ all_free
free None none = refl
free (Some None) none = refl
free (Some (Some handle)) none = cc

pub stands : (files : List File) (handles : List (Option Handle)) (faults : ℕ) → HandlesApart handles → Stands (stack files handles faults)
stands files handles faults apart = record {
  sound = λ _. record {
    orderly = λ name. orderly (find (is_named name) files);
    shows = λ name tame. refl;
    images = λ i image name tame. image.image name;
    tame = λ name none. search rules;
    unmarked = λ name none place. search rules;
  };
  counted = λ _ fid name counted tame. refl;
  only_open = tt;
  apart = record { each = apart };
  free = record { each = λ fid none. free (slice_get handles fid) none };
  sturdy = record { each = λ name closed. refl };
}
