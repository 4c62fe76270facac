-- Names of which a stop leaves what they are.
use Rattle.std.proofs.Common.{◌≡◌, List, refl, sym, ap, subst, arith, IsTrue}
use Rattle.std.specs.Option.{option_map_or}
use Rattle.vfs_model.specs.File.{absent}
use Rattle.vfs_model.specs.Effect.{NameSynced}
use Rattle.vfs_model.specs.Store.{NamesSynced}
use Rattle.mem_vfs.specs.declared.file.File.{File}
use Rattle.mem_vfs.specs.Memory.{store, file_state}
use Rattle.mem_vfs.specs.Change.{StayThere}
use Rattle.mem_vfs.proofs.StoreLemmas.{looser_same}
use Rattle.mem_vfs.proofs.PairLemmas.{Paired, paired_find}

pub record IsSure (f g : File) : Type 0 where
  pub name : g.name ≡ f.name
  pub synced : NameSynced (file_state f) (file_state g)

pub names_synced : (old new : List File) → Paired IsSure old new → NamesSynced (store old) (store new)
names_synced old new h = record {
  each = paired_find IsSure (λ f g p. p.name) (λ o p. NameSynced (option_map_or file_state o absent) (option_map_or file_state p absent))
      (record { stays = looser_same absent; sure = refl; gone = λ _ _. omega arith }) (λ f g p. p.synced) old new h;
}

pub names_stay : (old new : List File) → NamesSynced (store old) (store new) → StayThere old new
names_stay old new h = record {
  each = λ name there. subst IsTrue (ap (λ f. f.there) (sym ((h.each name).stays.now))) there;
}
