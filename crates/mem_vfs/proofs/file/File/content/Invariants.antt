use Rattle.std.proofs.Common.{◌≡◌, ℕ, ◌<◌, length, slice_index}
use Rattle.mem_vfs.specs.Image.{byte_by}
use Rattle.mem_vfs.proofs.file.File.content.Given as goal

abbrev pub invariant-loop-place : goal.invariant-loop-place
invariant-loop-place l = record {
  size : length l.bytes.items ≡ l.place;
  each : (p : ℕ) → p < l.place → slice_index l.bytes.items p ≡ byte_by l.choice.bytes l.self p;
}
