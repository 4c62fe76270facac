-- What is asked of writes and cuts below a checksum layer with pages of 512 bytes.
use Rattle.std.proofs.Common.{rules, ◌≡◌, ℕ, ◌%◌, List, length, drop, replicate, Option, Some, None, sym, subst}
use Rattle.vfs_model.specs.declared.name.Kind.{Kind}
use Rattle.vfs_model.specs.declared.name.Kind.TheVariants.{Main, Journal, Super}
use Rattle.vfs_model.specs.declared.layer.Layer.{Layer}
use Rattle.vfs_trait.specs.Log.{Ring}
use Rattle.vfs_trait.specs.State.{StackState, NoneOpen}
use Rattle.cksum_vfs.specs.Summed.{over}
use Rattle.trace_vfs.specs.Traced.{fresh, traced}
use Rattle.vfs_trait.specs.Calls.{MayWrite, MayCutTo, IsWholePage}
use Rattle.layer_tests.specs.Given.{size_in}

no_size : (n : ℕ) → None ≡ Some n → ⊥
no_size n h = search rules

size_is : (page : ℕ) → Some page ≡ Some 512 → page ≡ 512
size_is page h = cc

whole : (off : ℕ) (bytes : List ℕ) → off % 512 ≡ 0 → length bytes ≡ 512 → drop 504 bytes ≡ replicate 8 0 → IsWholePage 512 off bytes
whole off bytes at one zeros = record { one = one; at = at; zeros = zeros }

pub may_write : (kind : Kind) (layer : Option (ℕ × List Layer)) (off : ℕ) (bytes : List ℕ) → size_in layer ≡ Some 512 → off % 512 ≡ 0 → length bytes ≡ 512 → drop 504 bytes ≡ replicate 8 0 →
    MayWrite kind layer off bytes
may_write Main None off bytes is at one zeros = absurd (no_size 512 is)
may_write Main (Some layer) off bytes is at one zeros = subst (λ n. IsWholePage n off bytes) (sym (size_is layer.0 is)) (whole off bytes at one zeros)
may_write Journal layer off bytes is at one zeros = tt
may_write Super layer off bytes is at one zeros = tt

pub may_cut : (kind : Kind) (layer : Option (ℕ × List Layer)) (len : ℕ) → size_in layer ≡ Some 512 → len % 512 ≡ 0 → MayCutTo kind layer len
may_cut Main None len is at = absurd (no_size 512 is)
may_cut Main (Some layer) len is at = subst (λ n. len % n ≡ 0) (sym (size_is layer.0 is)) at
may_cut Journal layer len is at = tt
may_cut Super layer len is at = tt

-- a layer over a stack in which no file is open has none open
pub closed_over : (own : Option ℕ) (s t : StackState) → over own t ≡ over (Some 512) s → NoneOpen s → NoneOpen (over own t)
closed_over own s t is none = let P : StackState → Type 0 = λ x. NoneOpen x in subst P (sym is) none

pub closed_traced : (kept : Option Ring) (s t : StackState) → traced kept t ≡ traced (Some (fresh 8)) s → NoneOpen s → NoneOpen (traced kept t)
closed_traced kept s t is none = let P : StackState → Type 0 = λ x. NoneOpen x in subst P (sym is) none
