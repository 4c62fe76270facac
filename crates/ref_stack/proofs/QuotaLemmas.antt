-- Totals of a group.
use Rattle.std.proofs.Common.{◌≡◌, ℕ, ◌+◌, min, List, ◌∷◌, if◌then◌else◌, ap, ◌∙◌, arith}
use Rattle.vfs_model.specs.Pass.{OpenFile, group_of, is_number, sum_of_group, total_of}
use Rattle.vfs_model.specs.declared.layer.Group.{Group}

min_more : (own rest : ℕ) → min (own + min rest 18446744073709551615) 18446744073709551615 ≡ min (own + rest) 18446744073709551615
min_more own rest = omega arith

pub total_more : (groups : List Group) (number own : ℕ) (file : OpenFile) (more : List OpenFile) → own ≡ (if is_number number (group_of groups file.name) then file.len else 0) →
    min (own + total_of groups number more) 18446744073709551615 ≡ total_of groups number (file ∷ more)
total_more groups number own file more own_is =
    min_more own (sum_of_group groups number more)
    ∙ ap (λ n. min (n + sum_of_group groups number more) 18446744073709551615) own_is
