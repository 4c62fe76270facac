-- What a shelf that a change has made tells of the change.
use Rattle.std.proofs.Common.{◌≡◌, ◌↔◌, ℕ, ◌+◌, nat_le, Bool, IsTrue, length, sym, ap, ◌∙◌}
use Rattle.book_model.specs.Book.{Book, use_of, need_of}
use Rattle.shell_model.specs.Cases.{too_many}
use Rattle.shell_laws.proofs.ChangeLemmas.{need_sized}
use Rattle.ref_shell.specs.Shelf.{Becomes, passes}

-- numbers of pages change no need
needs : (old new : Book) (to : ℕ → Book) → (is : Becomes old to new) → need_of new ≡ need_of (to is.root)
needs old new to is = ap need_of is.is ∙ need_sized (record { pages = is.pages; free = is.free; root = 0; rows = 0; found = old }) (to is.root)

pub told : (old new : Book) (to : ℕ → Book) (answer : Bool) → ((r r' : ℕ) → to r ≡ to r') → Becomes old to new → answer ≡ passes old new →
    IsTrue answer ↔ ((root : ℕ) × IsTrue (passes old (to root)))
told old new to answer one is tells =
    let same : passes old new ≡ passes old (to is.root) = ap (λ n. nat_le (too_many old) (length old.unnamed + use_of old + n)) (needs old new to is) in (
      λ yes. (is.root, sym same ∙ sym tells ∙ yes),
      λ some. tells ∙ same ∙ ap (passes old) (one is.root some.0) ∙ some.1,
    )
