-- The schema cookie where of the header of the database the freelist alone changes.
use Rattle.std.proofs.Common.{◌≡◌, inr, ◌≤◌, nat_eq, false, cond, sym, ap, ◌∙◌, arith}
use Rattle.std.proofs.lemmas.Bool.Decides.{nat_tests}
use Rattle.page_list.specs.Pages.{Pages, HasPage, word}
use Rattle.tree_laws.specs.Front.{FreelistFront, FrontKept}
use Rattle.table_store.specs.Cookie.{cookie_of}

-- where there is a page
pub cookie_there : (pages : Pages) → 1 ≤ pages.size → cookie_of pages ≡ word pages 1 40
cookie_there pages some = let other : nat_eq pages.size 0 ≡ false = grind (arith, nat_tests, some) in ap (λ b. cond b 0 (word pages 1 40)) other

pub word_stays : FrontKept → (old new : Pages) → FreelistFront old new → word new 1 40 ≡ word old 1 40
word_stays kept old new front = (kept.says old new front).number 4 40 (inr (omega arith, omega arith))

pub cookie_stays : FrontKept → (old new : Pages) → HasPage old 1 → old.size ≤ new.size → FreelistFront old new → cookie_of new ≡ cookie_of old
cookie_stays kept old new there more front =
    cookie_there new (omega (arith, there.most, more)) ∙ word_stays kept old new front ∙ sym (cookie_there old (omega (arith, there.most)))
