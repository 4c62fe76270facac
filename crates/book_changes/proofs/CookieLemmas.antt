-- The schema cookie changes, and all trees stay.
use Rattle.std.proofs.Common.{◌≡◌, ◌≢◌, inl, ℕ, ◌*◌, ◌≤◌, nat_eq, cond, List, sym, ap, subst, ◌∙◌, arith}
use Rattle.db_format.specs.Header.{page_of, greatest_length}
use Rattle.db_format.proofs.PutLemmas.{same_number}
use Rattle.page_list.specs.Pages.{Pages, HasPage, Among}
use Rattle.page_list.specs.Freelist.{Trunk, AreTrunks, IsFreelist, free_pages, first_trunk}
use Rattle.page_list.proofs.ChainLemmas.{times-append}
use Rattle.tree_model.specs.Tree.{Tree}
use Rattle.tree_model.specs.Whole.{IsWholeFor, used_pages, named_pages, unsized_header}
use Rattle.tree_model.specs.Laws.{Keeps}
use Rattle.tree_model.proofs.WholeLemmas.{one_named, trunks_stay}
use Rattle.tree_laws.specs.Front.{WholeFront, KeepsFields}
use Rattle.tree_laws.proofs.TakeLemmas.{not_too_long}
use Rattle.book_changes.specs.Changes.{CookieChanges}
use Rattle.book_changes.proofs.FrameLemmas.{Frame}

has_page : (old new : Pages) → new.size ≡ old.size → (n : ℕ) → HasPage old n → HasPage new n
has_page old new size n has = record { least = has.least; most = omega (arith, has.most, size) }

same_page_size : (a b : List ℕ) → KeepsFields a b → page_of b ≡ page_of a
unfolding page_of
same_page_size a b keeps = ap (λ n. cond (nat_eq n 1) 65536 n) (same_number 2 16 b a (λ k low high. keeps.same k (inl (omega (arith, high)))))

pub cookie_whole : WholeFront → (old new : Pages) (roots : List ℕ) (trees : List Tree) (trunks : List Trunk) → IsWholeFor old roots trees trunks → CookieChanges old new
    → IsWholeFor new roots trees trunks × Frame old new (named_pages roots trees trunks) (named_pages roots trees trunks)
cookie_whole front old new roots trees trunks whole cookie =
    let there : (n : ℕ) → HasPage old n → HasPage new n = has_page old new cookie.size in
    let keeps : Keeps old new (λ n. n ≢ 1) = record { used = cookie.used; there = λ n other has. there n has; same = cookie.others } in
    let free_other : (n : ℕ) → Among (free_pages trunks) n → n ≢ 1 = λ n some same. omega (arith, (whole.freelist.within n some).1, same) in
    let A : ℕ → Type 0 = λ first. AreTrunks new first trunks in
    let freelist : IsFreelist new trunks = record {
      linked = subst A (sym cookie.trunk) (trunks_stay old new (λ n. n ≢ 1) (first_trunk old) trunks keeps free_other whole.freelist.linked);
      within = λ n some. (there n (whole.freelist.within n some).0, (whole.freelist.within n some).1);
      different = whole.freelist.different;
    } in
    let M : ℕ → Type 0 = λ n. page_of (unsized_header old) * n ≤ greatest_length in
    let one = one_named old roots trees trunks whole.each_tree in (
      front old new roots trees trunks trunks whole
          (record { used = cookie.used; there = λ n some has. there n has; same = λ n some. cookie.others n some.1 })
          cookie.front (omega (arith, cookie.size), subst M (sym cookie.size) (not_too_long old whole.header)) freelist
          (λ n some. (
            (cookie.others n (free_other n some)).mark_stays ∙ whole.good_free n some,
            λ twice. omega (arith, some, twice, times-append n (used_pages roots trees) (free_pages trunks), whole.different.once n),
          ))
          (cookie.count ∙ whole.counted),
      record {
        unnamed = λ n has not. (not, cookie.others n (λ same. not (subst (Among (named_pages roots trees trunks)) (sym same) one)));
        none_lost = λ n has not. (has_page new old (sym cookie.size) n has, not);
        no_fewer = omega (arith, cookie.size);
        counter = cookie.counter;
        page = same_page_size (old.bytes 1) (new.bytes 1) cookie.front.fields;
        usable = cookie.used;
      },
    )
