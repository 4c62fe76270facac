use Rattle.std.proofs.Common.{◌≡◌, List, [], ℕ, length, drop, replicate, ap, sym, subst, ◌∙◌}
use Rattle.std.proofs.lemmas.List.{take_at}
use Rattle.tree_page.specs.declared.cell.PageCells.TheVariants.{Leaf as LeafPage}
use Rattle.table_store.specs.MakeSteps.{BeginsWith}
use Rattle.table_store.proofs.FirstPageLemmas.{begins_with}
use Rattle.table_store.proofs.begin.first_page.Goals as goal

pub returns : goal.returns
returns c =
    let size = c.args.page_size in
    let usable = c.args.usable in
    let len = c.in_ok-page.page.len in
    let mid : List ℕ = c.write_page.new.page in
    let new : List ℕ = c.new_header.new.page in
    let long : len ≡ size = c.in_ok-page.ensures.len in
    let zeros_are : c.deref_mut.result.now ≡ replicate size 0 = c.deref_mut.ensures.value ∙ c.in_ok-page.ensures.items_if_clones_equal (λ y is. is) in
    let mid_long : length mid ≡ len = c.write_page.auto.page ∙ c.deref_mut.ensures.len in
    let mid_is : c.deref_mut-2.result.now ≡ mid = c.deref_mut-2.ensures.value ∙ take_at mid (drop (length mid) c.in_ok-page.page.items) len mid_long in
    let new_long : length new ≡ len = c.new_header.auto.page ∙ c.deref_mut-2.ensures.len in
    let back : drop usable mid ≡ drop usable (replicate size 0) = c.write_page.ensures.back ∙ ap (drop usable) zeros_are in
    let rest : drop 100 new ≡ drop 100 mid = c.new_header.ensures.rest ∙ ap (drop 100) mid_is in
    let none : c.from_vec.result ≡ [] = c.from_vec.ensures ∙ c.new.ensures.items in
    let B : List ℕ → Type 0 = λ l. BeginsWith size usable l in
    subst B (sym (take_at new _ len new_long))
    (begins_with c.front_apart.ensures size usable mid new (LeafPage c.from_vec.result) c.requires.size c.requires.least c.requires.most (ap (λ l. LeafPage l) none) (mid_long ∙ long) (new_long ∙ long)
    back c.write_page.ensures.reads rest c.new_header.ensures.new c.new_header.ensures.reads)
