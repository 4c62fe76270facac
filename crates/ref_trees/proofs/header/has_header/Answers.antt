use Rattle.std.proofs.Common.{ℕ, ◌*◌, List, take, sym, ap, ap₂, ◌∙◌}
use Rattle.std.proofs.lemmas.Bool.{false≢true}
use Rattle.ref_pages.specs.AsPages.{pages_of}
use Rattle.ref_trees.specs.ForestSteps.{without_size}
use Rattle.ref_trees.proofs.HeaderLemmas.{IsRead, accepted, refused, none_of}
use Rattle.ref_trees.proofs.header.has_header.Goals as goal

pub returns-then-accepted : goal.returns-then-accepted
returns-then-accepted c =
    let pages = pages_of c.args.pages.now in
    let len = c.from.result * c.from-2.result in
    let h : IsRead pages c.first_of-first.result c.page_of-page.result len c.read_header.result = record {
      there = c.in-Some.ensures.there;
      good = sym c.mark_of.ensures ∙ none_of c.mark_of.result (sym c.is_some.ensures ∙ c.if-is_some.false);
      first_is = c.first_of-first.ensures ∙ ap (λ (b : List ℕ). take 100 (without_size b)) c.in-Some.ensures.is;
      page_is = c.page_of-page.ensures;
      len_is = ap₂ (λ (m n : ℕ). m * n) c.from.ensures (c.from-2.ensures ∙ c.size.ensures.is);
      read = c.read_header.ensures.value;
    } in
    accepted c.header_in_front.ensures pages c.first_of-first.result c.page_of-page.result len c.usable.result c.reserved_of.result c.read_header.result h
    (sym c.is_ok-accepted.ensures.value ∙ c.if-accepted.true) c.usable.ensures.is c.reserved_of.ensures.is c.reserved_of.ensures.small

pub returns-else-accepted : goal.returns-else-accepted
returns-else-accepted c =
    let pages = pages_of c.args.pages.now in
    let len = c.from.result * c.from-2.result in
    let h : IsRead pages c.first_of-first.result c.page_of-page.result len c.read_header.result = record {
      there = c.in-Some.ensures.there;
      good = sym c.mark_of.ensures ∙ none_of c.mark_of.result (sym c.is_some.ensures ∙ c.if-is_some.false);
      first_is = c.first_of-first.ensures ∙ ap (λ (b : List ℕ). take 100 (without_size b)) c.in-Some.ensures.is;
      page_is = c.page_of-page.ensures;
      len_is = ap₂ (λ (m n : ℕ). m * n) c.from.ensures (c.from-2.ensures ∙ c.size.ensures.is);
      read = c.read_header.ensures.value;
    } in (
      λ is. absurd (false≢true (sym c.if-accepted.false ∙ is)),
      λ has. absurd (refused c.header_in_front.ensures pages c.first_of-first.result c.page_of-page.result len c.read_header.result h
          (λ ok. false≢true (sym c.if-accepted.false ∙ c.is_ok-accepted.ensures.value ∙ ok)) has),
    )
