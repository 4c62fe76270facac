use Rattle.std.proofs.Common.{◌≡◌, ℕ, ◌+◌, ◌≤◌, ◌<◌, ◌⊎◌, nat_eq, Bool, true, false, ◌||◌, cond, List, [], ◌∷◌, length, set, refl, ap, ◌∙◌, inl, ⊎_elim, arith, get_or-set_other, get_or-set_same, length-set}
use Rattle.std.proofs.lemmas.Grind.{common_steps}
use Rattle.db_format.specs.declared.header.Header.{Header}
use Rattle.db_format.specs.Header.{page_of, Says, KeepsOthers, is_among, is_field}
use Rattle.byte_base.specs.Numbers.{number_at}
use Rattle.db_format.specs.HeaderSteps.{Puts}
use Rattle.db_format.proofs.PutLemmas.{same_number, stays_before}

neither : (a b : Bool) → a || b ≡ false → (a ≡ false) × (b ≡ false)
neither true b none = cc
neither false b none = (refl, none)

-- a place that is none of these lies before or behind them
outside : (first count place : ℕ) → is_among first count place ≡ false → (place < first) ⊎ (first + count ≤ place)
outside first count place out = grind (arith, common_steps)

-- the pages between the five writes of a header, from the old one to the new one
pub record Writes (h : Header) (code : ℕ) (old coded counted formed new : List ℕ) : Type 0 where
  pub room : 100 ≤ length old
  pub code_is : cond (nat_eq code 1) 65536 code ≡ h.page
  pub codes_page : Puts 2 old coded 16 (code ∷ [])
  pub counts : Puts 4 (set coded 20 h.reserved) counted 24 (h.counter ∷ h.size ∷ h.first_trunk ∷ h.free_pages ∷ h.cookie ∷ 4 ∷ [])
  pub forms : Puts 4 counted formed 56 (1 ∷ [])
  pub marks : Puts 4 formed new 92 (h.counter ∷ 3040000 ∷ [])

-- each of the six numbers from 24 on is the one that was put there
counted_at : (h : Header) (code : ℕ) (old coded counted formed new : List ℕ) → Writes h code old coded counted formed new
    → (place : ℕ) → 24 ≤ place → place < 48 → number_at 4 new place ≡ number_at 4 counted place
counted_at h code old coded counted formed new w place low high =
    stays_before 4 place 4 92 formed new _ w.marks (omega arith) ∙ stays_before 4 place 4 56 counted formed _ w.forms (omega arith)

pub says : (h : Header) (code : ℕ) (old coded counted formed new : List ℕ) → Writes h code old coded counted formed new → Says h new
unfolding page_of
says h code old coded counted formed new w =
    let count = counted_at h code old coded counted formed new w in
    let code_at : number_at 2 new 16 ≡ code =
    stays_before 2 16 4 92 formed new _ w.marks (omega arith) ∙ stays_before 2 16 4 56 counted formed _ w.forms (omega arith)
    ∙ stays_before 2 16 4 24 _ counted _ w.counts (omega arith)
    ∙ same_number 2 16 (set coded 20 h.reserved) coded (λ k low high. get_or-set_other coded 20 k h.reserved 0 (omega arith))
    ∙ w.codes_page.inside 0 (omega arith) in
    record {
      page_size = ap (λ n. cond (nat_eq n 1) 65536 n) code_at ∙ w.code_is;
      reserve = w.marks.beside 20 (inl (omega arith)) ∙ w.forms.beside 20 (inl (omega arith)) ∙ w.counts.beside 20 (inl (omega arith))
          ∙ get_or-set_same coded 20 h.reserved 0 (omega (arith, w.codes_page.size, w.room));
      change_counter = count 24 (omega arith) (omega arith) ∙ w.counts.inside 0 (omega arith);
      pages = count 28 (omega arith) (omega arith) ∙ w.counts.inside 1 (omega arith);
      trunk = count 32 (omega arith) (omega arith) ∙ w.counts.inside 2 (omega arith);
      free = count 36 (omega arith) (omega arith) ∙ w.counts.inside 3 (omega arith);
      schema_cookie = count 40 (omega arith) (omega arith) ∙ w.counts.inside 4 (omega arith);
      schema_format = count 44 (omega arith) (omega arith) ∙ w.counts.inside 5 (omega arith);
      encoding = stays_before 4 56 4 92 formed new _ w.marks (omega arith) ∙ w.forms.inside 0 (omega arith);
      valid_for = w.marks.inside 0 (omega arith);
      writer = w.marks.inside 1 (omega arith);
    }

pub keeps : (h : Header) (code : ℕ) (old coded counted formed new : List ℕ) → Writes h code old coded counted formed new → KeepsOthers old new
unfolding is_field
keeps h code old coded counted formed new w = record {
  size = w.marks.size ∙ w.forms.size ∙ w.counts.size ∙ length-set coded 20 h.reserved ∙ w.codes_page.size;
  others = λ place out.
      let p1 = neither _ _ out in
      let p2 = neither _ _ p1.1 in
      let p3 = neither _ _ p2.1 in
      let p4 = neither _ _ p3.1 in
      w.marks.beside place (outside 92 8 place p4.1) ∙ w.forms.beside place (outside 56 4 place p4.0)
      ∙ w.counts.beside place (outside 24 24 place p3.0)
      ∙ get_or-set_other coded 20 place h.reserved 0 (⊎_elim (λ (low : place < 20). omega arith) (λ (high : 20 + 1 ≤ place). omega arith) (outside 20 1 place p2.0))
      ∙ w.codes_page.beside place (outside 16 2 place p1.0);
}
