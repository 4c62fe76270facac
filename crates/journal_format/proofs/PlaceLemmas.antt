-- Pages laid over a file, place by place.
use Rattle.std.proofs.Common.{arith, rules, ◌≡◌, ◌⊎◌, ℕ, ◌+◌, ◌-◌, ◌*◌, ◌≤◌, ◌<◌, List, [], ◌∷◌, length, slice_get, Option, Some, None, IsSome, inl, inr, refl, sym, ◌∙◌, ap, subst}
use Rattle.std.proofs.lemmas.Bool.{cases_lt}
use Rattle.std.proofs.lemmas.Option.{slice_get-get_or}
use Rattle.vfs_model.specs.Places.{same_places}
use Rattle.journal_format.specs.Undo.{Paged, start, piece, laid, over}
use Rattle.journal_format.specs.Laws.{PagesCover, SameLaid, OnePlayed}

-- the byte of a page at a place that it has, and beside it
piece_in : (page : ℕ) (r : Paged) (place : ℕ) → start page r.0 ≤ place → place < start page r.0 + page → piece page r place ≡ slice_get r.1 (place - start page r.0)
piece_in page r place low high = grind (arith, low, high)

piece_out : (page : ℕ) (r : Paged) (place : ℕ) → (place < start page r.0) ⊎ (start page r.0 + page ≤ place) → piece page r place ≡ None
piece_out page r place (inl low) = grind (arith, low)
piece_out page r place (inr high) = grind (arith, high)

some_over : (a b : Option ℕ) → IsSome b → IsSome (over a b)
some_over (Some x) b h = refl
some_over None b h = h

some_first : (a b : Option ℕ) → IsSome a → IsSome (over a b)
some_first (Some x) b h = refl
some_first None b h = absurd (search (rules, h))

there : (xs : List ℕ) (k : ℕ) → k < length xs → IsSome (slice_get xs k)
there xs k h = let P : Option ℕ → Type 0 = λ o. IsSome o in subst P (sym (slice_get-get_or xs k 0 h)) refl

pub pages_cover_holds : PagesCover
pages_cover_holds page [] number place are has low high = absurd has
pages_cover_holds page (r ∷ rs) number place are (inl e) low high =
    let low' : start page r.0 ≤ place = rw e low in
    let high' : place < start page r.0 + page = rw e high in
    let P : Option ℕ → Type 0 = λ o. IsSome o in
    some_over (laid page rs place) (piece page r place) (subst P (sym (piece_in page r place low' high')) (there r.1 _ (omega (arith, are.1, low', high'))))
pages_cover_holds page (r ∷ rs) number place are (inr has) low high =
    some_first (laid page rs place) (piece page r place) (pages_cover_holds page rs number place are.2 has low high)

over_over : (a b c : Option ℕ) → over (over a b) c ≡ over a (over b c)
over_over (Some x) b c = refl
over_over None b c = refl

over_itself : (o : Option ℕ) → over o o ≡ o
over_itself (Some x) = refl
over_itself None = refl

-- one page over a file that has it
one : (page : ℕ) (r : Paged) (bytes : List ℕ) (place : ℕ) → ((k : ℕ) → k < page → slice_get r.1 k ≡ slice_get bytes (start page r.0 + k))
    → over (piece page r place) (slice_get bytes place) ≡ slice_get bytes place
one page r bytes place same = elim (cases_lt place (start page r.0)) [
  | inl below ↦ rw (piece_out page r place (inl below)) refl
  | inr low ↦ elim (cases_lt place (start page r.0 + page)) [
    | inl high ↦
        let at : start page r.0 + (place - start page r.0) ≡ place = omega (arith, low) in
        let e : piece page r place ≡ slice_get bytes place = piece_in page r place low high ∙ same _ (omega (arith, low, high)) ∙ ap (slice_get bytes) at in
        rw e (over_itself (slice_get bytes place))
    | inr behind ↦ rw (piece_out page r place (inr behind)) refl
  ]
]

pub same_laid_holds : SameLaid
same_laid_holds page [] bytes place are = refl
same_laid_holds page (r ∷ rs) bytes place are =
    over_over (laid page rs place) (piece page r place) (slice_get bytes place)
    ∙ ap (over (laid page rs place)) (one page r bytes place are.0)
    ∙ same_laid_holds page rs bytes place are.1

pub one_played_holds : OnePlayed
one_played_holds u file a b first second =
    same_places a b (first.cut ∙ sym second.cut) (λ place within. let below : place < u.initial * u.page = omega (arith, within, second.cut) in first.each place below ∙ sym (second.each place below))
