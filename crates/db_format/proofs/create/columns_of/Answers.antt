use Rattle.std.proofs.Common.{◌≡◌, ℕ, ◌+◌, ◌<◌, List, [], ◌∷◌, ◌++◌, length, get_or, map, take, refl, sym, ap, ◌∙◌, subst, arith, rules}
use Rattle.std.proofs.lemmas.List.{take_more, take_all, length_push, map-append}
use Rattle.std.proofs.lemmas.Iterator.Splits.{YieldsList-from_slice_split}
use Rattle.std.proofs.lemmas.Iterator.Consumers.{YieldsList-turn, YieldsList-end}
use Rattle.std.specs.List.{slice_split}
use Rattle.db_format.specs.Create.{SpellsColumns}
use Rattle.db_format.specs.CreateSteps.{after_blanks}
use Rattle.db_format.proofs.BlankLemmas.{unpadded}
use Rattle.db_format.proofs.ColumnLemmas.{is_comma, columns_found, columns_only}
use Rattle.db_format.proofs.create.columns_of.Goals as goal

-- one piece more, without its blanks
one_more : (pieces columns : List (List ℕ)) (next : List (List ℕ)) (piece column : List ℕ) (count : ℕ) → columns ≡ map unpadded (take count pieces)
    → count < length pieces → piece ≡ get_or pieces count piece → column ≡ unpadded piece → next ≡ columns ++ column ∷ []
    → next ≡ map unpadded (take (count + 1) pieces)
one_more pieces columns next piece column count columns_are within piece_is column_is next_is =
    let longer : take (count + 1) pieces ≡ take count pieces ++ piece ∷ [] =
    take_more pieces count piece within ∙ ap (λ p. take count pieces ++ p ∷ []) (sym piece_is) in
    next_is ∙ ap (λ cs. cs ++ column ∷ []) columns_are ∙ ap (λ c. map unpadded (take count pieces) ++ c ∷ []) column_is
    ∙ sym (ap (map unpadded) longer ∙ map-append unpadded (take count pieces) (piece ∷ []))

pub loop-piece-preserved : goal.loop-piece-preserved
loop-piece-preserved c =
    let pieces = slice_split is_comma c.args.inside.now in
    let turn = YieldsList-turn (YieldsList-from_slice_split _ is_comma c.args.inside.now (cc) (cc) (cc) (λ x b q called. (refl, search (rules, called.shows, called.called))))
    c.loop-piece.yielded _ c.loop-piece.yielded_by _ _ c.in-Some.piece c.in-Some.is c.next.ensures.steps in
    one_more pieces c.loop-piece.columns.items c.push.new.self.items c.in-Some.piece.now c.from_vec.result (length c.loop-piece.yielded)
    c.loop-piece.invariant turn.0 turn.1
    (c.from_vec.ensures ∙ c.in_ok-from_slice.ensures.items ∙ c.after_blanks-column.ensures ∙ ap after_blanks c.before_blanks.ensures)
    c.in_ok-push.ensures.items
    ∙ ap (λ n. map unpadded (take n pieces)) (sym (length_push c.loop-piece.yielded c.in-Some.piece))

pub returns-clause-found : goal.returns-clause-found
returns-clause-found c =
    let pieces = slice_split is_comma c.args.inside.now in
    let end = YieldsList-end (YieldsList-from_slice_split _ is_comma c.args.inside.now (cc) (cc) (cc) (λ x b q called. (refl, search (rules, called.shows, called.called))))
    c.loop-piece.yielded _ c.loop-piece.yielded_by _ _ c.in-None.is c.next.ensures.steps in
    let columns_are : c.from_vec-2.result ≡ map unpadded pieces =
    c.from_vec-2.ensures ∙ c.loop-piece.invariant ∙ ap (map unpadded) (take_all (length c.loop-piece.yielded) pieces (omega (arith, end.1))) in
    subst (SpellsColumns c.args.inside.now) (sym columns_are) (columns_found c.args.inside.now)

pub returns-clause-only : goal.returns-clause-only
returns-clause-only c =
    let pieces = slice_split is_comma c.args.inside.now in
    let end = YieldsList-end (YieldsList-from_slice_split _ is_comma c.args.inside.now (cc) (cc) (cc) (λ x b q called. (refl, search (rules, called.shows, called.called))))
    c.loop-piece.yielded _ c.loop-piece.yielded_by _ _ c.in-None.is c.next.ensures.steps in
    λ columns are spelled.
    c.from_vec-2.ensures ∙ c.loop-piece.invariant ∙ ap (map unpadded) (take_all (length c.loop-piece.yielded) pieces (omega (arith, end.1)))
    ∙ columns_only c.args.inside.now columns are spelled
