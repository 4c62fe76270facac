-- A journal with more bytes than one has is not played back.
use Rattle.std.proofs.Common.{arith, ◌≡◌, ℕ, ◌*◌, ◌<◌, Bool, true, false, ◌&&◌, if◌then◌else◌, nat_eq, nat_le, List, length, Option, Some, None, refl, sym, ◌∙◌, ap, subst}
use Rattle.std.specs.List.{starts_with}
use Rattle.std.proofs.lemmas.Bool.Decides.{nat_tests}
use Rattle.journal_format.specs.Undo.{Undo}
use Rattle.journal_format.specs.Journal.{Hot, Cold, Foreign, Undoes, magic, hot, formed, of_form, is_size, all_exist, most_journal, most_database}
use Rattle.journal_format.specs.declared.read.Play.{Play}
use Rattle.journal_format.specs.Values.{undo_of}
use Rattle.journal_file.specs.Steps.{IsRead, IsUndoOf, IsWhole}

and_false : (b : Bool) → (b && false) ≡ false
and_false true = refl
and_false false = refl

over_test : (n m : ℕ) → m < n → nat_le n m ≡ false
over_test n m h = grind (arith, nat_tests, h)

form_false : (s p i len : ℕ) → nat_le len most_journal ≡ false → of_form s p i len ≡ false
form_false s p i len h =
    ap (λ b. is_size s && (is_size p && (nat_le s len && (nat_le (i * p) most_database && b)))) h
    ∙ ap (λ b. is_size s && (is_size p && (nat_le s len && b))) (and_false (nat_le (i * p) most_database))
    ∙ ap (λ b. is_size s && (is_size p && b)) (and_false (nat_le s len))
    ∙ ap (λ b. is_size s && b) (and_false (is_size p))
    ∙ and_false (is_size s)

unformed : (exists : List ℕ → Bool) (count nonce initial sector page : ℕ) (bytes : List ℕ) → most_journal < length bytes → formed exists count nonce initial sector page bytes ≡ Foreign
unfolding formed
unformed exists count nonce initial sector page bytes h = rw (form_false sector page initial (length bytes) (over_test (length bytes) most_journal h)) refl

chosen : (b : Bool) (f : Hot) (u : Undo) → f ≡ Foreign → (if b then f else Cold) ≡ Undoes u → ⊥
chosen true f u e is = let k : Foreign ≡ Undoes u = sym e ∙ is in cc
chosen false f u e is = let k : Cold ≡ Undoes u = is in cc

hot_short : (exists : List ℕ → Bool) (bytes : List ℕ) (u : Undo) → most_journal < length bytes → hot exists bytes ≡ Undoes u → ⊥
unfolding hot
hot_short exists bytes u h is = chosen (nat_le 28 (length bytes) && starts_with nat_eq bytes magic) _ u (unformed exists _ _ _ _ _ bytes h) is

pub none_read : (page : ℕ) (bytes : List ℕ) (found : Option (List ℕ)) → found ≡ None → IsWhole bytes found → IsRead page bytes None
none_read page bytes found none h u is page_is = let P : Option (List ℕ) → Type 0 = λ o. IsWhole bytes o in hot_short all_exist bytes u (subst P none h) is

pub undo_is : (u : Undo) (o : Option Play) (play : Play) → o ≡ Some play → IsUndoOf u o → undo_of play ≡ u
undo_is u o play is h = let P : Option Play → Type 0 = λ o. IsUndoOf u o in subst P is h

pub undo_none : (u : Undo) (o : Option Play) → o ≡ None → IsUndoOf u o → ⊥
undo_none u o is h = let P : Option Play → Type 0 = λ o. IsUndoOf u o in subst P is h
