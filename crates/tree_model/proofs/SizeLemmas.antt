-- A header that is read without refusal, its size left aside, is so too where there are more pages, but not too many.
use Rattle.std.proofs.Common.{◌≡◌, inl, inr, ℕ, ◌+◌, ◌*◌, ◌-◌, ◌≤◌, ◌<◌, ◌==◌, nat_lt, Bool, true, false, not, ◌&&◌, ◌||◌, List, [], ◌∷◌, ◌++◌, length, take, drop, Option, Some, None, IsOk, slice_index, refl, sym, ap, subst, ◌∙◌, arith, mul-le-mul_left}
use Rattle.std.proofs.Math.Nat.{mul-mod_right}
use Rattle.std.proofs.lemmas.Bool.{cases_lt}
use Rattle.std.proofs.lemmas.List.{get_or-drop, get_or-append_right, get_or_append_left, drop_all, take_all, length-take-le}
use Rattle.std.specs.Bool.{then_some}
use Rattle.std.proofs.lemmas.Grind.{common_steps}
use Rattle.db_format.specs.Header.{header_of, ok_unless, first_of, refusals, fields_of, page_of, greatest_length, is_no_database, is_corrupt, has_size}
use Rattle.byte_base.specs.Numbers.{number_at}
use Rattle.db_format.specs.declared.header.Header.{Header}
use Rattle.db_format.specs.declared.header.HeaderFault.{HeaderFault}
use Rattle.db_format.specs.declared.header.HeaderFault.TheVariants.{NotADatabase, TooLarge, Corrupt}

-- none of these refusals is one
record AllNone (faults : List (Option HeaderFault)) : Type 0 where
  none : first_of faults ≡ None

abbrev FirstNone : Option HeaderFault → List (Option HeaderFault) → Type 0
FirstNone fault rest = (fault ≡ None) × AllNone rest

passed : (fault : Option HeaderFault) (rest : List (Option HeaderFault)) → AllNone (fault ∷ rest) → FirstNone fault rest
passed None rest e = (refl, record { none = e.none })
passed (Some f) rest e = absurd (some_none f e.none)
  where
    some_none : (f : HeaderFault) → ¬ (Some f ≡ None)
    some_none f e = cc

pass : (fault : Option HeaderFault) (rest : List (Option HeaderFault)) → fault ≡ None → AllNone rest → AllNone (fault ∷ rest)
pass fault rest e r = let P : Option HeaderFault → Type 0 = λ f. AllNone (f ∷ rest) in subst P (sym e) (record { none = r.none })

not_so : (c : Bool) (f : HeaderFault) → then_some c f ≡ None → c ≡ false
not_so true f e = absurd (some_none f e)
  where
    some_none : (f : HeaderFault) → ¬ (Some f ≡ None)
    some_none f e = cc
not_so false f e = refl

so_not : (c : Bool) (f : HeaderFault) → c ≡ false → then_some c f ≡ None
so_not c f e = let P : Bool → Type 0 = λ x. then_some x f ≡ None in subst P (sym e) refl

false_true : ¬ (false ≡ true)
false_true e = cc

pub no_fault : (fault : Option HeaderFault) (header : Header) → IsOk (ok_unless fault header) → fault ≡ None
no_fault None header ok = refl
no_fault (Some f) header ok = absurd (false_true ok)

accepted : (header : Header) (fault : Option HeaderFault) → fault ≡ None → IsOk (ok_unless fault header)
accepted header fault e = let P : Option HeaderFault → Type 0 = λ f. IsOk (ok_unless f header) in subst P (sym e) refl

or_false : (a b : Bool) → (a || b) ≡ false → (a ≡ false) × (b ≡ false)
or_false a b e = by a e
  where
    by : (a : Bool) → (a || b) ≡ false → (a ≡ false) × (b ≡ false)
    by true e = absurd (false_true (sym e))
    by false e = (refl, e)

false_or : (a b : Bool) → a ≡ false → b ≡ false → (a || b) ≡ false
false_or a b p q = cc

not_less : (n m k : ℕ) → n ≤ m → nat_lt n k ≡ false → nat_lt m k ≡ false
not_less n m k less e = grind (arith, less, e)

zero_is : (n : ℕ) → n ≡ 0 → not (n == 0) ≡ false
zero_is n e = let P : ℕ → Type 0 = λ x. not (x == 0) ≡ false in subst P (sym e) refl

none_and : (a b : Bool) → a ≡ false → (a && b) ≡ false
none_and a b e = let P : Bool → Type 0 = λ x. (x && b) ≡ false in subst P (sym e) refl

still_long : (b : List ℕ) (n m : ℕ) → n ≤ m → is_no_database b n ≡ false → is_no_database b m ≡ false
unfolding is_no_database
still_long b n m less e = let both = or_false _ _ e in false_or _ _ (not_less n m 100 less both.0) both.1

still_whole : (b : List ℕ) (n m : ℕ) → has_size b ≡ false → is_corrupt b n ≡ false → is_corrupt b (page_of b * m) ≡ false
unfolding is_corrupt
still_whole b n m none e = let both = or_false _ _ e in
    false_or _ _ both.0 (false_or _ _ (zero_is _ (mul-mod_right (page_of b) m)) (none_and _ _ none))

not_greater : (n k : ℕ) → n ≤ k → nat_lt k n ≡ false
not_greater n k most = grind (arith, most)

-- the refusals of a file that is longer, by whole pages and not too long, are none where those of a shorter one were none
pub longer_accepted : (b : List ℕ) (n m : ℕ) → has_size b ≡ false → n ≤ m → page_of b * m ≤ greatest_length
    → IsOk (header_of b (page_of b * n) None) → IsOk (header_of b (page_of b * m) None)
longer_accepted b n m none less most ok =
    let len : ℕ = page_of b * n in
    let long : ℕ = page_of b * m in
    let start : AllNone (refusals b len None) = record { none = no_fault _ (fields_of b len) ok } in
    let r1 = passed _ _ start in
    let r2 = passed _ _ r1.1 in
    let r3 = passed _ _ r2.1 in
    let r4 = passed _ _ r3.1 in
    let r5 = passed _ _ r4.1 in
    let r6 = passed _ _ r5.1 in
    let r7 = passed _ _ r6.1 in
    let r8 = passed _ _ r7.1 in
    let r9 = passed _ _ r8.1 in
    let r10 = passed _ _ r9.1 in
    let end : AllNone (refusals b long None) =
    pass _ _ (so_not _ NotADatabase (still_long b len long (mul-le-mul_left (page_of b) less) (not_so (is_no_database b len) NotADatabase r1.0)))
    (pass _ _ r2.0 (pass _ _ r3.0 (pass _ _ r4.0 (pass _ _ r5.0 (pass _ _ r6.0 (pass _ _ r7.0 (pass _ _ r8.0
    (pass _ _ (so_not _ (TooLarge long) (not_greater long greatest_length most))
    (pass _ _ (so_not _ Corrupt (still_whole b len m none (not_so (is_corrupt b len) Corrupt r10.0))) (record { none = refl })))))))))) in
    accepted (fields_of b long) (first_of (refusals b long None)) end.none

-- four zeros are no size, wherever the bytes end
pub zeros_at : (k : ℕ) → slice_index (0 ∷ 0 ∷ 0 ∷ 0 ∷ []) k ≡ 0
zeros_at k = grind (arith, common_steps)

abbrev zeros : List ℕ
zeros = 0 ∷ 0 ∷ 0 ∷ 0 ∷ []

at_28 : (bytes : List ℕ) (i : ℕ) → i < 4 → slice_index (drop 28 (take 28 bytes ++ 0 ∷ 0 ∷ 0 ∷ 0 ∷ drop 32 bytes)) i ≡ 0
at_28 bytes i within =
    let all : List ℕ = take 28 bytes ++ (zeros ++ drop 32 bytes) in
    get_or-drop 28 all i 0 ∙ elim (cases_lt (length bytes) 28) [
      | inl short ↦
          let none : drop 32 bytes ≡ [] = drop_all 32 bytes (omega (arith, short)) in
          let whole : take 28 bytes ≡ bytes = take_all 28 bytes (omega (arith, short)) in
          ap (λ (l : List ℕ). slice_index (l ++ (zeros ++ drop 32 bytes)) (28 + i)) whole
          ∙ get_or-append_right bytes (zeros ++ drop 32 bytes) (length bytes) (28 + i) 0 refl (omega (arith, short))
          ∙ ap (λ (l : List ℕ). slice_index (zeros ++ l) (28 + i - length bytes)) none
          ∙ zeros_at (28 + i - length bytes)
      | inr long ↦
          get_or-append_right (take 28 bytes) (zeros ++ drop 32 bytes) 28 (28 + i) 0 (length-take-le 28 bytes long) (omega arith)
          ∙ get_or_append_left zeros (drop 32 bytes) 0 (28 + i - 28) (omega (arith, within))
          ∙ zeros_at (28 + i - 28)
    ]

pub no_size : (bytes : List ℕ) → has_size (take 28 bytes ++ 0 ∷ 0 ∷ 0 ∷ 0 ∷ drop 32 bytes) ≡ false
unfolding has_size number_at
no_size bytes =
    let is_zero : number_at 4 (take 28 bytes ++ 0 ∷ 0 ∷ 0 ∷ 0 ∷ drop 32 bytes) 28 ≡ 0 =
    omega (arith, at_28 bytes 0 (omega arith), at_28 bytes 1 (omega arith), at_28 bytes 2 (omega arith), at_28 bytes 3 (omega arith)) in
    none_and _ _ (zero_is (number_at 4 (take 28 bytes ++ 0 ∷ 0 ∷ 0 ∷ 0 ∷ drop 32 bytes) 28) is_zero)
