use Rattle.std.proofs.Common.{◌≡◌, ◌≢◌, ℕ, suc, ◌+◌, ◌-◌, ◌<◌, ◌≤◌, nat_eq, false, List, [], ◌∷◌, ◌++◌, length, get_or, drop, codes, refl, sym, ap, ◌∙◌, ⊎_elim, arith, append_assoc, length-append, All}
use Rattle.std.proofs.lemmas.Bool.{eqb-false, cases_lt}
use Rattle.std.proofs.lemmas.List.{append_cancel_left, get_or_append_left, get_or-append_right, get_or-replicate, length-replicate, get_or_at}
use Rattle.std.specs.List.{suffix_len}
use Rattle.db_format.specs.CreateSteps.{before_blanks}
use Rattle.db_format.specs.Create.{blanks, IsIdentifier, HasParts}
use Rattle.db_format.proofs.BlankLemmas.{is_blank, before_is, before_bare, other_byte}

abbrev pub create_table : List ℕ
create_table = codes "CREATE TABLE "

-- a text that was cut at its parenthesis and freed of blanks has these parts
pub parts_found : (sql head rest inside : List ℕ) → sql ≡ create_table ++ (head ++ 40 ∷ rest) → before_blanks rest ≡ inside ++ 41 ∷ []
    → HasParts sql (before_blanks head) inside
parts_found sql head rest inside sql_is inner_is =
    let name = before_blanks head in
    let before : ℕ = suffix_len is_blank head in
    let after : ℕ = suffix_len is_blank rest in
    let behind : rest ≡ inside ++ 41 ∷ blanks after =
    before_is rest ∙ ap (λ i. i ++ blanks after) inner_is ∙ append_assoc inside (41 ∷ []) (blanks after) in
    record {
      before = before;
      after = after;
      whole = sql_is
          ∙ ap (λ h. create_table ++ (h ++ 40 ∷ rest)) (before_is head)
          ∙ ap (λ t. create_table ++ t) (append_assoc name (blanks before) (40 ∷ rest))
          ∙ ap (λ r. create_table ++ (name ++ (blanks before ++ 40 ∷ r))) behind;
    }

-- a text is cut in one way at the first of these bytes
first_cut : (xs ys us vs : List ℕ) → All (λ b. b ≢ 40) xs → All (λ b. b ≢ 40) us → xs ++ 40 ∷ ys ≡ us ++ 40 ∷ vs → (xs ≡ us) × (ys ≡ vs)
first_cut [] ys [] vs none_x none_u same = (refl, ap (drop 1) same)
first_cut [] ys (u ∷ us) vs none_x none_u same = let first : 40 ≡ u = cc in absurd (none_u 0 0 (omega arith) (sym first))
first_cut (x ∷ xs) ys [] vs none_x none_u same = let first : x ≡ 40 = cc in absurd (none_x 0 0 (omega arith) first)
first_cut (x ∷ xs) ys (u ∷ us) vs none_x none_u same =
    let first : x ≡ u = cc in
    let rest : xs ++ 40 ∷ ys ≡ us ++ 40 ∷ vs = ap (drop 1) same in
    let tails = first_cut xs ys us vs (λ k d within. none_x (suc k) d (omega arith)) (λ k d within. none_u (suc k) d (omega arith)) rest in
    (λ i. first i ∷ tails.0 i, tails.1)

-- no parenthesis stands in a name and the blanks behind it
pub name_free : (name : List ℕ) (count : ℕ) → IsIdentifier name → All (λ b. b ≢ 40) (name ++ blanks count)
name_free name count is k d within = ⊎_elim
    (λ (low : k < length name). λ same. eqb-false _ 40 (other_byte name 40 is refl k d low) (sym (get_or_append_left name (blanks count) d k low) ∙ same))
    (λ (high : length name ≤ k). λ same.
    let blank : get_or (name ++ blanks count) k d ≡ 32 =
    get_or-append_right name (blanks count) (length name) k d refl high
    ∙ get_or-replicate count (k - length name) 32 d (omega (arith, length-append name (blanks count), length-replicate {A = ℕ} count 32)) in
    absurd (cc))
    (cases_lt k (length name))

-- the text behind `CREATE TABLE `
behind_create : (sql text name inside : List ℕ) → sql ≡ create_table ++ text → (parts : HasParts sql name inside)
    → text ≡ (name ++ blanks parts.before) ++ 40 ∷ (inside ++ 41 ∷ blanks parts.after)
behind_create sql text name inside sql_is parts =
    append_cancel_left create_table text _ (sym sql_is ∙ parts.whole) ∙ sym (append_assoc name (blanks parts.before) _)

-- so a text with parts has a parenthesis, and its parts are found there
pub parts_none : (sql text name inside : List ℕ) → sql ≡ create_table ++ text → All (λ b. b ≢ 40) text → IsIdentifier name → HasParts sql name inside → ⊥
parts_none sql text name inside sql_is none is parts =
    let front = name ++ blanks parts.before in
    let back = inside ++ 41 ∷ blanks parts.after in
    let text_is = behind_create sql text name inside sql_is parts in
    none (length front) 0 (omega (arith, ap length text_is, length-append front (40 ∷ back)))
    (ap (λ t. get_or t (length front) 0) text_is ∙ get_or_at front 40 back 0 (length front) refl)

pub parts_only : (sql head rest name inside : List ℕ) → sql ≡ create_table ++ (head ++ 40 ∷ rest) → All (λ b. b ≢ 40) head → IsIdentifier name
    → HasParts sql name inside → (before_blanks head ≡ name) × (before_blanks rest ≡ inside ++ 41 ∷ [])
parts_only sql head rest name inside sql_is none is parts =
    let some : 0 < length name = is.some in
    let cut = first_cut head rest (name ++ blanks parts.before) (inside ++ 41 ∷ blanks parts.after) none (name_free name parts.before is)
    (behind_create sql (head ++ 40 ∷ rest) name inside sql_is parts) in
    let closed : List ℕ = inside ++ 41 ∷ [] in
    let size : length closed ≡ length inside + 1 = length-append inside (41 ∷ []) in
    let last : nat_eq (get_or closed (length closed - 1) 0) 32 ≡ false = ap is_blank (get_or_at inside 41 [] 0 (length closed - 1) (omega arith)) in (
      ap before_blanks cut.0 ∙ before_bare name parts.before some (other_byte name 32 is refl (length name - 1) 0 (omega arith)),
      ap before_blanks (cut.1 ∙ sym (append_assoc inside (41 ∷ []) (blanks parts.after))) ∙ before_bare closed parts.after (omega arith) last,
    )
