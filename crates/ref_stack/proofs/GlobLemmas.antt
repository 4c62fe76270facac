-- Patterns that begin with one part.
use Rattle.std.proofs.Common.{◌≡◌, ◌≢◌, ℕ, suc, ◌+◌, ◌<◌, ◌≤◌, Bool, true, false, ◌&&◌, ◌||◌, nat_eq, nat_le, if◌then◌else◌, List, [], ◌∷◌, ◌++◌, length, get_or, take, drop, Option, Some, None, refl, sym, ap, ◌∙◌, arith}
use Rattle.std.proofs.lemmas.Bool.{ne_eqb}
use Rattle.std.proofs.lemmas.List.{at_drop_more, take_more, drop_all}
use Rattle.vfs_model.specs.Glob.{Part, AnyRun, AnyByte, OneOf, Slash, Byte, Outside, Opened, First, Inside, parts_from, with_part, part_of, allows, in_list, some_end, one_then, parts_match, parts_match_if, matches}
use Rattle.ref_stack.specs.Brackets.{ClosesAt, NeverCloses, ReadsTo}

-- a part that takes one byte
abbrev pub IsOne : Part → Type 0
IsOne AnyRun = ⊥
IsOne AnyByte = Unit {0}
IsOne (OneOf but bytes) = Unit {0}
IsOne Slash = Unit {0}
IsOne (Byte c) = Unit {0}

never_ends : (text : List ℕ) → false ≡ some_end (λ _. false) text
never_ends [] = refl
never_ends (b ∷ more) = never_ends more

run_first : (o : Option (List Part)) (text : List ℕ) → some_end (parts_match_if o) text ≡ parts_match_if (with_part AnyRun o) text
unfolding parts_match
run_first None text = sym (never_ends text)
run_first (Some parts) text = refl

and_false : (x : Bool) → (x && false) ≡ false
and_false true = refl
and_false false = refl

one_never : (part : Part) (text : List ℕ) → one_then part (λ _. false) text ≡ false
one_never part [] = refl
one_never part (b ∷ more) = and_false (allows part b)

one_first : (part : Part) → IsOne part → (o : Option (List Part)) (text : List ℕ) → one_then part (parts_match_if o) text ≡ parts_match_if (with_part part o) text
unfolding parts_match
one_first AnyRun h o text = absurd h
one_first AnyByte h None text = one_never AnyByte text
one_first AnyByte h (Some parts) text = refl
one_first (OneOf but bytes) h None text = one_never (OneOf but bytes) text
one_first (OneOf but bytes) h (Some parts) text = refl
one_first Slash h None text = one_never Slash text
one_first Slash h (Some parts) text = refl
one_first (Byte c) h None text = one_never (Byte c) text
one_first (Byte c) h (Some parts) text = refl

one_by_tests : (run any slash : Bool) (b : ℕ) → run ≡ false → IsOne (if run then AnyRun else (if any then AnyByte else (if slash then Slash else Byte b)))
one_by_tests true any slash b h = absurd (cc)
one_by_tests false true slash b h = tt
one_by_tests false false true b h = tt
one_by_tests false false false b h = tt

-- a star in front
pub run_matches : (pattern more text : List ℕ) (first : ℕ) → pattern ≡ first ∷ more → first ≡ 42 → some_end (matches more) text ≡ matches pattern text
unfolding matches parts_from
run_matches pattern more text first is star =
    run_first (parts_from Outside more) text
    ∙ ap (λ p. matches p text) (sym (is ∙ ap (λ b. b ∷ more) star))

-- another byte in front
pub byte_matches : (pattern more text : List ℕ) (first : ℕ) → pattern ≡ first ∷ more → first ≢ 42 → first ≢ 91 → one_then (part_of first) (matches more) text ≡ matches pattern text
unfolding matches parts_from
byte_matches pattern more text first is no_star no_list =
    one_first (part_of first) (one_by_tests (nat_eq first 42) (nat_eq first 63) (nat_eq first 47) first (ne_eqb first 42 no_star)) (parts_from Outside more) text
    ∙ ap (λ l. parts_match_if (if l then parts_from Opened more else with_part (part_of first) (parts_from Outside more)) text) (sym (ne_eqb first 91 no_list))
    ∙ ap (λ p. matches p text) (sym is)

-- a bracket in front
pub bracket_matches : (pattern more text : List ℕ) (first : ℕ) → pattern ≡ first ∷ more → first ≡ 91 → parts_match_if (parts_from Opened more) text ≡ matches pattern text
unfolding matches parts_from
bracket_matches pattern more text first is bracket = ap (λ p. matches p text) (sym (is ∙ ap (λ b. b ∷ more) bracket))

-- behind a bracket stands a list, or `^` and a list
pub but_first : (pattern list text : List ℕ) (first : ℕ) → pattern ≡ first ∷ list → first ≡ 94 → parts_match_if (parts_from (First true) list) text ≡ parts_match_if (parts_from Opened pattern) text
unfolding parts_from
but_first pattern list text first is mark = ap (λ p. parts_match_if (parts_from Opened p) text) (sym (is ∙ ap (λ b. b ∷ list) mark))

pub list_first : (pattern list text : List ℕ) (first : ℕ) → pattern ≡ first ∷ list → first ≢ 94 → parts_match_if (parts_from (First false) pattern) text ≡ parts_match_if (parts_from Opened pattern) text
unfolding parts_from
list_first pattern list text first is other =
    ap (λ p. parts_match_if (parts_from (First false) p) text) is
    ∙ ap (λ mark. parts_match_if (if mark then parts_from (First true) list else parts_from (Inside false (first ∷ [])) list) text) (sym (ne_eqb first 94 other))
    ∙ ap (λ p. parts_match_if (parts_from Opened p) text) (sym is)

pub no_list : (pattern text : List ℕ) → pattern ≡ [] → false ≡ parts_match_if (parts_from Opened pattern) text
unfolding parts_from
no_list pattern text is = ap (λ p. parts_match_if (parts_from Opened p) text) (sym is)

-- the end of a pattern
pub end_matches : (text : List ℕ) → matches [] text ≡ nat_eq (length text) 0
unfolding matches parts_from parts_match
end_matches [] = refl
end_matches (b ∷ more) = sym (ne_eqb (suc (length more)) 0 (λ e. omega (arith, e)))

pub end_here : (test : List ℕ → Bool) (text : List ℕ) → test text ≡ true → true ≡ some_end test text
end_here test [] h = sym h
end_here test (b ∷ more) h = ap (λ x. x || some_end test more) (sym h)

-- a list of bytes
or_false : (x : Bool) → (x || false) ≡ x
or_false true = refl
or_false false = refl

pub none_in : (list : List ℕ) (b : ℕ) → length list ≡ 0 → in_list list b ≡ false
unfolding in_list
none_in [] b none = refl
none_in (x ∷ more) b none = absurd (omega (arith, none))

pub range_in : (list : List ℕ) (b : ℕ) → 3 ≤ length list → get_or list 1 0 ≡ 45 → in_list list b ≡ ((nat_le (get_or list 0 0) b && nat_le b (get_or list 2 0)) || in_list (drop 3 list) b)
unfolding in_list
range_in [] b long dash = absurd (omega (arith, long))
range_in (x ∷ []) b long dash = absurd (omega (arith, long))
range_in (x ∷ y ∷ []) b long dash = absurd (omega (arith, long))
range_in (x ∷ y ∷ z ∷ more) b long dash =
    ap (λ w. if nat_eq w 45 then ((nat_le x b && nat_le b z) || in_list more b) else (nat_eq x b || in_list (w ∷ z ∷ more) b)) dash

pub other_in : (list : List ℕ) (b : ℕ) → 1 ≤ length list → (3 ≤ length list → nat_eq (get_or list 1 0) 45 ≡ false) → in_list list b ≡ (nat_eq (get_or list 0 0) b || in_list (drop 1 list) b)
unfolding in_list
other_in [] b some other = absurd (omega (arith, some))
other_in (x ∷ []) b some other = sym (or_false (nat_eq x b))
other_in (x ∷ y ∷ []) b some other = refl
other_in (x ∷ y ∷ z ∷ more) b some other =
    ap (λ dash. if dash then ((nat_le x b && nat_le b z) || in_list more b) else (nat_eq x b || in_list (y ∷ z ∷ more) b)) (other (omega arith))

-- one more byte of a list that is not closed
inside_on : (but : Bool) (bytes more : List ℕ) (b : ℕ) → b ≢ 93 → parts_from (Inside but bytes) (b ∷ more) ≡ parts_from (Inside but (bytes ++ b ∷ [])) more
unfolding parts_from
inside_on but bytes more b other =
    ap (λ closes. if closes then with_part (OneOf but bytes) (parts_from Outside more) else parts_from (Inside but (bytes ++ b ∷ [])) more) (ne_eqb b 93 other)

inside_end : (but : Bool) (bytes more : List ℕ) (b : ℕ) → b ≡ 93 → parts_from (Inside but bytes) (b ∷ more) ≡ with_part (OneOf but bytes) (parts_from Outside more)
unfolding parts_from
inside_end but bytes more b bracket = ap (λ x. if nat_eq x 93 then with_part (OneOf but bytes) (parts_from Outside more) else parts_from (Inside but (bytes ++ x ∷ [])) more) bracket

inside_none : (but : Bool) (bytes : List ℕ) → parts_from (Inside but bytes) [] ≡ None
unfolding parts_from
inside_none but bytes = refl

first_none : (but : Bool) → parts_from (First but) [] ≡ None
unfolding parts_from
first_none but = refl

first_some : (but : Bool) (b : ℕ) (more : List ℕ) → parts_from (First but) (b ∷ more) ≡ parts_from (Inside but (b ∷ [])) more
unfolding parts_from
first_some but b more = refl

pub reads_first : (pattern : List ℕ) → ReadsTo pattern 1
reads_first [] = record { parts = λ but some. absurd (omega (arith, some)) }
reads_first (b ∷ more) = record { parts = λ but some. first_some but b more }

pub reads_on : (pattern : List ℕ) (place b : ℕ) → place < length pattern → b ≡ get_or pattern place 0 → b ≢ 93 → ReadsTo pattern place → ReadsTo pattern (place + 1)
reads_on pattern place b within is other h = record {
  parts = λ but some. h.parts but (omega (arith, within))
      ∙ at_drop_more (parts_from (Inside but (take place pattern))) pattern place 0 within
      ∙ inside_on but (take place pattern) (drop (place + 1) pattern) (get_or pattern place 0) (λ e. other (is ∙ e))
      ∙ ap (λ bytes. parts_from (Inside but bytes) (drop (place + 1) pattern)) (sym (take_more pattern place 0 within));
}

pub reads_end : (pattern : List ℕ) (place b : ℕ) → place < length pattern → b ≡ get_or pattern place 0 → b ≡ 93 → ReadsTo pattern place → ClosesAt pattern place
reads_end pattern place b within is bracket h = record {
  within = within;
  parts = λ but. h.parts but (omega (arith, within))
      ∙ at_drop_more (parts_from (Inside but (take place pattern))) pattern place 0 within
      ∙ inside_end but (take place pattern) (drop (place + 1) pattern) (get_or pattern place 0) (sym is ∙ bracket);
}

never_of_empty : (pattern : List ℕ) → length pattern ≡ 0 → NeverCloses pattern
never_of_empty [] none = record { parts = λ but. first_none but }
never_of_empty (b ∷ more) none = absurd (omega (arith, none))

pub reads_none : (pattern : List ℕ) (place : ℕ) → length pattern ≤ place → ReadsTo pattern place → NeverCloses pattern
reads_none [] place all h = never_of_empty [] refl
reads_none (b ∷ more) place all h = record {
  parts = λ but. h.parts but (omega arith)
      ∙ ap (parts_from (Inside but (take place (b ∷ more)))) (drop_all place (b ∷ more) all)
      ∙ inside_none but (take place (b ∷ more));
}

-- a list and what follows it
pub list_matches : (but : Bool) (pattern text : List ℕ) (end : ℕ) → ClosesAt pattern end →
    one_then (OneOf but (take end pattern)) (matches (drop (end + 1) pattern)) text ≡ parts_match_if (parts_from (First but) pattern) text
unfolding matches
list_matches but pattern text end h =
    one_first (OneOf but (take end pattern)) tt (parts_from Outside (drop (end + 1) pattern)) text
    ∙ ap (λ o. parts_match_if o text) (sym (h.parts but))

pub list_never : (but : Bool) (pattern text : List ℕ) → NeverCloses pattern → false ≡ parts_match_if (parts_from (First but) pattern) text
list_never but pattern text h = ap (λ o. parts_match_if o text) (sym (h.parts but))
