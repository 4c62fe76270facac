-- Checksums of pages.
use Rattle.std.proofs.Common.{◌≡◌, ℕ, suc, ◌+◌, ◌-◌, ◌*◌, ◌%◌, ◌<◌, ◌≤◌, Bool, true, not, ◌&&◌, ◌||◌, nat_eq, nat_le, nat_lt, if◌then◌else◌, List, [], ◌∷◌, ◌++◌, length, get_or, take, drop, replicate, sym, ap, ◌∙◌, arith, append_assoc, add-one, length-drop}
use Rattle.std.proofs.lemmas.Bool.{lt-ltb, le-leb}
use Rattle.std.proofs.lemmas.List.{at_drop_more, length-take-le, append-nil}
use Rattle.std.proofs.Math.Nat.{mul-suc}
use Rattle.vfs_model.specs.Sums.{sums, sum_of, kept_sums, kept_size, page_at, fails, without_sums, little, is_complete}
use Rattle.ref_stack.specs.Pages.{has_other_sums}

-- one pair of words
pub sums_step : (first second f s v w : ℕ) (bytes rest : List ℕ) (r : ℕ × ℕ) → 8 ≤ length bytes → rest ≡ drop 8 bytes →
    v ≡ little (get_or bytes 0 0) (get_or bytes 1 0) (get_or bytes 2 0) (get_or bytes 3 0) → w ≡ little (get_or bytes 4 0) (get_or bytes 5 0) (get_or bytes 6 0) (get_or bytes 7 0) →
    f ≡ (first + v + second) % 4294967296 → s ≡ (second + w + f) % 4294967296 → r ≡ sums (f, s) rest → r ≡ sums (first, second) bytes
sums_step first second f s v w [] rest r long rest_is v_is w_is f_is s_is r_is = absurd (omega (arith, long))
sums_step first second f s v w (a ∷ []) rest r long rest_is v_is w_is f_is s_is r_is = absurd (omega (arith, long))
sums_step first second f s v w (a ∷ b ∷ []) rest r long rest_is v_is w_is f_is s_is r_is = absurd (omega (arith, long))
sums_step first second f s v w (a ∷ b ∷ c ∷ []) rest r long rest_is v_is w_is f_is s_is r_is = absurd (omega (arith, long))
sums_step first second f s v w (a ∷ b ∷ c ∷ d ∷ []) rest r long rest_is v_is w_is f_is s_is r_is = absurd (omega (arith, long))
sums_step first second f s v w (a ∷ b ∷ c ∷ d ∷ e ∷ []) rest r long rest_is v_is w_is f_is s_is r_is = absurd (omega (arith, long))
sums_step first second f s v w (a ∷ b ∷ c ∷ d ∷ e ∷ g ∷ []) rest r long rest_is v_is w_is f_is s_is r_is = absurd (omega (arith, long))
sums_step first second f s v w (a ∷ b ∷ c ∷ d ∷ e ∷ g ∷ h ∷ []) rest r long rest_is v_is w_is f_is s_is r_is = absurd (omega (arith, long))
sums_step first second f s v w (a ∷ b ∷ c ∷ d ∷ e ∷ g ∷ h ∷ i ∷ more) rest r long rest_is v_is w_is f_is s_is r_is =
    let f_now : f ≡ (first + little a b c d + second) % 4294967296 = f_is ∙ ap (λ x. (first + x + second) % 4294967296) v_is in
    let s_now : s ≡ (second + little e g h i + (first + little a b c d + second) % 4294967296) % 4294967296 =
    s_is ∙ ap (λ x. (second + x + f) % 4294967296) w_is ∙ ap (λ x. (second + little e g h i + x) % 4294967296) f_now in
    r_is ∙ ap (sums (f, s)) rest_is ∙ ap (λ x. sums (x, s) more) f_now
    ∙ ap (λ x. sums ((first + little a b c d + second) % 4294967296, x) more) s_now

-- the sums of a whole page
pub whole_fails : (page number : ℕ) (bytes own : List ℕ) → page * number < length bytes → page * number + page ≤ length bytes → own ≡ take page (drop (page * number) bytes) →
    has_other_sums own ≡ fails page bytes number
whole_fails page number bytes own begun whole own_is =
    let size : length own ≡ page = ap length own_is ∙ length-take-le page (drop (page * number) bytes) (omega (arith, length-drop (page * number) bytes)) in
    let next : page * (number + 1) ≡ page * number + page = ap (λ n. page * n) (add-one number) ∙ mul-suc page number in
    let full : is_complete page bytes number ≡ true = le-leb (page * (number + 1)) (length bytes) (omega (arith, next, whole)) in
    let begins : nat_lt (page * number) (length bytes) ≡ true = lt-ltb (page * number) (length bytes) begun in
    let none : page - length own ≡ 0 = omega (arith, size) in
    let padded : own ≡ page_at page bytes number =
    sym (append-nil own) ∙ ap (λ n. own ++ replicate n 0) (sym none) ∙ ap (λ xs. xs ++ replicate (page - length xs) 0) own_is in
    let other : List ℕ → ℕ → Bool = λ xs n.
    not (nat_eq (sum_of (take (n - kept_size) xs)).0 (kept_sums (drop (n - kept_size) xs)).0
    && nat_eq (sum_of (take (n - kept_size) xs)).1 (kept_sums (drop (n - kept_size) xs)).1) in
    ap (other own) size ∙ ap (λ xs. other xs page) padded
    ∙ ap (λ b. b && (not true || other (page_at page bytes number) page)) (sym begins)
    ∙ ap (λ b. nat_lt (page * number) (length bytes) && (not b || other (page_at page bytes number) page)) (sym full)

-- one byte more
pub without_step : (page place b x : ℕ) (shown bytes : List ℕ) → place < length bytes → b ≡ get_or bytes place 0 → x ≡ (if nat_le page (place % page + kept_size) then 0 else b) →
    (shown ++ x ∷ []) ++ without_sums page (place + 1) (drop (place + 1) bytes) ≡ shown ++ without_sums page place (drop place bytes)
without_step page place b x shown bytes within b_is x_is =
    append_assoc shown (x ∷ []) (without_sums page (place + 1) (drop (place + 1) bytes))
    ∙ ap (λ n. shown ++ x ∷ without_sums page n (drop (place + 1) bytes)) (add-one place)
    ∙ ap (λ y. shown ++ y ∷ without_sums page (suc place) (drop (place + 1) bytes)) (x_is ∙ ap (λ y. if nat_le page (place % page + kept_size) then 0 else y) b_is)
    ∙ ap (λ xs. shown ++ xs) (sym (at_drop_more (without_sums page place) bytes place 0 within))
