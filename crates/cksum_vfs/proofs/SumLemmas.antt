-- The sums of a page, as they are computed and kept.
use Rattle.std.proofs.Common.{◌≡◌, ℕ, ◌+◌, ◌-◌, ◌/◌, ◌%◌, ◌<◌, ◌≤◌, List, [], ◌∷◌, ◌++◌, length, get_or, take, drop, ap, ◌∙◌, arith, length-append}
use Rattle.std.proofs.lemmas.List.{take_at, drop_at, length-take-le}
use Rattle.byteorder.specs.Endian.{little_bytes}
use Rattle.vfs_model.specs.Sums.{sums, sum_of, kept_sums, little}
use Rattle.cksum_vfs.specs.Page.{IsSealed}

-- one pair of words more
pub sums_on : (first second f s v w : ℕ) (bytes rest : List ℕ) → 8 ≤ length bytes → rest ≡ drop 8 bytes →
    v ≡ little (get_or bytes 0 0) (get_or bytes 1 0) (get_or bytes 2 0) (get_or bytes 3 0) → w ≡ little (get_or bytes 4 0) (get_or bytes 5 0) (get_or bytes 6 0) (get_or bytes 7 0) →
    f ≡ (first + v + second) % 4294967296 → s ≡ (second + w + f) % 4294967296 → sums (f, s) rest ≡ sums (first, second) bytes
sums_on first second f s v w [] rest long rest_is v_is w_is f_is s_is = absurd (omega (arith, long))
sums_on first second f s v w (a ∷ []) rest long rest_is v_is w_is f_is s_is = absurd (omega (arith, long))
sums_on first second f s v w (a ∷ b ∷ []) rest long rest_is v_is w_is f_is s_is = absurd (omega (arith, long))
sums_on first second f s v w (a ∷ b ∷ c ∷ []) rest long rest_is v_is w_is f_is s_is = absurd (omega (arith, long))
sums_on first second f s v w (a ∷ b ∷ c ∷ d ∷ []) rest long rest_is v_is w_is f_is s_is = absurd (omega (arith, long))
sums_on first second f s v w (a ∷ b ∷ c ∷ d ∷ e ∷ []) rest long rest_is v_is w_is f_is s_is = absurd (omega (arith, long))
sums_on first second f s v w (a ∷ b ∷ c ∷ d ∷ e ∷ g ∷ []) rest long rest_is v_is w_is f_is s_is = absurd (omega (arith, long))
sums_on first second f s v w (a ∷ b ∷ c ∷ d ∷ e ∷ g ∷ h ∷ []) rest long rest_is v_is w_is f_is s_is = absurd (omega (arith, long))
sums_on first second f s v w (a ∷ b ∷ c ∷ d ∷ e ∷ g ∷ h ∷ i ∷ more) rest long rest_is v_is w_is f_is s_is =
    let f_now : f ≡ (first + little a b c d + second) % 4294967296 = f_is ∙ ap (λ x. (first + x + second) % 4294967296) v_is in
    let s_now : s ≡ (second + little e g h i + (first + little a b c d + second) % 4294967296) % 4294967296 =
    s_is ∙ ap (λ x. (second + x + f) % 4294967296) w_is ∙ ap (λ x. (second + little e g h i + x) % 4294967296) f_now in
    ap (sums (f, s)) rest_is ∙ ap (λ x. sums (x, s) more) f_now ∙ ap (λ x. sums ((first + little a b c d + second) % 4294967296, x) more) s_now

-- four bytes of a number are the number
pub little_of : (n : ℕ) → n < 4294967296 → little (n % 256) (n / 256 % 256) (n / 65536 % 256) (n / 16777216 % 256) ≡ n
little_of n small = omega (arith, small)

pub kept_words : (first second : ℕ) → first < 4294967296 → second < 4294967296 → kept_sums (little_bytes 4 first ++ little_bytes 4 second) ≡ (first, second)
kept_words first second small small' = ap (λ x. (x, little (second % 256) (second / 256 % 256) (second / 65536 % 256) (second / 16777216 % 256))) (little_of first small) ∙ ap (λ x. (first, x)) (little_of second small')

-- a page whose sums were put into its last bytes
pub sealed_is : (page sealed words : List ℕ) (sums : ℕ × ℕ) → 8 ≤ length page → sums ≡ sum_of (take (length page - 8) page) → words ≡ little_bytes 4 sums.0 ++ little_bytes 4 sums.1 →
    sums.0 < 4294967296 → sums.1 < 4294967296 → sealed ≡ take (length page - 8) page ++ words → IsSealed page sealed
sealed_is page sealed words sums long sums_are words_are small small' sealed_are =
    let front : length (take (length page - 8) page) ≡ length page - 8 = length-take-le (length page - 8) page (omega arith) in
    let eight : length words ≡ 8 = ap length words_are in
    record {
      size = ap length sealed_are ∙ length-append (take (length page - 8) page) words ∙ omega (arith, front, eight, long);
      body = ap (take (length page - 8)) sealed_are ∙ take_at (take (length page - 8) page) words (length page - 8) front;
      kept = ap (λ xs. kept_sums (drop (length page - 8) xs)) sealed_are ∙ ap kept_sums (drop_at (take (length page - 8) page) words (length page - 8) front)
          ∙ ap kept_sums words_are ∙ kept_words sums.0 sums.1 small small' ∙ sums_are;
    }
