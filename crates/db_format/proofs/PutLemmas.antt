use Rattle.std.proofs.Common.{◌≡◌, ℕ, zero, suc, ◌+◌, ◌-◌, ◌*◌, ◌^◌, ◌≤◌, ◌<◌, List, [], ◌∷◌, ◌++◌, length, get_or, take, drop, refl, sym, ap, ◌∙◌, inl, inr, arith, append_assoc, length-append, length-drop}
use Rattle.std.proofs.lemmas.List.{drop_at, drop-drop, get_or_append_left, get_or-append_right, get_or-take, get_or-drop, length-take-le}
use Rattle.std.specs.List.{flat_map}
use borrow.Rule.Slice.PartMut.{put_mid}
use Rattle.byteorder.specs.Endian.{big_bytes, big_from, big_number}
use Rattle.byteorder.specs.Numbers.{big_number-reads_back, length-bytes_high_first}
use Rattle.byte_base.specs.Numbers.{number_at}
use Rattle.db_format.specs.HeaderSteps.{Puts}

-- the bytes of numbers, one behind the other
abbrev pub spelled : ℕ → List ℕ → List ℕ
spelled width numbers = flat_map (big_bytes width) numbers

length-spelled : (width : ℕ) (numbers : List ℕ) → length (spelled width numbers) ≡ width * length numbers
length-spelled width [] = omega arith
length-spelled width (n ∷ ns) = omega (arith, length-append (big_bytes width n) (spelled width ns), length-bytes_high_first width n, length-spelled width ns)

-- each of them is read where it stands
read-spelled : (width : ℕ) (numbers back : List ℕ) (k : ℕ) → ((i : ℕ) → get_or numbers i 0 < 256 ^ width) → k < length numbers
    → big_number width (drop (width * k) (spelled width numbers ++ back)) ≡ get_or numbers k 0
read-spelled width [] back k fits within = absurd (omega arith)
read-spelled width (n ∷ ns) back zero fits within =
    let here : width * 0 ≡ 0 = omega arith in
    ap (λ m. big_number width (drop m (spelled width (n ∷ ns) ++ back))) here
    ∙ ap (big_number width) (append_assoc (big_bytes width n) (spelled width ns) back)
    ∙ big_number-reads_back width n (spelled width ns ++ back) (fits 0)
read-spelled width (n ∷ ns) back (suc k) fits within =
    let more : width * suc k ≡ width + width * k = omega arith in
    let tail = spelled width ns ++ back in
    let next : drop (width * suc k) (spelled width (n ∷ ns) ++ back) ≡ drop (width * k) tail =
    ap (λ m. drop m (spelled width (n ∷ ns) ++ back)) more
    ∙ sym (drop-drop (width * k) width (spelled width (n ∷ ns) ++ back))
    ∙ ap (λ xs. drop (width * k) (drop width xs)) (append_assoc (big_bytes width n) (spelled width ns) back)
    ∙ ap (drop (width * k)) (drop_at (big_bytes width n) tail width (length-bytes_high_first width n)) in
    ap (big_number width) next ∙ read-spelled width ns back k (λ i. fits (suc i)) (omega arith)

-- numbers laid over a part are read from there, and beside the part nothing has changed
pub puts : (width place : ℕ) (old numbers laid : List ℕ) (k : ℕ) → ((i : ℕ) → get_or numbers i 0 < 256 ^ width)
    → place + width * length numbers ≤ length old → k ≡ width * length numbers → laid ≡ spelled width numbers
    → Puts width old (put_mid place k old laid) place numbers
unfolding number_at
puts width place old numbers laid k fits room k_is laid_is =
    let front : length (take place old) ≡ place = length-take-le place old (omega arith) in
    let count : length laid ≡ k = ap length laid_is ∙ length-spelled width numbers ∙ sym k_is in
    let rest = drop k (drop place old) in
    record {
      size = omega (arith, length-append (take place old) (laid ++ rest), length-append laid rest, length-drop k (drop place old), length-drop place old);
      inside = λ i within.
          ap (big_number width)
          (sym (drop-drop (width * i) place (put_mid place k old laid))
          ∙ ap (drop (width * i)) (drop_at (take place old) (laid ++ rest) place front)
          ∙ ap (λ xs. drop (width * i) (xs ++ rest)) laid_is)
          ∙ read-spelled width numbers rest i fits within;
      beside = λ other out. elim out [
        | inl before ↦ get_or_append_left (take place old) (laid ++ rest) 0 other (omega arith) ∙ get_or-take place old other 0 before
        | inr behind ↦
            get_or-append_right (take place old) (laid ++ rest) place other 0 front (omega arith)
            ∙ get_or-append_right laid rest k (other - place) 0 count (omega arith)
            ∙ get_or-drop k (drop place old) (other - place - k) 0
            ∙ get_or-drop place old _ 0
            ∙ ap (λ n. get_or old n 0) (omega arith)
      ];
    }

-- one number that fits
pub one_fits : (n bound : ℕ) → n < bound → (i : ℕ) → get_or (n ∷ []) i 0 < bound
one_fits n bound fits zero = fits
one_fits n bound fits (suc i) = omega arith

-- a number is the same where its bytes are
same_from : (i n : ℕ) (xs ys : List ℕ) → ((k : ℕ) → i ≤ k → k < i + n → get_or xs k 0 ≡ get_or ys k 0) → big_from i n xs ≡ big_from i n ys
same_from i zero xs ys same = refl
same_from i (suc n) xs ys same =
    ap (λ b. b * 256 ^ n + big_from (suc i) n xs) (same i (omega arith) (omega arith))
    ∙ ap (λ m. get_or ys i 0 * 256 ^ n + m) (same_from (suc i) n xs ys (λ k low high. same k (omega arith) (omega arith)))

pub same_number : (width place : ℕ) (xs ys : List ℕ) → ((k : ℕ) → place ≤ k → k < place + width → get_or xs k 0 ≡ get_or ys k 0)
    → number_at width xs place ≡ number_at width ys place
unfolding number_at
same_number width place xs ys same =
    same_from 0 width (drop place xs) (drop place ys)
    (λ k low high. get_or-drop place xs k 0 ∙ same (place + k) (omega arith) (omega arith) ∙ sym (get_or-drop place ys k 0))

-- a number before the part that was written, and one behind it
pub stays_before : (width place w from : ℕ) (old new numbers : List ℕ) → Puts w old new from numbers → place + width ≤ from
    → number_at width new place ≡ number_at width old place
stays_before width place w from old new numbers put before =
    same_number width place new old (λ k low high. put.beside k (inl (omega arith)))

pub stays_behind : (width place w from : ℕ) (old new numbers : List ℕ) → Puts w old new from numbers → from + w * length numbers ≤ place
    → number_at width new place ≡ number_at width old place
stays_behind width place w from old new numbers put behind =
    same_number width place new old (λ k low high. put.beside k (inr (omega arith)))
