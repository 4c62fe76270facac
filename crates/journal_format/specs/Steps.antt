-- What the steps of a reader and a writer of journals say to each other.
use Rattle.std.specs.Prelude.{◌≡◌, ℕ, suc, ◌+◌, ◌*◌, ◌%◌, ◌^◌, ◌≤◌, if◌then◌else◌, IsTrue, Bool, true, false, List, [], ◌∷◌, ◌++◌, length, drop, replicate, Option, Some, None, Result, Ok, Err}
use Rattle.std.specs.List.{sum_by}
use Rattle.byteorder.specs.Endian.{big_bytes}
use Rattle.byte_base.specs.Numbers.{number_at}
use Rattle.journal_format.specs.Undo.{Paged, ArePages, AreUpTo}
use Rattle.journal_format.specs.Journal.{Hot, Cold, Foreign, Undoes, magic, is_size, is_super, most_database, played}
use Rattle.journal_format.specs.Values.{paged, all_paged, undo_of}
use Rattle.journal_format.specs.declared.read.Header.{Header}
use Rattle.journal_format.specs.declared.read.Step.{Step}
use Rattle.journal_format.specs.declared.read.Step.TheVariants.{End, Skip, Take}

-- the sector with the header, its first byte zero
abbrev pub header : ℕ → ℕ → ℕ → ℕ → List ℕ
header count nonce initial page =
    (0 ∷ drop 1 magic) ++ (big_bytes 4 count ++ (big_bytes 4 nonce ++ (big_bytes 4 initial ++ (big_bytes 4 512 ++ (big_bytes 4 page ++ replicate 484 0)))))

-- the sum of the bytes of a name
abbrev pub name_sum : List ℕ → ℕ
name_sum name = sum_by (λ b. b) name % (2 ^ 32)

abbrev pub name_if_super : List ℕ → Option (List ℕ)
name_if_super name = if is_super name then Some name else None

-- the numbers stand in the first bytes of a journal
pub record IsHeader (bytes : List ℕ) (h : Header) : Type 0 where
  pub count_is : h.count ≡ number_at 4 bytes 8
  pub nonce_is : h.nonce ≡ number_at 4 bytes 12
  pub initial_is : h.initial ≡ number_at 4 bytes 16
  pub sector_is : h.sector ≡ number_at 4 bytes 20
  pub page_is : h.page ≡ number_at 4 bytes 24

-- what is known of the sizes in a header of the form that is played back
pub record HasForm (h : Header) (len : ℕ) : Type 0 where
  pub page_is_size : IsTrue (is_size h.page)
  pub page_low : 512 ≤ h.page
  pub page_high : h.page ≤ 65536
  pub sector_high : h.sector ≤ 65536
  pub room : h.sector ≤ len
  pub small : h.initial * h.page ≤ most_database

-- how a playback goes on from a record
abbrev pub Goes : Step → ℕ → ℕ → ℕ → List ℕ → Type 0
Goes End page initial nonce bytes = (count : ℕ) → played page initial nonce (suc count) bytes ≡ []
Goes Skip page initial nonce bytes = (count : ℕ) → played page initial nonce (suc count) bytes ≡ played page initial nonce count (drop (page + 8) bytes)
Goes (Take p) page initial nonce bytes = (count : ℕ) → played page initial nonce (suc count) bytes ≡ paged p ∷ played page initial nonce count (drop (page + 8) bytes)

-- whether it goes on, and what it has taken then
abbrev pub GoesOn : Bool → List Paged → List Paged → ℕ → ℕ → ℕ → List ℕ → Type 0
GoesOn true old new page initial nonce bytes = (count : ℕ) → new ++ played page initial nonce count (drop (page + 8) bytes) ≡ old ++ played page initial nonce (suc count) bytes
GoesOn false old new page initial nonce bytes = (count : ℕ) → new ≡ old ++ played page initial nonce (suc count) bytes

-- a record that is taken has a page of bytes and a number within the initial size
abbrev pub IsRecord : ℕ → ℕ → Step → Type 0
IsRecord page initial End = Unit {0}
IsRecord page initial Skip = Unit {0}
IsRecord page initial (Take p) = (1 ≤ p.number) × (p.number ≤ initial) × (length p.bytes ≡ page)
