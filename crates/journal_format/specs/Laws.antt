-- Laws of journals.
use Rattle.std.specs.Prelude.{◌≡◌, ◌≢◌, ℕ, ◌+◌, ◌^◌, ◌≤◌, ◌<◌, Bool, List, length, slice_get, Some, IsSome}
use Rattle.journal_format.specs.Undo.{Paged, Undo, start, laid, over, HasPage, ArePages, AreOriginals, IsPlayed}
use Rattle.journal_format.specs.Journal.{Hot, Cold, Foreign, Undoes, all_exist, hot, unless_missing, journal, IsPlan}

-- the first byte alone closes a journal
abbrev pub ClosedIsCold : Type 0
ClosedIsCold = (exists : List ℕ → Bool) (bytes : List ℕ) → slice_get bytes 0 ≢ Some 217 → hot exists bytes ≡ Cold

-- what is shorter than a header is not hot
abbrev pub ShortIsCold : Type 0
ShortIsCold = (exists : List ℕ → Bool) (bytes : List ℕ) → length bytes < 28 → hot exists bytes ≡ Cold

-- the pages have a byte for each place of a page that is among them
abbrev pub PagesCover : Type 0
PagesCover = (page : ℕ) (rs : List Paged) (number place : ℕ) → ArePages page rs → HasPage rs number → start page number ≤ place → place < start page number + page → IsSome (laid page rs place)

-- pages that a file has already change nothing of it
abbrev pub SameLaid : Type 0
SameLaid = (page : ℕ) (rs : List Paged) (bytes : List ℕ) (place : ℕ) → AreOriginals page rs bytes → over (laid page rs place) (slice_get bytes place) ≡ slice_get bytes place

-- what was written is read back: an open journal undoes what was planned, unless it names a super-journal that is not there
abbrev pub ReadBack : Type 0
ReadBack = (exists : List ℕ → Bool) (nonce : ℕ) (u : Undo) → IsPlan nonce u → hot exists (journal 217 nonce u) ≡ unless_missing exists u.super_name (Undoes u)

-- which names exist decides only whether what is read where all exist is played, and only by the super-journal that is named
abbrev pub asked : (List ℕ → Bool) → Hot → Hot
asked exists (Undoes u) = unless_missing exists u.super_name (Undoes u)
asked exists Cold = Cold
asked exists Foreign = Foreign

abbrev pub Asked : Type 0
Asked = (exists : List ℕ → Bool) (bytes : List ℕ) → hot exists bytes ≡ asked exists (hot all_exist bytes)

-- a plan has no more records than the file has pages, and its journal has a length of four bytes
abbrev pub FewRecords : Type 0
FewRecords = (nonce : ℕ) (u : Undo) → IsPlan nonce u → (length u.originals ≤ u.initial) × (u.initial < 2 ^ 32) × (length (journal 217 nonce u) < 2 ^ 32)

-- a file has one content with a journal undone
abbrev pub OnePlayed : Type 0
OnePlayed = (u : Undo) (file a b : List ℕ) → IsPlayed u file a → IsPlayed u file b → a ≡ b
