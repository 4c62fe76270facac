-- What a journal undoes: pages laid over a file, said place by place.
use Rattle.std.specs.Prelude.{◌≡◌, ◌⊎◌, ℕ, ◌+◌, ◌-◌, ◌*◌, ◌≤◌, ◌<◌, nat_le, nat_lt, ◌&&◌, if◌then◌else◌, List, [], ◌∷◌, length, Option, Some, None, slice_get}

-- a page by its number
abbrev pub Paged : Type 0
Paged = ℕ × List ℕ

-- where a page begins
abbrev pub start : ℕ → ℕ → ℕ
start page number = (number - 1) * page

-- the byte that a page has for a place of the file
abbrev pub piece : ℕ → Paged → ℕ → Option ℕ
piece page r place = if nat_le (start page r.0) place && nat_lt place (start page r.0 + page) then slice_get r.1 (place - start page r.0) else None

-- the first of two bytes that is there
abbrev pub over : Option ℕ → Option ℕ → Option ℕ
over (Some b) below = Some b
over None below = below

-- the byte that the pages have for a place: that of the last page on it
abbrev pub laid : ℕ → List Paged → ℕ → Option ℕ
laid page [] place = None
laid page (r ∷ rs) place = over (laid page rs place) (piece page r place)

-- a page of this number is among them
abbrev pub HasPage : List Paged → ℕ → Type 0
HasPage [] number = ⊥
HasPage (r ∷ rs) number = (r.0 ≡ number) ⊎ HasPage rs number

-- each has a number from 1 on and a page of bytes
abbrev pub ArePages : ℕ → List Paged → Type 0
ArePages page [] = Unit {0}
ArePages page (r ∷ rs) = (1 ≤ r.0) × (length r.1 ≡ page) × ArePages page rs

-- each has the bytes that a file has in its place
abbrev pub AreOriginals : ℕ → List Paged → List ℕ → Type 0
AreOriginals page [] bytes = Unit {0}
AreOriginals page (r ∷ rs) bytes = ((k : ℕ) → k < page → slice_get r.1 k ≡ slice_get bytes (start page r.0 + k)) × AreOriginals page rs bytes

-- no number is above this one
abbrev pub AreUpTo : ℕ → List Paged → Type 0
AreUpTo last [] = Unit {0}
AreUpTo last (r ∷ rs) = (r.0 ≤ last) × AreUpTo last rs

-- the numbers rise, from above a first one on
abbrev pub AreRising : ℕ → List Paged → Type 0
AreRising low [] = Unit {0}
AreRising low (r ∷ rs) = (low < r.0) × AreRising r.0 rs

-- what a hot journal undoes: a file of so many pages of this size had these pages, a later one over an earlier; and the super-journal that the journal
-- names, if it names one
pub record Undo : Type 0 where
  pub page : ℕ
  pub initial : ℕ
  pub originals : List Paged
  pub super_name : Option (List ℕ)

-- a file with that undone: cut to its initial size, each place with what the originals have for it, or else with what the file had
pub record IsPlayed (u : Undo) (file played : List ℕ) : Type 0 where
  pub long : u.initial * u.page ≤ length file
  pub cut : length played ≡ u.initial * u.page
  pub each : (place : ℕ) → place < u.initial * u.page → slice_get played place ≡ over (laid u.page u.originals place) (slice_get file place)
