-- The lines of a load: which line comes at a place of the sequence of a key.
use Rattle.std.specs.Prelude.{ℕ, ◌+◌, ◌*◌, ◌/◌, ◌%◌, ◌^◌, ◌==◌, nat_lt, if◌then◌else◌, List, ◌++◌, replicate, codes}
use Rattle.std.specs.Fmt.{decimal}

-- the number that the line at place k of a key is made from: a linear mix of both modulo 2^64, without its
-- low 33 bits
abbrev pub hash_of : ℕ → ℕ → ℕ
hash_of key k = (key * 6364136223846793005 + k * 1442695040888963407) % 2 ^ 64 / 2 ^ 33

-- the row that a line is about
abbrev pub rowid_of : ℕ → ℕ
rowid_of hash = hash / 10 % 5000

-- a row is written, with the place of the line and a text of so many letters `n`
abbrev pub put_line : ℕ → ℕ → ℕ → List ℕ
put_line rowid k letters =
    codes "put t " ++ decimal rowid ++ codes " i:" ++ decimal k ++ codes " t:" ++ replicate letters 110

-- of ten lines about seven write a row, two read one and one deletes one
abbrev pub row_line : ℕ → ℕ → List ℕ
row_line hash k =
    if nat_lt (hash % 10) 7 then put_line (rowid_of hash) k (hash % 200)
    else (if nat_lt (hash % 10) 9 then codes "get t " ++ decimal (rowid_of hash) else codes "del t " ++ decimal (rowid_of hash))

-- the first line makes the table, and every other is about one row of it
abbrev pub line_of : ℕ → ℕ → List ℕ
line_of key k = if k == 1 then codes "create t a b" else row_line (hash_of key k) k
