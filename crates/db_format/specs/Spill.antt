-- How much of a payload its cell keeps, where the rest spills onto overflow pages.
-- After sqlite.org, "Database File Format", section 1.6, "B-tree Pages", for the leaves of table b-trees.
use Rattle.std.specs.Prelude.{ℕ, ◌+◌, ◌-◌, ◌*◌, ◌/◌, ◌%◌, nat_lt, if◌then◌else◌}

-- the most payload that a cell keeps whole: X, of so many usable bytes
abbrev pub most_local : ℕ → ℕ
most_local usable = usable - 35

-- what a cell keeps at least of a payload that spills: M
abbrev pub least_local : ℕ → ℕ
least_local usable = (usable - 12) * 32 / 255 - 23

-- M, and what is left of the payload where the last overflow page would not be full: K
abbrev pub even_local : ℕ → ℕ → ℕ
even_local usable payload = least_local usable + (payload - least_local usable) % (usable - 4)

-- how many bytes of a payload its cell keeps: all where they are at most X, else K where K is at most X, else M
abbrev pub local_size : ℕ → ℕ → ℕ
local_size usable payload =
    if nat_lt (most_local usable) payload
    then (if nat_lt (most_local usable) (even_local usable payload) then least_local usable else even_local usable payload)
    else payload
