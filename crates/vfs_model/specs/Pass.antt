-- One write of a database, followed down the layers of a stack: what each is asked, and the first that is full.
-- After the header comments of SQLite's test_quota.c, test_multiplex.c and appendvfs.c.
use Rattle.std.specs.Prelude.{ℕ, zero, suc, ◌+◌, ◌-◌, ◌*◌, min, max, Bool, true, false, ◌&&◌, not, nat_eq, nat_le, nat_lt, if◌then◌else◌, List, [], ◌∷◌, ◌++◌, length, IsTrue, Option, Some, None}
use Rattle.std.specs.Char.{is_ascii_digit}
use Rattle.std.specs.List.{list_all, starts_with}
use Rattle.vfs_model.specs.Store.{Files}
use Rattle.vfs_model.specs.Mark.{mark_size, next_start, placed}
use Rattle.vfs_model.specs.declared.mark.Placed.{Placed}
use Rattle.vfs_model.specs.declared.mark.Placed.TheVariants.{Ordinary, Behind, Fresh}
use Rattle.vfs_model.specs.Glob.{matches}
use Rattle.vfs_model.specs.View.{through, chunk_name, most_chunks}
use Rattle.vfs_model.specs.declared.layer.Group.{Group}
use Rattle.vfs_model.specs.declared.layer.Layer.{Layer}
use Rattle.vfs_model.specs.declared.layer.Layer.TheVariants.{Trace, Cksum, Append, Mux, Quota}

-- an open database file at a quota or append layer: its name there, how long the layer shows it, and, at an append layer,
-- where it stands in its file
pub record OpenFile : Type 0 where
  pub name : List ℕ
  pub len : ℕ
  pub place : Placed

-- those of a layer, and those of each quota and append layer, the top one first. Every other layer keeps no lengths of its
-- own: it shows a file as long as the layer below does, or, a multiplexor, cuts a write whatever the lengths are
abbrev pub OpenFiles : Type 0
OpenFiles = List OpenFile

abbrev pub Lengths : Type 0
Lengths = List OpenFiles

abbrev pub same_name : List ℕ → List ℕ → Bool
same_name a b = nat_eq (length a) (length b) && starts_with nat_eq a b

-- the length of a file, 0 where it is not open
abbrev pub len_at : List ℕ → OpenFiles → ℕ
len_at name [] = 0
len_at name (file ∷ more) = if same_name file.name name then file.len else len_at name more

abbrev pub place_at : List ℕ → OpenFiles → Placed
place_at name [] = Ordinary
place_at name (file ∷ more) = if same_name file.name name then file.place else place_at name more

-- a file with an end: it is open from now on, and not shorter than this
abbrev pub reached : List ℕ → ℕ → OpenFiles → OpenFiles
reached name end [] = record { name = name; len = end; place = Ordinary } ∷ []
reached name end (file ∷ more) =
    if same_name file.name name then record file { len = max file.len end } ∷ more else file ∷ reached name end more

-- the place in its file is settled by the first write
abbrev pub settled : Placed → Placed
settled Ordinary = Ordinary
settled (Behind start) = Behind start
settled (Fresh len) = Behind (next_start len)

abbrev pub settled_at : List ℕ → OpenFiles → OpenFiles
settled_at name [] = []
settled_at name (file ∷ more) = if same_name file.name name then record file { place = settled file.place } ∷ more else file ∷ settled_at name more

-- the group of a file: the first whose pattern matches its name, by its number from 0
abbrev pub group_from : ℕ → List Group → List ℕ → Option ℕ
group_from number [] name = None
group_from number (group ∷ more) name = if matches group.glob name then Some number else group_from (suc number) more name

abbrev pub group_of : List Group → List ℕ → Option ℕ
group_of groups name = group_from 0 groups name

abbrev pub is_number : ℕ → Option ℕ → Bool
is_number number None = false
is_number number (Some other) = nat_eq number other

-- the greatest total that is told
abbrev pub greatest_total : ℕ
greatest_total = 18446744073709551615

-- the lengths of the open files of a group together
abbrev pub sum_of_group : List Group → ℕ → OpenFiles → ℕ
sum_of_group groups number [] = 0
sum_of_group groups number (file ∷ more) = (if is_number number (group_of groups file.name) then file.len else 0) + sum_of_group groups number more

abbrev pub total_of : List Group → ℕ → OpenFiles → ℕ
total_of groups number files = min (sum_of_group groups number files) greatest_total

-- the limit of a group, 0 for none
abbrev pub limit_at : List ℕ → ℕ → ℕ
limit_at [] number = 0
limit_at (limit ∷ more) zero = limit
limit_at (limit ∷ more) (suc number) = limit_at more number

-- how a write passes: with these lengths then, or it is refused as full, with the total and the limit
pub data Passing : Type 0 where
  Passes : Lengths → Passing
  IsFull : ℕ → ℕ → Passing

-- below a layer a write passed with these lengths: with those of the layer on top
abbrev pub on_top : OpenFiles → Passing → Passing
on_top files (Passes lengths) = Passes (files ∷ lengths)
on_top files (IsFull total limit) = IsFull total limit

-- a group refuses a write that would make its file longer, so that the total passes the limit
abbrev pub quota_says : List Group → List ℕ → OpenFiles → List ℕ → ℕ → Option ℕ → Option (ℕ × ℕ)
quota_says groups limits files name end None = None
quota_says groups limits files name end (Some number) =
    if nat_lt (len_at name files) end && (not (nat_eq (limit_at limits number) 0) && nat_lt (limit_at limits number) (total_of groups number (reached name end files)))
    then Some (total_of groups number (reached name end files), limit_at limits number) else None

abbrev pub or_full : Option (ℕ × ℕ) → Passing → Passing
or_full None passing = passing
or_full (Some full) passing = IsFull full.0 full.1

-- the most bytes of a whole file that grows below an append layer
abbrev pub append_limit : ℕ
append_limit = 1000013824

-- a write of a range below an append layer: where it begins, and where it ends. One that grows ends with the mark, and the
-- first one begins at the end of what stood in the file; until then no byte is written there
abbrev pub shifted : Placed → ℕ → ℕ → ℕ → ℕ × ℕ
shifted Ordinary len off end = (off, end)
shifted (Behind start) len off end = (start + off, if nat_lt len end then start + end + mark_size else start + end)
shifted (Fresh whole) len off end = (whole, if nat_lt len end then next_start whole + end + mark_size else whole)

abbrev pub append_says : Placed → ℕ → ℕ → ℕ × ℕ → Option (ℕ × ℕ)
append_says Ordinary len end range = None
append_says (Behind start) len end range = if nat_lt len end && nat_lt append_limit range.1 then Some (range.1, append_limit) else None
append_says (Fresh whole) len end range = if nat_lt len end && nat_lt append_limit range.1 then Some (range.1, append_limit) else None

-- the open files of an append layer after a write that grows, or does not
abbrev pub placed_then : Bool → List ℕ → OpenFiles → OpenFiles
placed_then true name files = settled_at name files
placed_then false name files = files

abbrev pub append_range : List ℕ → OpenFiles → ℕ → ℕ → ℕ × ℕ
append_range name files off end = shifted (place_at name files) (len_at name files) off end

-- the parts of a range in so many chunks at most, one write a chunk in rising order, each with the lengths before it
-- the writes that follow one, by the lengths that it left
abbrev pub then_pass : Passing → (Lengths → Passing) → Passing
then_pass (Passes after) more = more after
then_pass (IsFull total limit) more = IsFull total limit

unfoldable pub by_chunks : (Lengths → List ℕ → ℕ → ℕ → Passing) → ℕ → ℕ → List ℕ → ℕ → ℕ → ℕ → Lengths → Passing
by_chunks below zero chunk name number off end lengths = Passes lengths
by_chunks below (suc left) chunk name number off end lengths =
    if nat_le end (chunk * number) then Passes lengths
    else (if nat_le (chunk * (number + 1)) off then by_chunks below left chunk name (suc number) off end lengths
    else then_pass (below lengths (chunk_name name number) (max off (chunk * number) - chunk * number) (min end (chunk * (number + 1)) - chunk * number))
    (λ after. by_chunks below left chunk name (suc number) off end after))

-- a write of a database from a place up to an end, by the limits of each quota layer's groups and the lengths
unfoldable pub pass : List Layer → List (List ℕ) → Lengths → List ℕ → ℕ → ℕ → Passing
pass [] limits lengths name off end = Passes lengths
pass (Trace ∷ below) limits lengths name off end = pass below limits lengths name off end
pass (Cksum page ∷ below) limits lengths name off end = pass below limits lengths name off end
pass (Mux chunk ∷ below) limits lengths name off end =
    by_chunks (λ after chunk_of from to. pass below limits after chunk_of from to) most_chunks chunk name 0 off end lengths
pass (Append ∷ below) limits [] name off end = Passes []
pass (Append ∷ below) limits (files ∷ lengths) name off end =
    or_full (append_says (place_at name files) (len_at name files) end (append_range name files off end))
    (on_top (reached name end (placed_then (nat_lt (len_at name files) end) name files))
    (pass below limits lengths name (append_range name files off end).0 (append_range name files off end).1))
pass (Quota groups ∷ below) limits [] name off end = Passes []
pass (Quota groups ∷ below) [] (files ∷ lengths) name off end = on_top (reached name end files) (pass below [] lengths name off end)
pass (Quota groups ∷ below) (own ∷ limits) (files ∷ lengths) name off end =
    or_full (quota_says groups own files name end (group_of groups name)) (on_top (reached name end files) (pass below limits lengths name off end))

-- the lengths that views give: of a name at each of these layers, and of its chunks below a multiplexor

-- the names of the chunks of a file that are there, up to the end of the file
unfoldable pub chunk_names : ℕ → ℕ → Files → List ℕ → ℕ → List (List ℕ)
chunk_names zero chunk files name number = []
chunk_names (suc left) chunk files name number =
    if (files (chunk_name name number)).there then chunk_name name number ∷ (if nat_lt (length (files (chunk_name name number)).bytes) chunk then [] else chunk_names left chunk files name (suc number)) else []

abbrev pub all_chunks : ℕ → Files → List (List ℕ) → List (List ℕ)
all_chunks chunk files [] = []
all_chunks chunk files (name ∷ more) = chunk_names most_chunks chunk files name 0 ++ all_chunks chunk files more

-- the open files of an append layer, and those of a quota layer, as files below it and what it shows of them are
abbrev pub appended_files : Files → Files → List (List ℕ) → OpenFiles
appended_files shown below [] = []
appended_files shown below (name ∷ more) =
    record { name = name; len = length (shown name).bytes; place = placed (below name).bytes } ∷ appended_files shown below more

abbrev pub counted_files : Files → List (List ℕ) → OpenFiles
counted_files shown [] = []
counted_files shown (name ∷ more) = record { name = name; len = length (shown name).bytes; place = Ordinary } ∷ counted_files shown more

abbrev pub lengths_shown : List Layer → Files → List (List ℕ) → Lengths
lengths_shown [] files names = []
lengths_shown (Trace ∷ below) files names = lengths_shown below files names
lengths_shown (Cksum page ∷ below) files names = lengths_shown below files names
lengths_shown (Mux chunk ∷ below) files names = lengths_shown below files (all_chunks chunk (through below files) names)
lengths_shown (Append ∷ below) files names = appended_files (through (Append ∷ below) files) (through below files) names ∷ lengths_shown below files names
lengths_shown (Quota groups ∷ below) files names = counted_files (through below files) names ∷ lengths_shown below files names

-- those of one file among the lengths: of its own name, and below a multiplexor of this followed by digits
abbrev pub rest_behind : ℕ → List ℕ → List ℕ
rest_behind zero rest = rest
rest_behind (suc n) [] = []
rest_behind (suc n) (b ∷ rest) = rest_behind n rest

abbrev pub is_chunk_of : List ℕ → List ℕ → Bool
is_chunk_of name other = starts_with nat_eq other name && list_all is_ascii_digit (rest_behind (length name) other)

abbrev pub only : (List ℕ → Bool) → OpenFiles → OpenFiles
only test [] = []
only test (file ∷ more) = if test file.name then file ∷ only test more else only test more

abbrev pub each_only : (List ℕ → Bool) → Lengths → Lengths
each_only test [] = []
each_only test (files ∷ more) = only test files ∷ each_only test more

abbrev pub of_file : List Layer → List ℕ → Lengths → Lengths
of_file [] name lengths = []
of_file (Trace ∷ below) name lengths = of_file below name lengths
of_file (Cksum page ∷ below) name lengths = of_file below name lengths
of_file (Mux chunk ∷ below) name lengths = each_only (is_chunk_of name) lengths
of_file (Append ∷ below) name [] = []
of_file (Append ∷ below) name (files ∷ lengths) = only (same_name name) files ∷ of_file below name lengths
of_file (Quota groups ∷ below) name [] = []
of_file (Quota groups ∷ below) name (files ∷ lengths) = only (same_name name) files ∷ of_file below name lengths

-- those of all other files
abbrev pub others_of : List Layer → List ℕ → Lengths → Lengths
others_of [] name lengths = []
others_of (Trace ∷ below) name lengths = others_of below name lengths
others_of (Cksum page ∷ below) name lengths = others_of below name lengths
others_of (Mux chunk ∷ below) name lengths = each_only (λ other. not (is_chunk_of name other)) lengths
others_of (Append ∷ below) name [] = []
others_of (Append ∷ below) name (files ∷ lengths) = only (λ other. not (same_name name other)) files ∷ others_of below name lengths
others_of (Quota groups ∷ below) name [] = []
others_of (Quota groups ∷ below) name (files ∷ lengths) = only (λ other. not (same_name name other)) files ∷ others_of below name lengths

-- at each layer more files behind those that are there
abbrev pub each_joined : Lengths → Lengths → Lengths
each_joined [] more = []
each_joined (files ∷ lengths) [] = files ∷ lengths
each_joined (files ∷ lengths) (own ∷ more) = (files ++ own) ∷ each_joined lengths more

-- there is a list for each layer that keeps lengths, and each of its files is one for which this holds, below a multiplexor
-- a chunk of one
abbrev pub EachFile : (List ℕ → Type 0) → OpenFiles → Type 0
EachFile holds [] = Unit {0}
EachFile holds (file ∷ more) = holds file.name × EachFile holds more

pub record IsPartOf (holds : List ℕ → Type 0) (other : List ℕ) : Type 0 where
  pub name : List ℕ
  pub of : holds name
  pub chunk : IsTrue (is_chunk_of name other)

abbrev pub LengthsOnly : List Layer → (List ℕ → Type 0) → Lengths → Type 0
LengthsOnly [] holds [] = Unit {0}
LengthsOnly [] holds (files ∷ lengths) = ⊥
LengthsOnly (Trace ∷ below) holds lengths = LengthsOnly below holds lengths
LengthsOnly (Cksum page ∷ below) holds lengths = LengthsOnly below holds lengths
LengthsOnly (Mux chunk ∷ below) holds lengths = LengthsOnly below (IsPartOf holds) lengths
LengthsOnly (Append ∷ below) holds [] = ⊥
LengthsOnly (Append ∷ below) holds (files ∷ lengths) = EachFile holds files × LengthsOnly below holds lengths
LengthsOnly (Quota groups ∷ below) holds [] = ⊥
LengthsOnly (Quota groups ∷ below) holds (files ∷ lengths) = EachFile holds files × LengthsOnly below holds lengths
