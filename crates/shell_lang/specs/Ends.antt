-- The two ends of a session: what a source still holds, and what a sink has taken.
use Rattle.std.specs.Prelude.{◌≡◌, ℕ, ◌≤◌, Bool, IsTrue, List, [], ◌++◌, take, length}

-- a source: whether it tells what it holds, the bytes that it still holds, and how often it has failed
pub record SourceState : Type 0 where
  pub tells : Bool
  pub holds : List ℕ
  pub faults : ℕ

-- a sink: whether it tells what it has taken, those bytes, and how often it has failed
pub record SinkState : Type 0 where
  pub tells : Bool
  pub taken : List ℕ
  pub faults : ℕ

-- what every call keeps of a source: whether it tells; and its count does not fall
pub record SourceSteady (old new : SourceState) : Type 0 where
  pub tells : new.tells ≡ old.tells
  pub faults : old.faults ≤ new.faults

pub record SinkSteady (old new : SinkState) : Type 0 where
  pub tells : new.tells ≡ old.tells
  pub faults : old.faults ≤ new.faults

-- so many bytes were moved from the source to the front of the buffer; none where it holds none
pub record Gives (old new : SourceState) (buf : List ℕ) (count : ℕ) : Type 0 where
  pub within : count ≤ length buf
  pub moved : IsTrue old.tells → old.holds ≡ take count buf ++ new.holds
  pub ended : IsTrue old.tells → count ≡ 0 → old.holds ≡ []

-- so many bytes from the front were taken
pub record Takes (old new : SinkState) (bytes : List ℕ) (count : ℕ) : Type 0 where
  pub within : count ≤ length bytes
  pub taken : IsTrue old.tells → new.taken ≡ old.taken ++ take count bytes
