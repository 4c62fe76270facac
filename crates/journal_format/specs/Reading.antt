-- What a reader of journals answers.
use Rattle.std.specs.Prelude.{◌≡◌, ℕ, ◌*◌, ◌≤◌, IsTrue, Result, Ok, Err}
use Rattle.journal_format.specs.Undo.{ArePages, AreUpTo}
use Rattle.journal_format.specs.Journal.{Hot, Cold, Foreign, Undoes, is_size, most_database}
use Rattle.journal_format.specs.Values.{all_paged, undo_of}
use Rattle.journal_format.specs.declared.read.Hot.{Hot as Reading}
use Rattle.journal_format.specs.declared.read.Hot.TheVariants as reading
use Rattle.journal_format.specs.declared.read.Play.{Play}
use Rattle.journal_format.specs.declared.fault.JournalFault.{JournalFault}
use Rattle.journal_format.specs.declared.fault.JournalFault.TheVariants as faults

-- what is read is what the bytes stand for
abbrev pub Gives : Result Reading JournalFault → Hot → Type 0
Gives (Ok reading.Cold) h = h ≡ Cold
Gives (Ok (reading.Play p)) h = h ≡ Undoes (undo_of p)
Gives (Err faults.Foreign) h = h ≡ Foreign
Gives (Err faults.Memory) h = Unit {0}

-- it can be played back: pages of one size, with numbers within the initial size, which is not too great
pub record IsPlayable (p : Play) : Type 0 where
  pub page_is_size : IsTrue (is_size p.page)
  pub pages : ArePages p.page (all_paged p.records)
  pub within : AreUpTo p.initial (all_paged p.records)
  pub small : p.initial * p.page ≤ most_database

abbrev pub CanPlay : Reading → Type 0
CanPlay reading.Cold = Unit {0}
CanPlay (reading.Play p) = IsPlayable p
