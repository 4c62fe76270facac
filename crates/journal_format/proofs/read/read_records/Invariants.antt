use Rattle.std.proofs.Common.{◌≡◌, ◌+◌, ◌-◌, ◌*◌, ◌≤◌, ◌++◌, length}
use Rattle.journal_format.specs.Journal.{played}
use Rattle.journal_format.specs.Undo.{ArePages, AreUpTo}
use Rattle.journal_format.specs.Values.{all_paged}
use Rattle.journal_format.proofs.read.read_records.Given as goal

abbrev pub invariant-loop-k : goal.invariant-loop-k
invariant-loop-k l = record {
  pages : ArePages l.header.page (all_paged l.pages);
  within : AreUpTo l.header.initial (all_paged l.pages);
  room : (l.count - l._k) * (l.header.page + 8) ≤ length l.rest;
  each : all_paged l.pages ++ played l.header.page l.header.initial l.header.nonce (l.count - l._k) l.rest ≡ played l.header.page l.header.initial l.header.nonce l.count l.bytes;
}
