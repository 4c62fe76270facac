use Rattle.std.proofs.Common.{◌≡◌, ◌++◌, drop}
use Rattle.std.specs.List.{flat_map}
use Rattle.journal_format.specs.Journal.{record_of}
use Rattle.journal_format.specs.Values.{all_paged}
use Rattle.journal_format.proofs.write.push_records.Given as goal

abbrev pub invariant-loop-page : goal.invariant-loop-page
invariant-loop-page l = l.bytes ++ flat_map (record_of l.nonce) (all_paged (drop l.page-index l.pages)) ≡ l.fn.bytes ++ flat_map (record_of l.nonce) (all_paged l.pages)
