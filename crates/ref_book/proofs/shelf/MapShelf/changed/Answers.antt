use Rattle.std.proofs.Common.{ℕ, ◌≤◌, sym, ap, subst}
use Rattle.ref_book.proofs.shelf.MapShelf.changed.Goals as goal

pub invariant_of-result : goal.invariant_of-result
invariant_of-result c = record {
  tables_rise = c.requires.tables;
  schema_rises = c.requires.schema;
  usable_least = subst (λ (n : ℕ). 480 ≤ n) (sym (ap (λ n. n.usable) c.emptied-numbers.ensures)) c.args.self.now.usable_least;
  usable_most = subst (λ (n : ℕ). n ≤ 65536) (sym (ap (λ n. n.usable) c.emptied-numbers.ensures)) c.args.self.now.usable_most;
}
