use Rattle.std.proofs.Common.{◌+◌, ◌*◌, length}
use Rattle.ref_stack.proofs.glob.+glob.Given as goal

abbrev pub decreases-matches : goal.decreases-matches
decreases-matches l = 3 * (length l.pattern.now + length l.text.now)

abbrev pub decreases-some_end : goal.decreases-some_end
decreases-some_end l = 3 * (length l.pattern.now + length l.text.now) + 1

abbrev pub decreases-byte_then : goal.decreases-byte_then
decreases-byte_then l = 3 * (length l.pattern.now + length l.text.now) + 1

abbrev pub decreases-in_brackets : goal.decreases-in_brackets
decreases-in_brackets l = 3 * (length l.pattern.now + length l.text.now) + 2

abbrev pub decreases-list_then : goal.decreases-list_then
decreases-list_then l = 3 * (length l.pattern.now + length l.text.now) + 1

abbrev pub decreases-listed_then : goal.decreases-listed_then
decreases-listed_then l = 3 * (length l.pattern.now + length l.text.now) + 1
