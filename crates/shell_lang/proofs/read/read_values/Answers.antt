use Rattle.std.proofs.Common.{◌≡◌, ◌≤◌, ◌<◌, [], ◌∷◌, ◌++◌, length, Err, ap, arith, rules}
use Rattle.shell_lang.specs.declared.read.LineFault.TheVariants.{BadLine}
use Rattle.shell_lang.specs.CommandSteps.{left}
use Rattle.shell_lang.proofs.ValueLemmas.{too_many, no_value, one_value, empty_row}
use Rattle.shell_lang.proofs.read.read_values.Goals as goal

pub returns-then-as_slice-ge-MOST_VALUES-clause-bad : goal.returns-then-as_slice-ge-MOST_VALUES-clause-bad
returns-then-as_slice-ge-MOST_VALUES-clause-bad c = λ is given each some few.
    let full : 32 ≤ length c.loop-word.values = omega (arith, ap length c.as_slice.ensures) in
    too_many (left c.args.words) (left c.loop-word.words) (left c.next.new.self) c.loop-word.values given c.in-Some.word.now c.loop-word.invariant c.in-Some.ensures full each few

pub returns-in_err-value-clause-bad : goal.returns-in_err-value-clause-bad
returns-in_err-value-clause-bad c = λ is given each some few.
    let bad : c.read_value.result ≡ Err BadLine = search rules in
    no_value (left c.args.words) (left c.loop-word.words) (left c.next.new.self) c.loop-word.values given c.in-Some.word.now c.loop-word.invariant c.in-Some.ensures
    (c.read_value.ensures.bad bad) each

pub loop-word-preserved : goal.loop-word-preserved
loop-word-preserved c =
    let few : length c.loop-word.values < 32 = omega (arith, ap length c.as_slice.ensures) in
    let pushed : c.push.new.self ≡ c.loop-word.values ++ c.in_ok-value.value ∷ [] = search rules in
    one_value (left c.args.words) (left c.loop-word.words) (left c.next.new.self) c.loop-word.values c.push.new.self c.in-Some.word.now c.in_ok-value.value
    c.loop-word.invariant c.in-Some.ensures (search rules) few pushed

pub returns-then-is_empty-clause-bad : goal.returns-then-is_empty-clause-bad
returns-then-is_empty-clause-bad c = λ is given each some few.
    let none : length c.loop-word.values ≡ 0 = search rules in
    empty_row (left c.args.words) (left c.loop-word.words) c.loop-word.values given c.loop-word.invariant c.in_default.ensures none each some
