use Rattle.std.proofs.Common.{◌≡◌, ℕ, ◌+◌, ◌≤◌, min, List, [], ◌∷◌, arith, ap}
use Rattle.byte_base.specs.Count.{last_count}
use Rattle.vfs_trait.specs.State.{StackState}
use Rattle.shell_top.specs.Faults.{faults_in, fault_count, FaultsCounted}
use Rattle.shell_top.specs.Machine.{Machine, Opens, Step, Run}
use Rattle.shell_top.specs.declared.reply.Reply.{Reply}
use Rattle.shell_top.specs.declared.reply.Reply.TheVariants.{Open, New, Replaced, NotADatabase, BadLine, TooLong, Fault, Stopped, Memory, MemoryStopped}

step_counts : (old new : Machine) (line : List ℕ) (reply : Reply) → Step old line reply new → min (old.faults + faults_in reply) last_count ≤ new.faults
step_counts old new line Open h = absurd h
step_counts old new line NotADatabase h = absurd h
step_counts old new line BadLine h = let same : new.faults ≡ old.faults = ap (λ m. m.faults) h.1 in omega (arith, same)
step_counts old new line Stopped h = let same : new.faults ≡ old.faults = ap (λ m. m.faults) h.2 in omega (arith, same)
step_counts old new line TooLong h = let same : new.faults ≡ old.faults = ap (λ m. m.faults) h.2 in omega (arith, same)
step_counts old new line New h = omega (arith, h.3.1.faults)
step_counts old new line Replaced h = omega (arith, h.3.1.faults)
step_counts old new line Memory h = let same : new.faults ≡ old.faults = ap (λ m. m.faults) h.3 in omega (arith, same)
step_counts old new line MemoryStopped h = omega (arith, h.3.1)
step_counts old new line Fault h = h.3.1

opening_counts : (stack : StackState) (name : List ℕ) (opening : Reply) (start : Machine) → Opens stack name opening start
    → min (stack.faults + faults_in opening) last_count ≤ start.faults
opening_counts stack name Open start h = omega (arith, h.3)
opening_counts stack name NotADatabase start h = omega (arith, h.2)
opening_counts stack name Fault start h = h.1
opening_counts stack name MemoryStopped start h = omega (arith, h.1)
opening_counts stack name New start h = absurd h
opening_counts stack name Replaced start h = absurd h
opening_counts stack name BadLine start h = absurd h
opening_counts stack name TooLong start h = absurd h
opening_counts stack name Stopped start h = absurd h
opening_counts stack name Memory start h = absurd h

run_counts : (old new : Machine) (lines : List (List ℕ)) (replies : List Reply) → Run old lines replies new → min (old.faults + fault_count replies) last_count ≤ new.faults
run_counts old new [] [] run = let same : new.faults ≡ old.faults = ap (λ m. m.faults) run in omega (arith, same)
run_counts old new [] (r ∷ replies) run = absurd run
run_counts old new (l ∷ lines) [] run = absurd run
run_counts old new (l ∷ lines) (r ∷ replies) run =
    omega (arith, step_counts old run.0 l r run.1, run_counts run.0 new lines replies run.2)

pub faults_counted : FaultsCounted
faults_counted stack name opening start end lines replies opens run =
    omega (arith, opening_counts stack name opening start opens, run_counts start end lines replies run)
