use Rattle.shell_lang.specs.CommandSteps.{left}
use Rattle.shell_lang.proofs.CommandLemmas.{unread}
use Rattle.shell_lang.proofs.read.read_words.Goals as goal

pub returns-in_default-read : goal.returns-in_default-read
returns-in_default-read c = record {
  found = tt;
  bad = λ is command. unread (left c.args.words) (left c.next.new.self) c.in-Some.word.now c.in-Some.ensures c.in_default-read.ensures command;
}
