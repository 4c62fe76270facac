-- One word is read as a database's name, and no other number of words is.
use Rattle.std.proofs.Common.{string_bytes, rules}
use Rattle.shell_top.proofs.WordsLemmas.{not_one, read_only}
use Rattle.shell_top.proofs.words.read_words.Goals as goal

pub returns-in-len1 : goal.returns-in-len1
returns-in-len1 c =
    read_only string_bytes c.args.words.now c.word-item.result c.as_bytes.result.now c.database_name.result c.one_word.ensures c.in-len1.len_at_least c.in-len1.len_below
    c.word-item.is c.as_bytes.ensures.value c.database_name.ensures

pub returns-in_default : goal.returns-in_default
returns-in_default c = not_one string_bytes c.args.words.now (search rules)
