-- The replies and their texts.
use Rattle.std.specs.Prelude.{ℕ, List, codes}
use Rattle.std.specs.List.{flat_map}
use Rattle.shell_top.specs.declared.reply.Reply.{Reply}
use Rattle.shell_top.specs.declared.reply.Reply.TheVariants.{Open, New, Replaced, NotADatabase, BadLine, TooLong, Fault, Stopped, Memory, MemoryStopped}

-- a reply as it is written
abbrev pub text_of : Reply → List ℕ
text_of Open = codes "open 0\n"
text_of New = codes "new\n"
text_of Replaced = codes "replaced\n"
text_of NotADatabase = codes "refused main not-a-database\n"
text_of BadLine = codes "error bad-line\n"
text_of TooLong = codes "error too-long\n"
text_of Fault = codes "fault\n"
text_of Stopped = codes "stopped\n"
text_of Memory = codes "memory\n"
text_of MemoryStopped = codes "memory stopped\n"

abbrev pub texts_of : List Reply → List ℕ
texts_of replies = flat_map text_of replies
