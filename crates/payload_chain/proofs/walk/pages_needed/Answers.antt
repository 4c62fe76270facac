use Rattle.std.proofs.Common.{arith}
use Rattle.payload_chain.proofs.CountLemmas.{counted}
use Rattle.payload_chain.proofs.walk.pages_needed.Goals as goal

pub returns-clause-value : goal.returns-clause-value
returns-clause-value g c =
    counted c.div_ceil.result c.args.len c.room.result c.from.result (g.S.PageSpace.state c.args.space.now).pages.usable (omega (arith, c.room.ensures.sizes.least))
    c.div_ceil.ensures c.from.ensures c.room.ensures.value
