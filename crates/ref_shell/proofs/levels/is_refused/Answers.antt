use Rattle.ref_shell.proofs.Tests.{joined_same}
use Rattle.ref_shell.proofs.levels.is_refused.Goals as goal

pub returns : goal.returns
returns c =
    joined_same c.is_below.ensures c.is_in_the_way.ensures c.is_in_the_way-2.ensures c.is_in_the_way-3.ensures c.is_in_the_way-4.ensures
    c.is_in_the_way-5.ensures c.is_in_the_way-6.ensures c.is_in_the_way-7.ensures c.is_in_the_way-8.ensures
