use Rattle.std.proofs.Common.{◌++◌, ap, ◌∙◌}
use Rattle.payload_chain.proofs.laws.written_comes_back.Goals as goal

pub returns : goal.returns
returns c =
    let one = c.one_chain.ensures in
    record {
      read = λ pages first numbers payload before after written found.
          found.behind ∙ ap (λ l. before ++ l) (one.one pages first found.numbers numbers found.payload payload found.chain written.chain found.long).1;
      whole = λ pages first page numbers payload written. one.whole pages first page numbers payload written.chain;
      good = λ pages first page sums numbers payload written. one.good pages first page sums numbers payload written.chain;
      freed = λ pages first numbers given payload bytes written chain long. (one.one pages first given numbers bytes payload chain written.chain long).0;
    }
