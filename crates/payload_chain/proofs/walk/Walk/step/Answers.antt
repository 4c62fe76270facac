use Rattle.std.proofs.Common.{◌≡◌, ◌++◌, ◌∷◌, [], refl, arith, rules, sym, subst, ℕ, List}
use Rattle.std.proofs.lemmas.Grind.{common_steps}
use Rattle.payload_chain.specs.Steps.{HasMet}
use Rattle.payload_chain.proofs.WalkLemmas.{met-more}
use Rattle.payload_chain.proofs.walk.Walk.step.Goals as goal

pub returns-clause-ok : goal.returns-clause-ok
returns-clause-ok g c =
    let grow : c.push.new.self.items ≡ c.args.self.now.numbers.items ++ c.args.self.now.next ∷ [] = search rules in
    let P : List ℕ → Type 0 = λ l. HasMet c.insert.new.self l in
    record {
      numbers_grow = grow;
      met_too = subst P (sym grow) (met-more c.args.self.now.met c.insert.new.self c.args.self.now.numbers.items c.args.self.now.next c.requires.met c.in_ok-insert.ensures.updates);
      holds = refl;
      next_is = search rules;
      there = search rules;
      again = grind (arith, common_steps);
      one_page = search rules;
      good = search rules;
      holds_page = search rules;
    }
