use Rattle.std.proofs.Common.{rules, arith, ◌≡◌, [], ◌∷◌, sym, ◌∙◌, ap}
use Rattle.std.proofs.lemmas.Grind.{common_steps}
use Rattle.vfs_model.specs.Glob.{matches}
use Rattle.ref_stack.proofs.GlobLemmas.{run_matches, byte_matches, bracket_matches, but_first, list_first, no_list, end_here, list_matches}
use Rattle.ref_stack.proofs.glob.+glob.Goals as goal

pub matches-returns-in_default : goal.matches-returns-in_default
matches-returns-in_default t c =
    let e : c.args.pattern.now ≡ [] = grind (arith, common_steps) in
    c.is_end.ensures ∙ ap (λ p. matches p c.args.text.now) (sym e)

pub matches-returns-in-42 : goal.matches-returns-in-42
matches-returns-in-42 t c =
    let e : c.args.pattern.now ≡ c.in-Some.first.now ∷ c.in-Some.more.now = search rules in
    c.some_end.ensures ∙ run_matches c.args.pattern.now c.in-Some.more.now c.args.text.now c.in-Some.first.now e (search rules)

pub matches-returns-in-91 : goal.matches-returns-in-91
matches-returns-in-91 t c =
    let e : c.args.pattern.now ≡ c.in-Some.first.now ∷ c.in-Some.more.now = search rules in
    c.in_brackets.ensures ∙ bracket_matches c.args.pattern.now c.in-Some.more.now c.args.text.now c.in-Some.first.now e (search rules)

pub matches-returns-in_default-first : goal.matches-returns-in_default-first
matches-returns-in_default-first t c =
    let e : c.args.pattern.now ≡ c.in-Some.first.now ∷ c.in-Some.more.now = search rules in
    c.byte_then.ensures ∙ byte_matches c.args.pattern.now c.in-Some.more.now c.args.text.now c.in-Some.first.now e (λ f. omega arith) (λ f. omega arith)

pub some_end-returns-then-matches : goal.some_end-returns-then-matches
some_end-returns-then-matches t c = end_here (matches c.args.pattern.now) c.args.text.now (sym c.matches.ensures ∙ c.if-matches.true)

pub in_brackets-returns-in_default : goal.in_brackets-returns-in_default
in_brackets-returns-in_default t c = no_list c.args.pattern.now c.args.text.now (grind (arith, common_steps))

pub in_brackets-returns-then-first-eq94 : goal.in_brackets-returns-then-first-eq94
in_brackets-returns-then-first-eq94 t c =
    let e : c.args.pattern.now ≡ c.in-Some.first.now ∷ c.in-Some.list.now = search rules in
    c.list_then.ensures ∙ but_first c.args.pattern.now c.in-Some.list.now c.args.text.now c.in-Some.first.now e (search rules)

pub in_brackets-returns-else-first-eq94 : goal.in_brackets-returns-else-first-eq94
in_brackets-returns-else-first-eq94 t c =
    let e : c.args.pattern.now ≡ c.in-Some.first.now ∷ c.in-Some.list.now = search rules in
    c.list_then-else-first-eq94.ensures ∙ list_first c.args.pattern.now c.in-Some.list.now c.args.text.now c.in-Some.first.now e (λ f. omega arith)

pub list_then-returns : goal.list_then-returns
list_then-returns t c =
    let h = list_matches c.args.but c.args.pattern.now c.args.text.now c.in-Some.end c.in-Some.ensures.some in
    grind (arith, common_steps, h)
