use Rattle.std.proofs.Common.{◌≡◌, ◌-◌, ◌++◌, take, drop, length, replicate, ap, ◌∙◌, arith, length-drop}
use Rattle.std.proofs.lemmas.List.{drop-drop, length-take-le}
use Rattle.tree_page.proofs.write.clear.Goals as goal

pub returns : goal.returns
returns c =
    let page = c.args.page.now in
    let size = c.args.end - c.args.from in
    let back : drop size (drop c.args.from page) ≡ drop c.args.end page = drop-drop size c.args.from page ∙ ap (λ n. drop n page) (omega arith) in
    let count : length (take size (drop c.args.from page)) ≡ size = length-take-le size (drop c.args.from page) (omega (arith, length-drop c.args.from page)) in
    let zeros : c.fill.new.self ≡ replicate size 0 = c.fill.ensures.after (λ y is. is) ∙ ap (λ n. replicate n 0) count in
    ap (λ xs. take c.args.from page ++ (xs ++ drop size (drop c.args.from page))) zeros ∙ ap (λ xs. take c.args.from page ++ (replicate size 0 ++ xs)) back
